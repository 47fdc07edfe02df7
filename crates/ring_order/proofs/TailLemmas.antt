-- Places that numbers stand for come in the order of their numbers.
use Rattle.std.proofs.Common.{◌≡◌, ℕ, zero, suc, ◌+◌, ◌*◌, ◌/◌, ◌%◌, ◌<◌, ◌^◌, List, [], ◌∷◌, ◌++◌, replicate, refl, ap, ◌∙◌, arith}
use Rattle.std.specs.Int.{w32, to_be_bytes}
use Rattle.std.specs.Cmp.Lexicographic.{slice_cmp}
use Rattle.std.specs.Ordering.{nat_cmp, ordering_then}
use Rattle.std.specs.declared.cmp.Ordering.{Ordering}
use Rattle.std.specs.declared.cmp.Ordering.TheVariants.{Less, Equal, Greater}
use Rattle.std.proofs.lemmas.Bool.Decides.{nat_tests}
use native.Mathlib.Nat as nat
use Rattle.ring_order.specs.Rows.{place_of_number}

-- one more digit
digits : (a b x y : ℕ) → x < 256 → y < 256 → ordering_then (nat_cmp a b) (nat_cmp x y) ≡ nat_cmp (256 * a + x) (256 * b + y)
digits a b x y low high = grind (arith, nat_tests)

then_then : (a b c : Ordering) → ordering_then a (ordering_then b c) ≡ ordering_then (ordering_then a b) c
then_then Less b c = refl
then_then Equal b c = refl
then_then Greater b c = refl

then_none : (a : Ordering) → ordering_then a Equal ≡ a
then_none Less = refl
then_none Equal = refl
then_none Greater = refl

same_itself : (n : ℕ) → nat_cmp n n ≡ Equal
same_itself n = grind (arith, nat_tests)

cmp_behind : (n : ℕ) (xs ys : List ℕ) → slice_cmp nat_cmp (replicate n 0 ++ xs) (replicate n 0 ++ ys) ≡ slice_cmp nat_cmp xs ys
cmp_behind zero xs ys = refl
cmp_behind (suc n) xs ys = ap (λ o. ordering_then o (slice_cmp nat_cmp (replicate n 0 ++ xs) (replicate n 0 ++ ys))) (same_itself 0) ∙ cmp_behind n xs ys

four : (a b c d e f g h : ℕ) → b < 256 → c < 256 → d < 256 → f < 256 → g < 256 → h < 256 → slice_cmp nat_cmp (a ∷ b ∷ c ∷ d ∷ []) (e ∷ f ∷ g ∷ h ∷ []) ≡ nat_cmp (256 * (256 * (256 * a + b) + c) + d) (256 * (256 * (256 * e + f) + g) + h)
four a b c d e f g h bl cl dl fl gl hl =
    ap (λ o. ordering_then (nat_cmp a e) (ordering_then (nat_cmp b f) (ordering_then (nat_cmp c g) o))) (then_none (nat_cmp d h))
    ∙ then_then (nat_cmp a e) (nat_cmp b f) (ordering_then (nat_cmp c g) (nat_cmp d h))
    ∙ ap (λ o. ordering_then o (ordering_then (nat_cmp c g) (nat_cmp d h))) (digits a e b f bl fl)
    ∙ then_then (nat_cmp (256 * a + b) (256 * e + f)) (nat_cmp c g) (nat_cmp d h)
    ∙ ap (λ o. ordering_then o (nat_cmp d h)) (digits (256 * a + b) (256 * e + f) c g cl gl)
    ∙ digits (256 * (256 * a + b) + c) (256 * (256 * e + f) + g) d h dl hl

-- the four digits of a number
byte_and_rest : (n p : ℕ) → n / p ≡ n / p % 256 + n / (p * 256) * 256
byte_and_rest n p = omega (arith, nat.div-div-eq-div-mul n p 256)

joined : (a b c d n p q r : ℕ) → n ≡ d + p * 256 → p ≡ c + q * 256 → q ≡ b + r * 256 → r ≡ a → 256 * (256 * (256 * a + b) + c) + d ≡ n
joined a b c d n p q r at_0 at_1 at_2 at_3 = omega arith

number_of : (n : ℕ) → n < 2 ^ 32 → 256 * (256 * (256 * (n / 16777216 % 256) + n / 65536 % 256) + n / 256 % 256) + n % 256 ≡ n
number_of n fits =
    let low : n ≡ n % 256 + n / 256 * 256 = omega arith in
    let high : n / 16777216 ≡ n / 16777216 % 256 = omega arith in
    joined _ _ _ _ n _ _ _ low (byte_and_rest n 256) (byte_and_rest n 65536) high

pub place_cmp : (m n : ℕ) → m < 2 ^ 32 → n < 2 ^ 32 → slice_cmp nat_cmp (place_of_number m) (place_of_number n) ≡ nat_cmp m n
place_cmp m n low high =
    cmp_behind 28 (to_be_bytes w32 m) (to_be_bytes w32 n)
    ∙ four (m / 16777216 % 256) (m / 65536 % 256) (m / 256 % 256) (m % 256) (n / 16777216 % 256) (n / 65536 % 256) (n / 256 % 256) (n % 256) (omega arith) (omega arith) (omega arith) (omega arith) (omega arith) (omega arith)
    ∙ ap (λ k. nat_cmp k (256 * (256 * (256 * (n / 16777216 % 256) + n / 65536 % 256) + n / 256 % 256) + n % 256)) (number_of m low) ∙ ap (nat_cmp m) (number_of n high)
