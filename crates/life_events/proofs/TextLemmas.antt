-- What is written at the end of a list, and what it began with.
use Rattle.std.proofs.Common.{◌≡◌, ℕ, ◌+◌, ◌/◌, ◌%◌, ◌<◌, ◌≤◌, List, [], ◌∷◌, ◌++◌, length, take, sym, ap, ◌∙◌, arith}
use Rattle.std.specs.Fmt.{decimal}
use Rattle.std.proofs.lemmas.Fmt.{decimal_digit, decimal_step}
use Rattle.std.proofs.lemmas.List.{take-append-le, take-take, length-take}
use Rattle.std.proofs.Math.Seq.{take-append_seam}

-- A list that was added to begins with what it held.
pub begins : (a b more : List ℕ) → take (length a) b ≡ a → take (length a) (b ++ more) ≡ a
begins a b more h = take-append-le (length a) b more (omega (arith, length-take (length a) b, ap length h)) ∙ h

pub begins_so : (a b more : List ℕ) → b ≡ a ++ more → take (length a) b ≡ a
begins_so a b more h = rw h (take-append_seam a more)

-- What begins with a list that begins with a third begins with it.
pub begins_on : (a b c : List ℕ) → take (length a) b ≡ a → take (length b) c ≡ b → take (length a) c ≡ a
begins_on a b c h k =
    let n : length a ≤ length b = omega (arith, length-take (length a) b, ap length h) in
    sym (take-take (length a) (length b) c n) ∙ ap (λ x. take (length a) x) k ∙ h

pub begins_then : (a b c more : List ℕ) → b ≡ a ++ more → take (length b) c ≡ b → take (length a) c ≡ a
begins_then a b c more h k = begins_on a b c (begins_so a b more h) k

-- The digits of a number below 1,000.
pub of_one : (n : ℕ) → n < 10 → decimal n ≡ (48 + n) ∷ []
of_one n h = decimal_digit n h

pub of_two : (n : ℕ) → 10 ≤ n → n < 100 → decimal n ≡ (48 + n / 10) ∷ (48 + n % 10) ∷ []
of_two n lo hi = rw (decimal_step n lo (omega arith), decimal_digit (n / 10) (omega arith))

pub of_three : (n : ℕ) → 100 ≤ n → n < 1000 → decimal n ≡ (48 + n / 100) ∷ (48 + n / 10 % 10) ∷ (48 + n % 10) ∷ []
of_three n lo hi =
    let a : n / 10 / 10 ≡ n / 100 = omega arith in
    rw (decimal_step n (omega arith) (omega arith), of_two (n / 10) (omega arith) (omega arith), a)
