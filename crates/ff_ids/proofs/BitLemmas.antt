-- The number of a set of bits, one bit at a time.
use Rattle.std.proofs.Common.{◌≡◌, ℕ, zero, suc, ◌+◌, ◌-◌, ◌*◌, ◌/◌, ◌%◌, ◌^◌, ◌<◌, ◌≤◌, eqb, ◌⊎◌, inl, inr, Bool, true, false, cond, refl, ap, sym, ◌∙◌, add-one, add-zero, pow-suc, Fits, w64, lit<, arith}
use Rattle.std.proofs.Math.Nat.{add-mul-div_left}
use Rattle.std.proofs.lemmas.Bool.{cases_lt}
use Rattle.std.proofs.lemmas.Nat.{pow-add, pow_below, div-mul-add}
use Rattle.std.proofs.lemmas.Nat.Bits.{bit_at_above}
use Rattle.ff_ids.specs.declared.TheConstants.{MAX_RINGS}
use Rattle.ff_ids.specs.Masks.{bits_where, enables}

pub bits-none : (test : ℕ → Bool) → bits_where test 0 ≡ 0
unfolding bits_where
bits-none test = refl

pub bits-more : (test : ℕ → Bool) (n : ℕ) → bits_where test (n + 1) ≡ bits_where test n + cond (test n) (2 ^ n) 0
unfolding bits_where
bits-more test n = ap (λ (k : ℕ). bits_where test k) (add-one n)

one_bit : (b : Bool) (n k : ℕ) → n < k → n + cond b k 0 < 2 * k
one_bit true n k h = omega arith
one_bit false n k h = omega arith

pub bits-below : (test : ℕ → Bool) (n : ℕ) → bits_where test n < 2 ^ n
unfolding bits_where
bits-below test zero = lit< tt
bits-below test (suc n) =
    let twice : 2 ^ suc n ≡ 2 ^ n * 2 = pow-suc 2 n in
    let one = one_bit (test n) (bits_where test n) (2 ^ n) (bits-below test n) in
    omega (arith, one, twice)

-- one more bit was added where the test says so
pub bit_pushed : (test : ℕ → Bool) (n before after : ℕ) (b : Bool) → test n ≡ b → before ≡ bits_where test n → after ≡ before + cond b (2 ^ n) 0 → after ≡ bits_where test (n + 1)
bit_pushed test n before after b is so_far grown =
    grown ∙ ap (λ (k : ℕ). k + cond b (2 ^ n) 0) so_far ∙ ap (λ c. bits_where test n + cond c (2 ^ n) 0) (sym is) ∙ sym (bits-more test n)

-- tests that agree set the same bits
pub bits_same : (p q : ℕ → Bool) (n : ℕ) → ((r : ℕ) → r < n → p r ≡ q r) → bits_where p n ≡ bits_where q n
unfolding bits_where
bits_same p q zero same = refl
bits_same p q (suc n) same =
    ap (λ (k : ℕ). k + cond (p n) (2 ^ n) 0) (bits_same p q n (λ r h. same r (omega (arith, h)))) ∙ ap (λ b. bits_where q n + cond b (2 ^ n) 0) (same n (omega arith))

pub bits-no : (test : ℕ → Bool) (n : ℕ) → ((r : ℕ) → test r ≡ false) → bits_where test n ≡ 0
unfolding bits_where
bits-no test zero no_bit = refl
bits-no test (suc n) no_bit = ap (λ b. bits_where test n + cond b (2 ^ n) 0) (no_bit n) ∙ omega (arith, bits-no test n no_bit)

-- the value of one bit
pub bit_value : (r : ℕ) → r < MAX_RINGS → 1 * 2 ^ r % 18446744073709551616 ≡ 2 ^ r
bit_value r h =
    let few : 2 ^ r < 2 ^ MAX_RINGS = pow_below r MAX_RINGS h in
    omega (arith, few)

pub bit_fits : (test : ℕ → Bool) (r rings : ℕ) → rings ≡ bits_where test r → r < MAX_RINGS → Fits w64 (rings + 1 * 2 ^ r % 18446744073709551616)
bit_fits test r rings is h =
    let few : 2 ^ r < 2 ^ MAX_RINGS = pow_below r MAX_RINGS h in
    omega (arith, few, bit_value r h, bits-below test r, is)

-- ---- what the bits say

abbrev bit_of : Bool → ℕ
bit_of b = cond b 1 0

is_one : (b : Bool) → eqb (bit_of b) 1 ≡ b
is_one true = refl
is_one false = refl

-- a higher bit changes no lower one
lower_bit : (b : Bool) (low r d : ℕ) → (low + cond b (2 ^ (r + suc d)) 0) / 2 ^ r % 2 ≡ low / 2 ^ r % 2
lower_bit false low r d = ap (λ (k : ℕ). k / 2 ^ r % 2) (add-zero low)
lower_bit true low r d =
    let high : 2 ^ (r + suc d) ≡ 2 ^ r * (2 ^ d * 2) = pow-add 2 r (suc d) ∙ ap (λ (k : ℕ). 2 ^ r * k) (pow-suc 2 d) in
    let some : 0 < 2 ^ r = pow-pos r in
    let whole : (low + 2 ^ r * (2 ^ d * 2)) / 2 ^ r ≡ low / 2 ^ r + 2 ^ d * 2 = add-mul-div_left low (2 ^ d * 2) some in
    let even : (low / 2 ^ r + 2 ^ d * 2) % 2 ≡ low / 2 ^ r % 2 = omega arith in
    ap (λ (k : ℕ). (low + k) / 2 ^ r % 2) high ∙ ap (λ (k : ℕ). k % 2) whole ∙ even
  where
    pow-pos : (n : ℕ) → 0 < 2 ^ n
    pow-pos n = omega (arith, bits-below (λ k. false) n)

-- the highest bit
highest_bit : (b : Bool) (low n : ℕ) → low < 2 ^ n → (low + cond b (2 ^ n) 0) / 2 ^ n % 2 ≡ bit_of b
highest_bit true low n h =
    let turned : low + 2 ^ n ≡ 1 * 2 ^ n + low = omega arith in
    ap (λ (k : ℕ). k / 2 ^ n % 2) turned ∙ ap (λ (k : ℕ). k % 2) (div-mul-add 1 (2 ^ n) low h)
highest_bit false low n h =
    let turned : low + 0 ≡ 0 * 2 ^ n + low = omega arith in
    ap (λ (k : ℕ). k / 2 ^ n % 2) turned ∙ ap (λ (k : ℕ). k % 2) (div-mul-add 0 (2 ^ n) low h)

-- the bits are set where the test says so
pub bits-tell : (test : ℕ → Bool) (n r : ℕ) → r < n → enables (bits_where test n) r ≡ test r
unfolding bits_where
bits-tell test zero r h = absurd (omega arith)
bits-tell test (suc n) r h = by_place (cases_lt r n) (λ below. bits-tell test n r below)
  where
    by_place : (r < n) ⊎ (n ≤ r) → (r < n → enables (bits_where test n) r ≡ test r) → enables (bits_where test n + cond (test n) (2 ^ n) 0) r ≡ test r
    by_place (inl below) before =
        let d = n - r - 1 in
        let at : n ≡ r + suc d = omega arith in
        ap (λ (k : ℕ). eqb k 1) (ap (λ (m : ℕ). (bits_where test n + cond (test n) (2 ^ m) 0) / 2 ^ r % 2) at ∙ lower_bit (test n) (bits_where test n) r d) ∙ before below
    by_place (inr above) before =
        let at : r ≡ n = omega arith in
        ap (λ (k : ℕ). enables (bits_where test n + cond (test n) (2 ^ n) 0) k) at
        ∙ ap (λ (k : ℕ). eqb k 1) (highest_bit (test n) (bits_where test n) n (bits-below test n)) ∙ is_one (test n) ∙ ap test (sym at)

-- and nowhere above
pub bits-above : (test : ℕ → Bool) (n r : ℕ) → n ≤ r → enables (bits_where test n) r ≡ false
bits-above test n r h = ap (λ (k : ℕ). eqb k 1) (bit_at_above (bits_where test n) n r (bits-below test n) h)
