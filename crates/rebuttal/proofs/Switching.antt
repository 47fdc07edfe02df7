-- One ring switched: which rings are then enabled, and how many.
use Rattle.std.proofs.Common.{◌≡◌, ◌≢◌, ℕ, zero, suc, ◌+◌, ◌^◌, ◌<◌, ◌≤◌, inl, inr, Bool, true, false, cond, eqb, [], ◌∷◌, length, refl, sym, ap, ◌∙◌, arith}
use Rattle.std.specs.Prelude.{bit_xor}
use Rattle.std.specs.Int.{bit_at}
use Rattle.std.proofs.lemmas.Bool.{cases_lt, eqb-true}
use Rattle.std.proofs.lemmas.Bool.Decides.{nat_tests}
use Rattle.std.proofs.lemmas.List.{length-append}
use Rattle.std.proofs.lemmas.Nat.Bits.{bit_at_xor, bit_at-pow_same, bit_at-pow_other, bit_at-lt}
use Rattle.ff_ids.specs.Masks.{enables, enabled}
use Rattle.ff_ids.proofs.MaskLemmas.{enabled-push}

abbrev pub switch : ℕ → ℕ → ℕ
switch mask ring = bit_xor mask (2 ^ ring)

pub switch_other : (mask ring r : ℕ) → r ≢ ring → enables (switch mask ring) r ≡ enables mask r
switch_other mask ring r apart =
    let same : bit_at (switch mask ring) r ≡ bit_at mask r = omega (arith, bit_at_xor mask (2 ^ ring) r, bit_at-pow_other ring r apart, bit_at-lt mask r) in
    ap (λ b. eqb b 1) same

pub switch_off : (mask ring : ℕ) → enables mask ring ≡ true → enables (switch mask ring) ring ≡ false
switch_off mask ring on =
    let one : bit_at mask ring ≡ 1 = eqb-true _ _ on in
    let none : bit_at (switch mask ring) ring ≡ 0 = omega (arith, bit_at_xor mask (2 ^ ring) ring, bit_at-pow_same ring, one) in
    ap (λ b. eqb b 1) none

pub switch_on : (mask ring : ℕ) → enables mask ring ≡ false → enables (switch mask ring) ring ≡ true
switch_on mask ring off =
    let zero_or : bit_at mask ring < 2 = bit_at-lt mask ring in
    let none : bit_at mask ring ≢ 1 = λ e. absurd (grind (arith, nat_tests, off, e)) in
    let one : bit_at (switch mask ring) ring ≡ 1 = omega (arith, bit_at_xor mask (2 ^ ring) ring, bit_at-pow_same ring, none, zero_or) in
    ap (λ b. eqb b 1) one

-- ---- how many rings are enabled

abbrev pub count : ℕ → ℕ → ℕ
count rings mask = length (enabled rings mask)

abbrev one_if : Bool → ℕ
one_if b = cond b 1 0

count-push : (n mask : ℕ) → count (suc n) mask ≡ count n mask + one_if (enables mask n)
count-push n mask =
    let next : suc n ≡ n + 1 = omega arith in
    ap (λ (k : ℕ). count k mask) next ∙ ap length (enabled-push n mask) ∙ length-append (enabled n mask) (cond (enables mask n) (n ∷ []) []) ∙ one_or_none (enables mask n)
  where
    one_or_none : (b : Bool) → count n mask + length (cond b (n ∷ []) []) ≡ count n mask + cond b 1 0
    one_or_none true = refl
    one_or_none false = refl

-- The two masks enable the same rings, but for one that only the first enables.
pub record HasOneMore (more less ring : ℕ) : Type 0 where
  pub others : (r : ℕ) → r ≢ ring → enables less r ≡ enables more r
  pub on : enables more ring ≡ true
  pub off : enables less ring ≡ false

same_below : (more less ring n : ℕ) → HasOneMore more less ring → n ≤ ring → count n less ≡ count n more
same_below more less ring zero h le = refl
same_below more less ring (suc n) h le =
    let before = same_below more less ring n h (omega arith) in
    let here : one_if (enables less n) ≡ one_if (enables more n) = ap one_if (h.others n (λ e. absurd (omega (arith, e)))) in
    omega (arith, count-push n less, count-push n more, before, here)

pub one_more : (more less ring n : ℕ) → HasOneMore more less ring → ring < n → count n less + 1 ≡ count n more
one_more more less ring zero h lt = absurd (omega arith)
one_more more less ring (suc n) h lt =
    elim (cases_lt ring n) [
      | inl below ↦
          let before = one_more more less ring n h below in
          let here : one_if (enables less n) ≡ one_if (enables more n) = ap one_if (h.others n (λ e. absurd (omega (arith, e)))) in
          omega (arith, count-push n less, count-push n more, before, here)
      | inr past ↦
          let at : n ≡ ring = omega arith in
          let before = same_below more less ring n h (omega arith) in
          let off : one_if (enables less n) ≡ 0 = ap one_if (ap (enables less) at ∙ h.off) in
          let on : one_if (enables more n) ≡ 1 = ap one_if (ap (enables more) at ∙ h.on) in
          omega (arith, count-push n less, count-push n more, before, off, on)
    ]

pub all_counted : (mask n : ℕ) → ((r : ℕ) → r < n → enables mask r ≡ true) → count n mask ≡ n
all_counted mask zero h = refl
all_counted mask (suc n) h =
    let before = all_counted mask n (λ r lt. h r (omega arith)) in
    let here : one_if (enables mask n) ≡ 1 = ap one_if (h n (omega arith)) in
    omega (arith, count-push n mask, before, here)

pub switched_off : (mask ring : ℕ) → enables mask ring ≡ true → HasOneMore mask (switch mask ring) ring
switched_off mask ring on = record { others = λ r apart. switch_other mask ring r apart; on = on; off = switch_off mask ring on }

pub switched_on : (mask ring : ℕ) → enables mask ring ≡ false → HasOneMore (switch mask ring) mask ring
switched_on mask ring off = record { others = λ r apart. sym (switch_other mask ring r apart); on = switch_on mask ring off; off = off }
