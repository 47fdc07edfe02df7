-- The mask of an answer: it is the one mask with these rings, and good.
use Rattle.std.proofs.Common.{◌≡◌, ◌≢◌, ℕ, zero, suc, ◌+◌, ◌-◌, ◌^◌, ◌<◌, inl, inr, Bool, true, false, not, eqb, cond, [], ◌∷◌, refl, sym, ap, ◌∙◌, arith, eq-eqb, ◌↔◌, ◌⊎◌}
use Rattle.std.specs.Prelude.{◌&&◌, ◌||◌}
use Rattle.std.specs.List.{list_all, range_with_len}
use Rattle.std.specs.Int.{bit_at}
use Rattle.std.proofs.lemmas.Bool.{cases_lt, cases_Bool, and_parts, and_from, or_right, not-true, eqb-true}
use Rattle.std.proofs.lemmas.Bool.Decides.{nat_tests}
use Rattle.std.proofs.lemmas.List.Folds.{list_all-append}
use Rattle.std.proofs.lemmas.Nat.Bits.{same_from_bits_below, bit_at-lt, bit_at_ones}
use Rattle.ff_ids.specs.Masks.{bits_where, all_rings, ring_count, enables, good_mask}
use Rattle.ff_ids.proofs.MaskLemmas.{range_with_len-push}
use Rattle.ff_ids.proofs.BitLemmas.{bits-below, bits-tell}
use Rattle.rebuttal.specs.Rebuttals.{disabled_count, is_lowest_disabled, is_enabled_by_answer, answering_mask}
use Rattle.rebuttal.proofs.Switching.{switch, count, all_counted}
use Rattle.rebuttal.proofs.Answering.{IsAsked, IsFull, IsLowestDisabled, IsEnabledByAnswer, good_parts, good_from, without_exact, again, again_exact, again_good, not_all}

-- ---- bits

abbrev one_if : Bool → ℕ
one_if b = cond b 1 0

bit-enabled : (m r : ℕ) (b : Bool) → enables m r ≡ b → bit_at m r ≡ one_if b
bit-enabled m r true h = eqb-true (bit_at m r) 1 h
bit-enabled m r false h =
    let small : bit_at m r < 2 = bit_at-lt m r in
    let apart : bit_at m r ≢ 1 = λ e. absurd (grind (arith, nat_tests, h, e)) in
    omega (arith, small, apart)

-- a mask below 2 ^ n is the one with the rings that it enables
pub mask-is : (p : ℕ → Bool) (n m : ℕ) → m < 2 ^ n → ((r : ℕ) → r < n → enables m r ≡ p r) → m ≡ bits_where p n
mask-is p n m fits same =
    same_from_bits_below n m (bits_where p n) fits (bits-below p n)
    (λ r lt. bit-enabled m r (p r) (same r lt) ∙ sym (bit-enabled (bits_where p n) r (p r) (bits-tell p n r lt)))

-- ---- the rings of an answer

all_below : (p : ℕ → Bool) (n : ℕ) → list_all p (range_with_len 0 n) ≡ true → (r : ℕ) → r < n → p r ≡ true
all_below p zero h r lt = absurd (omega arith)
all_below p (suc n) h r lt =
    let both : (list_all p (range_with_len 0 n) && list_all p ((0 + n) ∷ [])) ≡ true = sym (ap (list_all p) (range_with_len-push 0 n) ∙ list_all-append p (range_with_len 0 n) ((0 + n) ∷ [])) ∙ h in
    let parts = and_parts (list_all p (range_with_len 0 n)) (list_all p ((0 + n) ∷ [])) both in
    let last = and_parts (p (0 + n)) true parts.1 in
    elim (cases_lt r n) [
      | inl below ↦ all_below p n parts.0 r below
      | inr past ↦ let here : r ≡ 0 + n = omega arith in ap p here ∙ last.0
    ]

from_all_below : (p : ℕ → Bool) (n : ℕ) → ((r : ℕ) → r < n → p r ≡ true) → list_all p (range_with_len 0 n) ≡ true
from_all_below p zero h = refl
from_all_below p (suc n) h =
    let last : p (0 + n) ≡ true = h (0 + n) (omega arith) in
    let before = from_all_below p n (λ r lt. h r (omega arith)) in
    ap (list_all p) (range_with_len-push 0 n) ∙ list_all-append p (range_with_len 0 n) ((0 + n) ∷ []) ∙ and_from _ _ before (and_from _ _ last refl)

pub lowest-from : (mask ring : ℕ) → IsLowestDisabled mask ring → is_lowest_disabled mask ring ≡ true
lowest-from mask ring h = and_from _ _ (ap not h.disabled) (from_all_below (enables mask) ring h.lowest)

pub lowest-to : (mask ring : ℕ) → is_lowest_disabled mask ring ≡ true → IsLowestDisabled mask ring
lowest-to mask ring h =
    let parts = and_parts (not (enables mask ring)) (list_all (enables mask) (range_with_len 0 ring)) h in
    record { disabled = not-true _ parts.0; lowest = all_below (enables mask) ring parts.1 }

or-left : (x y : Bool) → x ≡ true → (x || y) ≡ true
or-left x y h = cc

or-cases : (x y : Bool) → (x || y) ≡ true → x ≡ false → y ≡ true
or-cases true y h e = cc
or-cases false y h e = h

not-eqb : (a b : ℕ) → a ≢ b → not (eqb a b) ≡ true
not-eqb a b h = grind (arith, nat_tests, h)

eqb-not : (a b : ℕ) → not (eqb a b) ≡ true → a ≢ b
eqb-not a b h e = absurd (grind (arith, nat_tests, h, e))

eqb-same : (a b : ℕ) → a ≡ b → eqb a b ≡ true
eqb-same a b h = grind (arith, nat_tests, h)

by_answer-from : (t mask at ring : ℕ) → IsEnabledByAnswer t mask at ring → is_enabled_by_answer t mask at ring ≡ true
by_answer-from t mask at ring h =
    let again : Bool = eqb (disabled_count t mask) t && is_lowest_disabled mask ring in
    let wanted : (enables mask ring || again) ≡ true =
    elim h.wanted [
      | inl on ↦ or-left (enables mask ring) again on
      | inr up ↦ or_right (enables mask ring) again (and_from _ _ (eqb-same (disabled_count t mask) t up.no_more) (lowest-from mask ring up.lowest))
    ] in
    and_from _ _ (not-eqb ring at h.other) wanted

by_answer-to : (t mask at ring : ℕ) → is_enabled_by_answer t mask at ring ≡ true → IsEnabledByAnswer t mask at ring
by_answer-to t mask at ring h =
    let again : Bool = eqb (disabled_count t mask) t && is_lowest_disabled mask ring in
    let parts = and_parts (not (eqb ring at)) (enables mask ring || again) h in
    record {
      other = eqb-not ring at parts.0;
      wanted =
          elim (cases_Bool (enables mask ring)) [
            | inl lit ↦ inl lit
            | inr off ↦
                let up = and_parts (eqb (disabled_count t mask) t) (is_lowest_disabled mask ring) (or-cases (enables mask ring) again parts.1 off) in
                inr (record { no_more = eqb-true _ _ up.0; lowest = lowest-to mask ring up.1 })
          ];
    }

same-test : (x y : Bool) → (x ≡ true → y ≡ true) → (y ≡ true → x ≡ true) → x ≡ y
same-test true y f g = sym (f refl)
same-test false true f g = g refl
same-test false false f g = refl

-- a mask of the group that enables exactly these rings is the answer's
pub answering-is : (t mask on m : ℕ) → m < 2 ^ ring_count t → ((r : ℕ) → r < ring_count t → (enables m r ≡ true) ↔ IsEnabledByAnswer t mask on r) → m ≡ answering_mask t mask on
unfolding answering_mask
answering-is t mask on m fits exact =
    mask-is (is_enabled_by_answer t mask on) (ring_count t) m fits
    (λ r lt. same-test (enables m r) (is_enabled_by_answer t mask on r) (λ h. by_answer-from t mask on r ((exact r lt).0 h)) (λ h. (exact r lt).1 (by_answer-to t mask on r h)))

-- ---- it is good

pub find_low : (mask n : ℕ) → ((r : ℕ) → r < n → enables mask r ≡ true) ⊎ ((low : ℕ) × ((low < n) × IsLowestDisabled mask low))
find_low mask zero = inl (λ r lt. absurd (omega (arith, lt)))
find_low mask (suc n) =
    elim (find_low mask n) [
      | inl all ↦ elim (cases_Bool (enables mask n)) [
        | inl lit ↦ inl (λ r lt. elim (cases_lt r n) [ inl below ↦ all r below | inr past ↦ let here : r ≡ n = omega (arith, lt, past) in ap (enables mask) here ∙ lit ])
        | inr off ↦ inr (n, (omega arith, record { disabled = off; lowest = all }))
      ]
      | inr found ↦ inr (found.0, (omega (arith, found.1.0), found.1.1))
    ]

pub answering-good : (t mask at : ℕ) → IsAsked t mask at → good_mask t (answering_mask t mask at) ≡ true
answering-good t mask at h =
    elim (cases_Bool (good_mask t (switch mask at))) [
      | inl good ↦
          let same = answering-is t mask at (switch mask at) (good_parts t (switch mask at) good).fits (λ r lt. without_exact t mask at r h good) in
          ap (good_mask t) (sym same) ∙ good
      | inr bad ↦ elim (find_low mask (ring_count t)) [
        | inl all ↦ not_all t mask at h bad all
        | inr found ↦
            let full : IsFull t mask at found.0 = record { asked = h; bad = bad; within = found.1.0; lowest = found.1.1 } in
            let good = again_good t mask at found.0 full in
            let same = answering-is t mask at (again mask at found.0) (good_parts t (again mask at found.0) good).fits (λ r lt. again_exact t mask at found.0 r full) in
            ap (good_mask t) (sym same) ∙ good
      ]
    ]

-- ---- all rings

ones_all : (n r : ℕ) → r < n → enables (2 ^ n - 1) r ≡ true
ones_all n r lt = eq-eqb _ _ (bit_at_ones n r lt)

pub all_rings-good : (t : ℕ) → good_mask t (all_rings t) ≡ true
all_rings-good t =
    let k : ℕ = ring_count t in
    let below = bits-below (λ r. true) k in
    let positive : 0 < 2 ^ k = omega (arith, below) in
    let counted : count k (all_rings t) ≡ k = all_counted (all_rings t) k (λ r lt. ones_all k r lt) in
    good_from t (all_rings t) (record { fits = omega (arith, positive); enough = omega (arith, counted) })
