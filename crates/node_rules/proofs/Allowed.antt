-- What a note may carry: a good mask, or none of the rings, by which its member leaves.
use Rattle.std.proofs.Common.{◌≡◌, ℕ, ◌^◌, ◌<◌, ◌≤◌, true, false, eqb, inl, inr, ap, sym, ◌∙◌, arith}
use Rattle.std.specs.Prelude.{◌||◌}
use Rattle.std.proofs.lemmas.Bool.{and_parts, cases_Bool, eqb-true, false≢true, ltb-true, or_right}
use Rattle.ff_ids.specs.declared.TheConstants.{MAX_TOLERANCE, MAX_RINGS, MASK_BITS}
use Rattle.ff_ids.specs.Masks.{ring_count, enables, good_mask, note_mask}
use Rattle.ff_ids.proofs.MaskLemmas.{below-rings}
use Rattle.rebuttal.proofs.Answering.{none_above}

pub good-allowed : (t mask : ℕ) → good_mask t mask ≡ true → note_mask t mask ≡ true
good-allowed t mask good = or_right (eqb mask 0) (good_mask t mask) good

unless-none : (t mask : ℕ) → note_mask t mask ≡ true → eqb mask 0 ≡ false → good_mask t mask ≡ true
unless-none t mask allowed some = sym (ap (λ b. b || good_mask t mask) some) ∙ allowed

-- with a ring that is enabled it is good
pub good-enabling : (t mask ring : ℕ) → note_mask t mask ≡ true → enables mask ring ≡ true → good_mask t mask ≡ true
good-enabling t mask ring allowed on =
    elim (cases_Bool (eqb mask 0)) [
      | inl none ↦
          let off : enables mask ring ≡ false = ap (λ m. enables m ring) (eqb-true mask 0 none) ∙ none_above 0 0 ring (omega arith) (omega arith) in
          absurd (false≢true (sym off ∙ on))
      | inr some ↦ unless-none t mask allowed some
    ]

-- and it enables none above those of a group
pub allowed-below : (t mask : ℕ) → t ≤ MAX_TOLERANCE → note_mask t mask ≡ true → mask < 2 ^ MAX_RINGS
allowed-below t mask few allowed =
    elim (cases_Bool (eqb mask 0)) [
      | inl none ↦ let is : mask ≡ 0 = eqb-true mask 0 none in omega (arith, is)
      | inr some ↦ below-rings t mask few (ltb-true mask (2 ^ ring_count t) (and_parts _ _ (unless-none t mask allowed some)).0)
    ]

-- so it fits the bits that a mask has
pub allowed-fits : (t mask : ℕ) → t ≤ MAX_TOLERANCE → note_mask t mask ≡ true → mask < 2 ^ MASK_BITS
allowed-fits t mask few allowed =
    let low : mask < 2 ^ MAX_RINGS = allowed-below t mask few allowed in
    omega (arith, low)
