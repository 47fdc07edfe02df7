-- How the enabled rings grow with the number of rings, and how great a mask is.
use Rattle.std.proofs.Common.{◌≡◌, ℕ, zero, suc, Bool, true, false, ◌+◌, ◌*◌, ◌/◌, ◌%◌, ◌^◌, ◌<◌, ◌≤◌, cond, eqb, List, [], ◌∷◌, ◌++◌, length, count_ones, refl, sym, ap, ◌∙◌, arith, add-zero, zero-add, add-one, pow-suc}
use Rattle.std.specs.Int.Count.{ones_step}
use native.Mathlib.Nat.{mul_comm, div-div-eq-div-mul, div-one}
use Rattle.std.specs.List.{range_with_len, filter}
use Rattle.std.proofs.lemmas.List.Elements.{filter-append}
use Rattle.std.proofs.lemmas.List.Filters.{length-filter_both}
use Rattle.std.proofs.lemmas.List.FromFn.{length-range_with_len}
use Rattle.std.specs.Prelude.{not}
use Rattle.std.proofs.Math.Nat.{pow-le-pow_right}
use Rattle.std.proofs.lemmas.Bool.{and_parts, ltb-true, eqb-true, true≢false}
use Rattle.std.proofs.lemmas.Bool.Decides.{nat_tests}
use Rattle.std.proofs.lemmas.Nat.{ones_le_self}
use Rattle.ff_ids.specs.declared.TheConstants.{MAX_TOLERANCE, MAX_RINGS, MASK_BITS}
use Rattle.ff_ids.specs.Masks.{ring_count, enables, enabled, good_mask}

-- one more number at the end of a range
pub range_with_len-push : (a n : ℕ) → range_with_len a (suc n) ≡ range_with_len a n ++ (a + n) ∷ []
range_with_len-push a zero = rw add-zero refl
range_with_len-push a (suc n) =
    let same : a + 1 + n ≡ a + suc n = omega arith in
    ap (λ (xs : List ℕ). a ∷ xs) (range_with_len-push (a + 1) n) ∙ ap (λ (k : ℕ). a ∷ (range_with_len (a + 1) n ++ k ∷ [])) same

pub enabled-push : (rings mask : ℕ) → enabled (rings + 1) mask ≡ enabled rings mask ++ cond (enables mask rings) (rings ∷ []) []
enabled-push rings mask =
    let grown : range_with_len 0 (rings + 1) ≡ range_with_len 0 rings ++ rings ∷ [] = rw add-one (range_with_len-push 0 rings ∙ ap (λ (k : ℕ). range_with_len 0 rings ++ k ∷ []) (zero-add rings)) in
    ap (filter (enables mask)) grown ∙ filter-append (enables mask) (range_with_len 0 rings) (rings ∷ [])

pub length-enabled : (rings mask : ℕ) → length (enabled rings mask) ≤ rings
length-enabled rings mask = omega (arith, length-filter_both (enables mask) (λ r. not (enables mask r)) (λ _. refl) (range_with_len 0 rings), length-range_with_len 0 rings)

-- the rings above the lowest are those of half the mask, one lower
higher : (mask a n : ℕ) → length (filter (enables mask) (range_with_len (a + 1) n)) ≡ length (filter (enables (mask / 2)) (range_with_len a n))
higher mask a zero = refl
higher mask a (suc n) =
    let twice : 2 ^ (a + 1) ≡ 2 * 2 ^ a = ap (λ (k : ℕ). 2 ^ k) (add-one a) ∙ pow-suc 2 a ∙ mul_comm (2 ^ a) 2 in
    let same : enables mask (a + 1) ≡ enables (mask / 2) a = ap (λ (k : ℕ). eqb (mask / k % 2) 1) twice ∙ ap (λ (k : ℕ). eqb (k % 2) 1) (sym (div-div-eq-div-mul mask 2 (2 ^ a))) in
    by_first (enables mask (a + 1)) (enables (mask / 2) a) same (higher mask (a + 1) n)
  where
    by_first : (b c : Bool) → b ≡ c → length (filter (enables mask) (range_with_len (a + 1 + 1) n)) ≡ length (filter (enables (mask / 2)) (range_with_len (a + 1) n))
        → length (cond b ((a + 1) ∷ filter (enables mask) (range_with_len (a + 1 + 1) n)) (filter (enables mask) (range_with_len (a + 1 + 1) n))) ≡ length (cond c (a ∷ filter (enables (mask / 2)) (range_with_len (a + 1) n)) (filter (enables (mask / 2)) (range_with_len (a + 1) n)))
    by_first true true e rest = ap suc rest
    by_first false false e rest = rest
    by_first true false e rest = absurd (true≢false e)
    by_first false true e rest = absurd (true≢false (sym e))

-- a mask enables as many rings as it has bits
pub length-ones : (n mask : ℕ) → mask < 2 ^ n → length (enabled n mask) ≡ count_ones mask
length-ones zero mask lt =
    let none : count_ones mask ≡ 0 = omega (arith, lt, ones_le_self mask) in
    sym none
length-ones (suc n) mask lt =
    let twice : 2 ^ suc n ≡ 2 ^ n * 2 = pow-suc 2 n in
    let half : length (enabled n (mask / 2)) ≡ count_ones (mask / 2) = length-ones n (mask / 2) (omega (arith, lt, twice)) in
    let step : count_ones mask ≡ mask % 2 + count_ones (mask / 2) = ones_step mask in
    let rest = higher mask 0 n in
    let first : enables mask 0 ≡ eqb (mask % 2) 1 = ap (λ (k : ℕ). eqb (k % 2) 1) (div-one mask) in
    by_first (enables mask 0) (omega (arith, half, rest, step)) first
  where
    by_first : (b : Bool) → mask % 2 + length (filter (enables mask) (range_with_len 1 n)) ≡ count_ones mask → b ≡ eqb (mask % 2) 1 → length (cond b (0 ∷ filter (enables mask) (range_with_len 1 n)) (filter (enables mask) (range_with_len 1 n))) ≡ count_ones mask
    by_first true all first =
        let odd : mask % 2 ≡ 1 = eqb-true (mask % 2) 1 (sym first) in
        omega (arith, all, odd)
    by_first false all first =
        let even : mask % 2 ≡ 0 = grind (arith, nat_tests, first) in
        omega (arith, all, even)

-- a mask with no ring at or above those of a group
pub below-rings : (t mask : ℕ) → t ≤ MAX_TOLERANCE → mask < 2 ^ ring_count t → mask < 2 ^ MAX_RINGS
below-rings t mask few low =
    let below : 2 ^ ring_count t ≤ 2 ^ MAX_RINGS = pow-le-pow_right {n = 2} (omega arith) {i = ring_count t} {j = MAX_RINGS} (omega (arith, few)) in
    omega (arith, low, below)

-- a good mask fits the bits that a mask has
pub good_mask-fits : (t mask : ℕ) → t ≤ MAX_TOLERANCE → good_mask t mask ≡ true → mask < 2 ^ MASK_BITS
good_mask-fits t mask few good =
    let low : mask < 2 ^ MAX_RINGS = below-rings t mask few (ltb-true mask (2 ^ ring_count t) (and_parts _ _ good).0) in
    omega (arith, low)
