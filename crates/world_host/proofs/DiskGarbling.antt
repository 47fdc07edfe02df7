-- What an outcome picks of a file in which little was written.
use Rattle.std.proofs.Common.{◌≡◌, ℕ, ◌+◌, ◌<◌, ◌≤◌, true, false, eqb, cond, List, [], ◌∷◌, ◌++◌, length, refl, ap, ◌∙◌, arith}
use Rattle.std.specs.Prelude.{◌%◌}
use Rattle.std.proofs.lemmas.List.{ext_get_or}
use Rattle.std.proofs.lemmas.Bool.Decides.{nat_tests}
use Rattle.ports.specs.Disk.{is_torn, settled}
use Rattle.ports.specs.MemoryDisk.{garbled, garbled_byte, is_unstable, picked}
use Rattle.ports.proofs.MomentLemmas.{length-garbled, get_or-garbled_stable}
use Rattle.epoch_store.proofs.FileLemmas.{below_range, above_range}

-- bytes none of which is unstable stay
pub garbled_plain : (outcome place kept : ℕ) (torn : List (ℕ × ℕ)) (bytes : List ℕ) → ((i : ℕ) → i < length bytes → is_unstable torn kept (place + i) ≡ false) → garbled outcome torn kept place bytes ≡ bytes
garbled_plain outcome place kept torn bytes stable =
    ext_get_or 0 (garbled outcome torn kept place bytes) bytes (length-garbled outcome torn kept place bytes) (λ i below.
    get_or-garbled_stable outcome torn kept place i bytes (stable i (omega (arith, below, length-garbled outcome torn kept place bytes))))

pub garbled_join : (outcome place kept : ℕ) (torn : List (ℕ × ℕ)) (xs ys : List ℕ) → garbled outcome torn kept place (xs ++ ys) ≡ garbled outcome torn kept place xs ++ garbled outcome torn kept (place + length xs) ys
garbled_join outcome place kept torn [] ys = let at : place + 0 ≡ place = omega arith in rw at refl
garbled_join outcome place kept torn (x ∷ xs) ys =
    let at : place + 1 + length xs ≡ place + length (x ∷ xs) = omega arith in
    ap (λ (b : List ℕ). garbled_byte outcome torn kept place x ∷ b) (rw at at (garbled_join outcome (place + 1) kept torn xs ys))

stable_settled : (kept i : ℕ) → i < kept → is_unstable [] kept (0 + i) ≡ false
stable_settled kept i below = let from : 0 + i ≡ i = omega arith in rw from (grind (arith, nat_tests, below))

-- a settled file stays
pub picked_settled : (outcome : ℕ) (image : List ℕ) → picked outcome (settled image) ≡ image
picked_settled outcome image =
    elim (eqb outcome 0) as (λ test. cond test image (cond (eqb outcome 1) image (garbled outcome [] (length image) 0 image)) ≡ image) [
      | true ↦ refl
      | false ↦ elim (eqb outcome 1) as (λ test. cond test image (garbled outcome [] (length image) 0 image) ≡ image) [
        | true ↦ refl
        | false ↦ garbled_plain outcome 0 (length image) [] image (λ i below. stable_settled (length image) i below)
      ]
    ]

stable_below : (place count kept i : ℕ) → i < place → i < kept → is_unstable ((place, count) ∷ []) kept (0 + i) ≡ false
stable_below place count kept i below within =
    let from : 0 + i ≡ i = omega arith in
    rw (from, below_range place count i below) (grind (arith, nat_tests, within))

stable_above : (place count kept from i : ℕ) → place + count ≤ from → from + i < kept → is_unstable ((place, count) ∷ []) kept (from + i) ≡ false
stable_above place count kept from i above within =
    let past : place + count ≤ from + i = omega (arith, above) in
    rw (above_range place count (from + i) past) (grind (arith, nat_tests, within))

unstable_at : (gate kept : ℕ) → is_unstable ((gate, 1) ∷ []) kept gate ≡ true
unstable_at gate kept =
    let here : is_torn ((gate, 1) ∷ []) gate ≡ true = grind (arith, nat_tests) in
    rw here refl

-- the front of a file in which something was written behind it
pub garbled_front : (outcome place count kept : ℕ) (front behind : List ℕ) → length front ≤ place → length front ≤ kept → garbled outcome ((place, count) ∷ []) kept 0 (front ++ behind) ≡ front ++ garbled outcome ((place, count) ∷ []) kept (0 + length front) behind
garbled_front outcome place count kept front behind before within =
    let torn : List (ℕ × ℕ) = (place, count) ∷ [] in
    let same = garbled_plain outcome 0 kept torn front (λ i below. stable_below place count kept i (omega (arith, below, before)) (omega (arith, below, within))) in
    garbled_join outcome 0 kept torn front behind ∙ ap (λ (b : List ℕ). b ++ garbled outcome torn kept (0 + length front) behind) same

-- the file in which one byte was written
pub garbled_one : (outcome kept x : ℕ) (front behind : List ℕ) → length front + 1 + length behind ≤ kept → garbled outcome ((length front, 1) ∷ []) kept 0 (front ++ x ∷ behind) ≡ front ++ (outcome + length front) % 256 ∷ behind
garbled_one outcome kept x front behind fits =
    let gate = length front in
    let torn : List (ℕ × ℕ) = (gate, 1) ∷ [] in
    let at : 0 + gate ≡ gate = omega arith in
    let byte : garbled_byte outcome torn kept gate x ≡ (outcome + gate) % 256 = rw (unstable_at gate kept) refl in
    let same = garbled_plain outcome (gate + 1) kept torn behind (λ i below. stable_above gate 1 kept (gate + 1) i (omega arith) (omega (arith, below, fits))) in
    garbled_front outcome gate 1 kept front (x ∷ behind) (omega arith) (omega (arith, fits))
    ∙ rw (at, byte, same) refl
