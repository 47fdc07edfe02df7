-- An entry has one spelling, and a spelling one entry.
use Rattle.std.proofs.Common.{◌≡◌, ℕ, ◌+◌, ◌-◌, ◌<◌, Bool, true, false, Option, None, Some, List, ◌∷◌, ◌++◌, length, take, drop, refl, sym, ap, ◌∙◌, arith, append_assoc, length-append, lit<}
use Rattle.std.specs.Int.{w32, w64, to_be_bytes, from_be_bytes}
use Rattle.std.proofs.lemmas.Nat.{from_be_bytes-to_be_bytes_4, from_be_bytes-to_be_bytes_8}
use Rattle.std.proofs.lemmas.List.{take_at, drop_at}
use Rattle.epoch_store.specs.declared.Stored.{Stored}
use Rattle.epoch_store.specs.declared.entry.Entry.{Entry}
use Rattle.epoch_store.specs.Seat.{width_by}
use Rattle.epoch_store.specs.Store.{mark, mask_bytes, spelled, spelled_by}
use Rattle.epoch_store.specs.Reading.{FitsMask, IsMarked, IsOpenEntry, mask_end}

pub stored_is : (a b : Stored) → a.next ≡ b.next → a.epoch ≡ b.epoch → a.mask.0 ≡ b.mask.0 → a ≡ b
stored_is a b next epoch mask = λ i. record { next = next i; epoch = epoch i; mask = record { 0 = mask i } }

-- ---- the mask, or the mark in its place

abbrev pub from_mask : Bool → List ℕ → ℕ
from_mask false bytes = from_be_bytes w32 (take 4 bytes)
from_mask true bytes = from_be_bytes w64 (take 8 bytes)

-- the number that stands in the mask's place
abbrev pub shown : Bool → Option (List ℕ) → ℕ → ℕ
shown wide None mask = mask
shown wide (Some tag) mask = mark wide

pub mask_again : (wide : Bool) (mask : ℕ) (rest : List ℕ) → mask < mask_end wide → from_mask wide (mask_bytes wide mask ++ rest) ≡ mask
mask_again false mask rest fits = from_be_bytes-to_be_bytes_4 mask fits
mask_again true mask rest fits = from_be_bytes-to_be_bytes_8 mask fits

pub mark_fits : (wide : Bool) → mark wide < mask_end wide
mark_fits false = lit< tt
mark_fits true = lit< tt

shown_fits : (wide : Bool) (moved : Option (List ℕ)) (mask : ℕ) → FitsMask wide moved mask → shown wide moved mask < mask_end wide
shown_fits wide None mask fits = fits.0
shown_fits wide (Some tag) mask fits = mark_fits wide

-- ---- what stands where

next_in : (wide : Bool) (moved : Option (List ℕ)) (s : Stored) (rest : List ℕ) → take 4 (spelled_by wide moved s ++ rest) ≡ to_be_bytes w32 s.next
next_in wide None s rest = refl
next_in wide (Some tag) s rest = refl

epoch_in : (wide : Bool) (moved : Option (List ℕ)) (s : Stored) (rest : List ℕ) → take 8 (drop 4 (spelled_by wide moved s ++ rest)) ≡ to_be_bytes w64 s.epoch
epoch_in wide None s rest = refl
epoch_in wide (Some tag) s rest = refl

mask_in : (wide : Bool) (moved : Option (List ℕ)) (s : Stored) (rest : List ℕ) → (more : List ℕ) × (drop 12 (spelled_by wide moved s ++ rest) ≡ mask_bytes wide (shown wide moved s.mask.0) ++ more)
mask_in wide None s rest = (rest, refl)
mask_in wide (Some tag) s rest = ((tag ++ to_be_bytes w64 s.mask.0) ++ rest, append_assoc (mask_bytes wide (mark wide)) (tag ++ to_be_bytes w64 s.mask.0) rest)

tail_in : (wide : Bool) (tag : List ℕ) (s : Stored) (rest : List ℕ) → drop (width_by wide - 1) (spelled_by wide (Some tag) s ++ rest) ≡ tag ++ (to_be_bytes w64 s.mask.0 ++ rest)
tail_in false tag s rest = append_assoc tag (to_be_bytes w64 s.mask.0) rest
tail_in true tag s rest = append_assoc tag (to_be_bytes w64 s.mask.0) rest

-- the number in the mask's place
pub shown_in : (wide : Bool) (moved : Option (List ℕ)) (s : Stored) (rest : List ℕ) → FitsMask wide moved s.mask.0 → from_mask wide (drop 12 (spelled_by wide moved s ++ rest)) ≡ shown wide moved s.mask.0
shown_in wide moved s rest fits =
    let at = mask_in wide moved s rest in
    ap (from_mask wide) at.1 ∙ mask_again wide (shown wide moved s.mask.0) at.0 (shown_fits wide moved s.mask.0 fits)

pub marked_in : (wide : Bool) (bytes : List ℕ) (marked : IsMarked wide bytes) → from_mask wide (drop 12 (drop 1 bytes)) ≡ mark wide
marked_in wide bytes marked =
    let cut : drop 12 (drop 1 bytes) ≡ mask_bytes wide (mark wide) ++ marked.rest =
    ap (λ (b : List ℕ). drop 12 (drop 1 b)) marked.begins ∙ drop_at marked.before (mask_bytes wide (mark wide) ++ marked.rest) 12 marked.twelve in
    ap (from_mask wide) cut ∙ mask_again wide (mark wide) marked.rest (mark_fits wide)

-- an entry that keeps its mask isn't marked
pub kept_unmarked : (wide : Bool) (bytes : List ℕ) (s : Stored) (rest : List ℕ) → FitsMask wide None s.mask.0 → bytes ≡ 1 ∷ (spelled_by wide None s ++ rest) → IsMarked wide bytes → ⊥
kept_unmarked wide bytes s rest fits is marked =
    fits.1 (sym (shown_in wide None s rest fits) ∙ ap (λ (b : List ℕ). from_mask wide (drop 12 (drop 1 b))) (sym is) ∙ marked_in wide bytes marked)

-- ---- one entry

record AreSame (a b : Option (List ℕ)) (s t : Stored) : Type 0 where
  moved : a ≡ b
  kept : s ≡ t

masks_same : (wide : Bool) (a b : Option (List ℕ)) (s t : Stored) (more rest : List ℕ) → FitsMask wide a s.mask.0 → FitsMask wide b t.mask.0 → spelled_by wide a s ++ more ≡ spelled_by wide b t ++ rest → s.next ≡ t.next → s.epoch ≡ t.epoch → shown wide a s.mask.0 ≡ shown wide b t.mask.0
    → AreSame a b s t
masks_same wide None None s t more rest af bf same next epoch mask = record { moved = refl; kept = stored_is s t next epoch mask }
masks_same wide None (Some tag) s t more rest af bf same next epoch mask = absurd (af.1 mask)
masks_same wide (Some tag) None s t more rest af bf same next epoch mask = absurd (bf.1 (sym mask))
masks_same wide (Some tag) (Some other) s t more rest af bf same next epoch mask =
    let cut : tag ++ (to_be_bytes w64 s.mask.0 ++ more) ≡ other ++ (to_be_bytes w64 t.mask.0 ++ rest) =
    sym (tail_in wide tag s more) ∙ ap (drop (width_by wide - 1)) same ∙ tail_in wide other t rest in
    let tags : tag ≡ other =
    sym (take_at tag (to_be_bytes w64 s.mask.0 ++ more) 32 af.1) ∙ ap (take 32) cut ∙ take_at other (to_be_bytes w64 t.mask.0 ++ rest) 32 bf.1 in
    let behind : to_be_bytes w64 s.mask.0 ++ more ≡ to_be_bytes w64 t.mask.0 ++ rest =
    sym (drop_at tag (to_be_bytes w64 s.mask.0 ++ more) 32 af.1) ∙ ap (drop 32) cut ∙ drop_at other (to_be_bytes w64 t.mask.0 ++ rest) 32 bf.1 in
    let own : s.mask.0 ≡ t.mask.0 =
    sym (from_be_bytes-to_be_bytes_8 s.mask.0 af.0) ∙ ap (λ (b : List ℕ). from_be_bytes w64 (take 8 b)) behind ∙ from_be_bytes-to_be_bytes_8 t.mask.0 bf.0 in
    record { moved = ap Some tags; kept = stored_is s t next epoch own }

entry_is : (a b : Entry) → AreSame a.moved b.moved a.kept b.kept → a ≡ b
entry_is a b same = λ i. record { kept = same.kept i; moved = same.moved i }

pub same_entry : (wide : Bool) (bytes : List ℕ) (a b : Entry) → IsOpenEntry wide bytes a → IsOpenEntry wide bytes b → a ≡ b
same_entry wide bytes a b x y =
    let same : spelled wide a ++ x.rest ≡ spelled wide b ++ y.rest = ap (drop 1) (sym x.begins ∙ y.begins) in
    let next : a.kept.next ≡ b.kept.next =
    sym (from_be_bytes-to_be_bytes_4 a.kept.next x.next_fits) ∙ ap (from_be_bytes w32) (sym (next_in wide a.moved a.kept x.rest) ∙ ap (take 4) same ∙ next_in wide b.moved b.kept y.rest) ∙ from_be_bytes-to_be_bytes_4 b.kept.next y.next_fits in
    let epoch : a.kept.epoch ≡ b.kept.epoch =
    sym (from_be_bytes-to_be_bytes_8 a.kept.epoch x.epoch_fits) ∙ ap (from_be_bytes w64) (sym (epoch_in wide a.moved a.kept x.rest) ∙ ap (λ (s : List ℕ). take 8 (drop 4 s)) same ∙ epoch_in wide b.moved b.kept y.rest) ∙ from_be_bytes-to_be_bytes_8 b.kept.epoch y.epoch_fits in
    let mask : shown wide a.moved a.kept.mask.0 ≡ shown wide b.moved b.kept.mask.0 =
    sym (shown_in wide a.moved a.kept x.rest x.mask_fits) ∙ ap (λ (s : List ℕ). from_mask wide (drop 12 s)) same ∙ shown_in wide b.moved b.kept y.rest y.mask_fits in
    entry_is a b (masks_same wide a.moved b.moved a.kept b.kept x.rest y.rest x.mask_fits y.mask_fits same next epoch mask)

-- ---- its length

pub length-keeps : (wide : Bool) (s : Stored) → length (spelled_by wide None s) ≡ width_by wide - 1
length-keeps false s = refl
length-keeps true s = refl

pub length-moves : (wide : Bool) (tag : List ℕ) (s : Stored) → length tag ≡ 32 → length (spelled_by wide (Some tag) s) ≡ width_by wide + 39
length-moves false tag s long = omega (arith, long, length-append tag (to_be_bytes w64 s.mask.0))
length-moves true tag s long = omega (arith, long, length-append tag (to_be_bytes w64 s.mask.0))
