-- What the bytes of a gate and of the entry behind it tell.
use Rattle.std.specs.Prelude.{◌≡◌, ℕ, ◌^◌, ◌<◌, ◌⊎◌, Bool, None, Some, List, [], ◌∷◌, ◌++◌, length}
use Rattle.std.specs.Int.{w64, to_be_bytes}
use Rattle.epoch_store.specs.declared.Stored.{Stored}
use Rattle.epoch_store.specs.declared.entry.Entry.{Entry}
use Rattle.epoch_store.specs.declared.entry.Look.{Look}
use Rattle.epoch_store.specs.declared.entry.Look.TheVariants.{Cut, Shut, Fields}
use Rattle.epoch_store.specs.Seat.{width_by}
use Rattle.epoch_store.specs.Store.{spelled_by}
use Rattle.epoch_store.specs.Reading.{IsClosed, mask_end}

-- the bytes spell these numbers, and this mask or the mark in its place
pub record HasFields (wide : Bool) (bytes : List ℕ) (s : Stored) : Type 0 where
  pub spell : bytes ≡ spelled_by wide None s
  pub next_fits : s.next < 2 ^ 32
  pub epoch_fits : s.epoch < 2 ^ 64
  pub mask_fits : s.mask.0 < mask_end wide

abbrev pub Looks : Bool → List ℕ → Look → Type 0
Looks wide bytes Cut = ((bytes ≡ []) ⊎ ((rest : List ℕ) × (bytes ≡ 1 ∷ rest))) × (length bytes < width_by wide)
Looks wide bytes Shut = IsClosed bytes
Looks wide bytes (Fields s) = (rest : List ℕ) × (bytes ≡ 1 ∷ rest) × HasFields wide rest s

-- the bytes behind a mark spell this entry's tag and mask
pub record IsMoved (numbers : Stored) (bytes : List ℕ) (e : Entry) : Type 0 where
  pub tag : List ℕ
  pub is : e.moved ≡ Some tag
  pub next : e.kept.next ≡ numbers.next
  pub epoch : e.kept.epoch ≡ numbers.epoch
  pub spell : bytes ≡ tag ++ to_be_bytes w64 e.kept.mask.0
  pub tag_long : length tag ≡ 32
  pub mask_fits : e.kept.mask.0 < 2 ^ 64
