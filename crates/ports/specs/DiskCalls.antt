-- The calls that were made of a disk, one after the other.
use Rattle.std.specs.Prelude.{◌≡◌, ℕ, Option, None, Some, List, [], ◌∷◌, drop}

-- one call and what was asked by it, whatever it answered
pub data DiskCall : Type 0 where
  ToOpen : List ℕ → DiskCall
  ToMeasure : DiskCall
  ToRead : ℕ → ℕ → DiskCall
  ToWrite : ℕ → List ℕ → DiskCall
  ToSync : DiskCall

-- one call more, where calls are modelled
abbrev pub with_call : DiskCall → Option (List DiskCall) → Option (List DiskCall)
with_call call None = None
with_call call (Some past) = Some (call ∷ past)

-- these calls more, the last one first
abbrev pub with_calls : List DiskCall → Option (List DiskCall) → Option (List DiskCall)
with_calls [] past = past
with_calls (call ∷ earlier) past = with_call call (with_calls earlier past)

-- of these calls, the last one first, the first ones were made: all but so many of the last
pub record AsFarAs (all : List DiskCall) (older newer : Option (List DiskCall)) : Type 0 where
  pub left_out : ℕ
  pub made : newer ≡ with_calls (drop left_out all) older
