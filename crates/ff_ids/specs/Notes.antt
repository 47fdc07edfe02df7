-- Notes: their order, and the newest of a member.
use Rattle.std.specs.Prelude.{ℕ, Bool, ◌==◌, if◌then◌else◌, List, [], ◌∷◌, Option, Some, None}
use Rattle.std.specs.Ordering.{nat_cmp, ordering_then, is_lt}
use Rattle.std.specs.declared.cmp.Ordering.{Ordering}
use Rattle.ff_ids.specs.declared.NoteBody.{NoteBody}

-- By this note its member leaves: it enables no ring.
abbrev pub is_leaving : NoteBody → Bool
is_leaving n = n.mask.0 == 0

-- Notes are ordered by epoch, and those of one epoch by mask.
abbrev pub note_cmp : NoteBody → NoteBody → Ordering
note_cmp a b = ordering_then (nat_cmp a.epoch b.epoch) (nat_cmp a.mask.0 b.mask.0)

-- The greater of a note and one that may be there.
abbrev pub greater_note : NoteBody → Option NoteBody → NoteBody
greater_note n None = n
greater_note n (Some other) = if is_lt (note_cmp n other) then other else n

-- The greatest note of the member in the list, or none where the list has no note of it.
abbrev pub newest : List NoteBody → ℕ → Option NoteBody
newest [] member = None
newest (n ∷ notes) member = if n.member == member then Some (greater_note n (newest notes member)) else newest notes member
