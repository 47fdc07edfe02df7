-- Whom a member watches, by the state of its life.
use Rattle.std.specs.Prelude.{ℕ, Bool, false, ◌&&◌, not, ◌==◌, List, map, filter}
use Rattle.std.specs.List.{list_any}
use Rattle.std.specs.Option.{option_map_or}
use Rattle.ff_ids.specs.declared.NoteBody.{NoteBody}
use Rattle.ff_ids.specs.Masks.{ring_count, enabled}
use Rattle.ff_ids.specs.Notes.{newest}
use Rattle.ff_ids.specs.Views.{State, all_numbers, in_view, monitor, is_number}
use Rattle.detector.specs.declared.watch.Watched.{Watched}

-- This member is the monitor of m on one of so many rings that the note enables.
abbrev pub monitors_by : ℕ → State → ℕ → ℕ → NoteBody → Bool
monitors_by rings s me m note = list_any (λ ring. is_number (monitor s ring m) me) (enabled rings note.mask.0)

-- m is another member of the view, and this one is its monitor on a ring that its newest note enables.
abbrev pub is_watched : ℕ → State → ℕ → ℕ → Bool
is_watched t s me m = not (m == me) && in_view s m && option_map_or (monitors_by (ring_count t) s me m) (newest s.notes m) false

-- The epoch of the newest note of m, 0 where it has none.
abbrev pub newest_epoch : State → ℕ → ℕ
newest_epoch s m = option_map_or (λ note. note.epoch) (newest s.notes m) 0

-- The number, and the epoch of its newest note.
abbrev pub as_watched : State → ℕ → Watched
as_watched s m = record { member = m; epoch = newest_epoch s m }

-- Those that this member watches in a group of tolerance t, in order of number.
abbrev pub watched : ℕ → State → ℕ → List Watched
watched t s me = map (as_watched s) (filter (is_watched t s me) all_numbers)
