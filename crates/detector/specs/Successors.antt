-- How the watched are found: each is this member's successor on the ring where it is monitored by it.
use Rattle.std.specs.Prelude.{ℕ, zero, suc, [], false, ◌==◌, nat_lt, if◌then◌else◌, List, Option, Some, None}
use Rattle.std.specs.List.{insert, prefix_len, slice_get}
use Rattle.std.specs.Option.{option_map_or}
use Rattle.ff_ids.specs.declared.NoteBody.{NoteBody}
use Rattle.ff_ids.specs.Masks.{enables}
use Rattle.ff_ids.specs.Notes.{newest}
use Rattle.ff_ids.specs.Views.{State, successor}
use Rattle.detector.specs.declared.watch.Watched.{Watched}

-- The member where its newest note enables the ring.
abbrev pub where_enabled : ℕ → ℕ → Option NoteBody → Option Watched
where_enabled ring m None = None
where_enabled ring m (Some note) = if enables note.mask.0 ring then Some (record { member = m; epoch = note.epoch }) else None

abbrev pub watched_where : State → ℕ → Option ℕ → Option Watched
watched_where s ring None = None
watched_where s ring (Some m) = where_enabled ring m (newest s.notes m)

-- The successor of the member on the ring, where its newest note enables the ring.
abbrev pub watched_on : State → ℕ → ℕ → Option Watched
watched_on s ring me = watched_where s ring (successor s ring me)

-- How many of the watched have a smaller number than this one.
abbrev pub place_of : ℕ → List Watched → ℕ
place_of m list = prefix_len (λ w. nat_lt w.member m) list

-- The list with one more, in order of number, where its number isn't there yet.
abbrev pub with_watched : Watched → List Watched → List Watched
with_watched w list =
    if option_map_or (λ x. x.member == w.member) (slice_get list (place_of w.member list)) false then list
    else insert list (place_of w.member list) w

-- The list with one more, if there is one.
abbrev pub with_any : Option Watched → List Watched → List Watched
with_any None list = list
with_any (Some w) list = with_watched w list

-- Those found on so many rings.
abbrev pub watched_below : State → ℕ → ℕ → List Watched
watched_below s me zero = []
watched_below s me (suc ring) = with_any (watched_on s ring me) (watched_below s me ring)
