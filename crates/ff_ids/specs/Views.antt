-- The state of a life, its view, and who monitors whom in it.
use Rattle.std.specs.Prelude.{ℕ, Bool, false, ◌&&◌, not, ◌==◌, nat_le, if◌then◌else◌, List, [], ◌∷◌, Option, Some, None, map, filter}
use Rattle.std.specs.List.{list_any, range_with_len, slice_index_or}
use Rattle.std.specs.Option.{option_map_or}
use Rattle.ff_ids.specs.declared.TheConstants.{MEMBERS}
use Rattle.ff_ids.specs.declared.NoteBody.{NoteBody}
use Rattle.ff_ids.specs.declared.AccBody.{AccBody}
use Rattle.ff_ids.specs.Masks.{enables}
use Rattle.ff_ids.specs.Notes.{is_leaving, newest}
use Rattle.ff_ids.specs.Rings.{Key, nearest_before, nearest_after}

-- A member that has joined: its number, and its place on each ring, as bytes.
pub record Member : Type 0 where
  pub number : ℕ
  pub places : List (List ℕ)

-- What one observer has come to in one life: the ticks so far, who has joined, every note accepted, every
-- accusation that expired, and the accusations kept, each with the tick of its acceptance.
pub record State : Type 0 where
  pub moment : ℕ
  pub members : List Member
  pub notes : List NoteBody
  pub expired : List AccBody
  pub kept : List (AccBody × ℕ)

-- The places with which the number joined; none where it has not.
abbrev pub places_of : List Member → ℕ → List (List ℕ)
places_of [] m = []
places_of (x ∷ members) m = if x.number == m then x.places else places_of members m

-- The number has joined.
abbrev pub is_member : State → ℕ → Bool
is_member s m = list_any (λ x. x.number == m) s.members

-- An accusation against the note's member expired whose epoch is at least the note's.
abbrev pub has_expired : List AccBody → NoteBody → Bool
has_expired expired n = list_any (λ a. (a.accused == n.member) && nat_le n.epoch a.epoch) expired

-- Whether a member is in the view, given its newest note and whether an accusation at the epoch of that note or a
-- later one has expired: it hasn't left by that note, and none has. `proofs/ViewLemmas` has its laws: no proof elsewhere
-- unfolds it.
unfoldable pub in_view_by : NoteBody → Bool → Bool
in_view_by n expired = not (is_leaving n) && not expired

-- The same by what expired and the newest note of the member, if there is one: else the member isn't in the view.
abbrev pub viewed_by : List AccBody → Option NoteBody → Bool
viewed_by expired note = option_map_or (λ n. in_view_by n (has_expired expired n)) note false

-- The member is in the view.
abbrev pub in_view : State → ℕ → Bool
in_view s m = viewed_by s.expired (newest s.notes m)

-- Every member number, in order.
unfoldable pub all_numbers : List ℕ
all_numbers = range_with_len 0 MEMBERS

-- The members of the view, in order of number.
abbrev pub view : State → List ℕ
view s = filter (in_view s) all_numbers

-- What orders a member with these places on the ring.
abbrev pub key_at : ℕ → List (List ℕ) → ℕ → Key
key_at ring places m = record { place = slice_index_or places ring []; number = m }

abbrev pub key_of : State → ℕ → ℕ → Key
key_of s ring m = key_at ring (places_of s.members m) m

-- The view's nearest predecessor of the member on the ring, or none where nobody else is in the view.
abbrev pub monitor : State → ℕ → ℕ → Option ℕ
monitor s ring m = nearest_before (map (key_of s ring) (view s)) (key_of s ring m)

-- The view's nearest successor of the member on the ring, or none where nobody else is in the view.
abbrev pub successor : State → ℕ → ℕ → Option ℕ
successor s ring m = nearest_after (map (key_of s ring) (view s)) (key_of s ring m)

abbrev pub is_number : Option ℕ → ℕ → Bool
is_number None m = false
is_number (Some v) m = v == m

-- The note has the accusation's epoch and enables its ring.
abbrev pub is_unanswered_by : AccBody → NoteBody → Bool
is_unanswered_by a n = (n.epoch == a.epoch) && enables n.mask.0 a.ring.0

-- The accused is in the view, its newest note has the epoch and enables the ring, and the accuser is its
-- monitor there.
abbrev pub stands : State → AccBody → Bool
stands s a = in_view s a.accused && option_map_or (is_unanswered_by a) (newest s.notes a.accused) false && is_number (monitor s a.ring.0 a.accused) a.accuser
