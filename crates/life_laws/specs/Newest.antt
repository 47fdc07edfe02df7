-- Newest: what the newest note of a member is among all notes that were handed over.
use Rattle.std.specs.Prelude.{◌≡◌, ◌≢◌, ℕ, Bool, true, false, ◌&&◌, List, All, Contains, MatchOption, filter, map}
use Rattle.std.specs.Ordering.{is_lt}
use Rattle.ff_ids.specs.declared.NoteBody.{NoteBody}
use Rattle.ff_ids.specs.declared.Group.{Group}
use Rattle.ff_ids.specs.Masks.{note_mask}
use Rattle.ff_ids.specs.Notes.{note_cmp, newest}
use Rattle.ff_ids.specs.Views.{Member, State, is_member}
use Rattle.ff_ids.specs.Steps.{Notes}
use Rattle.ff_ids.specs.Lives.{opening, after}

-- The note is of the member and in the list, and no note of the member there is greater.
pub record IsGreatest (notes : List NoteBody) (m : ℕ) (n : NoteBody) : Type 0 where
  pub listed : Contains notes n
  pub of_member : n.member ≡ m
  pub greatest : All (λ other. other.member ≡ m → is_lt (note_cmp n other) ≡ false) notes

-- The newest note of a member is its greatest, and there is none exactly where the list has no note of it.
abbrev pub NewestIsGreatest : Type 0
NewestIsGreatest = (notes : List NoteBody) (m : ℕ) → MatchOption (newest notes m) (All (λ n. n.member ≢ m) notes) (IsGreatest notes m)

-- The member has joined, and a note may carry the mask.
abbrev pub is_allowed : ℕ → State → NoteBody → Bool
is_allowed t s n = is_member s n.member && note_mask t n.mask.0

-- However notes are ordered and repeated that come one by one after the opening, the newest note kept of
-- each member is the greatest of all that are allowed.
abbrev pub OrderOfNotes : Type 0
OrderOfNotes = (g : Group) (members : List Member) (notes : List NoteBody) (m : ℕ) → newest (after g (opening members) (map Notes notes)).notes m ≡ newest (filter (is_allowed g.t (opening members)) notes) m

-- The same where each note is allowed.
abbrev pub OrderOfAllowedNotes : Type 0
OrderOfAllowedNotes = (g : Group) (members : List Member) (notes : List NoteBody) (m : ℕ) → All (λ n. is_allowed g.t (opening members) n ≡ true) notes → newest (after g (opening members) (map Notes notes)).notes m ≡ newest notes m
