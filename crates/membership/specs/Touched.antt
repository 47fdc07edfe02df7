-- What a step can end: laws of the definitions alone. Each says that what a step touches, and nothing else, decides
-- which kept accusations fall.
use Rattle.std.specs.Prelude.{◌≡◌, ℕ, ◌+◌, ◌<◌, true, false, ◌||◌, ◌==◌, not, [], ◌∷◌, Some, All, map, filter}
use Rattle.ff_ids.specs.declared.TheConstants.{MEMBERS}
use Rattle.ff_ids.specs.declared.NoteBody.{NoteBody}
use Rattle.ff_ids.specs.Notes.{is_leaving, newest}
use Rattle.ff_ids.specs.Views.{State, in_view, successor, stands, is_number}
use Rattle.ff_ids.specs.Steps.{after_note, after_tick, is_due}
use Rattle.membership.specs.Ends.{Entry, is_answered}

-- It is against a member's number, and stands.
pub record IsUpheld (s : State) (p : Entry) : Type 0 where
  pub number : p.0.accused < MEMBERS
  pub standing : stands s p.0 ≡ true

-- A note that brings its member into the view ends what is kept against the member's successor on each ring.
abbrev pub NewcomerEnds : Type 0
NewcomerEnds = (s : State) (n : NoteBody) → All (IsUpheld s) s.kept → n.member < MEMBERS → in_view s n.member ≡ false → in_view (after_note s n).state n.member ≡ true → (after_note s n).report.fell ≡ map (λ p. p.0) (filter (λ p. is_number (successor (after_note s n).state p.0.ring.0 n.member) p.0.accused) s.kept)

-- A newer note of a member in the view ends of what is kept against it what the note answers.
abbrev pub NewerNoteEnds : Type 0
NewerNoteEnds = (s : State) (n : NoteBody) → All (IsUpheld s) s.kept → newest (n ∷ s.notes) n.member ≡ Some n → in_view s n.member ≡ true → is_leaving n ≡ false → (after_note s n).report.fell ≡ map (λ p. p.0) (filter (is_answered n) s.kept)

-- Where its mask is 0, it ends all that is kept against the member or by it.
abbrev pub LeavingNoteEnds : Type 0
LeavingNoteEnds = (s : State) (n : NoteBody) → All (IsUpheld s) s.kept → newest (n ∷ s.notes) n.member ≡ Some n → in_view s n.member ≡ true → is_leaving n ≡ true → (after_note s n).report.fell ≡ map (λ p. p.0) (filter (λ p. (n.member == p.0.accused) || (n.member == p.0.accuser)) s.kept)

-- A note of a member that is out of the view and stays out ends nothing.
abbrev pub OutsiderEnds : Type 0
OutsiderEnds = (s : State) (n : NoteBody) → All (IsUpheld s) s.kept → in_view s n.member ≡ false → in_view (after_note s n).state n.member ≡ false → (after_note s n).report.fell ≡ []

-- A tick ends, of what does not expire, what is by or against a member that is no longer in the view.
abbrev pub RemovalEnds : Type 0
RemovalEnds = (timeout : ℕ) (s : State) → All (IsUpheld s) s.kept → (after_tick timeout s).report.fell ≡ map (λ p. p.0) (filter (λ p. not (in_view (after_tick timeout s).state p.0.accused) || not (in_view (after_tick timeout s).state p.0.accuser)) (filter (λ p. not (is_due timeout (s.moment + 1) p)) s.kept))
