-- What calls answer.
use Rattle.std.specs.Prelude.{◌≡◌, ◌≤◌, ℕ, Bool, ◌&&◌, not, List, [], ◌∷◌, Option, Some, None, Result, Ok, Err}
use Rattle.ff_ids.specs.declared.AccBody.{AccBody}
use Rattle.ff_ids.specs.declared.NoteBody.{NoteBody}
use Rattle.ff_ids.specs.declared.Fault.{Fault}
use Rattle.std.specs.Option.{option_map}
use Rattle.ff_ids.specs.declared.TheConstants.{MEMBERS}
use Rattle.membership.specs.declared.report.TheConstants.{ACCUSATIONS}
use Rattle.ff_ids.specs.Notes.{is_leaving}
use Rattle.ff_ids.specs.Views.{State, in_view, has_expired}
use Rattle.ff_ids.specs.Steps.{Report, nothing}
use Rattle.removal_timer.specs.Kept.{entry_at}
use Rattle.membership.specs.declared.kept.NoteEffect.{NoteEffect}
use Rattle.membership.specs.declared.kept.NoteEffect.TheVariants.{Enters, Leaves, Stays}

-- The answer is the fault, or Ok where there is none.
abbrev pub Answers : Option Fault → Result (Unit {0}) Fault → Type 0
Answers None answer = answer ≡ Ok tt
Answers (Some fault) answer = answer ≡ Err fault

-- There is room for every report, whatever it is.
pub record HasRoom (expired removed entered fell : ℕ) : Type 0 where
  pub all_expired : ACCUSATIONS ≤ expired
  pub all_removed : ACCUSATIONS ≤ removed
  pub all_entered : MEMBERS ≤ entered
  pub all_fell : ACCUSATIONS ≤ fell

-- The note brings its member into the view: it isn't there, it doesn't leave by the note, and no accusation against it at
-- the note's epoch or a later one has expired.
abbrev pub enters_by : State → NoteBody → Bool
enters_by s n = not (in_view s n.member) && not (is_leaving n) && not (has_expired s.expired n)

-- The note takes its member out of the view: it is there, and leaves by the note.
abbrev pub leaves_by : State → NoteBody → Bool
leaves_by s n = in_view s n.member && is_leaving n

-- These members entered and these were removed, and no others.
pub record Moves (r : Report) (entered removed : List ℕ) : Type 0 where
  pub all_entered : r.entered ≡ entered
  pub all_removed : r.removed ≡ removed

-- What is told of the note's member, by what the note did.
abbrev pub told_of : NoteEffect → ℕ → Report
told_of Enters m = record nothing { entered = m ∷ [] }
told_of Leaves m = record nothing { removed = m ∷ [] }
told_of Stays m = nothing

-- The accusation kept against the member on the ring, if there is one.
abbrev pub kept_against : List (AccBody × ℕ) → ℕ → ℕ → Option AccBody
kept_against kept accused ring = option_map (λ p. p.0) (entry_at accused ring kept)
