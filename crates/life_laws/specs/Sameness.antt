-- Sameness: what two states, and two lives, have in common that hold the same records.
use Rattle.std.specs.Prelude.{◌≡◌, ◌↔◌, ℕ, List, Contains}
use Rattle.ff_ids.specs.declared.NoteBody.{NoteBody}
use Rattle.ff_ids.specs.declared.AccBody.{AccBody}
use Rattle.ff_ids.specs.declared.Group.{Group}
use Rattle.ff_ids.specs.Views.{Member, State, view}
use Rattle.ff_ids.specs.Steps.{Event}
use Rattle.ff_ids.specs.Lives.{after, opening, IsNoteAcceptedAt}
use Rattle.life_laws.specs.Removals.{ExpiresAt}

-- Each element of either list is in the other, whatever their order and repeats.
pub record HasSameElements {X : Type 0} (xs ys : List X) : Type 0 where
  pub onward : (x : X) → Contains xs x → Contains ys x
  pub back : (x : X) → Contains ys x → Contains xs x

-- Two states with the same notes and the same expired accusations have the same view.
abbrev pub OneView : Type 0
OneView = (a b : State) → HasSameElements a.notes b.notes → HasSameElements a.expired b.expired → view a ≡ view b

-- ---- of lives

-- The life accepts the note at some place.
abbrev pub Accepts : Group → State → List Event → NoteBody → Type 0
Accepts g s events n = (i : ℕ) × IsNoteAcceptedAt g s events i n

-- The life reports at some place that the accusation expired.
abbrev pub Expires : Group → State → List Event → AccBody → Type 0
Expires g s events a = (j : ℕ) × ExpiresAt g s events j a

-- The two lives accept the same notes, and the same accusations expire in them, whatever their order and repeats.
pub record HaveSameRecords (g : Group) (one other : State) (events others : List Event) : Type 0 where
  pub notes : (n : NoteBody) → Accepts g one events n ↔ Accepts g other others n
  pub expired : (a : AccBody) → Expires g one events a ↔ Expires g other others a

-- Two lives of a group with the same records have the same view.
abbrev pub OneViewOfLives : Type 0
OneViewOfLives = (g : Group) (members more : List Member) (events others : List Event)
    → HaveSameRecords g (opening members) (opening more) events others
    → view (after g (opening members) events) ≡ view (after g (opening more) others)
