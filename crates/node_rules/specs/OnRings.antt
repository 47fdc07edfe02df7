-- Which ring an accusation is on, and who a node's neighbours are, by the rings themselves.
use Rattle.std.specs.Prelude.{◌≡◌, ℕ, ◌+◌, ◌<◌, ◌≤◌, true, List, [], ◌∷◌, Contains, Some, None, ◌⊎◌}
use Rattle.ff_ids.specs.declared.TheConstants.{MEMBERS}
use Rattle.ff_ids.specs.declared.NoteBody.{NoteBody}
use Rattle.ff_ids.specs.Masks.{ring_count, enables}
use Rattle.ff_ids.specs.Notes.{newest}
use Rattle.ff_ids.specs.Views.{State, monitor, successor}
use Rattle.node_rules.specs.Nodes.{Setting, neighbours, neighbours_and}
use Rattle.node_rules.specs.Ticking.{ring_for}

-- ---- the ring of an accusation

-- The group has the ring, the note enables it, and the node is the member's monitor on it.
pub record Monitors (s : Setting) (st : State) (m : ℕ) (note : NoteBody) (ring : ℕ) : Type 0 where
  pub of_group : ring < ring_count s.group.t
  pub enabled : enables note.mask.0 ring ≡ true
  pub monitors : monitor st ring m ≡ Some s.me

-- It is so by the member's newest note, and on no lower ring.
pub record MonitorsFirst (s : Setting) (st : State) (m ring : ℕ) : Type 0 where
  pub note : NoteBody
  pub is_newest : newest st.notes m ≡ Some note
  pub here : Monitors s st m note ring
  pub first : (lower : ℕ) → lower < ring → ¬ (Monitors s st m note lower)

-- A member is accused on the lowest ring of those that its newest note enables and on which the node is its monitor,
-- and there is none exactly where there is no such ring.
abbrev pub RingForIsLowest : Type 0
RingForIsLowest = (s : Setting) (st : State) (m : ℕ)
    → ((ring : ℕ) → ring_for s st m ≡ Some ring → MonitorsFirst s st m ring)
    × (ring_for s st m ≡ None → (note : NoteBody) (ring : ℕ) → newest st.notes m ≡ Some note → ¬ (Monitors s st m note ring))

-- ---- neighbours

-- Each is above the one before it, and none is below this number.
abbrev pub Rises : ℕ → List ℕ → Type 0
Rises low [] = Unit {0}
Rises low (m ∷ members) = (low ≤ m) × Rises (m + 1) members

-- The member is the node's successor on a ring of the group.
pub record Succeeds (s : Setting) (st : State) (m : ℕ) : Type 0 where
  pub ring : ℕ
  pub of_group : ring < ring_count s.group.t
  pub follows : successor st ring s.me ≡ Some m

-- A node's neighbours are its successors on the rings of the group, each once, in order of number.
abbrev pub NeighboursAreSuccessors : Type 0
NeighboursAreSuccessors = (s : Setting) (st : State)
    → Rises 0 (neighbours s st) × ((m : ℕ) → Contains (neighbours s st) m → Succeeds s st m) × ((m : ℕ) → Succeeds s st m → Contains (neighbours s st) m)

-- An accusation of a member goes to these and to the member.
abbrev pub AccusedAreAddressed : Type 0
AccusedAreAddressed = (s : Setting) (st : State) (m : ℕ)
    → Rises 0 (neighbours_and s m st)
    × ((to : ℕ) → Contains (neighbours_and s m st) to → (to ≡ m) ⊎ Succeeds s st to)
    × (m < MEMBERS → Contains (neighbours_and s m st) m)
    × ((to : ℕ) → Succeeds s st to → Contains (neighbours_and s m st) to)
