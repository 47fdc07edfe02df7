-- That a node's own accusations are accepted, and which accusations it has made.
use Rattle.std.specs.Prelude.{◌≡◌, ℕ, ◌++◌, true, false, List, [], ◌∷◌, Contains, Some, None}
use Rattle.ff_ids.specs.declared.AccBody.{AccBody}
use Rattle.ff_ids.specs.declared.NoteBody.{NoteBody}
use Rattle.ff_ids.specs.Masks.{enables}
use Rattle.ff_ids.specs.Notes.{newest}
use Rattle.ff_ids.specs.Views.{State, monitor}
use Rattle.ff_ids.specs.Faults.{accusation_fault}
use Rattle.records.specs.declared.Body.TheVariants.{Accusation}
use Rattle.node_rules.specs.Nodes.{Setting, Node, state_of}
use Rattle.node_rules.specs.Calls.{Call, is_used_up}
use Rattle.node_rules.specs.Ticking.{ring_for, accusation_on, has_accused, accuses_all, passed, spread_at, silent_at}
use Rattle.node_rules.specs.Lives.{Input, Ticks, call_of}
use Rattle.journal.specs.declared.event.What.TheVariants as told

-- An accusation by the node against the member is kept.
pub record KeepsOwnAgainst (s : Setting) (st : State) (m : ℕ) : Type 0 where
  pub pair : AccBody × ℕ
  pub kept : Contains st.kept pair
  pub by_the_node : pair.0.accuser ≡ s.me
  pub against : pair.0.accused ≡ m

-- In every life the node has accused a member exactly where an accusation by it against the member is kept.
abbrev pub HasAccusedIsKept : Type 0
HasAccusedIsKept = (s : Setting) (n : Node) (m : ℕ)
    → (has_accused s (state_of s n) m ≡ true → KeepsOwnAgainst s (state_of s n) m)
    × (KeepsOwnAgainst s (state_of s n) m → has_accused s (state_of s n) m ≡ true)

-- There is a ring for the accusation of the member, and the accusation on it has no fault.
pub record MayAccuse (s : Setting) (st : State) (m : ℕ) : Type 0 where
  pub ring : ℕ
  pub found : ring_for s st m ≡ Some ring
  pub accusation : AccBody
  pub says : accusation_on s st m ring ≡ Accusation accusation
  pub no_fault : accusation_fault s.group.t st accusation ≡ None

-- At each member that is silent at a tick, after the accusations of those before it: unless an accusation by the node
-- against it is kept already, the one that the node wants has no fault, and where an index is left it is kept then.
abbrev pub OwnAccusationsAreAccepted : Type 0
OwnAccusationsAreAccepted = (s : Setting) (n : Node) (before : List ℕ) (m : ℕ) (behind : List ℕ) → silent_at s n ≡ before ++ m ∷ behind
    → has_accused s (state_of s (accuses_all s before (spread_at s n)).node) m ≡ false
    → MayAccuse s (state_of s (accuses_all s before (spread_at s n)).node) m
    × (is_used_up s (accuses_all s before (spread_at s n)).node ≡ false → KeepsOwnAgainst s (state_of s (accuses_all s (before ++ m ∷ []) (spread_at s n)).node) m)

-- The member was silent at this tick, and the node was its monitor on the ring, in its own view, by its newest note.
pub record AccusesTheSilent (s : Setting) (n : Node) (a : AccBody) : Type 0 where
  pub silent : Contains (silent_at s n) a.accused
  pub by_the_node : a.accuser ≡ s.me
  pub note : NoteBody
  pub is_newest : newest (state_of s (passed s n).node).notes a.accused ≡ Some note
  pub epoch : note.epoch ≡ a.epoch
  pub enabled : enables note.mask.0 a.ring.0 ≡ true
  pub monitors : monitor (state_of s (passed s n).node) a.ring.0 a.accused ≡ Some s.me
  pub no_fault : accusation_fault s.group.t (state_of s (passed s n).node) a ≡ None

-- The call reports that an index was spent on the accusation.
abbrev pub TellsAccusation : Call → AccBody → Type 0
TellsAccusation c a = (moment : ℕ) × (index : ℕ) × Contains c.told (record { moment = moment; what = told.Spent index (Accusation a) })

-- A node signs no accusation but at a tick, and none but of a member that is silent at it.
abbrev pub OnlyTheSilentAreAccused : Type 0
OnlyTheSilentAreAccused = (s : Setting) (n : Node) (i : Input) (a : AccBody) → TellsAccusation (call_of s n i) a → (i ≡ Ticks) × AccusesTheSilent s n a
