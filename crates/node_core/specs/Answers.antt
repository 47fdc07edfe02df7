-- What a call of a node gives, by its answer.
use Rattle.std.specs.Prelude.{◌≡◌, ℕ, List, ◌++◌, Result, Ok, Err}
use Rattle.journal.specs.declared.event.Event as journal
use Rattle.node_rules.specs.Nodes.{Setting, Node}
use Rattle.node_rules.specs.Calls.{Call}
use Rattle.node_rules.specs.OnDisks.{Input, IsCut}
use Rattle.node_rules.specs.Lives.{call_of}
use Rattle.node_core.specs.declared.NodeFault.{NodeFault}
use Rattle.node_core.specs.declared.NodeFault.TheVariants as faults
use Rattle.node_core.specs.Told.{IsPrefix}
use Rattle.node_core.specs.Playing.{Kept, IsNode}

-- What a caller lends: the events and the datagrams, before and after the call.
pub record CallerBuffers : Type 0 where
  pub events : List journal.Event
  pub sent : List (ℕ × List ℕ)

-- The node stands where the call does, and what the call reported and sent was added.
pub record Gives (s : Setting) (v : Kept) (old new : CallerBuffers) (c : Call) : Type 0 where
  pub is : IsNode s v c.node
  pub told : new.events ≡ old.events ++ c.told
  pub sent : new.sent ≡ old.sent ++ c.sent

-- The call ended in a put that failed: what came before that was added, and nothing else.
pub record StopsIn (s : Setting) (n : Node) (i : Input) (v : Kept) (old new : CallerBuffers) : Type 0 where
  pub call : Call
  pub cut : IsCut s n i call
  pub gives : Gives s v old new call

-- A front of what the call reports and sends was added.
pub record GivesFront (old new : CallerBuffers) (c : Call) : Type 0 where
  pub events : List journal.Event
  pub sent : List (ℕ × List ℕ)
  pub events_added : new.events ≡ old.events ++ events
  pub sent_added : new.sent ≡ old.sent ++ sent
  pub events_front : IsPrefix events c.told
  pub sent_front : IsPrefix sent c.sent

-- What was there is a front of what is.
pub record Stands (old new : CallerBuffers) : Type 0 where
  pub events : IsPrefix old.events new.events
  pub sent : IsPrefix old.sent new.sent

-- A call is the definition's, up to a failing put; where memory was refused, a front of what it reports and sends was added.
abbrev pub GivesCall : Setting → Node → Input → Kept → CallerBuffers → CallerBuffers → Result (Unit {0}) NodeFault → Type 0
GivesCall s n i v old new (Ok done) = Gives s v old new (call_of s n i)
GivesCall s n i v old new (Err faults.StoreFault) = StopsIn s n i v old new
GivesCall s n i v old new (Err faults.OutOfMemory) = GivesFront old new (call_of s n i)
GivesCall s n i v old new (Err (faults.Exhausted next)) = ⊥
GivesCall s n i v old new (Err faults.Ended) = ⊥

-- What may stop a call of a node that runs.
abbrev pub MayStop : NodeFault → Type 0
MayStop faults.StoreFault = Unit {0}
MayStop faults.OutOfMemory = Unit {0}
MayStop (faults.Exhausted next) = ⊥
MayStop faults.Ended = ⊥

-- Whether the node is over.
abbrev pub IsEnded : Result (Unit {0}) NodeFault → Type 0
IsEnded (Ok done) = ⊥
IsEnded (Err faults.StoreFault) = ⊥
IsEnded (Err faults.OutOfMemory) = ⊥
IsEnded (Err (faults.Exhausted next)) = ⊥
IsEnded (Err faults.Ended) = Unit {0}
