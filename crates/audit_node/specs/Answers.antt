-- What a call of a mirror gives.
use Rattle.std.specs.Prelude.{◌≡◌, false, List, ◌++◌, ℕ}
use Rattle.journal.specs.declared.event.Event as journal
use Rattle.node_rules.specs.Nodes.{Setting, Node}
use Rattle.node_rules.specs.Calls.{Call}
use Rattle.node_rules.specs.OtherNonces.{drawn, ticked_sending, HaveSameMembers}
use Rattle.audit_node.specs.declared.owing.OwedEvent.{OwedEvent}
use Rattle.audit_node.specs.Owing.{told_by}
use Rattle.audit_node.specs.Sendable.{AreFair}
use Rattle.audit_node.specs.Playing.{Kept, IsMirror, IsAt}

-- The mirror stands where the call does, and what the node must have reported in it was added: with the nonces that were drawn, where
-- they are the node's.
pub record Owes (s : Setting) (v : Kept) (old new : List OwedEvent) (c : Call) : Type 0 where
  pub is : IsMirror s v c.node
  pub added : List OwedEvent
  pub grew : new ≡ old ++ added
  pub owes : told_by s added ≡ c.told
  pub fair : AreFair s added

-- It is where the tick is with these pings, which go to those that the node would ping.
pub record HasPassed (s : Setting) (es : List journal.Event) (v : Kept) (n : Node) : Type 0 where
  pub sent : List (ℕ × ℕ)
  pub to : HaveSameMembers (drawn s n) sent
  pub at : IsAt s es v (ticked_sending s n sent)

-- So it is, unless memory was refused.
pub record Passes (s : Setting) (es : List journal.Event) (v : Kept) (n : Node) : Type 0 where
  pub at : v.telling.failed ≡ false → HasPassed s es v n
