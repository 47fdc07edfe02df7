-- Which own records the journal of a life shows.
use Rattle.std.specs.Prelude.{ℕ, List, Contains}
use Rattle.records.specs.declared.Body.{Body}
use Rattle.journal.specs.declared.event.What.TheVariants as told
use Rattle.node_rules.specs.Nodes.{Setting}
use Rattle.node_rules.specs.GoingOut.{own_datagram}
use Rattle.turn_rules.specs.Lines.{JournalLine, OfEvent}

-- One of the lines gives that the node's own record of this body, signed with this index, is sent to this member, alone in a
-- datagram.
pub record ShowOwn (s : Setting) (lines : List JournalLine) (to index : ℕ) (body : Body) : Type 0 where
  pub moment : ℕ
  pub number : ℕ
  pub shown : Contains lines (OfEvent
      (record { moment = moment; what = told.Sent number to (own_datagram s index body) }))
