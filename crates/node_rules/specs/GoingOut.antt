-- That the accusations go out that a node signs.
use Rattle.std.specs.Prelude.{ℕ, List, [], ◌∷◌, Contains}
use Rattle.ff_ids.specs.declared.AccBody.{AccBody}
use Rattle.records.specs.declared.Body.{Body}
use Rattle.records.specs.declared.Body.TheVariants.{Accusation}
use Rattle.datagram.specs.declared.Datagram.TheVariants as kinds
use Rattle.datagram.specs.Spelling.{datagram_bytes}
use Rattle.journal.specs.declared.event.What.TheVariants as told
use Rattle.node_rules.specs.Nodes.{Setting, Node}
use Rattle.node_rules.specs.Calls.{Call}
use Rattle.node_rules.specs.Lives.{Input, call_of}

-- The node's own record of this body, signed with this index, alone in a datagram.
abbrev pub own_datagram : Setting → ℕ → Body → List ℕ
own_datagram s index body =
    datagram_bytes (kinds.Records s.me (record { body = body; signature = s.signature index body } ∷ []))

-- The call reports that it sends that datagram to this member.
pub record SendsOwn (s : Setting) (c : Call) (to index : ℕ) (body : Body) : Type 0 where
  pub moment : ℕ
  pub place : ℕ
  pub reported : Contains c.told
      (record { moment = moment; what = told.Sent place to (own_datagram s index body) })

-- Each accusation on which a call spends an index goes to the accused in that very call, with the signature of that index.
abbrev pub OwnAccusationsGoOut : Type 0
OwnAccusationsGoOut = (s : Setting) (n : Node) (i : Input) (moment index : ℕ) (a : AccBody)
    → Contains (call_of s n i).told (record { moment = moment; what = told.Spent index (Accusation a) })
    → SendsOwn s (call_of s n i) a.accused index (Accusation a)
