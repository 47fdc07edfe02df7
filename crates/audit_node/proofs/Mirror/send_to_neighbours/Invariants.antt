use Rattle.std.proofs.Common.{◌≡◌}
use Rattle.node_rules.specs.Nodes.{Setting}
use Rattle.node_rules.specs.Calls.{Call, sends_to_all}
use Rattle.records.specs.declared.Record.{Record}
use Rattle.datagram.specs.declared.Datagram.TheVariants as kinds
use Rattle.audit_node.specs.Owing.{item_of}
use Rattle.audit_node.specs.Sendable.{AreSendable}
use Rattle.std.proofs.Common.{List, map}
use Rattle.journal.specs.declared.event.Event as journal
use Rattle.audit_node.specs.Playing.{Plays, Grows}
use Rattle.audit_node.proofs.PlayLemmas.{wanted_of}
use Rattle.audit_node.proofs.Mirror.send_to_neighbours.Given as goal

abbrev pub invariant-loop-number : goal.invariant-loop-number
invariant-loop-number l =
    ((s : Setting) (es : List journal.Event) (c : Call) (rs : List Record) → Plays s es l.initial.self c → map (item_of s) l.fn.items ≡ rs → AreSendable s l.fn.items → Plays s es l.self (sends_to_all s (wanted_of l.listed.items l.number) (kinds.Records s.me rs) c)) × Grows l.initial.self l.self
