use Rattle.std.proofs.Common.{List, take}
use Rattle.journal.specs.declared.event.Event as journal
use Rattle.node_rules.specs.Nodes.{Setting}
use Rattle.node_rules.specs.Calls.{Call}
use Rattle.node_rules.specs.Ticking.{pings_all}
use Rattle.audit_node.specs.Playing.{Plays, Grows}
use Rattle.audit_node.proofs.Mirror.ping_all.Given as goal

abbrev pub invariant-loop-ping : goal.invariant-loop-ping
invariant-loop-ping l =
    ((s : Setting) (es : List journal.Event) (c : Call) → Plays s es l.initial.self c → Plays s es l.self (pings_all s (take l.ping-index l.pings) c)) × Grows l.initial.self l.self
