use Rattle.std.proofs.Common.{ℕ, List, take}
use Rattle.journal.specs.declared.event.Event as journal
use Rattle.node_rules.specs.Nodes.{Setting}
use Rattle.node_rules.specs.Calls.{Call}
use Rattle.node_rules.specs.Ticking.{pings_all}
use Rattle.node_core.specs.Playing.{Plays, Grows}
use Rattle.node_core.specs.Spending.{SignsNothing}
use Rattle.node_core.proofs.Node.ping_all.Given as goal

abbrev pub invariant-loop-ping : goal.invariant-loop-ping
invariant-loop-ping l =
    ((s : Setting) (es : List journal.Event) (os : List (ℕ × List ℕ)) (c : Call) → Plays s es os l.initial.self c → Plays s es os l.self (pings_all s (take l.ping-index l.pings) c)) × Grows l.initial.self l.self × SignsNothing l.initial.self l.self
