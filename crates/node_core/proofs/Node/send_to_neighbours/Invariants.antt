use Rattle.std.proofs.Common.{◌≡◌}
use Rattle.node_rules.specs.Nodes.{Setting}
use Rattle.node_rules.specs.Calls.{Call, sends_to_all}
use Rattle.datagram.specs.declared.Datagram.{Datagram}
use Rattle.datagram.specs.Spelling.{datagram_bytes}
use Rattle.std.proofs.Common.{ℕ, List}
use Rattle.journal.specs.declared.event.Event as journal
use Rattle.node_core.specs.Playing.{Plays, Grows}
use Rattle.node_core.specs.Spending.{SignsNothing}
use Rattle.node_core.proofs.PlayLemmas.{wanted_of}
use Rattle.node_core.proofs.Node.send_to_neighbours.Given as goal

abbrev pub invariant-loop-number : goal.invariant-loop-number
invariant-loop-number l =
    ((s : Setting) (es : List journal.Event) (os : List (ℕ × List ℕ)) (c : Call) (d : Datagram) → Plays s es os l.initial.self c → l.fn.bytes ≡ datagram_bytes d → Plays s es os l.self (sends_to_all s (wanted_of l.listed.items l.number) d c)) × Grows l.initial.self l.self × SignsNothing l.initial.self l.self
