use Rattle.std.proofs.Common.{◌≡◌}
use Rattle.node_core.specs.Ticks.{Accused}
use Rattle.node_core.proofs.Node.accuse_all.Given as goal

abbrev pub invariant-loop-member : goal.invariant-loop-member
invariant-loop-member g l = Accused l.initial.self l.self (g.D.Disk.state l.initial.disk).moments (g.D.Disk.state l.disk).moments (g.D.Disk.state l.initial.disk).model (g.D.Disk.state l.disk).model l.fn.silent.items l.member-iterator.rest.items × ((g.D.Disk.state l.disk).faults ≡ (g.D.Disk.state l.initial.disk).faults)
