use Rattle.std.proofs.Common.{◌≡◌, All}
use Rattle.records.specs.Spelling.{HasPort}
use Rattle.node_core.specs.Handled.{Handled}
use Rattle.node_core.proofs.Node.handle_all.Given as goal

abbrev pub invariant-loop-rec : goal.invariant-loop-rec
invariant-loop-rec g l =
    Handled l.initial.self l.self (g.D.Disk.state l.initial.disk).moments (g.D.Disk.state l.disk).moments (g.D.Disk.state l.initial.disk).model (g.D.Disk.state l.disk).model l.fn.records.items l.rec-iterator.rest.items × ((g.D.Disk.state l.disk).faults ≡ (g.D.Disk.state l.initial.disk).faults) × All (λ r. HasPort r.body) l.rec-iterator.rest.items
