use Rattle.node_loop.proofs.GatherLemmas.{but-none, owes-none}
use Rattle.std.proofs.Common.{[]}
use Rattle.node_loop.proofs.telling.tell_all.Goals as goal

pub returns-clause-tells : goal.returns-clause-tells
returns-clause-tells g c = λ before moments r at. c.tell_each.ensures.tells before moments r (but-none before _ c.new-lines.result.items r c.new-lines.ensures.items at)

pub returns-clause-spent : goal.returns-clause-spent
returns-clause-spent g c =
    let taken = (g.O.Sink.state c.args.out.now).taken in
    let count = (g.L.Link.state c.args.link.now).faults in
    c.tell_each.ensures.spent [] taken count (owes-none taken c.new-lines.result.items count c.new-lines.ensures.items)
