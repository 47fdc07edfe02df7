use Rattle.std.proofs.Common.{◌-◌, arith}
use Rattle.node_loop.proofs.ClockLemmas.{due-after, kept-few}
use Rattle.node_loop.proofs.ticks_follow_the_clock.Goals as goal

pub returns : goal.returns
returns c = λ pace base o.
    let few = kept-few pace.most (due-after pace base o - o.made) in
    (λ within. omega (arith, few, within), λ fewer. omega (arith, few, fewer))
