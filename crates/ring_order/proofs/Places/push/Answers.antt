use Rattle.ring_order.proofs.RowLemmas.{kept-set}
use Rattle.ring_order.proofs.Places.push.Goals as goal

pub invariant_of-self : goal.invariant_of-self
invariant_of-self c =
    let kept = kept-set c.self.inside.rows c.args.self.now c.self.inside.count c.self.inside.tails c.self.inside.plain c.args.place c.self.invariant c.self.view_is c.self.told.1 c.requires in
    rw (c.is_plain.ensures, c.tail_of.ensures) kept
