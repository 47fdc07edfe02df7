use Rattle.std.proofs.Common.{[], get_or}
use Rattle.ring_order.proofs.RowLemmas.{plain_row, hint_there}
use Rattle.ring_order.proofs.Places.hint.Goals as goal

pub returns-then-self : goal.returns-then-self
returns-then-self c =
    let r = c.args.ring.0 in
    let a = c.self.inside in
    hint_there (get_or c.args.self.now r []) (get_or a.tails r 0) (plain_row a.rows c.args.self.now a.count a.tails a.plain r c.self.invariant c.if-self.true c.self.view_is c.requires)
