use Rattle.std.proofs.Common.{sym, subst}
use Rattle.membership.specs.Life.{Life}
use Rattle.membership.specs.Holds.{Holds}
use Rattle.membership.specs.Ticks.{after_ticks}
use Rattle.membership.proofs.PassLemmas.{held-after, quiet-each, due-next}
use Rattle.membership.proofs.Membership.pass_quiet.Goals as goal

pub returns-clause-step : goal.returns-clause-step
returns-clause-step c = λ s h.
    let l = c.args.self.now in
    subst (λ (k : Life). Holds k (after_ticks l.group.timeout c.pass.result s)) (sym c.pass.ensures.kept) (held-after l s c.pass.result h c.pass.ensures.noted c.pass.ensures.in_order c.pass.ensures.quiet)

pub returns-clause-quiet : goal.returns-clause-quiet
returns-clause-quiet c = λ s h.
    quiet-each c.args.self.now s c.pass.result h c.pass.ensures.noted c.pass.ensures.in_order c.pass.ensures.quiet

pub returns-clause-next : goal.returns-clause-next
returns-clause-next c = λ s h fewer.
    due-next c.args.self.now s c.pass.result h c.pass.ensures.noted c.pass.ensures.in_order c.pass.ensures.quiet (c.pass.ensures.next fewer)
