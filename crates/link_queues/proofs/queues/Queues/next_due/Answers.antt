use Rattle.std.proofs.Common.{◌+◌, ◌%◌, ℕ, sym, ap, ◌∙◌}
use Rattle.link_queues.specs.Queues.{is_due}
use Rattle.link_queues.proofs.TurnLemmas.{due-later}
use Rattle.link_queues.proofs.queues.Queues.next_due.Goals as goal

pub loop-step-preserved : goal.loop-step-preserved
loop-step-preserved c =
    let s = c.args.self.now in
    let count : ℕ = c.len-count.result + 1 in
    let step : ℕ = c.loop-step.step in
    let here = ap (λ k. is_due c.args.now s ((k + 1 + step) % count)) (sym (ap (λ q. q.last) c.self.view_is)) in
    let there = ap (λ k. is_due c.args.now s k) (sym c.wrapped-place.ensures) in
    c.loop-step.invariant ∙ due-later c.args.now s count step c.loop-step-test.true (here ∙ there ∙ sym c.is_due.ensures ∙ c.if-is_due.false)
