use Rattle.std.proofs.Common.{◌≡◌, ℕ, suc, ◌+◌, ◌-◌, Bool, ap, ◌∙◌, subst, arith}
use Rattle.std.specs.Prelude.{Ok}
use Rattle.std.specs.List.{slice_get}
use Rattle.world_rules.specs.Steps.{flows}
use Rattle.world.specs.Courses.{FlowsOne}
use Rattle.world.proofs.LoopLemmas.{flow-fault, flow-more, flow-none, sofar-ends}
use Rattle.world.proofs.World.flow.Goals as goal

pub returns-in-Ok-false-clause-flows : goal.returns-in-Ok-false-clause-flows
returns-in-Ok-false-clause-flows c = λ s before base k at.
    let i : ℕ = c.loop-turn._turn in
    let so = c.loop-turn.invariant.1 s before base k at in
    let more : c.args.most - i ≡ suc (c.args.most - (i + 1)) = omega (arith, c.loop-turn-test.true) in
    flow-none s before base c.loop-turn.self c.flow_next.new.self c.loop-turn.out.items c.flow_next.new.out.items (flows s c.args.most k) (c.args.most - i) (c.args.most - (i + 1)) more so
    (subst (λ (z : Bool). FlowsOne s before base c.flow_next.new.self c.flow_next.new.out.items so.course (slice_get so.course.world.sent so.course.world.flowed) (Ok z)) c.in-Ok-false.field-0-test (c.in-Ok-false.ensures.flows s before base so.course so.at))

pub returns-in-Err-clause-flows : goal.returns-in-Err-clause-flows
returns-in-Err-clause-flows c = λ s before base k at.
    let i : ℕ = c.loop-turn._turn in
    let so = c.loop-turn.invariant.1 s before base k at in
    let more : c.args.most - i ≡ suc (c.args.most - (i + 1)) = omega (arith, c.loop-turn-test.true) in
    flow-fault s before base c.loop-turn.self c.flow_next.new.self c.loop-turn.out.items c.flow_next.new.out.items (flows s c.args.most k) (c.args.most - i) (c.args.most - (i + 1)) c.in-Err.fault more so (c.in-Err.ensures.flows s before base so.course so.at)

pub loop-turn-preserved : goal.loop-turn-preserved
loop-turn-preserved c = (
  c.in-Ok-true.ensures.numbers ∙ c.loop-turn.invariant.0,
  λ s before base k at.
      let i : ℕ = c.loop-turn._turn in
      let so = c.loop-turn.invariant.1 s before base k at in
      let more : c.args.most - i ≡ suc (c.args.most - (i + 1)) = omega (arith, c.loop-turn-test.true) in
      flow-more s before base c.loop-turn.self c.flow_next.new.self c.loop-turn.out.items c.flow_next.new.out.items (flows s c.args.most k) (c.args.most - i) (c.args.most - (i + 1)) more so
      (subst (λ (z : Bool). FlowsOne s before base c.flow_next.new.self c.flow_next.new.out.items so.course (slice_get so.course.world.sent so.course.world.flowed) (Ok z)) c.in-Ok-true.field-0-test (c.in-Ok-true.ensures.flows s before base so.course so.at)),
)

pub returns-clause-flows : goal.returns-clause-flows
returns-clause-flows c = λ s before base k at.
    let none : c.args.most - c.loop-turn._turn ≡ 0 = omega (arith, c.loop-turn-test.false) in
    sofar-ends s before base c.loop-turn.self c.loop-turn.out.items (flows s c.args.most k) (flows s (c.args.most - c.loop-turn._turn)) (λ e. ap (λ (n : ℕ). flows s n e) none) (c.loop-turn.invariant.1 s before base k at)
