use Rattle.std.proofs.Common.{[], ◌∷◌, ◌++◌}
use Rattle.world_rules.specs.Steps.{flows}
use Rattle.world_rules.specs.Steps.{begun}
use Rattle.world.proofs.AnswerLemmas.{at-ended}
use Rattle.world.proofs.CourseLemmas.{answers-course}
use Rattle.world.proofs.World.end_and_flow.Goals as goal

pub returns-in-Ok-clause-flows : goal.returns-in-Ok-clause-flows
returns-in-Ok-clause-flows c = λ s w before h.
    let ended = at-ended s w before c.args.self.now c.args.out.now.items c.end_line.new.out.items h c.in-Ok.ensures.ok in
    answers-course s before c.flow.new.self c.args.out.now.items c.flow.new.out.items (flows s c.args.most (begun w)) c.flow.result (c.flow.ensures.flows s before (c.args.out.now.items ++ 10 ∷ []) (begun w) ended)
