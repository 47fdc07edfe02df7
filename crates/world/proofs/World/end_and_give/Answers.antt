use Rattle.std.proofs.Common.{[], ◌∷◌, ◌++◌}
use Rattle.world_rules.specs.Steps.{gives_each}
use Rattle.world_rules.specs.Steps.{begun}
use Rattle.world_rules.specs.Worlds.{named_so, running}
use Rattle.world.proofs.AnswerLemmas.{at-ended}
use Rattle.world.proofs.CourseLemmas.{answers-course}
use Rattle.world.proofs.World.end_and_give.Goals as goal

pub returns-in-Ok-clause-gives : goal.returns-in-Ok-clause-gives
returns-in-Ok-clause-gives c = λ s w before h.
    let ended = at-ended s w before c.args.self.now c.args.out.now.items c.end_line.new.out.items h c.in-Ok.ensures.ok in
    answers-course s before c.give_all.new.self c.args.out.now.items c.give_all.new.out.items (gives_each s (running s w) (named_so w c.args.name.now) (begun w)) c.give_all.result (c.give_all.ensures.gives s before (c.args.out.now.items ++ 10 ∷ []) (begun w) ended)
