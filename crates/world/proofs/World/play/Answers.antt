use Rattle.world_rules.specs.Steps.{step}
use Rattle.world.proofs.StepLemmas.{plays-replies}
use Rattle.world.proofs.World.play.Goals as goal

pub returns-clause-plays : goal.returns-clause-plays
returns-clause-plays c = λ s w before h.
    plays-replies s before c.args.line.now c.do_or_refuse.new.self c.args.out.now.items c.write_line.new.out.items c.do_or_refuse.new.out.items (step s w c.args.line.now) c.do_or_refuse.result c.in_ok-write_line.ensures.ok (c.do_or_refuse.ensures.steps s w before h)
