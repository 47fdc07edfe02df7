use Rattle.std.proofs.Common.{ℕ, Option, ap, sym, ◌∙◌}
use Rattle.world_rules.specs.Steps.{epoch_meant}
use Rattle.world.proofs.World.epoch_meant.Goals as goal

pub returns-in-None : goal.returns-in-None
returns-in-None c = λ s w told h. c.newest_signed.ensures s w told h ∙ ap (λ (said : Option ℕ). epoch_meant w c.args.accused said) (sym c.in-None.is)
