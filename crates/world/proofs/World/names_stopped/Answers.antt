use Rattle.std.proofs.Common.{not, ap, ◌∙◌}
use Rattle.world_rules.specs.Refusals.{holds_of}
use Rattle.world_rules.specs.Worlds.{is_running}
use Rattle.world.proofs.World.names_stopped.Goals as goal

pub returns-in-Some : goal.returns-in-Some
returns-in-Some c = λ s w told h. ap not (c.is_running.ensures s w told h) ∙ ap (holds_of (λ m. not (is_running w m))) c.in-Some.ensures
