use Rattle.std.proofs.Common.{ap, ◌∙◌}
use Rattle.world_rules.specs.Refusals.{holds_of}
use Rattle.world_rules.specs.Worlds.{is_running}
use Rattle.world.proofs.World.starts_running.Goals as goal

pub returns-in-Some : goal.returns-in-Some
returns-in-Some c = λ s w told h. c.is_running.ensures s w told h ∙ ap (holds_of (is_running w)) c.in-Some.ensures
