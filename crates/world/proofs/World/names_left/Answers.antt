use Rattle.std.proofs.Common.{ap, ◌∙◌}
use Rattle.world_rules.specs.Refusals.{has_left, holds_of}
use Rattle.world.proofs.World.names_left.Goals as goal

pub returns-in-Some : goal.returns-in-Some
returns-in-Some c = λ s w told h. c.has_left.ensures s w told h ∙ ap (holds_of (has_left s w)) c.in-Some.ensures
