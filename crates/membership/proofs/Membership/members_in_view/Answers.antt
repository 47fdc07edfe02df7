use Rattle.std.proofs.Common.{arith}
use Rattle.std.proofs.lemmas.Grind.{common_steps}
use Rattle.membership.proofs.Membership.members_in_view.Goals as goal

pub returns : goal.returns
returns c = λ s holds. let seen = c.view.ensures s holds in grind (arith, common_steps)
