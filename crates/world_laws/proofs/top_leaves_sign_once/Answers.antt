use Rattle.world_laws.proofs.Keyed.{top-leaves-sign-once}
use Rattle.world_laws.proofs.top_leaves_sign_once.Goals as goal

pub returns : goal.returns
returns c = top-leaves-sign-once
