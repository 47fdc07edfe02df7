use Rattle.world_laws.proofs.Flowing.{only-sent}
use Rattle.world_laws.proofs.only_sent_is_handed_over.Goals as goal

pub returns : goal.returns
returns c = only-sent
