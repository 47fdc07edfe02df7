use Rattle.signer.proofs.LivesLemmas.{once}
use Rattle.signer.proofs.laws.once_over_lives.Goals as goal

pub returns : goal.returns
returns c = once
