use Rattle.signer.proofs.PlayLemmas.{none_once}
use Rattle.signer.proofs.key_lives.play.Goals as goal

pub returns : goal.returns
returns c = rw c.new-in-Err.ensures.items (none_once c.args.holder.now)
