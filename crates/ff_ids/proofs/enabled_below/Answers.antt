use Rattle.std.proofs.Common.{sym}
use Rattle.ff_ids.proofs.MaskLemmas.{length-ones}
use Rattle.ff_ids.proofs.enabled_below.Goals as goal

pub returns : goal.returns
returns c = sym (length-ones c.args._rings c.args.mask.0 c.requires)
