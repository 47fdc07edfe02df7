use Rattle.lms_ots.proofs.Opening as opening
use Rattle.lms_ots.proofs.signatures_open.Goals as goal

pub returns : goal.returns
returns c = opening.signatures_open c.args.kind
