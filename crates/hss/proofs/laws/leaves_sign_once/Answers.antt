use Rattle.hss.proofs.Pairs.{leaves-differ, top-signs-one-key}
use Rattle.hss.proofs.laws.leaves_sign_once.Goals as goal

pub returns-clause-top : goal.returns-clause-top
returns-clause-top c = top-signs-one-key

pub returns-clause-bottom : goal.returns-clause-bottom
returns-clause-bottom c = leaves-differ
