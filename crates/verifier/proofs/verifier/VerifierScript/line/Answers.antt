use Rattle.std.proofs.Common.{Err, refl}
use Rattle.verifier.proofs.LineLemmas.{line-untaken}
use Rattle.verifier.proofs.verifier.VerifierScript.line.Goals as goal

pub returns-in-Err-clause-line : goal.returns-in-Err-clause-line
returns-in-Err-clause-line c = rw c.refusal.ensures (line-untaken c.args.self.now.reader c.args.self.now.asked c.args.bytes.now c.in-Err.fault (Err c.in-Err.fault) c.in-Err.ensures.answer refl)
