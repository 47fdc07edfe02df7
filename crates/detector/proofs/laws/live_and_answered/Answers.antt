use Rattle.detector.proofs.LawLemmas.{live-sent, live-each, judged-kept}
use Rattle.detector.proofs.laws.live_and_answered.Goals as goal

pub returns-clause-live : goal.returns-clause-live
returns-clause-live c = live-sent

pub returns-clause-each : goal.returns-clause-each
returns-clause-each c = live-each

pub returns-clause-answered : goal.returns-clause-answered
returns-clause-answered c = judged-kept
