use Rattle.node_rules.proofs.Told.{calls-sendings, calls-tell, moments-fit, starts-tell}
use Rattle.node_rules.proofs.calls_tell_now.Goals as goal

pub returns-clause-calls : goal.returns-clause-calls
returns-clause-calls c = calls-tell

pub returns-clause-fit : goal.returns-clause-fit
returns-clause-fit c = moments-fit

pub returns-clause-numbered : goal.returns-clause-numbered
returns-clause-numbered c = calls-sendings

pub returns-clause-starts : goal.returns-clause-starts
returns-clause-starts c = starts-tell
