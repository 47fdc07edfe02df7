use Rattle.world_laws.proofs.Answered.{answers-hold, expiries-lived}
use Rattle.world_laws.proofs.answers_hold.Goals as goal

pub returns-clause-lived : goal.returns-clause-lived
returns-clause-lived c = answers-hold

pub returns-clause-told : goal.returns-clause-told
returns-clause-told c = expiries-lived
