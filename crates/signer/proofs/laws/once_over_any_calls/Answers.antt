use Rattle.signer.proofs.LivesLemmas.{spent_once}
use Rattle.signer.proofs.LivingLemmas.{nothing_spent, kept_behind_move, kept_by_opening, kept_by_move, kept_by_crash}
use Rattle.signer.proofs.laws.once_over_any_calls.Goals as goal

pub returns-clause-begins : goal.returns-clause-begins
returns-clause-begins c = nothing_spent

pub returns-clause-opening : goal.returns-clause-opening
returns-clause-opening c = kept_by_opening

pub returns-clause-moving : goal.returns-clause-moving
returns-clause-moving c = kept_by_move

pub returns-clause-crash : goal.returns-clause-crash
returns-clause-crash c = kept_by_crash

pub returns-clause-behind : goal.returns-clause-behind
returns-clause-behind c = kept_behind_move

pub returns-clause-once : goal.returns-clause-once
returns-clause-once c = spent_once
