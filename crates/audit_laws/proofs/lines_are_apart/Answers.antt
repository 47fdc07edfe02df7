use Rattle.audit_laws.proofs.ApartLemmas.{ends-apart, losses-apart, sendings-apart, sendings-told, turns-apart, turns-no_ends}
use Rattle.audit_laws.proofs.lines_are_apart.Goals as goal

pub returns : goal.returns
returns c = record { sendings = sendings-apart; told = sendings-told; losses = losses-apart; turns = turns-apart; ends = ends-apart; no_ends = turns-no_ends }
