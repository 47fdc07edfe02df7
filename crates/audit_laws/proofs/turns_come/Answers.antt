use Rattle.audit_laws.proofs.ComingLemmas.{journals-end, leaving-comes, ticks-left, ticks-made, turns-come}
use Rattle.audit_laws.proofs.turns_come.Goals as goal

pub returns : goal.returns
returns c = record { made = ticks-made; left_out = ticks-left; turns = turns-come; leaving = leaving-comes; ends = journals-end }
