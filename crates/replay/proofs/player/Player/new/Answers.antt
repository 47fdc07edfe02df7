use Rattle.std.proofs.Common.{None, refl, sym, subst}
use Rattle.line_text.specs.Answers.{Progress}
use Rattle.schedule_direct.specs.declared.direct.Direct.{Direct}
use Rattle.trace.specs.Walk.{replayed}
use Rattle.replay.specs.Playing.{Owes}
use Rattle.replay.proofs.LineLemmas.{owes-first}
use Rattle.replay.proofs.player.Player.new.Goals as goal

pub returns-clause-owes : goal.returns-clause-owes
returns-clause-owes c = subst (λ (p : Progress Direct). Owes p None replayed) (sym c.open.ensures) (owes-first replayed refl)
