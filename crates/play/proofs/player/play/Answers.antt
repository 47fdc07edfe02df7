use Rattle.std.proofs.Common.{inl, refl}
use Rattle.play.specs.declared.long_lines.LongLines.TheVariants.{Cut}
use Rattle.play.proofs.JoinLemmas.{run-from}
use Rattle.play.proofs.player.play.Goals as goal

pub returns-in_default-clause-runs : goal.returns-in_default-clause-runs
returns-in_default-clause-runs g c = inl refl

pub returns-clause-runs : goal.returns-clause-runs
returns-clause-runs g c = run-from Cut _ g.P.Script.judged (g.P.Script.owes c.args.script.now) _ _ _ c.play_from.result c.play_from.ensures.continues
