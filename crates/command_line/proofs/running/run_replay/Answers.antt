use Rattle.world_replay.specs.Causes.{IsJudged}
use Rattle.command_line.specs.Replayed.{replayed}
use Rattle.command_line.specs.Causes.{for_cause}
use Rattle.command_line.proofs.EndLemmas.{concluded}
use Rattle.command_line.proofs.running.run_replay.Goals as goal

pub returns : goal.returns
returns g c = record { ends = concluded IsJudged for_cause replayed _ _ _ c.replay-ended.result _ _ c.replay-ended.ensures.runs c.from.ensures (c.conclude.ensures (g.S.Source.state c.replay-ended.new.input)) }
