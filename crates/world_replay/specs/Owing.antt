-- What is owed for the lines that are still to come.
use Rattle.std.specs.Prelude.{◌≡◌, ℕ, ◌+◌, ◌-◌, List}
use Rattle.line_text.specs.Answers.{Progress}
use Rattle.schedule_world.specs.declared.text.WorldText.{WorldText}
use Rattle.text_trace.specs.Lines.{text_lines}
use Rattle.text_trace.specs.Trace.{Continuation, Waits}
use Rattle.text_trace.proofs.TraceLemmas.{waits-same}
use Rattle.world_rules.specs.Steps.{NodeEvent}
use Rattle.world_rules.specs.Walk as walk
use Rattle.world_replay.specs.declared.stage.Stage.{Stage}
use Rattle.world_replay.specs.Stages.{HoldsStage}
use Rattle.world_rules.specs.declared.cause.Cause.{Cause}
use Rattle.world_replay.specs.declared.player.Player.{Player}
use Rattle.world_replay.specs.Causes.{played}
use Rattle.world_replay.specs.Rosters.{Fits}
use Rattle.world_replay.specs.Unfed.{played-waits}

-- What is kept stands for what has come of the lines, which fits how far the text was read; and what is owed is what that plays.
pub record Owes (p : Progress WorldText) (kept : Stage) (f : Continuation Cause) : Type 0 where
  pub stage : walk.Stage
  pub told : List NodeEvent
  pub holds : HoldsStage stage told kept
  pub fits : Fits p.form stage
  pub same : f ≡ played p stage

-- This is owed for the lines that are still to come to the player.
abbrev pub OwedBy : Player → Continuation Cause → Type 0
OwedBy player f = Owes player.lines player.stage f

-- How many lines may still come to it.
abbrev pub lines_left : Player → ℕ
lines_left player = text_lines + 1 - player.lines.number

pub owed_waits : (player : Player) (f : Continuation Cause) → OwedBy player f → Waits Cause f
owed_waits player f owes = waits-same Cause f (played player.lines owes.stage) owes.same (played-waits player.lines owes.stage)
