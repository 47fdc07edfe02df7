use Rattle.std.proofs.Common.{◌≡◌, arith, refl}
use Rattle.play.proofs.JoinLemmas.{owing-later, run-join, run-stops}
use Rattle.world_rules.specs.declared.cause.Cause.{Cause}
use Rattle.world_replay.specs.Causes.{IsJudged}
use Rattle.command_line.specs.ReplayOwing.{OwedFrom}
use Rattle.command_line.specs.Replayed.{replayed}
use Rattle.command_line.proofs.replay_player.replay.Goals as goal
use Rattle.command_line.proofs.replay_player.replay.Goals.{in-Ok-true, in-Ok-false, in-Err}

pub play_in_form-ended-requires-clause-owing : goal.play_in_form-ended-requires-clause-owing
play_in_form-ended-requires-clause-owing g c =
    let first = rw c.in-Ok-true.field-0-test at c.in-Ok-true.ensures.turns in
    owing-later Cause (λ f. f ≡ replayed) (OwedFrom c.play_line.new.script.form) _ _ _ _ _ _ (record { owed = replayed; is = refl }) first

pub play_in_form-ended-requires-clause-few : goal.play_in_form-ended-requires-clause-few
play_in_form-ended-requires-clause-few g c =
    let first = rw c.in-Ok-true.field-0-test at c.in-Ok-true.ensures.turns in
    omega (arith, first.few, first.number)

pub returns-clause-runs : goal.returns-clause-runs
returns-clause-runs g c =
    elim c.match-play_line.branch [
      | in-Ok-true w ↦
          let first = rw w.in-Ok-true.field-0-test at w.in-Ok-true.ensures.turns in
          rw (w.input-is, w.out-is, w.ended-is)
          (run-join Cause IsJudged (λ f. f ≡ replayed) (OwedFrom c.play_line.new.script.form) _ _ _ _ _ _ w.play_in_form-ended.result first w.play_in_form-ended.ensures.continues)
      | in-Ok-false w ↦ rw (w.input-is, w.out-is, w.ended-is) (rw w.in-Ok-false.field-0-test at w.in-Ok-false.ensures.turns)
      | in-Err w ↦ rw (w.input-is, w.out-is, w.ended-is) (run-stops Cause IsJudged (λ f. f ≡ replayed) _ _ _ _ w.in-Err.ensures.turns)
    ]
