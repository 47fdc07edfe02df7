-- What a replay upholds: what the removals that it took and wrote have for their cause, and what an accepted note rules out; of
-- a schedule of a world, what no liar brought about.
use Rattle.std.specs.Prelude.{◌≡◌, ℕ, Bool, true, false, List, [], ◌++◌, Ok, Err}
use Rattle.play.specs.Plays.{IoState}
use Rattle.play.specs.declared.stop.Stop.TheVariants as stop
use Rattle.signer.specs.Lives.{IsRising}
use Rattle.text_trace.specs.Lines.{seen}
use Rattle.trace.specs.Lives.{IsJustifiedWalk}
use Rattle.trace.specs.Replies.{NoteRevokes, NoteSupersedes}
use Rattle.trace.specs.Walk.{walk_over}
use Rattle.trace.specs.Written.{IsJustified, IsTold}
use Rattle.world_rules.specs.Forgeries.{Forgery}
use Rattle.world_laws.specs.Flows.{flowed_in}
use Rattle.world_laws.specs.Texts.{IsComeTo, IsForgedAt, IsLawfulStage}
use Rattle.world_laws.specs.Views.{AnswersViewsAt}
use Rattle.command_line.specs.WorldWritten.{GivesAll, GivesTold, told_in, world_walk}
use Rattle.world_rules.specs.declared.cause.Cause.{Cause}
use Rattle.world_rules.specs.declared.cause.Cause.TheVariants as causes
use Rattle.world_replay.specs.Causes.{IsJudged, grammar}
use Rattle.command_line.specs.Replayed.{is_world, replayed}
use Rattle.command_line.specs.Causes.{RunEnd, for_cause}
use Rattle.command_line.specs.Traced.{TracedBy}
use Rattle.command_line.specs.declared.status.Status.{Status}

-- The whole trace of what was taken is written, unless a write of it failed or memory was refused: of a read fault too.
abbrev pub OnWhole : {C : Type 0} → RunEnd C → Type 0 → Type 0
OnWhole (Ok _) P = P
OnWhole (Err (stop.Refused line cause)) P = P
OnWhole (Err stop.ReadFault) P = P
OnWhole (Err stop.WriteFault) P = Unit {0}
OnWhole (Err stop.OutOfMemory) P = Unit {0}

-- A text of the direct form. Each whole line that was written, and each event of what was taken, that gives a removal is the
-- report of an event of a life: of a note by which the member leaves; or of a tick, and it rests on an accusation that was
-- accepted in that life and stood in each state between, for the timeout; and each removal of a life is reported. Behind an
-- accepted note no older accusation is accepted or expires in that life, and one that it answers expires only where it was
-- accepted again, and the timeout has passed since.
pub record DirectHeadline (lines : List (List ℕ)) (text line : List ℕ) (result : RunEnd Cause) : Type 0 where
  pub written : IsJustified lines (text ++ line)
  -- A law of any input: `written` and `told` tie it to what was written.
  pub taken : IsJustifiedWalk (walk_over lines)
  pub told : OnWhole result (IsTold lines text)
  -- Two laws of any input. `trace` ties the walk to what was written.
  pub rule_out : NoteSupersedes (walk_over lines)
  pub ends_acceptance : NoteRevokes (walk_over lines)

-- P of the number of a line and of what it handed over that is forged, where that stopped the run.
abbrev pub OnForged : RunEnd Cause → (ℕ → Forgery → Type 0) → Type 0
OnForged (Err (stop.Refused line (causes.Forged who body))) P = P line (record { who = who; body = body })
OnForged (Err (stop.Refused line (causes.Bad bad))) P = Unit {0}
OnForged (Err stop.ReadFault) P = Unit {0}
OnForged (Err stop.WriteFault) P = Unit {0}
OnForged (Err stop.OutOfMemory) P = Unit {0}
OnForged (Ok _) P = Unit {0}

-- A schedule of a world. The lines that were taken lead to a world, none of them is forged, and what its nodes reported is as no
-- liar can help: each removal has for its cause a verified note by which the member left, or a verified accusation that stood for
-- the timeout, and each key spends once. Flows hand over each datagram at most once. A line that is answered by members asks for
-- the view of a node, and is answered by that of the life that runs then; where two such lives accept the same notes, and the
-- same accusations expire in them, the answers are the same. What is named as forged is handed over by the very line of the
-- number that is named, which ends so in this world, and verifies under a key that never signed it.
-- Each whole line that was written and gives an event gives one that was reported, and each event that was reported is written.
pub record WorldHeadline (lines : List (List ℕ)) (text line : List ℕ) (result : RunEnd Cause) : Type 0 where
  -- Three laws of any input: `written` and `told` tie what they say of `told_in lines` to what was written.
  pub played : IsComeTo (world_walk lines).stage (told_in lines)
  pub lawful : IsLawfulStage (world_walk lines).stage (told_in lines)
  pub flowed : IsRising (flowed_in (world_walk lines).taken)
  -- One more: `trace` ties the verdicts on the lines that were taken to what was written.
  pub views : AnswersViewsAt (world_walk lines).stage (world_walk lines).taken
  pub forged : OnForged result (IsForgedAt grammar lines (world_walk lines))
  pub written : GivesTold (told_in lines) (text ++ line)
  pub told : OnWhole result (GivesAll (told_in lines) text)

-- By whether the first line heads a schedule of a world.
abbrev pub HeadlineAs : Bool → List (List ℕ) → List ℕ → List ℕ → RunEnd Cause → Type 0
HeadlineAs true lines text line result = WorldHeadline lines text line result
HeadlineAs false lines text line result = DirectHeadline lines text line result

-- Of the text that was taken, what was written of its trace, and the line of the cause behind it.
pub record Headline (was now : IoState) (s : Status) : Type 0 where
  pub trace : TracedBy IsJudged for_cause replayed was now s
  pub whole : OnWhole trace.result (trace.rest ≡ [])
  pub upheld : HeadlineAs (is_world (seen trace.bytes)) (seen trace.bytes) trace.text trace.line trace.result
