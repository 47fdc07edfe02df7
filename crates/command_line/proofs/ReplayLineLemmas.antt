-- What a line does to what is owed, in either form.
use Rattle.std.proofs.Common.{◌≡◌, ℕ, List, [], ◌∷◌, Option, Some, None, Result, Ok, Err, ap, ◌∙◌}
use Rattle.std.specs.Str.{bytes_eq}
use Rattle.line_text.specs.declared.bad_word.BadWord.{BadWord}
use Rattle.line_text.specs.declared.bad_word.BadWord.TheVariants as bad
use Rattle.play.specs.declared.script.Refusal.{Refusal}
use Rattle.play.specs.declared.script.Refusal.TheVariants as refusal
use Rattle.play.specs.declared.stop.Stop.{Stop}
use Rattle.play.specs.Answers.{AnswersEnd, AnswersLine}
use Rattle.play.specs.Plays.{Continues, IoState}
use Rattle.play.proofs.NamedLemmas.{continues-named, end-named, line-named}
use Rattle.text_trace.specs.Trace.{Every, Continuation, Trace}
use Rattle.text_trace.proofs.TraceLemmas.{free-as}
use Rattle.replay.specs.declared.player.Player.{Player}
use Rattle.replay.specs.Playing.{OwedBy}
use Rattle.world_rules.specs.declared.cause.Cause.{Cause}
use Rattle.world_rules.specs.declared.cause.Cause.TheVariants as causes
use Rattle.world_replay.specs.Causes.{IsJudged}
use Rattle.command_line.specs.declared.replay_form.FormPlayer.{FormPlayer}
use Rattle.command_line.specs.ReplayAnswers.{for_either, run_for_either}
use Rattle.command_line.specs.ReplayLaws.{bad-words}
use Rattle.command_line.specs.ReplayOwing.{OwedByForm, OwedFrom, OwesBad}
use Rattle.command_line.specs.Replayed.{replayed, replayed_as, world_header}

abbrev cause_of : Trace Cause → Option Cause
cause_of t = t.cause

at-lines : (f g : Continuation Cause) (lines : List (List ℕ)) → f ≡ g → f lines ≡ g lines
at-lines f g lines same = ap (λ (h : Continuation Cause). h lines) same

-- ## The direct form

-- a line of the direct form
pub bad-line : (p q : Player) (bytes text : List ℕ) (r : Result (Unit {0}) (Refusal BadWord)) → AnswersLine BadWord Every (OwedBy p) (OwedBy q) bytes text r → AnswersLine Cause IsJudged (OwesBad p) (OwesBad q) bytes text (for_either r)
bad-line p q bytes text r h = line-named BadWord Cause Every IsJudged causes.Bad (OwedBy p) (OwedBy q) bytes text r bad-words h

-- the end of a text of the direct form
pub bad-end : (p : Player) (text : List ℕ) (r : Result (Unit {0}) (Refusal BadWord)) → AnswersEnd BadWord Every (OwedBy p) text r → AnswersEnd Cause IsJudged (OwesBad p) text (for_either r)
bad-end p text r h = end-named BadWord Cause Every IsJudged causes.Bad (OwedBy p) text r bad-words h

-- a run over a text of the direct form
pub bad-run : (p : Player) (first room : ℕ) (was now : IoState) (r : Result (Unit {0}) (Stop BadWord)) → Continues BadWord Every (OwedBy p) first room was now r → Continues Cause IsJudged (OwesBad p) first room was now (run_for_either r)
bad-run p first room was now r on = continues-named BadWord Cause Every IsJudged causes.Bad (OwedBy p) first room was now r bad-words on

-- ## The first line

-- the first line of a text, in the form that it tells
pub first-line : (p q : FormPlayer) (bytes text : List ℕ) (r : Result (Unit {0}) (Refusal Cause)) → OwedByForm p (replayed_as (bytes_eq bytes world_header)) → AnswersLine Cause IsJudged (OwedByForm p) (OwedByForm q) bytes text r
    → AnswersLine Cause IsJudged (OwedFrom None) (OwedFrom (Some q)) bytes text r
first-line p q bytes text (Ok done) is h = (
  h.0,
  λ f same.
      let s = h.1 (replayed_as (bytes_eq bytes world_header)) is in
      record { later = s.later; owes = s.owes; same = λ rest. at-lines f replayed (bytes ∷ rest) same ∙ s.same rest },
)
first-line p q bytes text (Err (refusal.Refused c)) is h = λ f same rest. at-lines f replayed (bytes ∷ rest) same ∙ h (replayed_as (bytes_eq bytes world_header)) is rest
first-line p q bytes text (Err refusal.OutOfMemory) is h = (
  h.0,
  λ f same. free-as Cause IsJudged (λ rest. f (bytes ∷ rest)) (λ rest. replayed_as (bytes_eq bytes world_header) (bytes ∷ rest)) (λ rest. ap cause_of (at-lines f replayed (bytes ∷ rest) same)) (h.1 (replayed_as (bytes_eq bytes world_header)) is),
)

-- no line
pub no-line : AnswersEnd Cause IsJudged (OwedFrom None) [] (Err (refusal.Refused (causes.Bad bad.End)))
no-line = λ f same. at-lines f replayed [] same
