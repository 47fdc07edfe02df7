-- What a text that asks whether a signature is good is owed: nothing up to its end, and then one line.
use Rattle.std.specs.Prelude.{ℕ, Bool, true, false, List, [], ◌∷◌, Some, None, Result, Ok, Err}
use Rattle.line_text.specs.declared.bad_word.BadWord.{BadWord}
use Rattle.line_text.specs.declared.bad_word.BadWord.TheVariants as bad
use Rattle.line_text.specs.declared.bad_word.LineFault.{LineFault}
use Rattle.line_text.specs.declared.bad_word.LineFault.TheVariants as faults
use Rattle.line_text.specs.Answers.{Progress}
use Rattle.play.specs.declared.script.Refusal.{Refusal}
use Rattle.play.specs.declared.script.Refusal.TheVariants as refusal
use Rattle.text_trace.specs.Trace.{Continuation, Trace}
use Rattle.verify_text.specs.declared.line.VerifyLine.{VerifyLine}
use Rattle.verify_text.specs.declared.question.Asked.{Asked}
use Rattle.verify_text.specs.declared.question.Asked.TheVariants as asked
use Rattle.verify_text.specs.declared.verify.Verify.{Verify}
use Rattle.verify_text.specs.Answering.{answer_line}
use Rattle.verify_text.specs.Asking.{asked_after}
use Rattle.verify_text.specs.Grammar.{behind, judge, opening}
use Rattle.verify_text.specs.Rows.{is_ended}

-- the refusal for a line that wasn't read
abbrev pub refusal_of : LineFault → Refusal BadWord
refusal_of (faults.Bad w) = refusal.Refused w
refusal_of faults.OutOfMemory = refusal.OutOfMemory

-- nothing, for this cause
abbrev pub refused_for : BadWord → Trace BadWord
refused_for w = record { output = []; cause = Some w }

-- the answer to what was asked
abbrev pub answer_to : Asked → Trace BadWord
answer_to (asked.Question question) = record { output = answer_line question; cause = None }
answer_to _ = refused_for bad.End

abbrev pub at_end : Bool → Asked → Trace BadWord
at_end true a = answer_to a
at_end false a = refused_for bad.End

abbrev pub from_judged : Result VerifyLine BadWord → (VerifyLine → Trace BadWord) → Trace BadWord
from_judged (Ok line) rest = rest line
from_judged (Err w) rest = refused_for w

-- What is owed for these lines, where so much was read and asked before them.
abbrev pub answered : Progress Verify → Asked → List (List ℕ) → Trace BadWord
answered p a [] = at_end (is_ended p.form) a
answered p a (bytes ∷ lines) = from_judged (judge p bytes) (λ line. answered (behind p line) (asked_after a line) lines)

-- What is owed for the lines of a whole text.
abbrev pub verified : Continuation BadWord
verified = answered opening asked.Nothing
