-- What `verify` upholds, from how it ended.
use Rattle.std.proofs.Common.{◌≡◌, ℕ, Bool, true, false, List, [], ◌∷◌, Some, Result, Ok, Err, refl, sym, ◌∙◌}
use Rattle.line_text.specs.declared.bad_word.BadWord.{BadWord}
use Rattle.line_text.specs.Answers.{Progress}
use Rattle.play.specs.Plays.{IoState}
use Rattle.play.specs.declared.stop.Stop.TheVariants as stop
use Rattle.text_trace.specs.Lines.{seen}
use Rattle.text_trace.specs.Trace.{Every, Trace}
use Rattle.verify_text.specs.declared.line.VerifyLine.{VerifyLine}
use Rattle.verify_text.specs.declared.question.Asked.{Asked}
use Rattle.verify_text.specs.declared.question.Asked.TheVariants as asked
use Rattle.verify_text.specs.declared.verify.Verify.{Verify}
use Rattle.verify_text.specs.Asking.{asked_after}
use Rattle.verify_text.specs.Grammar.{behind, judge, opening}
use Rattle.verify_text.specs.Rows.{is_ended}
use Rattle.verifier.specs.Answered.{answered, answer_to, at_end, from_judged, verified}
use Rattle.verifier.specs.Laws.{unfed-silent}
use Rattle.command_line.specs.Causes.{RunEnd, for_word}
use Rattle.command_line.specs.Ends.{Ends}
use Rattle.command_line.specs.Traced.{IsCause, IsEarly, SpeaksAtEnd, Traced}
use Rattle.command_line.specs.Verification.{OnStopped, Verification}
use Rattle.command_line.proofs.TraceLemmas.{no-front, traced}
use Rattle.command_line.specs.declared.status.Status.{Status}

late : SpeaksAtEnd verified
late lines line clear = unfed-silent lines opening asked.Nothing line [] clear

-- a text that is refused is owed nothing
abbrev IsSilent : Trace BadWord → Type 0
IsSilent t = (w : BadWord) → t.cause ≡ Some w → t.output ≡ []

refused-answer : (a : Asked) → IsSilent (answer_to a)
refused-answer asked.Nothing w is = refl
refused-answer (asked.Key key) w is = refl
refused-answer (asked.Message key message) w is = refl
refused-answer (asked.Question q) w is = cc

refused-end : (b : Bool) (a : Asked) → IsSilent (at_end b a)
refused-end true a w is = refused-answer a w is
refused-end false a w is = refl

refused-judged : (r : Result VerifyLine BadWord) (rest : VerifyLine → Trace BadWord) → ((l : VerifyLine) → IsSilent (rest l)) → IsSilent (from_judged r rest)
refused-judged (Ok l) rest silent w is = silent l w is
refused-judged (Err e) rest silent w is = refl

refused-silent : (lines : List (List ℕ)) (p : Progress Verify) (a : Asked) → IsSilent (answered p a lines)
refused-silent [] p a w is = refused-end (is_ended p.form) a w is
refused-silent (bytes ∷ lines) p a w is =
    refused-judged (judge p bytes) (λ l. answered (behind p l) (asked_after a l) lines) (λ l. refused-silent lines (behind p l) (asked_after a l)) w is

silent : (was now : IoState) (s : Status) (r : RunEnd BadWord) (t : Traced verified was now s) → IsCause (verified (seen t.bytes)).cause r → IsEarly verified t.text r → OnStopped r (t.text ≡ [])
silent was now s (Ok _) t refused early = tt
silent was now s (Err (stop.Refused line word)) t refused early = no-front t.text t.rest (sym t.front ∙ refused-silent (seen t.bytes) opening asked.Nothing word refused)
silent was now s (Err stop.ReadFault) t refused early = early late
silent was now s (Err stop.WriteFault) t refused early = tt
silent was now s (Err stop.OutOfMemory) t refused early = early late

pub verification : (was now : IoState) (s : Status) → Ends verified was now s → Verification was now s
verification was now s ends =
    let t = traced Every for_word verified was now s ends in
    record { trace = t; silent = silent was now s t.result t t.refused t.early }
