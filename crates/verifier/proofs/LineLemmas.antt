-- What a line that wasn't taken leaves owed.
use Rattle.std.proofs.Common.{◌≡◌, ℕ, true, List, [], ◌∷◌, Some, Result, Ok, Err, refl, ap, ◌∙◌}
use Rattle.std.specs.Prelude.{IsOkAnd}
use Rattle.line_text.specs.declared.bad_word.BadWord.{BadWord}
use Rattle.line_text.specs.declared.bad_word.LineFault.{LineFault}
use Rattle.line_text.specs.declared.bad_word.LineFault.TheVariants as faults
use Rattle.line_text.specs.Answers.{AnswersBy, Progress}
use Rattle.line_text.proofs.FrameLemmas.{line-fed}
use Rattle.play.specs.Answers.{AnswersLine}
use Rattle.text_trace.specs.Lines.{has_line_feed}
use Rattle.text_trace.specs.Trace.{Admits, Every, Continuation, Trace}
use Rattle.text_trace.proofs.TraceLemmas.{free-as}
use Rattle.verify_text.specs.declared.line.VerifyLine.{VerifyLine}
use Rattle.verify_text.specs.declared.question.Asked.{Asked}
use Rattle.verify_text.specs.declared.verify.Verify.{Verify}
use Rattle.verify_text.specs.Asking.{asked_after}
use Rattle.verify_text.specs.Grammar.{IsVerify, behind, judge}
use Rattle.verify_text.specs.Rows.{TakesMemory, is_ended}
use Rattle.verifier.specs.Answered.{answered, from_judged, refusal_of}
use Rattle.verifier.specs.Laws.{answered-unrefused, line-is}

answered-as : (p : Progress Verify) (a : Asked) (bytes : List ℕ) (rest : List (List ℕ)) (f : Continuation BadWord) (r : Result VerifyLine BadWord) → f ≡ answered p a → judge p bytes ≡ r → f (bytes ∷ rest) ≡ from_judged r (λ l. answered (behind p l) (asked_after a l) rest)
answered-as p a bytes rest f r same judged =
    ap (λ (g : Continuation BadWord). g (bytes ∷ rest)) same ∙ ap (λ (j : Result VerifyLine BadWord). from_judged j (λ l. answered (behind p l) (asked_after a l) rest)) judged

-- memory is refused for a line that isn't
starved : (p : Progress Verify) (a : Asked) (bytes : List ℕ) (r : Result VerifyLine BadWord) → judge p bytes ≡ r → IsOkAnd r TakesMemory → (has_line_feed bytes ≡ true) × Admits BadWord Every (λ f. f ≡ answered p a) [] (Some bytes)
starved p a bytes (Ok l) judged takes = (
  line-fed (is_ended p.form) p.number (IsVerify p.form) bytes l (line-is p bytes l judged),
  λ f same.
      free-as BadWord Every (λ rest. f (bytes ∷ rest)) (answered (behind p l) (asked_after a l))
      (λ rest. ap (λ (t : Trace BadWord). t.cause) (answered-as p a bytes rest f (Ok l) same judged))
      (answered-unrefused (behind p l) (asked_after a l)),
)
starved p a bytes (Err w) judged takes = absurd takes

-- what a line that wasn't read answers
pub line-untaken : (p : Progress Verify) (a : Asked) (bytes : List ℕ) (fault : LineFault) (answer : Result VerifyLine LineFault) → AnswersBy TakesMemory (judge p bytes) answer → answer ≡ Err fault → AnswersLine BadWord Every (λ f. f ≡ answered p a) (λ f. Unit {0}) bytes [] (Err (refusal_of fault))
line-untaken p a bytes fault (Ok l) answers is = cc
line-untaken p a bytes (faults.Bad w) (Err (faults.Bad v)) answers is = λ f same rest. answered-as p a bytes rest f (Err w) same (cc (answers, is))
line-untaken p a bytes faults.OutOfMemory (Err (faults.Bad v)) answers is = cc
line-untaken p a bytes (faults.Bad w) (Err faults.OutOfMemory) answers is = cc
line-untaken p a bytes faults.OutOfMemory (Err faults.OutOfMemory) answers is = starved p a bytes (judge p bytes) refl answers
