-- Nothing is owed for a text before its end.
use Rattle.std.proofs.Common.{◌≡◌, ℕ, Bool, true, false, List, [], ◌∷◌, ◌++◌, Option, Some, Result, Ok, Err, refl, sym, ap, ◌∙◌}
use Rattle.line_text.specs.declared.bad_word.BadWord.{BadWord}
use Rattle.line_text.specs.Answers.{Progress, next_line}
use Rattle.line_text.proofs.FrameLemmas.{empty_fault, judge-empty, judge-spelled, line-unfed}
use Rattle.text_trace.specs.Lines.{has_no_feed}
use Rattle.text_trace.specs.Trace.{IsUnrefused, Continuation, Trace, Waits}
use Rattle.text_trace.proofs.TraceLemmas.{waits-same}
use Rattle.verify_text.specs.declared.line.VerifyLine.{VerifyLine}
use Rattle.verify_text.specs.declared.question.Asked.{Asked}
use Rattle.verify_text.specs.declared.question.Asked.TheVariants as asked
use Rattle.verify_text.specs.declared.verify.Verify.{Verify}
use Rattle.verify_text.specs.Asking.{asked_after}
use Rattle.verify_text.specs.Grammar.{IsLine, IsVerify, behind, judge}
use Rattle.verify_text.specs.Laws.{verify-spelled}
use Rattle.verify_text.specs.Rows.{is_ended, row_for}
use Rattle.verifier.specs.Answered.{answered, at_end, from_judged}

-- a line that is judged to be one is one
pub line-is : (p : Progress Verify) (bytes : List ℕ) (l : VerifyLine) → judge p bytes ≡ Ok l → IsLine p bytes l
line-is p bytes l e = judge-spelled (next_line is_ended row_for p) (IsVerify p.form) (verify-spelled p.form) bytes l e

unfed_silent : (p : Progress Verify) (a : Asked) (bytes : List ℕ) (lines : List (List ℕ)) (r : Result VerifyLine BadWord) → judge p bytes ≡ r → has_no_feed bytes ≡ true → (from_judged r (λ l. answered (behind p l) (asked_after a l) lines)).output ≡ []
unfed_silent p a bytes lines (Ok l) is clear = absurd (line-unfed (is_ended p.form) p.number (IsVerify p.form) bytes l (line-is p bytes l is) clear)
unfed_silent p a bytes lines (Err w) is clear = refl

judged_silent : (r : Result VerifyLine BadWord) (rest : VerifyLine → Trace BadWord) → ((l : VerifyLine) → (rest l).output ≡ []) → (from_judged r rest).output ≡ []
judged_silent (Ok l) rest silent = silent l
judged_silent (Err w) rest silent = refl

-- With a line that isn't ended among the lines, nothing is written.
pub unfed-silent : (before : List (List ℕ)) (p : Progress Verify) (a : Asked) (bytes : List ℕ) (lines : List (List ℕ)) → has_no_feed bytes ≡ true → (answered p a (before ++ bytes ∷ lines)).output ≡ []
unfed-silent [] p a bytes lines clear = unfed_silent p a bytes lines (judge p bytes) refl clear
unfed-silent (b ∷ before) p a bytes lines clear =
    judged_silent (judge p b) (λ l. answered (behind p l) (asked_after a l) (before ++ bytes ∷ lines)) (λ l. unfed-silent before (behind p l) (asked_after a l) bytes lines clear)

-- the end of a text and a line of no bytes have no cause in common
abbrev one : BadWord → Option BadWord
one w = Some w

apart : (ended : Bool) (a : Asked) (w : BadWord) → (at_end ended a).cause ≡ one w → one (empty_fault ended) ≡ one w → ⊥
apart false a w e f = cc
apart true asked.Nothing w e f = cc
apart true (asked.Key k) w e f = cc
apart true (asked.Message k m) w e f = cc
apart true (asked.Question q) w e f = cc

-- There is no cause that refuses all that may come.
pub answered-unrefused : (p : Progress Verify) (a : Asked) → IsUnrefused BadWord (answered p a)
answered-unrefused p a = λ w any all.
    let empty : (answered p a ([] ∷ [])).cause ≡ one (empty_fault (is_ended p.form)) =
    ap (λ (j : Result VerifyLine BadWord). (from_judged j (λ l. answered (behind p l) (asked_after a l) [])).cause) (judge-empty (next_line is_ended row_for p)) in
    apart (is_ended p.form) a w (all []) (sym empty ∙ all ([] ∷ []))

-- Nothing is written for a line that isn't ended, and the text isn't refused before it.
pub answered-waits : (p : Progress Verify) (a : Asked) (f : Continuation BadWord) → f ≡ answered p a → Waits BadWord f
answered-waits p a f e = waits-same BadWord f (answered p a) e (record { silent = λ bytes rest clear. unfed-silent [] p a bytes rest clear; unrefused = answered-unrefused p a })
