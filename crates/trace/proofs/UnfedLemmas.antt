-- A line without its line feed is refused, and nothing is written for it.
use Rattle.std.proofs.Common.{◌≡◌, ℕ, Bool, true, false, cond, List, [], ◌∷◌, ◌++◌, Option, Some, None, Result, Ok, Err, refl, ap, sym, ◌∙◌, subst}
use Rattle.std.specs.List.{join_with_byte}
use Rattle.line_text.specs.declared.bad_word.BadWord.{BadWord}
use Rattle.line_text.specs.declared.bad_word.BadWord.TheVariants as bad
use Rattle.line_text.specs.Answers.{Progress, next_line}
use Rattle.line_text.proofs.FrameLemmas.{empty_fault, judge-empty}
use Rattle.schedule_direct.specs.declared.direct.Direct.{Direct}
use Rattle.schedule_direct.specs.declared.line.DirectLine.{DirectLine}
use Rattle.schedule_direct.specs.Grammar as grammar
use Rattle.schedule_direct.specs.Grammar.{spelled_words}
use Rattle.schedule_direct.specs.Rows.{is_ended, row_for}
use Rattle.text_trace.specs.Lines.{has_no_feed}
use Rattle.text_trace.specs.Trace.{IsUnrefused, Continuation, Waits}
use Rattle.text_trace.proofs.TraceLemmas.{waits-same}
use Rattle.trace.specs.Answers.{Recorded, answer}
use Rattle.trace.specs.Walk.{Taken, Walk, from_line, output_of, played, replayed, walk}
use Rattle.trace.proofs.TextLemmas.{ends-fed}
use Rattle.trace.proofs.WrittenLemmas.{spelled}

abbrev none_bad : Option BadWord
none_bad = None

-- it is refused
pub unfed-refused : (p : Progress Direct) (bytes : List ℕ) (l : DirectLine) → has_no_feed bytes ≡ true → grammar.judge p bytes ≡ Ok l → ⊥
unfed-refused p bytes l clear judged =
    let s = spelled p bytes l judged in
    ends-fed (join_with_byte 32 (spelled_words l)) [] (subst (λ (b : List ℕ). has_no_feed b ≡ true) s.bytes_are clear)

taken-none : (recorded : Option Recorded) (bytes : List ℕ) (judged : Result DirectLine BadWord) (rest : DirectLine → Walk) → ((l : DirectLine) → judged ≡ Ok l → ⊥) → (from_line recorded bytes judged rest).taken ≡ []
taken-none recorded bytes (Ok l) rest never = absurd (never l refl)
taken-none recorded bytes (Err w) rest never = refl

-- nothing is written for it, nor for what follows it
played-silent : (p : Progress Direct) (recorded : Option Recorded) (line : List ℕ) (rest : List (List ℕ)) → has_no_feed line ≡ true → (played p recorded (line ∷ rest)).output ≡ []
played-silent p recorded line rest clear =
    ap output_of (taken-none recorded line (grammar.judge p line) (λ l. walk rest (grammar.behind p l) (answer recorded l).recorded) (λ l judged. unfed-refused p line l clear judged))

-- the end of a text and a line of no bytes have no cause in common
apart : (ended : Bool) (w : BadWord) → cond ended none_bad (Some bad.End) ≡ Some w → Some (empty_fault ended) ≡ Some w → ⊥
apart true w e f = cc
apart false w e f = cc

pub played-unrefused : (p : Progress Direct) (recorded : Option Recorded) → IsUnrefused BadWord (played p recorded)
played-unrefused p recorded = λ w any all.
    let empty : (played p recorded ([] ∷ [])).cause ≡ Some (empty_fault (is_ended p.form)) =
    ap (λ (j : Result DirectLine BadWord). (from_line recorded [] j (λ l. walk [] (grammar.behind p l) (answer recorded l).recorded)).cause) (judge-empty (next_line is_ended row_for p)) in
    apart (is_ended p.form) w (all []) (sym empty ∙ all ([] ∷ []))

pub played-waits : (p : Progress Direct) (recorded : Option Recorded) → Waits BadWord (played p recorded)
played-waits p recorded = record { silent = played-silent p recorded; unrefused = played-unrefused p recorded }

pub waits-as : (p : Progress Direct) (recorded : Option Recorded) (f : Continuation BadWord) → f ≡ played p recorded → Waits BadWord f
waits-as p recorded f same = waits-same BadWord f (played p recorded) same (played-waits p recorded)

same-taken : (recorded : Option Recorded) (bytes : List ℕ) (judged : Result DirectLine BadWord) (rest others : DirectLine → Walk) → ((l : DirectLine) → (rest l).taken ≡ (others l).taken) → (from_line recorded bytes judged rest).taken ≡ (from_line recorded bytes judged others).taken
same-taken recorded bytes (Ok l) rest others h = ap (λ (ts : List Taken). record { bytes = bytes; before = recorded; line = l; answer = answer recorded l } ∷ ts) (h l)
same-taken recorded bytes (Err w) rest others h = refl

unfed-last : (ls : List (List ℕ)) (line : List ℕ) (p : Progress Direct) (recorded : Option Recorded) → has_no_feed line ≡ true → (walk (ls ++ line ∷ []) p recorded).taken ≡ (walk ls p recorded).taken
unfed-last [] line p recorded clear = taken-none recorded line (grammar.judge p line) (λ l. walk [] (grammar.behind p l) (answer recorded l).recorded) (λ l judged. unfed-refused p line l clear judged)
unfed-last (bytes ∷ ls) line p recorded clear =
    same-taken recorded bytes (grammar.judge p bytes) (λ l. walk (ls ++ line ∷ []) (grammar.behind p l) (answer recorded l).recorded) (λ l. walk ls (grammar.behind p l) (answer recorded l).recorded)
    (λ l. unfed-last ls line (grammar.behind p l) (answer recorded l).recorded clear)

-- a last line without its line feed adds nothing
pub unfed-adds-nothing : (ls : List (List ℕ)) (line : List ℕ) → has_no_feed line ≡ true → (replayed (ls ++ line ∷ [])).output ≡ (replayed ls).output
unfed-adds-nothing ls line clear = ap output_of (unfed-last ls line grammar.opening None clear)
