-- Nothing is owed for a text before its end; and what is known of lines is kept.
use Rattle.std.proofs.Common.{◌≡◌, ℕ, ◌+◌, Bool, true, false, List, [], ◌∷◌, ◌++◌, Option, Some, Result, Ok, Err, refl, sym, ap, ◌∙◌, append_assoc, cond}
use Rattle.line_text.specs.declared.bad_word.BadWord.{BadWord}
use Rattle.line_text.specs.declared.bad_word.BadWord.TheVariants as bad
use Rattle.line_text.specs.Answers.{Progress, next_line}
use Rattle.line_text.proofs.FrameLemmas.{empty_fault, judge-empty}
use Rattle.text_trace.specs.Trace.{IsUnrefused, Continuation, Waits}
use Rattle.text_trace.proofs.TraceLemmas.{waits-same}
use Rattle.whole_text.specs.Gathered.{Judging, Leads, behind_these, judged_then, lines_from, nothing, owed_from, told_of}

pub told-silent : {L : Type 0} (r : Result (List L) BadWord) → (told_of nothing r).output ≡ []
told-silent (Ok lines) = refl
told-silent (Err w) = refl

abbrev one : BadWord → Option BadWord
one w = Some w

-- the end of a text and a line of no bytes have no cause in common
apart : {L : Type 0} (tell : List L → List ℕ) (ended : Bool) (w : BadWord) → (told_of tell (cond ended (Ok []) (Err bad.End))).cause ≡ one w → one (empty_fault ended) ≡ one w → ⊥
apart tell true w e f = cc
apart tell false w e f = cc

-- There is no cause that refuses all that may come.
pub owed-unrefused : {F L : Type 0} (j : Judging F L) (p : Progress F) (tell : List L → List ℕ) → IsUnrefused BadWord (owed_from j p tell)
owed-unrefused j p tell = λ w any all.
    let empty : (owed_from j p tell ([] ∷ [])).cause ≡ one (empty_fault (j.is_ended p.form)) =
    ap (λ r. (told_of tell (judged_then r (λ l. lines_from j (record { number = p.number + 1; form = j.after p.form l }) []))).cause) (judge-empty (next_line j.is_ended j.row p)) in
    apart tell (j.is_ended p.form) w (all []) (sym empty ∙ all ([] ∷ []))

-- Nothing is written, and between two lines the text isn't refused.
pub owed-waits : {F L : Type 0} (j : Judging F L) (p : Progress F) (f : Continuation BadWord) → f ≡ owed_from j p nothing → Waits BadWord f
owed-waits j p f same =
    waits-same BadWord f (owed_from j p nothing) same (record { silent = λ line rest clear. told-silent (lines_from j p (line ∷ rest)); unrefused = owed-unrefused j p nothing })

-- no lines lead nowhere
pub leads-itself : {F L : Type 0} (j : Judging F L) (p : Progress F) (known : List L) → Leads j p known [] p known
leads-itself j p known = λ rest. refl

-- some lines, and then others
pub leads-on : {F L : Type 0} (j : Judging F L) (p q r : Progress F) (known then later : List L) (lines others : List (List ℕ)) → Leads j p known lines q then → Leads j q then others r later → Leads j p known (lines ++ others) r later
leads-on j p q r known then later lines others a b = λ rest.
    ap (λ (ls : List (List ℕ)). behind_these known (lines_from j p ls)) (append_assoc lines others rest) ∙ a (others ++ rest) ∙ b rest
