-- What a line adds to those that were read, and what stops the reading.
use Rattle.std.proofs.Common.{◌≡◌, ℕ, true, List, [], ◌∷◌, ◌++◌, Some, refl, sym, ap, subst, ◌∙◌, append_assoc, Result, Ok, Err}
use Rattle.std.specs.Prelude.{IsOkAnd, IfErr}
use Rattle.line_text.specs.declared.bad_word.BadWord.{BadWord}
use Rattle.line_text.specs.Answers.{Progress, moved, next_line}
use Rattle.line_text.specs.Frame.{IsLine, judge, row_line}
use Rattle.line_text.proofs.FrameLemmas.{judge-spelled, line-fed}
use Rattle.play.specs.Answers.{AnswersLine}
use Rattle.play.specs.declared.script.Refusal.{Refusal}
use Rattle.play.specs.declared.script.Refusal.TheVariants as refusal
use Rattle.text_trace.specs.Lines.{has_line_feed}
use Rattle.text_trace.specs.Trace.{Admits, before, Every, Continuation, Refuses, Steps, Trace}
use Rattle.text_trace.proofs.TraceLemmas.{free-as}
use Rattle.whole_text.specs.Gathered.{Judging, Leads, behind_these, judged_then, lines_from, nothing, owed_from, told_of}
use Rattle.whole_text.specs.Laws.{owed-unrefused}

-- The judgement of a line.
abbrev pub judged_at : {F L : Type 0} → Judging F L → Progress F → List ℕ → Result L BadWord
judged_at j p bytes = judge (next_line j.is_ended j.row p) bytes

one-line : {F L : Type 0} (j : Judging F L) (p : Progress F) (bytes : List ℕ) (r : Result L BadWord) (rest : List (List ℕ)) → judged_at j p bytes ≡ r → lines_from j p (bytes ∷ rest) ≡ judged_then r (λ l. lines_from j (moved j.after p l) rest)
one-line j p bytes r rest is = ap (λ x. judged_then x (λ l. lines_from j (moved j.after p l) rest)) is

silent-behind : {L : Type 0} (l : L) (r : Result (List L) BadWord) → told_of nothing (behind_these (l ∷ []) r) ≡ before [] (told_of nothing r)
silent-behind l (Ok lines) = refl
silent-behind l (Err w) = refl

owed-one : {F L : Type 0} (j : Judging F L) (p : Progress F) (bytes : List ℕ) (l : L) (f : Continuation BadWord) → f ≡ owed_from j p nothing → judged_at j p bytes ≡ Ok l → (rest : List (List ℕ)) → f (bytes ∷ rest) ≡ before [] (owed_from j (moved j.after p l) nothing rest)
owed-one j p bytes l f same is rest =
    ap (λ (g : Continuation BadWord). g (bytes ∷ rest)) same ∙ ap (told_of nothing) (one-line j p bytes (Ok l) rest is) ∙ silent-behind l (lines_from j (moved j.after p l) rest)

-- a line that is one
pub steps-one : {F L : Type 0} (j : Judging F L) (p q : Progress F) (bytes : List ℕ) (l : L) → judged_at j p bytes ≡ Ok l → q ≡ moved j.after p l → Steps BadWord (λ f. f ≡ owed_from j p nothing) (λ f. f ≡ owed_from j q nothing) (bytes ∷ []) []
steps-one j p q bytes l is to =
    subst (λ q. Steps BadWord (λ f. f ≡ owed_from j p nothing) (λ f. f ≡ owed_from j q nothing) (bytes ∷ []) []) (sym to)
    (λ f same. record { later = owed_from j (moved j.after p l) nothing; owes = refl; same = owed-one j p bytes l f same is })

joined : {L : Type 0} (known : List L) (l : L) (r : Result (List L) BadWord) → behind_these known (behind_these (l ∷ []) r) ≡ behind_these (known ++ l ∷ []) r
joined known l (Ok lines) = ap Ok (sym (append_assoc known (l ∷ []) lines))
joined known l (Err w) = refl

pub leads-one : {F L : Type 0} (j : Judging F L) (p q : Progress F) (known later : List L) (bytes : List ℕ) (l : L) → judged_at j p bytes ≡ Ok l → q ≡ moved j.after p l → later ≡ known ++ l ∷ [] → Leads j p known (bytes ∷ []) q later
leads-one j p q known later bytes l is to grew =
    subst (λ q. Leads j p known (bytes ∷ []) q later) (sym to)
    (subst (λ ls. Leads j p known (bytes ∷ []) (moved j.after p l) ls) (sym grew)
    (λ rest. ap (behind_these known) (one-line j p bytes (Ok l) rest is) ∙ joined known l (lines_from j (moved j.after p l) rest)))

-- a line that is refused
pub refused-one : {F L : Type 0} (j : Judging F L) (p : Progress F) (bytes : List ℕ) (w : BadWord) → judged_at j p bytes ≡ Err w → Refuses BadWord (λ f. f ≡ owed_from j p nothing) [] (Some bytes) [] w
refused-one j p bytes w is = λ f same rest.
    ap (λ (g : Continuation BadWord). g (bytes ∷ rest)) same ∙ ap (told_of nothing) (one-line j p bytes (Err w) rest is)

admits-one : {F L : Type 0} (j : Judging F L) (p : Progress F) (bytes : List ℕ) (l : L) → judged_at j p bytes ≡ Ok l → Admits BadWord Every (λ f. f ≡ owed_from j p nothing) [] (Some bytes)
admits-one j p bytes l is = λ f same.
    free-as BadWord Every (λ rest. f (bytes ∷ rest)) (owed_from j (moved j.after p l) nothing)
    (λ rest. ap (λ (t : Trace BadWord). t.cause) (owed-one j p bytes l f same is rest))
    (owed-unrefused j (moved j.after p l) nothing)

-- what a form takes is a line by its grammar
abbrev pub Spelled : {F L : Type 0} → Judging F L → (F → List (List ℕ) → L → Type 0) → Type 0
Spelled {F = F} {L = L} j Spells = (s : F) (first : List ℕ) (others : List (List ℕ)) (l : L) → row_line (j.row s (first ∷ others)) others ≡ Ok l → Spells s (first ∷ others) l

pub line-is : {F L : Type 0} (j : Judging F L) (Spells : F → List (List ℕ) → L → Type 0) (spelled : Spelled j Spells) (p : Progress F) (bytes : List ℕ) (l : L) → judged_at j p bytes ≡ Ok l → IsLine (j.is_ended p.form) p.number (Spells p.form) bytes l
line-is j Spells spelled p bytes l e = judge-spelled (next_line j.is_ended j.row p) (Spells p.form) (spelled p.form) bytes l e

-- memory was refused for a line that is one
pub starved-one : {F L : Type 0} (j : Judging F L) (Spells : F → List (List ℕ) → L → Type 0) (spelled : Spelled j Spells) (p : Progress F) (bytes : List ℕ) (l : L) → judged_at j p bytes ≡ Ok l → (has_line_feed bytes ≡ true) × Admits BadWord Every (λ f. f ≡ owed_from j p nothing) [] (Some bytes)
starved-one j Spells spelled p bytes l is = (
  line-fed (j.is_ended p.form) p.number (Spells p.form) bytes l (line-is j Spells spelled p bytes l is),
  admits-one j p bytes l is,
)

pub starved-some : {F L : Type 0} (j : Judging F L) (Takes : L → Type 0) (Spells : F → List (List ℕ) → L → Type 0) (spelled : Spelled j Spells) (p : Progress F) (bytes : List ℕ) (r : Result L BadWord) → judged_at j p bytes ≡ r → IsOkAnd r Takes → (has_line_feed bytes ≡ true) × Admits BadWord Every (λ f. f ≡ owed_from j p nothing) [] (Some bytes)
starved-some j Takes Spells spelled p bytes (Ok l) is takes = starved-one j Spells spelled p bytes l is
starved-some j Takes Spells spelled p bytes (Err w) is takes = absurd takes

-- a line that was kept, or for which memory was refused
pub kept-one : {F L : Type 0} (j : Judging F L) (Spells : F → List (List ℕ) → L → Type 0) (spelled : Spelled j Spells) (p q : Progress F) (bytes text : List ℕ) (l : L) (r : Result (Unit {0}) (Refusal BadWord))
    → judged_at j p bytes ≡ Ok l → q ≡ moved j.after p l → text ≡ [] → IfErr r (λ e. e ≡ refusal.OutOfMemory) → AnswersLine BadWord Every (λ f. f ≡ owed_from j p nothing) (λ f. f ≡ owed_from j q nothing) bytes text r
kept-one j Spells spelled p q bytes text l (Ok _) is to none memory = (
  line-fed (j.is_ended p.form) p.number (Spells p.form) bytes l (line-is j Spells spelled p bytes l is),
  subst (Steps BadWord (λ f. f ≡ owed_from j p nothing) (λ f. f ≡ owed_from j q nothing) (bytes ∷ [])) (sym none) (steps-one j p q bytes l is to),
)
kept-one j Spells spelled p q bytes text l (Err (refusal.Refused w)) is to none memory = cc
kept-one j Spells spelled p q bytes text l (Err refusal.OutOfMemory) is to none memory = starved-one j Spells spelled p bytes l is
