-- The lines of a whole text, one after the other.
use Rattle.std.proofs.Common.{◌≡◌, ℕ, Bool, true, false, cond, List, [], ◌∷◌, refl, sym, subst, ◌∙◌, Result, Ok, Err}
use Rattle.std.proofs.lemmas.Bool.{false≢true}
use Rattle.std.specs.List.{AllByRecursion}
use Rattle.line_text.specs.declared.bad_word.BadWord.{BadWord}
use Rattle.line_text.specs.declared.bad_word.BadWord.TheVariants as bad
use Rattle.line_text.specs.Answers.{Progress, moved}
use Rattle.whole_text.specs.Gathered.{Judging, behind_these, judged_then, lines_from}
use Rattle.whole_text.proofs.GatherLemmas.{Spelled, judged_at, line-is}

-- the lines begin with this one
pub record IsNext {F L : Type 0} (j : Judging F L) (p : Progress F) (seen : List (List ℕ)) (lines : List L) : Type 0 where
  pub bytes : List ℕ
  pub rest : List (List ℕ)
  pub line : L
  pub more : List L
  pub is : judged_at j p bytes ≡ Ok line
  pub lines_are : lines ≡ line ∷ more
  pub later : lines_from j (moved j.after p line) rest ≡ Ok more

record Parted {L : Type 0} (l : L) (r : Result (List L) BadWord) (lines : List L) : Type 0 where
  more : List L
  is : r ≡ Ok more
  are : lines ≡ l ∷ more

parted : {L : Type 0} (l : L) (r : Result (List L) BadWord) (lines : List L) → behind_these (l ∷ []) r ≡ Ok lines → Parted l r lines
parted l (Ok more) lines e = record { more = more; is = refl; are = cc }
parted l (Err w) lines e = cc

judged-next : {F L : Type 0} (j : Judging F L) (p : Progress F) (bytes : List ℕ) (rest : List (List ℕ)) (lines : List L) (r : Result L BadWord) → judged_at j p bytes ≡ r → judged_then r (λ l. lines_from j (moved j.after p l) rest) ≡ Ok lines → IsNext j p (bytes ∷ rest) lines
judged-next j p bytes rest lines (Ok l) is e =
    let h = parted l (lines_from j (moved j.after p l) rest) lines e in
    record { bytes = bytes; rest = rest; line = l; more = h.more; is = is; lines_are = h.are; later = h.is }
judged-next j p bytes rest lines (Err w) is e = cc

none-ended : {L : Type 0} (b : Bool) (lines : List L) → b ≡ false → cond b (Ok []) (Err bad.End) ≡ Ok lines → ⊥
none-ended true lines going e = cc
none-ended false lines going e = cc

-- where the last line wasn't read, there is another
pub next-line : {F L : Type 0} (j : Judging F L) (p : Progress F) (seen : List (List ℕ)) (lines : List L) → lines_from j p seen ≡ Ok lines → j.is_ended p.form ≡ false → IsNext j p seen lines
next-line j p [] lines e going = absurd (none-ended (j.is_ended p.form) lines going e)
next-line j p (bytes ∷ rest) lines e going = judged-next j p bytes rest lines (judged_at j p bytes) refl e

none-more : {L : Type 0} (b : Bool) (lines : List L) → cond b (Ok []) (Err bad.End) ≡ Ok lines → lines ≡ []
none-more true lines e = cc
none-more false lines e = cc

-- behind the last line there is none
last-judged : {F L : Type 0} (j : Judging F L) (Spells : F → List (List ℕ) → L → Type 0) (spelled : Spelled j Spells) (p : Progress F) (bytes : List ℕ) (more : L → Result (List L) BadWord) (lines : List L) (r : Result L BadWord)
    → judged_at j p bytes ≡ r → j.is_ended p.form ≡ true → judged_then r more ≡ Ok lines → lines ≡ []
last-judged j Spells spelled p bytes more lines (Ok l) is ended e = absurd (false≢true (sym (line-is j Spells spelled p bytes l is).going ∙ ended))
last-judged j Spells spelled p bytes more lines (Err w) is ended e = cc

pub last-line : {F L : Type 0} (j : Judging F L) (Spells : F → List (List ℕ) → L → Type 0) (spelled : Spelled j Spells) (p : Progress F) (seen : List (List ℕ)) (lines : List L) → lines_from j p seen ≡ Ok lines → j.is_ended p.form ≡ true → lines ≡ []
last-line j Spells spelled p [] lines e ended = none-more (j.is_ended p.form) lines e
last-line j Spells spelled p (bytes ∷ rest) lines e ended = last-judged j Spells spelled p bytes (λ l. lines_from j (moved j.after p l) rest) lines (judged_at j p bytes) refl ended e

-- each of the lines is one by the grammar
each-judged : {F L : Type 0} (j : Judging F L) (Spells : F → List (List ℕ) → L → Type 0) (spelled : Spelled j Spells) (P : L → Type 0) → ((form : F) (words : List (List ℕ)) (l : L) → Spells form words l → P l)
    → (p : Progress F) (bytes : List ℕ) (more : L → Result (List L) BadWord) (lines : List L) (r : Result L BadWord) → judged_at j p bytes ≡ r → ((l : L) (others : List L) → more l ≡ Ok others → AllByRecursion P others) → judged_then r more ≡ Ok lines → AllByRecursion P lines
each-judged j Spells spelled P holds p bytes more lines (Ok l) is others e =
    let h = parted l (more l) lines e in
    let one = (line-is j Spells spelled p bytes l is) in
    subst (AllByRecursion P) (sym h.are) (holds p.form (one.first ∷ one.others) l one.spells, others l h.more h.is)
each-judged j Spells spelled P holds p bytes more lines (Err w) is others e = cc

pub each-line : {F L : Type 0} (j : Judging F L) (Spells : F → List (List ℕ) → L → Type 0) (spelled : Spelled j Spells) (P : L → Type 0) → ((form : F) (words : List (List ℕ)) (l : L) → Spells form words l → P l)
    → (seen : List (List ℕ)) (p : Progress F) (lines : List L) → lines_from j p seen ≡ Ok lines → AllByRecursion P lines
each-line j Spells spelled P holds [] p lines e = subst (AllByRecursion P) (sym (none-more (j.is_ended p.form) lines e)) tt
each-line j Spells spelled P holds (bytes ∷ rest) p lines e =
    each-judged j Spells spelled P holds p bytes (λ l. lines_from j (moved j.after p l) rest) lines (judged_at j p bytes) refl
    (λ l others h. each-line j Spells spelled P holds rest (moved j.after p l) others h) e
