-- How the lines of a text begin.
use Rattle.std.proofs.Common.{◌≡◌, ℕ, Bool, true, false, not, eqb, List, [], ◌∷◌, ◌++◌, refl, ap, sym, ◌∙◌, append_assoc, subst}
use Rattle.std.proofs.lemmas.Bool.{and_parts, cond-false}
use Rattle.std.proofs.lemmas.List.{append-nil}
use Rattle.text_trace.specs.Lines.{lines_of, onto_first, has_no_feed}

-- a front without a line feed goes onto the first line of what follows it
abbrev onto : List ℕ → List (List ℕ) → List (List ℕ)
onto [] lines = lines
onto (b ∷ front) lines = onto_first b (onto front lines)

not_true : (t : Bool) → not t ≡ true → t ≡ false
not_true true e = cc
not_true false e = refl

onto_one : (b : ℕ) (lines : List (List ℕ)) (text : List ℕ) → eqb b 10 ≡ false → lines_of text ≡ lines → lines_of (b ∷ text) ≡ onto_first b lines
onto_one b lines text apart same = cond-false (eqb b 10) ((b ∷ []) ∷ lines_of text) (onto_first b (lines_of text)) apart ∙ ap (onto_first b) same

lines_of-front : (front rest : List ℕ) → has_no_feed front ≡ true → lines_of (front ++ rest) ≡ onto front (lines_of rest)
lines_of-front [] rest clear = refl
lines_of-front (b ∷ front) rest clear =
    let parts = and_parts (not (eqb b 10)) (has_no_feed front) clear in
    onto_one b (onto front (lines_of rest)) (front ++ rest) (not_true (eqb b 10) parts.0) (lines_of-front front rest parts.1)

onto-line : (front line : List ℕ) (lines : List (List ℕ)) → onto front (line ∷ lines) ≡ (front ++ line) ∷ lines
onto-line [] line lines = refl
onto-line (b ∷ front) line lines = ap (onto_first b) (onto-line front line lines)

onto-none : (b : ℕ) (front : List ℕ) → onto (b ∷ front) [] ≡ (b ∷ front) ∷ []
onto-none b [] = refl
onto-none b (c ∷ front) = ap (onto_first b) (onto-none c front)

-- a line that its only line feed ends stands first
pub lines_of-fed : (front rest : List ℕ) → has_no_feed front ≡ true → lines_of ((front ++ 10 ∷ []) ++ rest) ≡ (front ++ 10 ∷ []) ∷ lines_of rest
lines_of-fed front rest clear =
    rw append_assoc (lines_of-front front (10 ∷ rest) clear ∙ onto-line front (10 ∷ []) (lines_of rest))

-- bytes without a line feed at the end of a text are its last line
pub lines_of-rest : (b : ℕ) (rest : List ℕ) → has_no_feed (b ∷ rest) ≡ true → lines_of (b ∷ rest) ≡ (b ∷ rest) ∷ []
lines_of-rest b rest clear = ap lines_of (sym (append-nil (b ∷ rest))) ∙ lines_of-front (b ∷ rest) [] clear ∙ onto-none b rest

-- what a first line begins with
pub record IsBegun (front : List ℕ) (lines : List (List ℕ)) : Type 0 where
  pub more : List ℕ
  pub others : List (List ℕ)
  pub same : lines ≡ (front ++ more) ∷ others

begun : (b : ℕ) (front : List ℕ) (lines : List (List ℕ)) → IsBegun (b ∷ front) (onto (b ∷ front) lines)
begun b front [] = record { more = []; others = []; same = onto-none b front ∙ ap (λ (l : List ℕ). l ∷ []) (sym (append-nil (b ∷ front))) }
begun b front (line ∷ lines) = record { more = line; others = lines; same = onto-line (b ∷ front) line lines }

-- bytes without a line feed begin the first line of a text
pub lines_of-begun : (b : ℕ) (front rest : List ℕ) → has_no_feed (b ∷ front) ≡ true → IsBegun (b ∷ front) (lines_of ((b ∷ front) ++ rest))
lines_of-begun b front rest clear =
    let P : List (List ℕ) → Type 0 = λ lines. IsBegun (b ∷ front) lines in
    subst P (sym (lines_of-front (b ∷ front) rest clear)) (begun b front (lines_of rest))
