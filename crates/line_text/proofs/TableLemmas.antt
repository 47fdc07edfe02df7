-- What a table takes as a line is one by its grammar, and what is one is taken.
use Rattle.std.proofs.Common.{◌≡◌, ℕ, Bool, true, false, cond, List, [], ◌∷◌, length, Option, Some, None, Ok, Err, refl, sym, ap, subst, ◌∙◌, codes}
use Rattle.std.proofs.lemmas.Bool.{and_parts, eqb-true}
use Rattle.std.proofs.lemmas.Slice.Eq.{bytes_eq-Decides}
use Rattle.line_text.specs.declared.bad_word.BadWord.TheVariants as bad
use Rattle.line_text.specs.Frame.{behind, first_word, header_row, is_header, known_row, row_line, second_word, whole_line, word_among}
use Rattle.line_text.specs.Shapes.{have_one_word, line_from, made_of, tests_for, values, words_for}
use Rattle.line_text.specs.Tables.{Header, InRange, IsHeader, IsRow, IsSound, IsWhole, Line, Parts, PartsInRange, PartsStand, PartsWhole, Spells, SpellsParts, Stands, Table, row_for, row_of, start_row, words_of, words_of_parts}
use Rattle.line_text.proofs.FieldLemmas.{two_words, whole_line-good, whole_line-ok}
use Rattle.line_text.proofs.FrameLemmas.{stood, word_among-text}
use Rattle.line_text.proofs.ShapeLemmas.{AllHaveWords, all-in_range, all-made, all-own, all-spelled, all-taken, all-words, digits_among, has_one_digits}

-- the words of a header
pub header_words : (form first : List ℕ) (args : List (List ℕ)) → is_header form (first ∷ args) ≡ true → first ∷ args ≡ codes "fireflies" ∷ codes "1" ∷ form ∷ []
header_words form first args h =
    let p = and_parts _ _ h in
    let q = and_parts _ _ p.1 in
    let r = and_parts _ _ q.1 in
    let many : length args ≡ 2 = eqb-true (length args) 2 q.0 in
    let x : first ≡ codes "fireflies" = (bytes_eq-Decides first (codes "fireflies")).0 p.0 in
    let y : first_word args ≡ codes "1" = (bytes_eq-Decides (first_word args) (codes "1")).0 r.0 in
    let z : second_word args ≡ form = (bytes_eq-Decides (second_word args) form).0 r.1 in
    let ws = two_words args many in
    cc

pub header_again : (form : List ℕ) → is_header form (codes "fireflies" ∷ codes "1" ∷ form ∷ []) ≡ true
header_again form = rw ((bytes_eq-Decides form form).1 refl) refl

module _ {F W L : Type 0} (t : Table F W L) (sound : IsSound t) where
  -- ## What is taken is a line

  known_spelled : (s : F) (o : Option W) (first : List ℕ) (args : List (List ℕ)) (l : L) → t.is_start s ≡ false → word_among t.text t.words first ≡ o → row_line (known_row (row_of t s) o) args ≡ Ok l → Spells t s (first ∷ args) l
  known_spelled s None first args l start is e = cc
  known_spelled s (Some word) first args l start is e =
      let fs = t.fields s word in
      let fault = (row_of t s word).whole_fault in
      let h = stood (t.may_stand s word) (whole_line (tests_for fs args) fault (line_from fs (t.line s word)) args) bad.Order l e in
      let p = whole_line-ok (tests_for fs args) fault (line_from fs (t.line s word)) args l h.1 in
      let first_is : first ≡ t.text word = word_among-text t.text t.words first word is in
      let row : IsRow t s word (values fs args) (first ∷ args) (line_from fs (t.line s word) args) = record {
        below = start;
        stands = h.0;
        args = args;
        words = ap (λ (w : List ℕ). w ∷ args) first_is;
        spells = all-spelled fs args p.many p.good;
        whole = p.whole;
        made = refl;
      } in
      let parted = sound.parted s word (values fs args) in
      subst (Spells t s (first ∷ args)) p.same (subst (SpellsParts t s (first ∷ args) (line_from fs (t.line s word) args)) (sym parted) row)

  start_spelled : (s : F) (b : Bool) (first : List ℕ) (args : List (List ℕ)) (l : L) → t.is_start s ≡ true → is_header t.form (first ∷ args) ≡ b → row_line (cond b (Ok (header_row t.header)) (Err (t.no_header (first ∷ args)))) args ≡ Ok l → Spells t s (first ∷ args) l
  start_spelled s true first args l start is e =
      let p = whole_line-ok ((header_row t.header).fields args) (header_row t.header).whole_fault (header_row t.header).line args l e in
      let made : IsHeader t s (first ∷ args) t.header = record { stands = start; words = header_words t.form first args is; made = refl } in
      subst (Spells t s (first ∷ args)) p.same (subst (SpellsParts t s (first ∷ args) t.header) (sym (sound.headed s)) made)
  start_spelled s false first args l start is e = cc

  either : (s : F) (b : Bool) (first : List ℕ) (args : List (List ℕ)) (l : L) → t.is_start s ≡ b → row_line (cond b (start_row t (first ∷ args)) (known_row (row_of t s) (word_among t.text t.words first))) args ≡ Ok l → Spells t s (first ∷ args) l
  either s true first args l start e = start_spelled s (is_header t.form (first ∷ args)) first args l start refl e
  either s false first args l start e = known_spelled s (word_among t.text t.words first) first args l start refl e

  -- What is taken as a line is one.
  pub table-spelled : (s : F) (first : List ℕ) (args : List (List ℕ)) (l : L) → row_line (row_for t s (first ∷ args)) args ≡ Ok l → Spells t s (first ∷ args) l
  table-spelled s first args l e = either s (t.is_start s) first args l refl e

  -- ## What is a line is taken

  parts_taken : (s : F) (ws : List (List ℕ)) (l : L) (p : Parts W (t.fields s)) → SpellsParts t s ws l p → row_line (row_for t s ws) (behind ws) ≡ Ok l
  parts_taken s ws l Header h =
      rw h.words (rw (h.stands, header_again t.form) (ap Ok h.made))
  parts_taken s ws l (Line word vs) h =
      let fs = t.fields s word in
      let r = all-taken fs h.args vs h.spells in
      let whole = ap (t.whole_fault s word) r.same ∙ h.whole in
      let good = whole_line-good (tests_for fs h.args) (row_of t s word).whole_fault (line_from fs (t.line s word)) h.args r.many r.good whole in
      rw h.words (rw (h.below, sound.named word, h.stands) (good ∙ ap (λ us. Ok (made_of fs (t.line s word) us)) r.same ∙ ap Ok h.made))

  -- What is a line is taken, as that line.
  pub table-taken : (s : F) (first : List ℕ) (args : List (List ℕ)) (l : L) → Spells t s (first ∷ args) l → row_line (row_for t s (first ∷ args)) args ≡ Ok l
  table-taken s first args l h = parts_taken s (first ∷ args) l (t.parts s l) h

module _ {F W L : Type 0} (t : Table F W L) (s : F) (ws : List (List ℕ)) (l : L) where
  -- ## What the grammar says of a line

  parts_stand : (p : Parts W (t.fields s)) → SpellsParts t s ws l p → PartsStand t s p
  parts_stand Header h = h.stands
  parts_stand (Line word vs) h = h.stands

  pub table-stands : Spells t s ws l → Stands t s l
  table-stands h = parts_stand (t.parts s l) h

  parts_range : (p : Parts W (t.fields s)) → SpellsParts t s ws l p → PartsInRange (t.fields s) p
  parts_range Header h = tt
  parts_range (Line word vs) h = all-in_range (t.fields s word) h.args vs h.spells

  pub table-in_range : Spells t s ws l → InRange t s l
  table-in_range h = parts_range (t.parts s l) h

  parts_whole : (p : Parts W (t.fields s)) → SpellsParts t s ws l p → PartsWhole t s p
  parts_whole Header h = tt
  parts_whole (Line word vs) h = h.whole

  pub table-whole : Spells t s ws l → IsWhole t s l
  table-whole h = parts_whole (t.parts s l) h

  parts_words : ((word : W) → have_one_word (t.fields s word) ≡ true) → (digits : List ℕ) (p : Parts W (t.fields s)) → SpellsParts t s ws l p → ws ≡ words_of_parts t s digits p
  parts_words one digits Header h = h.words
  parts_words one digits (Line word vs) h = h.words ∙ ap (λ (args : List (List ℕ)). t.text word ∷ args) (all-words digits (t.fields s word) h.args vs (one word) h.spells)

  -- Where values have their words alone, a line has one spelling.
  pub table-words : ((word : W) → have_one_word (t.fields s word) ≡ true) → (digits : List ℕ) → Spells t s ws l → ws ≡ words_of t s digits l
  table-words one digits h = parts_words one digits (t.parts s l) h

  parts_own : ((word : W) → has_one_digits (t.fields s word) ≡ true) → (p : Parts W (t.fields s)) → SpellsParts t s ws l p → (digits : List ℕ) × (ws ≡ words_of_parts t s digits p)
  parts_own one Header h = ([], h.words)
  parts_own one (Line word vs) h = (digits_among (t.fields s word) h.args, h.words ∙ ap (λ (args : List (List ℕ)). t.text word ∷ args) (all-own (t.fields s word) h.args vs (one word) h.spells))

  -- Where at most one word spells bytes, a line is spelled by its words with the digits of these.
  pub table-own : ((word : W) → has_one_digits (t.fields s word) ≡ true) → Spells t s ws l → (digits : List ℕ) × (ws ≡ words_of t s digits l)
  table-own one h = parts_own one (t.parts s l) h

module _ {F W L : Type 0} (t : Table F W L) (s : F) (digits : List ℕ) (l : L) where
  -- ## Words that are made of a line

  abbrev pub PartsMake : Parts W (t.fields s) → Type 0
  PartsMake Header = t.header ≡ l
  PartsMake (Line word vs) = made_of (t.fields s word) (t.line s word) vs ≡ l

  abbrev pub PartsHaveWords : Parts W (t.fields s) → Type 0
  PartsHaveWords Header = Unit {0}
  PartsHaveWords (Line word vs) = AllHaveWords digits (t.fields s word) vs

  parts_made : ((word : W) → t.may_stand s word ≡ true → t.is_start s ≡ false) → (p : Parts W (t.fields s)) → PartsMake p → PartsStand t s p → PartsInRange (t.fields s) p → PartsWhole t s p → PartsHaveWords p → SpellsParts t s (words_of_parts t s digits p) l p
  parts_made below Header made stands range whole has = record { stands = stands; words = refl; made = made }
  parts_made below (Line word vs) made stands range whole has =
      record { below = below word stands; stands = stands; args = words_for digits (t.fields s word) vs; words = refl; spells = all-made digits (t.fields s word) vs range has; whole = whole; made = made }

  -- The words of a line that may stand here, with its values in range, spell it, where nothing refuses them as a whole.
  pub table-made : ((word : W) → t.may_stand s word ≡ true → t.is_start s ≡ false) → PartsMake (t.parts s l) → Stands t s l → InRange t s l → IsWhole t s l → PartsHaveWords (t.parts s l) → Spells t s (words_of t s digits l) l
  table-made below made stands range whole has = parts_made below (t.parts s l) made stands range whole has
