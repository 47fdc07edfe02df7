-- What is taken as a line is one by the grammar, and what is one is taken; a line is refused by the first bad word.
use Rattle.std.proofs.Common.{◌≡◌, ℕ, suc, ◌-◌, ◌<◌, ◌≤◌, Bool, true, false, not, cond, eqb, List, [], ◌∷◌, ◌++◌, length, take, drop, Option, Some, None, Result, Ok, Err, ◌⊎◌, inl, inr, refl, sym, ap, subst, ◌∙◌, arith, lt-ltb, le-ltb, ltb-true, drop-cons}
use Rattle.std.specs.Prelude.{IsOkAnd}
use Rattle.std.specs.Str.{bytes_eq}
use Rattle.std.specs.List.{join_with_byte, list_all, All, AllByRecursion}
use Rattle.std.proofs.lemmas.Bool.{false≢true, leb-true, ne_eqb, eqb-true, and_parts, ltb-false, not-false}
use Rattle.std.proofs.lemmas.List.{length-append, get_or_at, take_at, take-append-drop, drop_all}
use Rattle.std.proofs.lemmas.List.Folds.{list_all-append}
use Rattle.std.proofs.lemmas.List.Elements.{All-from_recursion}
use Rattle.std.proofs.lemmas.List.Splits.{slice_split_none, slice_split_at, length-slice_split, join_with_byte-slice_split}
use Rattle.std.proofs.lemmas.Slice.Eq.{bytes_eq-Decides}
use Rattle.text_trace.specs.Lines.{has_no_feed}
use Rattle.line_text.specs.declared.bad_word.BadWord.{BadWord}
use Rattle.line_text.specs.declared.bad_word.BadWord.TheVariants as bad
use Rattle.line_text.specs.declared.bad_word.LineFault.{LineFault}
use Rattle.line_text.specs.declared.bad_word.LineFault.TheVariants as faults
use Rattle.line_text.specs.Answers.{AnswersBy, AnswersThat, Refuses}
use Rattle.line_text.specs.Fields.{bad_where}
use Rattle.line_text.specs.Frame.{IsLine, Next, Row, before_line_feed, behind, field_tests, first_bad, first_of, frame_tests, has_line_feed, header_row, is_header, judge, line_bytes, or_else, row_line, row_of_line, row_tests, text_lines, text_tests, unless_bad, word_among, words_in}
use Rattle.line_text.specs.Words.{is_space, is_printable, is_word, is_spaced, parts}

-- ## Tests that did not hold

pub or_none : (a b : Option BadWord) → or_else a b ≡ None → (a ≡ None) × (b ≡ None)
or_none None b e = (refl, e)
or_none (Some bad_word) b e = cc

pub passed : (word : BadWord) (b : Bool) → bad_where word b ≡ None → b ≡ false
passed w true e = cc
passed w false e = refl

pub unless_ok : {L : Type 0} (o : Option BadWord) (r : Result L BadWord) (l : L) → unless_bad o r ≡ Ok l → (o ≡ None) × (r ≡ Ok l)
unless_ok None r l e = (refl, e)
unless_ok (Some bad_word) r l e = cc

-- ## The words of a text

no_space : (w : List ℕ) → list_all is_printable w ≡ true → AllByRecursion (λ x. is_space x ≡ false) w
no_space [] h = tt
no_space (x ∷ w) h =
    let p = and_parts _ _ h in
    let r = and_parts _ _ p.0 in
    let low = leb-true 33 x r.0 in
    (ne_eqb x 32 (λ e. absurd (omega (arith, e))), no_space w p.1)

printable : (w : List ℕ) → is_word w ≡ true → All (λ x. is_space x ≡ false) w
printable w h = All-from_recursion (λ x. is_space x ≡ false) w (no_space w (and_parts _ _ h).1)

pub parts-joined : (w : List ℕ) (ws : List (List ℕ)) → list_all is_word (w ∷ ws) ≡ true → parts (join_with_byte 32 (w ∷ ws)) ≡ w ∷ ws
parts-joined w [] h = slice_split_none is_space w (printable w (and_parts _ _ h).0)
parts-joined w (v ∷ vs) h =
    let p = and_parts _ _ h in
    slice_split_at is_space w 32 (join_with_byte 32 (v ∷ vs)) (printable w p.0) refl ∙ ap (λ (rest : List (List ℕ)). w ∷ rest) (parts-joined v vs p.1)

-- ## The line feed

fed : (bytes : List ℕ) → has_line_feed bytes ≡ true → bytes ≡ before_line_feed bytes ++ 10 ∷ []
fed bytes h =
    let b = and_parts _ _ h in
    let full = ltb-true 0 (length bytes) b.0 in
    let last = length bytes - 1 in
    let whole : suc last ≡ length bytes = omega arith in
    let here : last < length bytes = omega arith in
    let end : drop last bytes ≡ 10 ∷ [] = rw (drop-cons bytes last 0 here) (rw (eqb-true _ _ b.1, drop_all (suc last) bytes (omega arith)) refl) in
    rw h (sym (take-append-drop last bytes) ∙ ap (λ (rest : List ℕ). take last bytes ++ rest) end)

pub fed_again : (text : List ℕ) → has_line_feed (text ++ 10 ∷ []) ≡ true
fed_again text =
    let many = length-append text (10 ∷ []) in
    let last = get_or_at text 10 [] 0 (length (text ++ 10 ∷ []) - 1) (omega (arith, many)) in
    rw (lt-ltb 0 (length (text ++ 10 ∷ [])) (omega (arith, many)), last) refl

unfed_again : (text : List ℕ) → before_line_feed (text ++ 10 ∷ []) ≡ text
unfed_again text =
    let many = length-append text (10 ∷ []) in
    rw (fed_again text) (take_at text (10 ∷ []) (length (text ++ 10 ∷ []) - 1) (omega (arith, many)))

-- ## A line

-- the words of a text, of which there is a first one
record Worded (ws : List (List ℕ)) : Type 0 where
  first : List ℕ
  others : List (List ℕ)
  same : ws ≡ first ∷ others

worded : (ws : List (List ℕ)) → 0 < length ws → Worded ws
worded [] full = absurd (omega arith)
worded (w ∷ ws) full = record { first = w; others = ws; same = refl }

has_parts : (text : List ℕ) → 0 < length (parts text)
has_parts text = omega (arith, length-slice_split is_space text)

-- What is judged to be a line is one by the grammar, where a form's rows spell its lines.
pub judge-spelled : {L : Type 0} (next : Next L) (Spells : List (List ℕ) → L → Type 0) → ((first : List ℕ) (others : List (List ℕ)) (l : L) → row_line (next.row (first ∷ others)) others ≡ Ok l → Spells (first ∷ others) l)
    → (bytes : List ℕ) (l : L) → judge next bytes ≡ Ok l → IsLine next.ended next.number Spells bytes l
unfolding judge
judge-spelled {L} next Spells spelled bytes l e =
    let text = before_line_feed bytes in
    let u = unless_ok (first_of (frame_tests next.ended next.number bytes)) (row_line (next.row (words_in bytes)) (behind (words_in bytes))) l e in
    let a = or_none _ _ u.0 in
    let b = or_none _ _ a.1 in
    let c = or_none _ _ b.1 in
    let d = or_none _ _ c.1 in
    let f = or_none _ _ d.1 in
    let spaced : is_spaced text ≡ true = not-false _ (passed _ _ f.0) in
    let short : length text ≤ line_bytes = ltb-false line_bytes (length text) (passed _ _ b.0) in
    let feed : has_line_feed bytes ≡ true = not-false _ (passed _ _ c.0) in
    let w = worded (parts text) (has_parts text) in
    let joined : join_with_byte 32 (w.first ∷ w.others) ≡ text = ap (join_with_byte 32) (sym w.same) ∙ join_with_byte-slice_split 32 text in
    let P : List (List ℕ) → Type 0 = λ ws. row_line (next.row ws) (behind ws) ≡ Ok l in
    let Q : List (List ℕ) → Type 0 = λ ws. list_all is_word ws ≡ true in
    record {
      first = w.first;
      others = w.others;
      spells = spelled w.first w.others l (subst P w.same u.1);
      words = subst Q w.same spaced;
      spaced = fed bytes feed ∙ ap (λ (t : List ℕ). t ++ 10 ∷ []) (sym joined);
      short = subst (λ (t : List ℕ). length t ≤ line_bytes) (sym joined) short;
      few = ltb-false text_lines next.number (passed _ _ d.0);
      going = passed _ _ a.0;
    }

-- What is a line by the grammar is judged to be that line, where a form's rows take what is spelled.
pub judge-taken : {L : Type 0} (next : Next L) (Spells : List (List ℕ) → L → Type 0) → ((first : List ℕ) (others : List (List ℕ)) (l : L) → Spells (first ∷ others) l → row_line (next.row (first ∷ others)) others ≡ Ok l)
    → (bytes : List ℕ) (l : L) → IsLine next.ended next.number Spells bytes l → judge next bytes ≡ Ok l
unfolding judge
judge-taken next Spells taken bytes l h =
    let text = join_with_byte 32 (h.first ∷ h.others) in
    let cut = parts-joined h.first h.others h.words in
    let row = taken h.first h.others l h.spells in
    rw h.spaced
    (rw (unfed_again text, fed_again text, h.going, le-ltb line_bytes (length text) h.short, le-ltb text_lines next.number h.few)
    (rw cut (rw h.words row)))

-- ## The first bad word

first_of-append : (a b : List (Option BadWord)) → first_of (a ++ b) ≡ or_else (first_of a) (first_of b)
first_of-append [] b = refl
first_of-append (None ∷ a) b = first_of-append a b
first_of-append (Some w ∷ a) b = refl

-- What is judged, beside the first bad word of its tests.
abbrev Tests : {L : Type 0} → Option BadWord → Result L BadWord → Type 0
Tests word (Ok l) = word ≡ None
Tests word (Err w) = word ≡ Some w

tests_unless : {L : Type 0} (a b : Option BadWord) (r : Result L BadWord) → Tests b r → Tests (or_else a b) (unless_bad a r)
tests_unless None b r h = h
tests_unless (Some w) b r h = refl

tests_stand : {L : Type 0} (stands : Bool) (b : Option BadWord) (r : Result L BadWord) → Tests b r → Tests (or_else (bad_where bad.Order (not stands)) b) (cond stands r (Err bad.Order))
tests_stand true b r h = h
tests_stand false b r h = refl

row_tested : {L : Type 0} (row : Result (Row L) BadWord) (words : List (List ℕ)) → Tests (first_of (row_tests row words)) (row_line row words)
row_tested (Err w) words = refl
row_tested {L} (Ok row) words =
    let a = field_tests (row.fields words) words in
    let f = row.whole_fault words in
    let good : Result L BadWord = Ok (row.line words) in
    let whole = tests_unless f None good refl in
    let each = tests_unless (first_of a) (or_else f None) (unless_bad f good) whole in
    let judged : Result L BadWord = unless_bad (first_of a) (unless_bad f good) in
    tests_stand row.stands (first_of (a ++ f ∷ [])) judged (subst (λ (w : Option BadWord). Tests w judged) (sym (first_of-append a (f ∷ []))) each)

-- A line is refused by its first bad word, and taken where it has none.
pub judge-first_bad : {L : Type 0} (next : Next L) (bytes : List ℕ) → Tests (first_bad next bytes) (judge next bytes)
unfolding judge first_bad
judge-first_bad {L} next bytes =
    let a = frame_tests next.ended next.number bytes in
    let row = next.row (words_in bytes) in
    let words = behind (words_in bytes) in
    let r : Result L BadWord = row_line row words in
    subst (λ (w : Option BadWord). Tests w (unless_bad (first_of a) r)) (sym (first_of-append a (row_tests row words)))
    (tests_unless (first_of a) (first_of (row_tests row words)) r (row_tested row words))

-- ## Answers

ok_same : {L : Type 0} (x y : L) (r : Result L BadWord) → r ≡ Ok y → r ≡ Ok x → x ≡ y
ok_same x y r e f = cc

judged_ok : {L : Type 0} (Takes : L → Type 0) (r : Result L BadWord) (w : Option BadWord) → IsOkAnd r Takes → Tests w r → w ≡ None
judged_ok Takes (Ok l) w h t = t
judged_ok Takes (Err b) w h t = absurd h

answer_refuses : {L : Type 0} (Takes : L → Type 0) (judged : Result L BadWord) (word : Option BadWord) (answer : Result L LineFault) → Tests word judged → AnswersBy Takes judged answer → Refuses word answer
answer_refuses {L} Takes judged word (Ok l) t h = subst (λ (r : Result L BadWord). Tests word r) h t
answer_refuses {L} Takes judged word (Err (faults.Bad w)) t h = subst (λ (r : Result L BadWord). Tests word r) h t
answer_refuses Takes judged word (Err faults.OutOfMemory) t h = judged_ok Takes judged word h t

pub answer-refuses : {L : Type 0} (Takes : L → Type 0) (next : Next L) (bytes : List ℕ) (answer : Result L LineFault) → AnswersBy Takes (judge next bytes) answer → Refuses (first_bad next bytes) answer
answer-refuses Takes next bytes answer h = answer_refuses Takes (judge next bytes) (first_bad next bytes) answer (judge-first_bad next bytes) h

pub answer-that : {L : Type 0} (Takes : L → Type 0) (judged : Result L BadWord) (l : L) (answer : Result L LineFault) → judged ≡ Ok l → AnswersBy Takes judged answer → AnswersThat Takes l answer
answer-that Takes judged l (Ok x) e h = ok_same x l judged e h
answer-that Takes judged l (Err (faults.Bad w)) e h = cc
answer-that {L} Takes judged l (Err faults.OutOfMemory) e h = subst (λ (r : Result L BadWord). IsOkAnd r Takes) e h

abbrev there : {A : Type 0} → A → Option A
there x = Some x

some_is : {A : Type 0} (x y : A) → there x ≡ there y → x ≡ y
some_is x y e = cc

-- What the frame finds is the judgement.
frame_found : (ended : Bool) (number : ℕ) (bytes : List ℕ) (spaced : Bool) (found : Option BadWord) → first_of (text_tests ended number bytes) ≡ found → is_spaced (before_line_feed bytes) ≡ spaced
    → first_of (frame_tests ended number bytes) ≡ or_else found (or_else (bad_where bad.Spaces (not spaced)) None)
frame_found ended number bytes spaced found e s =
    first_of-append (text_tests ended number bytes) (bad_where bad.Spaces (not (is_spaced (before_line_feed bytes))) ∷ [])
    ∙ ap (λ (w : Option BadWord). or_else w (or_else (bad_where bad.Spaces (not (is_spaced (before_line_feed bytes)))) None)) e
    ∙ ap (λ (b : Bool). or_else found (or_else (bad_where bad.Spaces (not b)) None)) s

same_tests : {L : Type 0} (next : Next L) (ended : Bool) (number : ℕ) (bytes : List ℕ) → ended ≡ next.ended → number ≡ next.number → first_of (text_tests next.ended next.number bytes) ≡ first_of (text_tests ended number bytes)
same_tests next ended number bytes e n =
    sym (ap (λ (b : Bool). first_of (text_tests b number bytes)) e ∙ ap (λ (k : ℕ). first_of (text_tests next.ended k bytes)) n)

pub frame-bad : {L : Type 0} (next : Next L) (ended : Bool) (number : ℕ) (bytes : List ℕ) (w : BadWord) → ended ≡ next.ended → number ≡ next.number → first_of (text_tests ended number bytes) ≡ Some w → judge next bytes ≡ Err w
unfolding judge
frame-bad next ended number bytes w e n bad =
    rw (frame_found next.ended next.number bytes _ (Some w) (same_tests next ended number bytes e n ∙ bad) refl) refl

-- Words that aren't spaced are the judgement, where the frame finds nothing before them.
unspaced : (spaced : Bool) (w : BadWord) → bad_where bad.Spaces (not spaced) ≡ Some w → (spaced ≡ false) × (bad.Spaces ≡ w)
unspaced true w e = cc
unspaced false w e = (refl, some_is bad.Spaces w e)

pub spaces-bad : {L : Type 0} (next : Next L) (ended : Bool) (number : ℕ) (bytes text : List ℕ) (w : BadWord) → ended ≡ next.ended → number ≡ next.number → first_of (text_tests ended number bytes) ≡ None
    → text ≡ before_line_feed bytes → bad_where bad.Spaces (not (is_spaced text)) ≡ Some w → judge next bytes ≡ Err w
unfolding judge
spaces-bad next ended number bytes text w e n good of bad =
    let u = unspaced (is_spaced text) w bad in
    rw (frame_found next.ended next.number bytes false None (same_tests next ended number bytes e n ∙ good) (ap is_spaced (sym of) ∙ u.0)) (ap (λ (x : BadWord). Err x) u.1)

-- Where the frame finds nothing, what the form finds is the judgement.
pub frame-good : {L : Type 0} (next : Next L) (ended : Bool) (number : ℕ) (bytes text : List ℕ) → ended ≡ next.ended → number ≡ next.number → first_of (text_tests ended number bytes) ≡ None
    → text ≡ before_line_feed bytes → is_spaced text ≡ true → judge next bytes ≡ row_line (next.row (parts text)) (behind (parts text))
unfolding judge
frame-good next ended number bytes text e n good of spaced =
    rw (frame_found next.ended next.number bytes true None (same_tests next ended number bytes e n ∙ good) (ap is_spaced (sym of) ∙ spaced))
    (ap (λ (t : List ℕ). row_line (next.row (parts t)) (behind (parts t))) (sym of))

-- ## Line words

pub chosen : {A : Type 0} (b : Bool) (x y z : A) → cond b x y ≡ z → ((b ≡ true) × (x ≡ z)) ⊎ ((b ≡ false) × (y ≡ z))
chosen true x y z e = inl (refl, e)
chosen false x y z e = inr (refl, e)

-- A word that is a line word is its text.
pub word_among-text : {W : Type 0} (text : W → List ℕ) (ks : List W) (word : List ℕ) (k : W) → word_among text ks word ≡ Some k → word ≡ text k
word_among-text text [] word k e = cc
word_among-text text (x ∷ ks) word k e =
    elim (chosen (bytes_eq word (text x)) (there x) (word_among text ks word) (Some k) e) [
      | inl h ↦ ((bytes_eq-Decides word (text x)).0 h.0 ∙ ap text (some_is x k h.1))
      | inr h ↦ word_among-text text ks word k h.1
    ]

-- the row that stands, or the bad word
pub stood : {A : Type 0} (b : Bool) (r : Result A BadWord) (w : BadWord) (x : A) → cond b r (Err w) ≡ Ok x → (b ≡ true) × (r ≡ Ok x)
stood true r w x e = (refl, e)
stood false r w x e = cc

-- ## Headers

-- a header is a line by its row
pub header_read : {L : Type 0} (form : List ℕ) (words : List (List ℕ)) (line : L) → is_header form words ≡ true → Ok line ≡ row_line (Ok (header_row line)) (behind words)
header_read form words line h =
    let p = and_parts _ _ h in
    let many : eqb (length (behind words)) 2 ≡ true = (and_parts _ _ p.1).0 in
    rw many refl

-- ## Rows of several forms

abbrev right : {L : Type 0} → L → Result L BadWord
right x = Ok x

ok_is : {L : Type 0} (x y : L) → right x ≡ right y → x ≡ y
ok_is x y e = cc

abbrev pub mapped : {L M : Type 0} → (L → M) → Result L BadWord → Result M BadWord
mapped of (Err w) = Err w
mapped of (Ok l) = Ok (of l)

mapped_row : {L M : Type 0} (of : L → M) (stands : Bool) (bad_word whole : Option BadWord) (l : L) → cond stands (unless_bad bad_word (unless_bad whole (right (of l)))) (Err bad.Order) ≡ mapped of (cond stands (unless_bad bad_word (unless_bad whole (right l))) (Err bad.Order))
mapped_row of false bad_word whole l = refl
mapped_row of true None None l = refl
mapped_row of true None (Some w) l = refl
mapped_row of true (Some w) whole l = refl

pub row_mapped : {L M : Type 0} (of : L → M) (row : Result (Row L) BadWord) (words : List (List ℕ)) → row_line (row_of_line of row) words ≡ mapped of (row_line row words)
row_mapped of (Err w) words = refl
row_mapped of (Ok row) words = mapped_row of row.stands (first_of (field_tests (row.fields words) words)) (row.whole_fault words) (row.line words)

-- a line by the row of its form is one among those of several forms
pub row_of_line-line : {L M : Type 0} (of : L → M) (row : Result (Row L) BadWord) (words : List (List ℕ)) (l : L) → row_line row words ≡ Ok l → row_line (row_of_line of row) words ≡ Ok (of l)
row_of_line-line of row words l e = row_mapped of row words ∙ ap (mapped of) e

mapped_ok : {L M : Type 0} (of : L → M) (r : Result L BadWord) (m : M) → mapped of r ≡ Ok m → (l : L) × (r ≡ Ok l) × (of l ≡ m)
mapped_ok of (Err w) m e = cc
mapped_ok of (Ok l) m e = (l, refl, ok_is (of l) m e)

-- and the other way round
pub row_of_line-ok : {L M : Type 0} (of : L → M) (row : Result (Row L) BadWord) (words : List (List ℕ)) (m : M) → row_line (row_of_line of row) words ≡ Ok m → (l : L) × (row_line row words ≡ Ok l) × (of l ≡ m)
row_of_line-ok of row words m e = mapped_ok of (row_line row words) m (sym (row_mapped of row words) ∙ e)

-- ## The line feed of a line

pub line-fed : {L : Type 0} (ended : Bool) (number : ℕ) (Spells : List (List ℕ) → L → Type 0) (bytes : List ℕ) (l : L) → IsLine ended number Spells bytes l → has_line_feed bytes ≡ true
line-fed ended number Spells bytes l h = rw h.spaced (fed_again (join_with_byte 32 (h.first ∷ h.others)))

-- Bytes without a line feed are no line.
pub line-unfed : {L : Type 0} (ended : Bool) (number : ℕ) (Spells : List (List ℕ) → L → Type 0) (bytes : List ℕ) (l : L) → IsLine ended number Spells bytes l → has_no_feed bytes ≡ true → ⊥
line-unfed ended number Spells bytes l h clear =
    let text = join_with_byte 32 (h.first ∷ h.others) in
    let parts = and_parts (has_no_feed text) (has_no_feed (10 ∷ [])) (sym (list_all-append (λ b. not (eqb b 10)) text (10 ∷ [])) ∙ subst (λ (b : List ℕ). has_no_feed b ≡ true) h.spaced clear) in
    false≢true parts.1

-- ## Bytes that are none

-- What refuses a line of no bytes, by whether the text is at its end.
abbrev pub empty_fault : Bool → BadWord
empty_fault true = bad.AfterEnd
empty_fault false = bad.LineFeed

judge_empty : {L : Type 0} (ended : Bool) (number : ℕ) (row : List (List ℕ) → Result (Row L) BadWord) → judge (record { ended = ended; number = number; row = row }) [] ≡ Err (empty_fault ended)
unfolding judge
judge_empty true number row = refl
judge_empty false number row = refl

pub judge-empty : {L : Type 0} (next : Next L) → judge next [] ≡ Err (empty_fault next.ended)
judge-empty next = judge_empty next.ended next.number next.row
