-- Words with one space between two and none elsewhere, read byte by byte.
use Rattle.std.proofs.Common.{◌≡◌, ◌≢◌, ℕ, ◌+◌, ◌<◌, ◌≤◌, ◌==◌, Bool, true, false, ◌&&◌, ◌||◌, not, if◌then◌else◌, List, [], ◌∷◌, length, take, drop, get_or, refl, sym, ap, ◌∙◌, arith, add-one, drop-cons}
use Rattle.std.specs.List.{list_all, count_by, onto_first}
use Rattle.std.proofs.lemmas.List.{drop_all, take_all}
use Rattle.std.proofs.lemmas.Bool.{ne_eqb, eq-eqb}
use Rattle.std.proofs.lemmas.List.Splits.{length-slice_split, slice_split-cons_yes, slice_split-cons_no}
use Rattle.line_text.specs.Words.{is_space, is_printable, is_word, is_spaced, parts}

-- the rest of a text is spaced, where a word has begun in front of it or not
unfoldable pub spaced_from : Bool → List ℕ → Bool
spaced_from begun [] = begun
spaced_from begun (b ∷ bs) = if b == 32 then begun && spaced_from false bs else is_printable b && spaced_from true bs

-- the parts are words, the first one the rest of a word that has begun or not
abbrev words_from : Bool → List (List ℕ) → Bool
words_from begun [] = false
words_from begun (part ∷ others) = (begun || not (length part == 0)) && (list_all is_printable part && list_all is_word others)

and-assoc : (a b c : Bool) → ((a && b) && c) ≡ (a && (b && c))
and-assoc true b c = refl
and-assoc false b c = refl

begun-space : (begun : Bool) (others : List (List ℕ)) → 0 < length others → words_from begun ([] ∷ others) ≡ (begun && words_from false others)
begun-space begun [] some = absurd (omega arith)
begun-space true (part ∷ others) some = and-assoc (not (length part == 0)) (list_all is_printable part) (list_all is_word others)
begun-space false (part ∷ others) some = refl

some-byte : (b : ℕ) (part : List ℕ) → not (length (b ∷ part) == 0) ≡ true
some-byte b part = ap not (ne_eqb (length (b ∷ part)) 0 (λ e. omega (arith, e)))

begun-byte : (begun : Bool) (b : ℕ) (part : List ℕ) (others : List (List ℕ)) → words_from begun ((b ∷ part) ∷ others) ≡ (is_printable b && words_from true (part ∷ others))
begun-byte true b part others = and-assoc (is_printable b) (list_all is_printable part) (list_all is_word others)
begun-byte false b part others =
    ap (λ (t : Bool). t && ((is_printable b && list_all is_printable part) && list_all is_word others)) (some-byte b part)
    ∙ and-assoc (is_printable b) (list_all is_printable part) (list_all is_word others)

onto-first : (begun : Bool) (b : ℕ) (ps : List (List ℕ)) → 0 < length ps → words_from begun (onto_first b ps) ≡ (is_printable b && words_from true ps)
onto-first begun b [] some = absurd (omega arith)
onto-first begun b (part ∷ others) some = begun-byte begun b part others

pub some-parts : (bs : List ℕ) → 0 < length (parts bs)
some-parts bs = omega (arith, length-slice_split is_space bs)

from-byte : (begun : Bool) (b : ℕ) (bs : List ℕ) → words_from false (parts bs) ≡ spaced_from false bs → words_from true (parts bs) ≡ spaced_from true bs
    → (flag : Bool) → is_space b ≡ flag → words_from begun (parts (b ∷ bs)) ≡ (if flag then begun && spaced_from false bs else is_printable b && spaced_from true bs)
from-byte begun b bs without with true e =
    ap (words_from begun) (slice_split-cons_yes is_space b bs e) ∙ begun-space begun (parts bs) (some-parts bs) ∙ ap (λ x. begun && x) without
from-byte begun b bs without with false e =
    ap (words_from begun) (slice_split-cons_no is_space b bs e) ∙ onto-first begun b (parts bs) (some-parts bs) ∙ ap (λ x. is_printable b && x) with

from-parts : (begun : Bool) (bs : List ℕ) → words_from begun (parts bs) ≡ spaced_from begun bs
unfolding spaced_from
from-parts true [] = refl
from-parts false [] = refl
from-parts begun (b ∷ bs) = from-byte begun b bs (from-parts false bs) (from-parts true bs) (is_space b) refl

words-all : (ps : List (List ℕ)) → 0 < length ps → list_all is_word ps ≡ words_from false ps
words-all [] some = absurd (omega arith)
words-all (part ∷ others) some = and-assoc (not (length part == 0)) (list_all is_printable part) (list_all is_word others)

-- a text is spaced where it is from its first byte on
pub spaced-whole : (bs : List ℕ) → is_spaced bs ≡ spaced_from false bs
spaced-whole bs = words-all (parts bs) (some-parts bs) ∙ from-parts false bs

-- one byte more
pub spaced-drop : (begun : Bool) (i : ℕ) (text : List ℕ) → i < length text → spaced_from begun (drop i text)
    ≡ (if get_or text i 0 == 32 then begun && spaced_from false (drop (i + 1) text) else is_printable (get_or text i 0) && spaced_from true (drop (i + 1) text))
unfolding spaced_from
spaced-drop begun i text h = rw (add-one, drop-cons text i 0) refl

-- no byte more
pub spaced-end : (begun : Bool) (i : ℕ) (text : List ℕ) → length text ≤ i → spaced_from begun (drop i text) ≡ begun
unfolding spaced_from
spaced-end begun i text h = ap (spaced_from begun) (drop_all i text h)

-- what stands behind a space, and behind a byte of a word
spaced-space : (begun : Bool) (i : ℕ) (text : List ℕ) → i < length text → get_or text i 0 ≡ 32 → spaced_from begun (drop i text) ≡ (begun && spaced_from false (drop (i + 1) text))
spaced-space begun i text h is = spaced-drop begun i text h ∙ ap (λ (t : Bool). if t then begun && spaced_from false (drop (i + 1) text) else is_printable (get_or text i 0) && spaced_from true (drop (i + 1) text)) (eq-eqb (get_or text i 0) 32 is)

spaced-byte : (begun : Bool) (i : ℕ) (text : List ℕ) → i < length text → get_or text i 0 ≢ 32 → spaced_from begun (drop i text) ≡ (is_printable (get_or text i 0) && spaced_from true (drop (i + 1) text))
spaced-byte begun i text h is = spaced-drop begun i text h ∙ ap (λ (t : Bool). if t then begun && spaced_from false (drop (i + 1) text) else is_printable (get_or text i 0) && spaced_from true (drop (i + 1) text)) (ne_eqb (get_or text i 0) 32 is)

-- where no word has begun, a space shows that the text isn't spaced; and so does a byte of no word
pub early-space : (i : ℕ) (text : List ℕ) → i < length text → get_or text i 0 ≡ 32 → spaced_from false (drop i text) ≡ is_spaced text → false ≡ is_spaced text
early-space i text h is exact = sym (spaced-space false i text h is) ∙ exact

pub other-byte : (begun : Bool) (i : ℕ) (text : List ℕ) → i < length text → get_or text i 0 ≢ 32 → is_printable (get_or text i 0) ≡ false → spaced_from begun (drop i text) ≡ is_spaced text → false ≡ is_spaced text
other-byte begun i text h is other exact =
    sym (spaced-byte begun i text h is ∙ ap (λ (t : Bool). t && spaced_from true (drop (i + 1) text)) other) ∙ exact

-- and else the text goes on
pub behind-space : (i : ℕ) (text : List ℕ) → i < length text → get_or text i 0 ≡ 32 → spaced_from true (drop i text) ≡ is_spaced text → spaced_from false (drop (i + 1) text) ≡ is_spaced text
behind-space i text h is exact = sym (spaced-space true i text h is) ∙ exact

pub behind-byte : (begun : Bool) (i : ℕ) (text : List ℕ) → i < length text → get_or text i 0 ≢ 32 → is_printable (get_or text i 0) ≡ true → spaced_from begun (drop i text) ≡ is_spaced text → spaced_from true (drop (i + 1) text) ≡ is_spaced text
behind-byte begun i text h is printed exact =
    sym (spaced-byte begun i text h is ∙ ap (λ (t : Bool). t && spaced_from true (drop (i + 1) text)) printed) ∙ exact

pub at-end : (begun : Bool) (i : ℕ) (text : List ℕ) → length text ≤ i → spaced_from begun (drop i text) ≡ is_spaced text → begun ≡ is_spaced text
at-end begun i text h exact = sym (spaced-end begun i text h) ∙ exact

-- the spaces are one fewer than the words
pub counted-words : (spaces i : ℕ) (text : List ℕ) → length text ≤ i → spaces ≡ count_by is_space (take i text) → spaces + 1 ≡ length (parts text)
counted-words spaces i text h is = ap (λ (n : ℕ). n + 1) (is ∙ ap (count_by is_space) (take_all i text h)) ∙ sym (length-slice_split is_space text)
