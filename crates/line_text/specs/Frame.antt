-- What the lines of all forms share: the table of bad words, of which the first that holds refuses a line; what
-- a line is, as a function of its bytes; and what it is, as the grammar says.
use Rattle.std.specs.Prelude.{◌≡◌, ℕ, ◌-◌, ◌≤◌, Bool, true, false, IsTrue, ◌&&◌, not, nat_lt, ◌==◌, if◌then◌else◌, List, [], ◌∷◌, ◌++◌, length, take, Option, Some, None, Result, Ok, Err, codes}
use Rattle.std.specs.List.{join_with_byte, list_all}
use Rattle.std.specs.Str.{bytes_eq}
use Rattle.line_text.specs.declared.bad_word.BadWord.{BadWord}
use Rattle.line_text.specs.declared.bad_word.BadWord.TheVariants as bad
use Rattle.line_text.specs.Fields.{Test, bad_where}
use Rattle.line_text.specs.Words.{is_word, is_spaced, parts}
pub use Rattle.text_trace.specs.Lines.{has_line_feed, line_bytes, text_lines}

-- ## The bytes of a line

-- what stands before the line feed that ends them, or all of them
abbrev pub before_line_feed : List ℕ → List ℕ
before_line_feed bytes = if has_line_feed bytes then take (length bytes - 1) bytes else bytes

-- ## Words

-- the first word, or an empty one where there is none
abbrev pub first_word : List (List ℕ) → List ℕ
first_word [] = []
first_word (word ∷ words) = word

-- the words behind the first
abbrev pub behind : List (List ℕ) → List (List ℕ)
behind [] = []
behind (word ∷ words) = words

abbrev pub second_word : List (List ℕ) → List ℕ
second_word words = first_word (behind words)

abbrev pub third_word : List (List ℕ) → List ℕ
third_word words = first_word (behind (behind words))

-- the words `fireflies 1 FORM`, which head a text of this form
abbrev pub is_header : List ℕ → List (List ℕ) → Bool
is_header form words =
    bytes_eq (first_word words) (codes "fireflies") && (length (behind words) == 2
    && (bytes_eq (second_word words) (codes "1") && bytes_eq (third_word words) form))

-- the one of these line words that a word is, where each has its text
abbrev pub word_among : {W : Type 0} → (W → List ℕ) → List W → List ℕ → Option W
word_among text [] word = None
word_among text (k ∷ ks) word = if bytes_eq word (text k) then Some k else word_among text ks word

-- ## Tables of tests

abbrev pub or_else : Option BadWord → Option BadWord → Option BadWord
or_else (Some word) more = Some word
or_else None more = more

-- the first bad word of a list of tests
abbrev pub first_of : List (Option BadWord) → Option BadWord
first_of [] = None
first_of (test ∷ tests) = or_else test (first_of tests)

-- each word by its own test, from the left
abbrev pub word_tests : List Test → List (List ℕ) → List (Option BadWord)
word_tests [] words = []
word_tests (field ∷ fields) words = field (first_word words) ∷ word_tests fields (behind words)

-- ## What a form says of a line

-- What a form says of the lines with one first word: whether one may stand here, what the words behind it
-- must be, by how many there are, what refuses words as a whole that are good one by one, and what line they are.
pub record Row (L : Type 0) : Type 0 where
  pub stands : Bool
  pub fields : List (List ℕ) → List Test
  pub whole_fault : List (List ℕ) → Option BadWord
  pub line : List (List ℕ) → L

-- the number of words, and then each of them
abbrev pub field_tests : List Test → List (List ℕ) → List (Option BadWord)
field_tests fields words = bad_where bad.Count (not (length words == length fields)) ∷ word_tests fields words

-- What the words of a line fail, by the row that the form has for them; a form that has none says `header` at
-- line 1, and else `word`, or `not-built` for a line that isn't read yet.
abbrev pub row_tests : {L : Type 0} → Result (Row L) BadWord → List (List ℕ) → List (Option BadWord)
row_tests (Err word) words = Some word ∷ []
row_tests (Ok row) words =
    bad_where bad.Order (not row.stands) ∷ (field_tests (row.fields words) words ++ row.whole_fault words ∷ [])

-- the line word of a word, or that it is none
abbrev pub word_or_bad : {W : Type 0} → Option W → Result W BadWord
word_or_bad None = Err bad.Word
word_or_bad (Some word) = Ok word

-- the row of a line word
abbrev pub known_row : {W L : Type 0} → (W → Row L) → Option W → Result (Row L) BadWord
known_row row None = Err bad.Word
known_row row (Some word) = Ok (row word)

-- What a form says of the next line: whether the line `end` was read, which number it has, and the row for its
-- words.
pub record Next (L : Type 0) : Type 0 where
  pub ended : Bool
  pub number : ℕ
  pub row : List (List ℕ) → Result (Row L) BadWord

-- ## The table of bad words

-- what all forms refuse of the bytes of a line, whatever its words
abbrev pub text_tests : Bool → ℕ → List ℕ → List (Option BadWord)
text_tests ended number bytes =
    bad_where bad.AfterEnd ended
    ∷ bad_where bad.Long (nat_lt line_bytes (length (before_line_feed bytes)))
    ∷ bad_where bad.LineFeed (not (has_line_feed bytes))
    ∷ bad_where bad.Lines (nat_lt text_lines number)
    ∷ []

-- what all forms refuse
abbrev pub frame_tests : Bool → ℕ → List ℕ → List (Option BadWord)
frame_tests ended number bytes =
    text_tests ended number bytes ++ bad_where bad.Spaces (not (is_spaced (before_line_feed bytes))) ∷ []

-- the words of a line
abbrev pub words_in : List ℕ → List (List ℕ)
words_in bytes = parts (before_line_feed bytes)

-- a word of a header, which is known already
abbrev pub any_word : Test
any_word word = None

-- the row of the header
abbrev pub header_row : {L : Type 0} → L → Row L
header_row line = record {
  stands = true;
  fields = λ words. any_word ∷ any_word ∷ [];
  whole_fault = λ words. None;
  line = λ words. line;
}

-- the same row, whose line stands among those of several forms
abbrev pub row_of_line : {L M : Type 0} → (L → M) → Result (Row L) BadWord → Result (Row M) BadWord
row_of_line of (Err word) = Err word
row_of_line of (Ok row) =
    Ok (record { stands = row.stands; fields = row.fields; whole_fault = row.whole_fault; line = λ words. of (row.line words) })

-- The first bad word of the next line, in the order of the table: after-end, long, line-feed, lines, spaces;
-- header, word or not-built; order; count; each word's own from the left; and what refuses them as a whole.
unfoldable pub first_bad : {L : Type 0} → Next L → List ℕ → Option BadWord
first_bad next bytes =
    first_of (frame_tests next.ended next.number bytes ++ row_tests (next.row (words_in bytes)) (behind (words_in bytes)))

-- ## What a line is, computed

abbrev pub unless_bad : {L : Type 0} → Option BadWord → Result L BadWord → Result L BadWord
unless_bad (Some word) judged = Err word
unless_bad None judged = judged

-- the line that these words are by the row, behind the first; or the first bad word
abbrev pub fields_line : {L : Type 0} → List Test → (List (List ℕ) → L) → List (List ℕ) → Result L BadWord
fields_line fields line words = unless_bad (first_of (field_tests fields words)) (Ok (line words))

-- the same, where words that are good one by one may be refused as a whole
abbrev pub whole_line : {L : Type 0} → List Test → (List (List ℕ) → Option BadWord) → (List (List ℕ) → L) → List (List ℕ) → Result L BadWord
whole_line fields whole_fault line words =
    unless_bad (first_of (field_tests fields words)) (unless_bad (whole_fault words) (Ok (line words)))

abbrev pub row_line : {L : Type 0} → Result (Row L) BadWord → List (List ℕ) → Result L BadWord
row_line (Err word) words = Err word
row_line (Ok row) words = if row.stands then whole_line (row.fields words) row.whole_fault row.line words else Err bad.Order

-- What the next line is, or its first bad word.
unfoldable pub judge : {L : Type 0} → Next L → List ℕ → Result L BadWord
judge next bytes =
    unless_bad (first_of (frame_tests next.ended next.number bytes)) (row_line (next.row (words_in bytes)) (behind (words_in bytes)))

-- ## What a line is, as a grammar

-- These bytes are the next line, and it is l, where Spells says which words spell which line here: one or more
-- words, with one space between two, and a line feed.
pub record IsLine {L : Type 0} (ended : Bool) (number : ℕ) (Spells : List (List ℕ) → L → Type 0) (bytes : List ℕ) (l : L) : Type 0 where
  pub first : List ℕ
  pub others : List (List ℕ)
  pub spells : Spells (first ∷ others) l
  pub words : IsTrue (list_all is_word (first ∷ others))
  pub spaced : bytes ≡ join_with_byte 32 (first ∷ others) ++ 10 ∷ []
  pub short : length (join_with_byte 32 (first ∷ others)) ≤ line_bytes
  pub few : number ≤ text_lines
  pub going : ended ≡ false
