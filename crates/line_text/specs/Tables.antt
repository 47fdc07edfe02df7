-- A form of text as a table of its lines: each line word, where its line may stand, its fields, and the line that their
-- values make. The rows that the form reads by and the grammar of its lines are both made of it.
use Rattle.std.specs.Prelude.{◌≡◌, ℕ, Bool, true, false, if◌then◌else◌, List, [], ◌∷◌, Option, Some, None, Result, Ok, Err, codes}
use Rattle.line_text.specs.declared.bad_word.BadWord.{BadWord}
use Rattle.line_text.specs.Frame.{Row, first_word, header_row, is_header, known_row, word_among}
use Rattle.line_text.specs.Shapes.{AllInRange, Fields, Makes, SpellsAll, Values, line_from, made_of, tests_for, values, words_for}

-- What a line is made of: it is the header, or has a line word and the values of its fields.
pub data Parts (W : Type 0) (fields : W → Fields) : Type 0 where
  Header : Parts W fields
  Line : (word : W) → Values (fields word) → Parts W fields

-- A table of the lines L that have the line words W, in the form F: whether nothing has been read; the last word of
-- the header, the header, and what refuses another; the line words with their texts; where the line of a word may
-- stand; its fields; what refuses values as a whole that are good one by one; the line that they make; and what a line
-- is made of.
pub record Table (F W L : Type 0) : Type 1 where
  pub is_start : F → Bool
  pub form : List ℕ
  pub header : L
  pub no_header : List (List ℕ) → BadWord
  pub words : List W
  pub text : W → List ℕ
  pub may_stand : F → W → Bool
  pub fields : F → W → Fields
  pub whole_fault : (s : F) (word : W) → Values (fields s word) → Option BadWord
  pub line : (s : F) (word : W) → Makes (fields s word) L
  pub parts : (s : F) → L → Parts W (fields s)

-- ## The rows

abbrev pub row_of : {F W L : Type 0} → Table F W L → F → W → Row L
row_of t s word = record {
  stands = t.may_stand s word;
  fields = tests_for (t.fields s word);
  whole_fault = λ ws. t.whole_fault s word (values (t.fields s word) ws);
  line = line_from (t.fields s word) (t.line s word);
}

abbrev pub start_row : {F W L : Type 0} → Table F W L → List (List ℕ) → Result (Row L) BadWord
start_row t ws = if is_header t.form ws then Ok (header_row t.header) else Err (t.no_header ws)

abbrev pub row_for : {F W L : Type 0} → Table F W L → F → List (List ℕ) → Result (Row L) BadWord
row_for t s ws = if t.is_start s then start_row t ws else known_row (row_of t s) (word_among t.text t.words (first_word ws))

-- ## The grammar

-- These words are the header, and nothing stands before it.
pub record IsHeader {F W L : Type 0} (t : Table F W L) (s : F) (ws : List (List ℕ)) (l : L) : Type 0 where
  pub stands : t.is_start s ≡ true
  pub words : ws ≡ codes "fireflies" ∷ codes "1" ∷ t.form ∷ []
  pub made : t.header ≡ l

-- These words are a line word whose line may stand here, below the header, and words that spell the values of the line,
-- which nothing refuses as a whole.
pub record IsRow {F W L : Type 0} (t : Table F W L) (s : F) (word : W) (vs : Values (t.fields s word)) (ws : List (List ℕ)) (l : L) : Type 0 where
  pub below : t.is_start s ≡ false
  pub stands : t.may_stand s word ≡ true
  pub args : List (List ℕ)
  pub words : ws ≡ t.text word ∷ args
  pub spells : SpellsAll (t.fields s word) args vs
  pub whole : t.whole_fault s word vs ≡ None
  pub made : made_of (t.fields s word) (t.line s word) vs ≡ l

abbrev pub SpellsParts : {F W L : Type 0} (t : Table F W L) (s : F) → List (List ℕ) → L → Parts W (t.fields s) → Type 0
SpellsParts t s ws l Header = IsHeader t s ws l
SpellsParts t s ws l (Line word vs) = IsRow t s word vs ws l

-- These words are this line, which may stand here, and its numbers, bytes and names are in range.
abbrev pub Spells : {F W L : Type 0} → Table F W L → F → List (List ℕ) → L → Type 0
Spells t s ws l = SpellsParts t s ws l (t.parts s l)

-- Each line word is found by its text, and a line that is made of values has these.
pub record IsSound {F W L : Type 0} (t : Table F W L) : Type 0 where
  pub named : (word : W) → word_among t.text t.words (t.text word) ≡ Some word
  pub headed : (s : F) → t.parts s t.header ≡ Header
  pub parted : (s : F) (word : W) (vs : Values (t.fields s word)) → t.parts s (made_of (t.fields s word) (t.line s word) vs) ≡ Line word vs

-- ## What the grammar says of a line

abbrev pub PartsStand : {F W L : Type 0} (t : Table F W L) (s : F) → Parts W (t.fields s) → Type 0
PartsStand t s Header = t.is_start s ≡ true
PartsStand t s (Line word vs) = t.may_stand s word ≡ true

-- The line may stand here.
abbrev pub Stands : {F W L : Type 0} → Table F W L → F → L → Type 0
Stands t s l = PartsStand t s (t.parts s l)

abbrev pub PartsInRange : {W : Type 0} (fields : W → Fields) → Parts W fields → Type 0
PartsInRange fields Header = Unit {0}
PartsInRange fields (Line word vs) = AllInRange (fields word) vs

-- Its numbers, bytes and names are in range.
abbrev pub InRange : {F W L : Type 0} → Table F W L → F → L → Type 0
InRange t s l = PartsInRange (t.fields s) (t.parts s l)

abbrev pub PartsWhole : {F W L : Type 0} (t : Table F W L) (s : F) → Parts W (t.fields s) → Type 0
PartsWhole t s Header = Unit {0}
PartsWhole t s (Line word vs) = t.whole_fault s word vs ≡ None

-- Nothing refuses its values as a whole.
abbrev pub IsWhole : {F W L : Type 0} → Table F W L → F → L → Type 0
IsWhole t s l = PartsWhole t s (t.parts s l)

abbrev pub words_of_parts : {F W L : Type 0} (t : Table F W L) (s : F) → List ℕ → Parts W (t.fields s) → List (List ℕ)
words_of_parts t s digits Header = codes "fireflies" ∷ codes "1" ∷ t.form ∷ []
words_of_parts t s digits (Line word vs) = t.text word ∷ words_for digits (t.fields s word) vs

-- its words, where these digits spell bytes
abbrev pub words_of : {F W L : Type 0} → Table F W L → F → List ℕ → L → List (List ℕ)
words_of t s digits l = words_of_parts t s digits (t.parts s l)
