-- The fields of a line, each described once: what its word must be, which value the word has, and how the value is
-- spelled. `proofs/ShapeLemmas.antt` proves of each that a word passes the test exactly where it spells its value.
use Rattle.std.specs.Prelude.{◌≡◌, ℕ, ◌≤◌, ◌&&◌, Bool, true, false, is_ok, is_some, if◌then◌else◌, List, [], ◌∷◌, length, map, replicate, Option, Some, None, Result, Ok}
use Rattle.std.specs.Fmt.{decimal}
use Rattle.std.specs.List.{AllByRecursion}
use Rattle.std.specs.Str.{bytes_eq}
use Rattle.fields.specs.Names.{is_name}
use Rattle.line_text.specs.Fields.{Test, bytes_in, hex, hex_of, hex_that, hex_up_to, is_within, name, number, number_in, number_that, or_nothing}
use Rattle.line_text.specs.Frame.{behind, first_word}
use Rattle.line_text.specs.Spellings.{AreBytes, SpellsAs, SpellsBetween, SpellsFitting, SpellsHex, SpellsName, SpellsNumber, SpellsNumbered, SpellsUpTo, if_some, or_any}

-- ## A field

-- What a word of a line must be.
pub data Field : Type 1 where
  -- a number of a range; a number that fits
  number_from : ℕ → ℕ → Field
  number_where : (ℕ → Bool) → Field
  -- the value of a number, where each value has its own
  number_as : {V : Type 0} (of : ℕ → Option V) (any : V) (number : V → ℕ) → ((n : ℕ) (v : V) → of n ≡ Some v → number v ≡ n) → Field
  -- so many bytes; no fewer and no more than so many; no more than so many, or `-` for none
  bytes_of : ℕ → Field
  bytes_from : ℕ → ℕ → Field
  bytes_up_to : ℕ → Field
  -- the value of bytes, where bytes are read as a value exactly where they are that value
  bytes_as : {V E : Type 0} (read : List ℕ → Result V E) (any : V) (Are : List ℕ → V → Type 0)
      → ((b : List ℕ) (v : V) → AreBytes b → read b ≡ Ok v → Are b v) → ((b : List ℕ) (v : V) → Are b v → read b ≡ Ok v) → Field
  any_name : Field
  -- a word that stands for no value, or another field
  word_or : List ℕ → Field → Field

-- the values that it has
abbrev pub Value : Field → Type 0
Value (number_from low high) = ℕ
Value (number_where fits) = ℕ
Value (number_as {V} of any numbers own) = V
Value (bytes_of n) = List ℕ
Value (bytes_from low high) = List ℕ
Value (bytes_up_to most) = List ℕ
Value (bytes_as {V} {E} read any Are are again) = V
Value any_name = List ℕ
Value (word_or text f) = Option (Value f)

abbrev pub test : Field → Test
test (number_from low high) = number low high
test (number_where fits) = number_that fits
test (number_as of any numbers own) = number_that (λ n. is_some (of n))
test (bytes_of n) = hex n
test (bytes_from low high) = hex_that (λ b. is_within low high (length b))
test (bytes_up_to most) = hex_up_to most
test (bytes_as read any Are are again) = hex_that (λ b. is_ok (read b))
test any_name = name
test (word_or text f) = λ word. if bytes_eq word text then None else test f word

-- the value of a word that passes the test
abbrev pub value : (f : Field) → List ℕ → Value f
value (number_from low high) word = number_in word
value (number_where fits) word = number_in word
value (number_as of any numbers own) word = if_some any (of (number_in word))
value (bytes_of n) word = or_nothing (hex_of word)
value (bytes_from low high) word = or_nothing (hex_of word)
value (bytes_up_to most) word = bytes_in word
value (bytes_as read any Are are again) word = or_any any (read (or_nothing (hex_of word)))
value any_name word = word
value (word_or text f) word = if bytes_eq word text then None else Some (value f word)

-- The word spells the value, which is in range.
abbrev pub Spells : (f : Field) → List ℕ → Value f → Type 0
Spells (number_from low high) word v = SpellsNumber low high word v
Spells (number_where fits) word v = SpellsFitting fits word v
Spells (number_as of any numbers own) word v = SpellsNumbered of numbers word v
Spells (bytes_of n) word v = SpellsHex n word v
Spells (bytes_from low high) word v = SpellsBetween low high word v
Spells (bytes_up_to most) word v = SpellsUpTo most word v
Spells (bytes_as read any Are are again) word v = SpellsAs Are word v
Spells any_name word v = SpellsName word v
Spells (word_or text f) word None = word ≡ text
Spells (word_or text f) word (Some v) = (bytes_eq word text ≡ false) × Spells f word v

-- The value is in range.
abbrev pub InRange : (f : Field) → Value f → Type 0
InRange (number_from low high) n = (low ≤ n) × (n ≤ high)
InRange (number_where fits) n = fits n ≡ true
InRange (number_as of any numbers own) v = of (numbers v) ≡ Some v
InRange (bytes_of n) b = length b ≡ n
InRange (bytes_from low high) b = (low ≤ length b) × (length b ≤ high)
InRange (bytes_up_to most) b = length b ≤ most
InRange (bytes_as read any Are are again) v = (b : List ℕ) × Are b v
InRange any_name called = is_name called ≡ true
InRange (word_or text f) None = Unit {0}
InRange (word_or text f) (Some v) = InRange f v

-- the word of a value; for bytes, these digits
abbrev pub word_for : List ℕ → (f : Field) → Value f → List ℕ
word_for digits (number_from low high) n = decimal n
word_for digits (number_where fits) n = decimal n
word_for digits (number_as of any numbers own) v = decimal (numbers v)
word_for digits (bytes_of n) b = digits
word_for digits (bytes_from low high) b = digits
word_for digits (bytes_up_to most) b = digits
word_for digits (bytes_as read any Are are again) v = digits
word_for digits any_name called = called
word_for digits (word_or text f) None = text
word_for digits (word_or text f) (Some v) = word_for digits f v

-- whether a value has one word
abbrev pub has_one_word : Field → Bool
has_one_word (number_from low high) = true
has_one_word (number_where fits) = true
has_one_word (number_as of any numbers own) = true
has_one_word (bytes_of n) = false
has_one_word (bytes_from low high) = false
has_one_word (bytes_up_to most) = false
has_one_word (bytes_as read any Are are again) = false
has_one_word any_name = true
has_one_word (word_or text f) = has_one_word f

-- ## The fields of a line

pub data Fields : Type 1 where
  no_more : Fields
  ◌and◌ : Field → Fields → Fields
  so_many : ℕ → Field → Fields
  -- one word more, or none
  maybe : Field → Fields
  -- a number that is at most so much, another that is at most the first, and the others
  falling : ℕ → Fields → Fields

infixr 30 ◌and◌
-- the values of the words
abbrev pub Values : Fields → Type 0
Values no_more = Unit {0}
Values (f and fs) = Value f × Values fs
Values (so_many n f) = List (Value f)
Values (maybe f) = Option (Value f)
Values (falling most fs) = ℕ × (ℕ × Values fs)

-- the tests of the words, by how many there are
abbrev pub tests_for : Fields → List (List ℕ) → List Test
tests_for no_more words = []
tests_for (f and fs) words = test f ∷ tests_for fs (behind words)
tests_for (so_many n f) words = replicate n (test f)
tests_for (maybe f) [] = []
tests_for (maybe f) (word ∷ words) = test f ∷ []
tests_for (falling most fs) words =
    number 0 most ∷ number 0 (number_in (first_word words)) ∷ tests_for fs (behind (behind words))

-- the tests of the words that there must be
abbrev pub tests : Fields → List Test
tests fs = tests_for fs []

abbrev pub value_or_none : (f : Field) → List (List ℕ) → Option (Value f)
value_or_none f [] = None
value_or_none f (word ∷ words) = Some (value f word)

abbrev pub values : (fs : Fields) → List (List ℕ) → Values fs
values no_more words = tt
values (f and fs) words = (value f (first_word words), values fs (behind words))
values (so_many n f) words = map (value f) words
values (maybe f) words = value_or_none f words
values (falling most fs) words =
    (number_in (first_word words), (number_in (first_word (behind words)), values fs (behind (behind words))))

-- what makes a value of the values
abbrev pub Makes : Fields → Type 0 → Type 0
Makes no_more L = L
Makes (f and fs) L = Value f → Makes fs L
Makes (so_many n f) L = List (Value f) → L
Makes (maybe f) L = Option (Value f) → L
Makes (falling most fs) L = ℕ → ℕ → Makes fs L

abbrev pub made_of : {L : Type 0} (fs : Fields) → Makes fs L → Values fs → L
made_of no_more make vs = make
made_of (f and fs) make vs = made_of fs (make vs.0) vs.1
made_of (so_many n f) make vs = make vs
made_of (maybe f) make vs = make vs
made_of (falling most fs) make vs = made_of fs (make vs.0 vs.1.0) vs.1.1

-- the line that words are
abbrev pub line_from : {L : Type 0} (fs : Fields) → Makes fs L → List (List ℕ) → L
line_from fs make words = made_of fs make (values fs words)

-- The first of the words is this, and the others are that.
pub record Begins (Is : List ℕ → Type 0) (Others : List (List ℕ) → Type 0) (words : List (List ℕ)) : Type 0 where
  pub word : List ℕ
  pub others : List (List ℕ)
  pub same : words ≡ word ∷ others
  pub is : Is word
  pub rest : Others others

-- Each word spells its value, and there are as many.
abbrev pub SpellsEach : {V : Type 0} → (List ℕ → V → Type 0) → List (List ℕ) → List V → Type 0
SpellsEach Is [] [] = Unit {0}
SpellsEach Is (word ∷ words) (v ∷ vs) = Is word v × SpellsEach Is words vs
SpellsEach Is _ _ = ⊥

-- These words spell these values.
abbrev pub SpellsAll : (fs : Fields) → List (List ℕ) → Values fs → Type 0
SpellsAll no_more words vs = words ≡ []
SpellsAll (f and fs) words vs = Begins (λ word. Spells f word vs.0) (λ others. SpellsAll fs others vs.1) words
SpellsAll (so_many n f) words vs = (length words ≡ n) × SpellsEach (Spells f) words vs
SpellsAll (maybe f) words None = words ≡ []
SpellsAll (maybe f) words (Some v) = Begins (λ word. Spells f word v) (λ others. others ≡ []) words
SpellsAll (falling most fs) words vs =
    Begins (λ word. SpellsNumber 0 most word vs.0) (λ others. Begins (λ word. SpellsNumber 0 vs.0 word vs.1.0) (λ more. SpellsAll fs more vs.1.1) others) words

-- Each value is in range, and there are as many as there may be.
abbrev pub AllInRange : (fs : Fields) → Values fs → Type 0
AllInRange no_more vs = Unit {0}
AllInRange (f and fs) vs = InRange f vs.0 × AllInRange fs vs.1
AllInRange (so_many n f) vs = (length vs ≡ n) × AllByRecursion (InRange f) vs
AllInRange (maybe f) None = Unit {0}
AllInRange (maybe f) (Some v) = InRange f v
AllInRange (falling most fs) vs = (vs.0 ≤ most) × ((vs.1.0 ≤ vs.0) × AllInRange fs vs.1.1)

-- the words of the values, where these digits spell bytes
abbrev pub words_for : List ℕ → (fs : Fields) → Values fs → List (List ℕ)
words_for digits no_more vs = []
words_for digits (f and fs) vs = word_for digits f vs.0 ∷ words_for digits fs vs.1
words_for digits (so_many n f) vs = map (word_for digits f) vs
words_for digits (maybe f) None = []
words_for digits (maybe f) (Some v) = word_for digits f v ∷ []
words_for digits (falling most fs) vs = decimal vs.0 ∷ decimal vs.1.0 ∷ words_for digits fs vs.1.1

-- whether values have their words alone
abbrev pub have_one_word : Fields → Bool
have_one_word no_more = true
have_one_word (f and fs) = has_one_word f && have_one_word fs
have_one_word (so_many n f) = has_one_word f
have_one_word (maybe f) = has_one_word f
have_one_word (falling most fs) = have_one_word fs
