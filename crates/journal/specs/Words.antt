-- Reading the words of a text from the left. A step gives a value and what is left behind it, or the place of
-- the fault: the first byte of the first word that fails, or the text's length where a word is missing.
use Rattle.std.specs.Prelude.{◌≡◌, ℕ, ◌+◌, ◌-◌, ◌^◌, ◌%◌, ◌<◌, ◌==◌, ◌&&◌, nat_le, nat_lt, Bool, true, false, ◌||◌, if◌then◌else◌, List, [], ◌∷◌, length, Option, Some, None, Result, Ok, Err, codes, decimal}
use Rattle.std.specs.Str.{bytes_eq}
use Rattle.std.specs.Str.Parse.{digits_value}
use Rattle.std.specs.List.{list_all}
use Rattle.std.specs.Borrow.{Bor}
use Rattle.ff_ids.specs.declared.TheConstants.{LAST_MEMBER}
use Rattle.hex.specs.Hex.{decode_of}
use Rattle.hex.specs.declared.error.FromHexError.{FromHexError}
use Rattle.line_text.specs.Words.{parts}
use Rattle.records.specs.declared.keys.KeyFault.{KeyFault}
use Rattle.records.specs.declared.keys.Key.{Key}
use Rattle.records.specs.Keys.{key_in}
use Rattle.journal.specs.declared.words.Misread.{Misread}

-- The words that are left, and the place at which the first of them begins, or the text's length where none is.
pub record Reading : Type 0 where
  pub place : ℕ
  pub words : List (List ℕ)

-- a text at its start
abbrev pub reading_of : List ℕ → Reading
reading_of text = record { place = 0; words = parts text }

-- behind a word, and behind the space that parts it from the next
abbrev pub passed : ℕ → List ℕ → List (List ℕ) → Reading
passed place word [] = record { place = place + length word; words = [] }
passed place word (next ∷ rest) = record { place = place + length word + 1; words = next ∷ rest }

-- where the rest of a text begins, by the length of the whole
abbrev pub place_of : ℕ → Option (Bor (List ℕ)) → ℕ
place_of whole None = whole
place_of whole (Some rest) = whole - length rest.now

-- ---- steps

abbrev pub Step : Type 0 → Type 0
Step A = Reading → Result (A × Reading) ℕ

abbrev pub kept : {A : Type 0} → ℕ → List ℕ → List (List ℕ) → Option A → Result (A × Reading) ℕ
kept place word rest (Some x) = Ok (x, passed place word rest)
kept place word rest None = Err place

abbrev pub token_in : {A : Type 0} → (List ℕ → Option A) → ℕ → List (List ℕ) → Result (A × Reading) ℕ
token_in rule place [] = Err place
token_in rule place (word ∷ rest) = kept place word rest (rule word)

-- one word, of which the rule makes a value, or none
abbrev pub token_at : {A : Type 0} → (List ℕ → Option A) → Step A
token_at rule r = token_in rule r.place r.words

-- no word
abbrev pub nothing_at : Step (Unit {0})
nothing_at r = Ok (tt, r)

infixl 10 ◌>>=◌
abbrev pub ◌>>=◌ : {A B : Type 0} → Result A ℕ → (A → Result B ℕ) → Result B ℕ
(Ok x) >>= f = f x
(Err place) >>= f = Err place

-- the one, and behind it the other, which may depend on what the first gave
abbrev pub followed : {A B : Type 0} → Step A → (A → Step B) → Step (A × B)
followed first second r = first r >>= λ x. second x.0 x.1 >>= λ y. Ok ((x.0, y.0), y.1)

abbrev pub both : {A B : Type 0} → Step A → Step B → Step (A × B)
both first second = followed first (λ _. second)

-- what a step gave, made into another thing
abbrev pub made : {A B : Type 0} → (A → B) → Step A → Step B
made make step r = step r >>= λ x. Ok (make x.0, x.1)

-- a word that says what stands behind it
abbrev pub chosen : {A K : Type 0} → (List ℕ → Option K) → (K → Step A) → Step A
chosen kind behind r = token_at kind r >>= λ k. behind k.0 k.1

abbrev pub ended : {A : Type 0} → A → ℕ → List (List ℕ) → Result A ℕ
ended x place [] = Ok x
ended x place (word ∷ rest) = Err place

-- all of a text
abbrev pub whole : {A : Type 0} → Step A → List ℕ → Result A ℕ
whole step text = step (reading_of text) >>= λ x. ended x.0 x.1.place x.1.words

-- ---- rules

-- this very word
abbrev pub is_literal : List ℕ → List ℕ → Option (Unit {0})
is_literal text word = if bytes_eq word text then Some tt else None

-- whether it is the first of these two words, of which it is one
abbrev pub one_of : List ℕ → List ℕ → List ℕ → Option Bool
one_of first second word = if bytes_eq word first then Some true else (if bytes_eq word second then Some false else None)

-- the one of these whose text the word is
abbrev pub among : {K : Type 0} → (K → List ℕ) → List K → List ℕ → Option K
among text [] word = None
among text (k ∷ ks) word = if bytes_eq word (text k) then Some k else among text ks word

-- the number of which the word is the decimal digits, if 64 bits hold it
abbrev pub number_of : List ℕ → Option ℕ
number_of word = if nat_lt (digits_value 10 word) (2 ^ 64) && bytes_eq word (decimal (digits_value 10 word)) then Some (digits_value 10 word) else None

abbrev pub number_within : ℕ → ℕ → Option ℕ → Option ℕ
number_within low high None = None
number_within low high (Some n) = if nat_le low n && nat_le n high then Some n else None

-- a number from low to high
abbrev pub number : ℕ → ℕ → List ℕ → Option ℕ
number low high word = number_within low high (number_of word)

abbrev pub some_monitor : Option ℕ → Option (Option ℕ)
some_monitor None = None
some_monitor (Some m) = Some (Some m)

-- the number of a member, or the word for nobody's
abbrev pub monitor_of : List ℕ → Option (Option ℕ)
monitor_of word = if bytes_eq word (codes "none") then Some None else some_monitor (number 0 LAST_MEMBER word)

abbrev pub is_lower_digit : ℕ → Bool
is_lower_digit c = (nat_le 48 c && nat_le c 57) || (nat_le 97 c && nat_le c 102)

abbrev pub bytes_or_none : Result (List ℕ) FromHexError → Option (List ℕ)
bytes_or_none (Ok bytes) = Some bytes
bytes_or_none (Err fault) = None

-- the digits of one or more bytes, in lower case
abbrev pub is_spelled : List ℕ → Bool
is_spelled word = nat_lt 0 (length word) && (length word % 2 == 0 && list_all is_lower_digit word)

-- the bytes of which the word is the digits, in lower case: at least one
abbrev pub bytes_of : List ℕ → Option (List ℕ)
bytes_of word = if is_spelled word then bytes_or_none (decode_of word) else None

abbrev pub or_nothing : Option (List ℕ) → List ℕ
or_nothing None = []
or_nothing (Some bytes) = bytes

-- the same bytes, if there are some
abbrev pub bytes_in : List ℕ → List ℕ
bytes_in word = or_nothing (bytes_of word)

abbrev pub key_or_none : Result Key KeyFault → Option Key
key_or_none (Ok key) = Some key
key_or_none (Err fault) = None

abbrev pub key_from : Option (List ℕ) → Option Key
key_from None = None
key_from (Some bytes) = key_or_none (key_in bytes)

-- the key of whose bytes the word is the digits: of one level where they are 112, and of two where they are 120
abbrev pub key_of : List ℕ → Option Key
key_of word = key_from (bytes_of word)

-- ---- what calls give

-- A step of the reader gave, seen by view, what the definition reads.
abbrev pub Reads : {X A : Type 0} → (X → A) → Result X Misread → Reading → Result (A × Reading) ℕ → Type 0
Reads view (Ok x) later read = read ≡ Ok (view x, later)
Reads view (Err e) later read = read ≡ Err e.place

-- The end of a text, or the place of a word too many.
abbrev pub EndsAs : Result (Unit {0}) Misread → Reading → Type 0
EndsAs (Ok done) r = r.words ≡ []
EndsAs (Err e) r = (0 < length r.words) × (e.place ≡ r.place)
