-- The table of the text that makes the store of an authority's key.
use Rattle.std.specs.Prelude.{ℕ, Bool, true, false, not, List, [], ◌∷◌, Option, Result, Err, codes, if◌then◌else◌}
use Rattle.line_text.specs.declared.bad_word.BadWord.{BadWord}
use Rattle.line_text.specs.declared.bad_word.BadWord.TheVariants as bad
use Rattle.line_text.specs.Fields.{Test, bad_where}
use Rattle.line_text.specs.Frame.{Row, whole_line, word_among}
use Rattle.line_text.specs.Shapes.{Fields, Makes, line_from, made_of, no_more, tests_for}
use Rattle.line_text.specs.Tables as table
use Rattle.line_text.specs.Tables.{Header, Line, Parts, Table}
use Rattle.sign_keys.specs.Kinds.{is_in_profile}
use Rattle.schedule_texts.specs.declared.line.SecretLine.{SecretLine}
use Rattle.schedule_texts.specs.declared.line.SecretLine.TheVariants as lines
use Rattle.schedule_texts.specs.declared.secret.SecretText.{SecretText}
use Rattle.schedule_texts.specs.declared.secret.SecretText.TheVariants as secret
use Rattle.schedule_texts.specs.declared.secret.LineWord.{LineWord}
use Rattle.schedule_texts.specs.declared.secret.LineWord.TheVariants as words
use Rattle.schedule_texts.specs.Shared.{group_of, group_shape, group_values, kinds_of, kinds_shape, kinds_values, secret_shape}

abbrev pub is_start : SecretText → Bool
is_start secret.Start = true
is_start _ = false

abbrev pub is_ended : SecretText → Bool
is_ended secret.Ended = true
is_ended _ = false

-- The lines come in one order: the header, the group, the kinds, the secret, the end.
abbrev pub may_stand : SecretText → LineWord → Bool
may_stand secret.Headed words.Group = true
may_stand secret.Grouped words.Kinds = true
may_stand secret.Kinded words.Secret = true
may_stand secret.Given words.End = true
may_stand _ _ = false

abbrev pub fields : LineWord → Fields
fields words.Group = group_shape
fields words.Kinds = kinds_shape
fields words.Secret = secret_shape
fields words.End = no_more

abbrev pub line : (word : LineWord) → Makes (fields word) SecretLine
line words.Group = λ t timeout period misses tag. lines.Group (group_of t timeout period misses tag)
line words.Kinds = λ wide high low. lines.Kinds (kinds_of wide high low)
line words.Secret = λ bytes. lines.Secret bytes
line words.End = lines.End

-- There are no keys of its kinds.
abbrev pub is_unfit : SecretLine → Bool
is_unfit (lines.Kinds k) = not (is_in_profile k)
is_unfit l = false

-- Such kinds are refused as a whole, and nothing else is.
abbrev pub line_fault : SecretLine → Option BadWord
line_fault l = bad_where bad.Limit (is_unfit l)

abbrev pub parts : SecretLine → Parts LineWord fields
parts lines.Header = Header
parts (lines.Group g) = Line words.Group (group_values g)
parts (lines.Kinds k) = Line words.Kinds (kinds_values k)
parts (lines.Secret bytes) = Line words.Secret (bytes, tt)
parts lines.End = Line words.End tt

abbrev pub word_text : LineWord → List ℕ
word_text words.Group = codes "group"
word_text words.Kinds = codes "kinds"
word_text words.Secret = codes "secret"
word_text words.End = codes "end"

abbrev pub line_words : List LineWord
line_words = words.Group ∷ words.Kinds ∷ words.Secret ∷ words.End ∷ []

abbrev pub secret_table : Table SecretText LineWord SecretLine
secret_table = record {
  is_start = is_start;
  form = codes "secret";
  header = lines.Header;
  no_header = λ ws. bad.Header;
  words = line_words;
  text = word_text;
  may_stand = may_stand;
  fields = λ form. fields;
  whole_fault = λ form word vs. line_fault (made_of (fields word) (line word) vs);
  line = λ form. line;
  parts = λ form. parts;
}

-- ## As it is read

-- the line word that a word is
abbrev pub line_word : List ℕ → Option LineWord
line_word word = word_among word_text line_words word

abbrev pub fields_of : LineWord → List (List ℕ) → List Test
fields_of word args = tests_for (fields word) args

abbrev pub line_of : LineWord → List (List ℕ) → SecretLine
line_of words.End args = lines.End
line_of word args = line_from (fields word) (line word) args

-- what the words behind a line word are read as
abbrev pub reads : SecretText → LineWord → List (List ℕ) → Result SecretLine BadWord
reads form word args =
    if may_stand form word then whole_line (fields_of word args) (λ ws. line_fault (line_of word ws)) (line_of word) args
    else Err bad.Order

abbrev pub row_for : SecretText → List (List ℕ) → Result (Row SecretLine) BadWord
row_for form ws = table.row_for secret_table form ws

-- No line takes memory.
abbrev pub TakesMemory : SecretLine → Type 0
TakesMemory l = ⊥
