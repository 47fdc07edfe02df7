-- The table of the text that asks whether a signature is good: each line word, where its line may stand, what the word
-- behind it must be, and what line they are.
use Rattle.std.specs.Prelude.{ℕ, Bool, true, false, List, [], ◌∷◌, Option, None, Result, Err, codes, if◌then◌else◌}
use Rattle.lms_ots.specs.declared.kind.OtsKind.TheVariants.{W1}
use Rattle.lms_tree.specs.declared.kind.TreeKind.TheVariants.{H5}
use Rattle.records.specs.declared.keys.Key.{Key}
use Rattle.records.specs.declared.keys.Key.TheVariants as keys
use Rattle.records.specs.Keys.{AreKey, key_in}
use Rattle.records.proofs.KeyParts.{key-again, key-are}
use Rattle.line_text.specs.declared.bad_word.BadWord.{BadWord}
use Rattle.line_text.specs.declared.bad_word.BadWord.TheVariants as bad
use Rattle.line_text.specs.Fields.{Test}
use Rattle.line_text.specs.Frame.{Row, fields_line, word_among}
use Rattle.line_text.specs.Shapes.{◌and◌, Field, Fields, Makes, bytes_as, bytes_up_to, line_from, no_more, test, tests, value}
use Rattle.line_text.specs.Tables as table
use Rattle.line_text.specs.Tables.{Header, Line, Parts, Table}
use Rattle.verify_text.specs.declared.line.LineWord.{LineWord}
use Rattle.verify_text.specs.declared.line.LineWord.TheVariants as words
use Rattle.verify_text.specs.declared.line.VerifyLine.{VerifyLine}
use Rattle.verify_text.specs.declared.line.VerifyLine.TheVariants as lines
use Rattle.verify_text.specs.declared.verify.Verify.{Verify}
use Rattle.verify_text.specs.declared.verify.Verify.TheVariants as verify

abbrev pub is_start : Verify → Bool
is_start verify.Start = true
is_start _ = false

abbrev pub is_ended : Verify → Bool
is_ended verify.Ended = true
is_ended _ = false

-- The lines come in one order: the header, the key, the message, the signature, the end.
abbrev pub may_stand : Verify → LineWord → Bool
may_stand verify.Headed words.Key = true
may_stand verify.Keyed words.Message = true
may_stand verify.Worded words.Signature = true
may_stand verify.Signed words.End = true
may_stand _ _ = false

-- a key in 56 bytes, or one of two levels in 60; where a word has none, this one stands for it, and the word is refused
abbrev pub any_key : Key
any_key = keys.Lms (record { tree = H5; ots = W1; id = []; root = [] })

abbrev pub key_field : Field
key_field = bytes_as key_in any_key AreKey key-are key-again

abbrev pub key : Test
key word = test key_field word

abbrev pub key_in_word : List ℕ → Key
key_in_word word = value key_field word

-- how many bytes a message may have
abbrev pub message_bytes : ℕ
message_bytes = 16384

-- how many bytes a signature may have
abbrev pub signature_bytes : ℕ
signature_bytes = 10000

abbrev pub fields : LineWord → Fields
fields words.Key = key_field and no_more
fields words.Message = bytes_up_to message_bytes and no_more
fields words.Signature = bytes_up_to signature_bytes and no_more
fields words.End = no_more

abbrev pub line : (word : LineWord) → Makes (fields word) VerifyLine
line words.Key = λ k. lines.Key k
line words.Message = λ message. lines.Message message
line words.Signature = λ signature. lines.Signature signature
line words.End = lines.End

abbrev pub parts : VerifyLine → Parts LineWord fields
parts lines.Header = Header
parts (lines.Key k) = Line words.Key (k, tt)
parts (lines.Message message) = Line words.Message (message, tt)
parts (lines.Signature signature) = Line words.Signature (signature, tt)
parts lines.End = Line words.End tt

abbrev pub word_text : LineWord → List ℕ
word_text words.Key = codes "key"
word_text words.Message = codes "message"
word_text words.Signature = codes "signature"
word_text words.End = codes "end"

abbrev pub line_words : List LineWord
line_words = words.Key ∷ words.Message ∷ words.Signature ∷ words.End ∷ []

abbrev pub verify_table : Table Verify LineWord VerifyLine
verify_table = record {
  is_start = is_start;
  form = codes "verify";
  header = lines.Header;
  no_header = λ ws. bad.Header;
  words = line_words;
  text = word_text;
  may_stand = may_stand;
  fields = λ v. fields;
  whole_fault = λ v word values. None;
  line = λ v. line;
  parts = λ v. parts;
}

-- ## As it is read

-- the line word that a word is
abbrev pub line_word : List ℕ → Option LineWord
line_word word = word_among word_text line_words word

abbrev pub fields_of : LineWord → List Test
fields_of word = tests (fields word)

abbrev pub line_of : LineWord → List (List ℕ) → VerifyLine
line_of words.End args = lines.End
line_of word args = line_from (fields word) (line word) args

-- what the words behind a line word are read as
abbrev pub reads : Verify → LineWord → List (List ℕ) → Result VerifyLine BadWord
reads v word args = if may_stand v word then fields_line (fields_of word) (line_of word) args else Err bad.Order

abbrev pub row_for : Verify → List (List ℕ) → Result (Row VerifyLine) BadWord
row_for v ws = table.row_for verify_table v ws

-- Only bytes take memory.
abbrev pub TakesMemory : VerifyLine → Type 0
TakesMemory (lines.Message m) = Unit {0}
TakesMemory (lines.Signature s) = Unit {0}
TakesMemory _ = ⊥
