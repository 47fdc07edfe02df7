-- The table of the text that asks an authority for certificates.
use Rattle.std.specs.Prelude.{ℕ, Bool, true, false, not, ◌&&◌, List, [], ◌∷◌, Option, None, Result, Err, codes, slice_index_or, if◌then◌else◌}
use Rattle.ff_ids.specs.declared.TheConstants.{LAST_MEMBER}
use Rattle.line_text.specs.declared.bad_word.BadWord.{BadWord}
use Rattle.line_text.specs.declared.bad_word.BadWord.TheVariants as bad
use Rattle.line_text.specs.Fields.{Test, is_within}
use Rattle.line_text.specs.Frame.{Row, fields_line, word_among}
use Rattle.line_text.specs.Shapes.{◌and◌, Field, Fields, Makes, line_from, no_more, number_where, test, tests}
use Rattle.line_text.specs.Tables as table
use Rattle.line_text.specs.Tables.{Header, Line, Parts, Table}
use Rattle.records.specs.declared.CertBody.{CertBody}
use Rattle.schedule_texts.specs.declared.line.RosterLine.{RosterLine}
use Rattle.schedule_texts.specs.declared.line.RosterLine.TheVariants as lines
use Rattle.schedule_texts.specs.declared.roster.RosterText.{RosterText}
use Rattle.schedule_texts.specs.declared.roster.RosterText.TheVariants as roster
use Rattle.schedule_texts.specs.declared.roster.LineWord.{LineWord}
use Rattle.schedule_texts.specs.declared.roster.LineWord.TheVariants as words
use Rattle.schedule_texts.specs.Shared.{cert_of, group_of, group_shape, group_values, key_field, one_level_of, one_level_shape, one_level_values, port_field, secret_shape}

abbrev pub is_start : RosterText → Bool
is_start roster.Start = true
is_start _ = false

abbrev pub is_ended : RosterText → Bool
is_ended roster.Ended = true
is_ended _ = false

-- whether a line before names the member of this number
abbrev pub is_named : RosterText → ℕ → Bool
is_named (roster.Body named) m = slice_index_or named m false
is_named _ m = false

-- The group, the kinds and the secret come in this order, and behind them certificates, as many as there are.
abbrev pub may_stand : RosterText → LineWord → Bool
may_stand roster.Headed words.Group = true
may_stand roster.Grouped words.Kinds = true
may_stand roster.Kinded words.Secret = true
may_stand (roster.Body named) words.Cert = true
may_stand (roster.Body named) words.End = true
may_stand _ _ = false

-- the number of a member that no line before names
abbrev pub new_member_field : RosterText → Field
new_member_field form = number_where (λ m. is_within 0 LAST_MEMBER m && not (is_named form m))

abbrev pub new_member : RosterText → Test
new_member form word = test (new_member_field form) word

-- M PORT KEY
abbrev pub cert_shape : RosterText → Fields
cert_shape form = new_member_field form and port_field and key_field and no_more

abbrev pub cert_fields : RosterText → List Test
cert_fields form = tests (cert_shape form)

abbrev pub cert_in : List (List ℕ) → CertBody
cert_in args = line_from (cert_shape roster.Start) cert_of args

abbrev pub fields : RosterText → LineWord → Fields
fields form words.Group = group_shape
fields form words.Kinds = one_level_shape
fields form words.Secret = secret_shape
fields form words.Cert = cert_shape form
fields form words.End = no_more

abbrev pub line : (form : RosterText) (word : LineWord) → Makes (fields form word) RosterLine
line form words.Group = λ t timeout period misses tag. lines.Group (group_of t timeout period misses tag)
line form words.Kinds = λ wide high. lines.Kinds (one_level_of wide high)
line form words.Secret = λ bytes. lines.Secret bytes
line form words.Cert = λ m at own. lines.Cert (cert_of m at own)
line form words.End = lines.End

abbrev pub parts : (form : RosterText) → RosterLine → Parts LineWord (fields form)
parts form lines.Header = Header
parts form (lines.Group g) = Line words.Group (group_values g)
parts form (lines.Kinds k) = Line words.Kinds (one_level_values k)
parts form (lines.Secret bytes) = Line words.Secret (bytes, tt)
parts form (lines.Cert c) = Line words.Cert (c.member, (c.port, (c.key, tt)))
parts form lines.End = Line words.End tt

abbrev pub word_text : LineWord → List ℕ
word_text words.Group = codes "group"
word_text words.Kinds = codes "kinds"
word_text words.Secret = codes "secret"
word_text words.Cert = codes "cert"
word_text words.End = codes "end"

abbrev pub line_words : List LineWord
line_words = words.Group ∷ words.Kinds ∷ words.Secret ∷ words.Cert ∷ words.End ∷ []

abbrev pub roster_table : Table RosterText LineWord RosterLine
roster_table = record {
  is_start = is_start;
  form = codes "roster";
  header = lines.Header;
  no_header = λ ws. bad.Header;
  words = line_words;
  text = word_text;
  may_stand = may_stand;
  fields = fields;
  whole_fault = λ form word values. None;
  line = line;
  parts = parts;
}

-- ## As it is read

-- the line word that a word is
abbrev pub line_word : List ℕ → Option LineWord
line_word word = word_among word_text line_words word

abbrev pub fields_of : RosterText → LineWord → List Test
fields_of form word = tests (fields form word)

-- the line that words are, which is the same wherever it stands
abbrev pub line_of : LineWord → List (List ℕ) → RosterLine
line_of words.End args = lines.End
line_of word args = line_from (fields roster.Start word) (line roster.Start word) args

-- what the words behind a line word are read as
abbrev pub reads : RosterText → LineWord → List (List ℕ) → Result RosterLine BadWord
reads form word args =
    if may_stand form word then fields_line (fields_of form word) (line_of word) args else Err bad.Order

abbrev pub row_for : RosterText → List (List ℕ) → Result (Row RosterLine) BadWord
row_for form ws = table.row_for roster_table form ws

-- No line takes memory.
abbrev pub TakesMemory : RosterLine → Type 0
TakesMemory l = ⊥
