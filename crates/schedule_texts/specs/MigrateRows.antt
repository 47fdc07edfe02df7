-- The table of the text that moves the store of a key to another group. Its lines are those of a secret's text, with one more
-- group before the kinds.
use Rattle.std.specs.Prelude.{ℕ, Bool, true, false, ◌&&◌, ◌||◌, ◌==◌, List, Option, Result, Err, codes, bytes_eq, if◌then◌else◌}
use Rattle.line_text.specs.declared.bad_word.BadWord.{BadWord}
use Rattle.line_text.specs.declared.bad_word.BadWord.TheVariants as bad
use Rattle.line_text.specs.Fields.{bad_where}
use Rattle.line_text.specs.Frame.{Row, whole_line}
use Rattle.line_text.specs.Shapes.{made_of}
use Rattle.line_text.specs.Tables as table
use Rattle.line_text.specs.Tables.{Table}
use Rattle.schedule_texts.specs.declared.line.SecretLine.{SecretLine}
use Rattle.schedule_texts.specs.declared.line.SecretLine.TheVariants as lines
use Rattle.schedule_texts.specs.declared.migrate.MigrateText.{MigrateText}
use Rattle.schedule_texts.specs.declared.migrate.MigrateText.TheVariants as migrate
use Rattle.schedule_texts.specs.declared.secret.LineWord.{LineWord}
use Rattle.schedule_texts.specs.declared.secret.LineWord.TheVariants as words
use Rattle.schedule_texts.specs.SecretRows as secret
use Rattle.schedule_texts.specs.SecretRows.{fields, fields_of, is_unfit, line, line_of, line_words, parts, word_text}

abbrev pub is_start : MigrateText → Bool
is_start migrate.Start = true
is_start _ = false

abbrev pub is_ended : MigrateText → Bool
is_ended (migrate.Moved text) = secret.is_ended text
is_ended _ = false

-- The group in which the store is comes first, and then the one to which it moves; the lines behind that come as in a secret's
-- text.
abbrev pub may_stand : MigrateText → LineWord → Bool
may_stand migrate.Headed words.Group = true
may_stand (migrate.Left old) words.Group = true
may_stand (migrate.Moved text) word = secret.may_stand text word
may_stand _ _ = false

-- The second group has the tolerance and the tag of the first.
abbrev pub stays : MigrateText → SecretLine → Bool
stays (migrate.Left old) (lines.Group g) = g.t == old.t && bytes_eq g.tag old.tag
stays form l = false

-- Such a group is refused as a whole, so are the kinds of which there are no keys, and nothing else is.
abbrev pub line_fault : MigrateText → SecretLine → Option BadWord
line_fault form l = bad_where bad.Limit (is_unfit l || stays form l)

abbrev pub migrate_table : Table MigrateText LineWord SecretLine
migrate_table = record {
  is_start = is_start;
  form = codes "migrate";
  header = lines.Header;
  no_header = λ ws. bad.Header;
  words = line_words;
  text = word_text;
  may_stand = may_stand;
  fields = λ form. fields;
  whole_fault = λ form word vs. line_fault form (made_of (fields word) (line word) vs);
  line = λ form. line;
  parts = λ form. parts;
}

-- ## As it is read

-- what the words behind a line word are read as
abbrev pub reads : MigrateText → LineWord → List (List ℕ) → Result SecretLine BadWord
reads form word args =
    if may_stand form word then whole_line (fields_of word args) (λ ws. line_fault form (line_of word ws)) (line_of word) args
    else Err bad.Order

abbrev pub row_for : MigrateText → List (List ℕ) → Result (Row SecretLine) BadWord
row_for form ws = table.row_for migrate_table form ws
