-- The grammar of the text that moves the store of a key to another group, which its table gives.
use Rattle.std.specs.Prelude.{ℕ, List, Result}
use Rattle.line_text.specs.declared.bad_word.BadWord.{BadWord}
use Rattle.line_text.specs.Answers.{Progress, next_line}
use Rattle.line_text.specs.Frame as frame
use Rattle.line_text.specs.Tables.{Spells}
use Rattle.schedule_texts.specs.declared.line.SecretLine.{SecretLine}
use Rattle.schedule_texts.specs.declared.line.SecretLine.TheVariants as lines
use Rattle.schedule_texts.specs.declared.migrate.MigrateText.{MigrateText}
use Rattle.schedule_texts.specs.declared.migrate.MigrateText.TheVariants as migrate
use Rattle.schedule_texts.specs.MigrateRows.{is_ended, migrate_table, row_for}
use Rattle.schedule_texts.specs.SecretGrammar.{text_behind}

-- Every value may be reached.
abbrev pub IsSound : MigrateText → Type 0
IsSound form = Unit {0}

-- These words are this line, which may stand here and which nothing refuses as a whole.
abbrev pub IsMigrate : MigrateText → List (List ℕ) → SecretLine → Type 0
IsMigrate form ws l = Spells migrate_table form ws l

-- ## Behind a line

-- Behind the second group so much has been read as behind the one group of a secret's text.
abbrev pub after : MigrateText → SecretLine → MigrateText
after form lines.Header = migrate.Headed
after migrate.Headed (lines.Group g) = migrate.Left g
after form l = migrate.Moved (text_behind l)

-- ## A reader of the form

-- What the next line is, or its first bad word.
abbrev pub judge : Progress MigrateText → List ℕ → Result SecretLine BadWord
judge p bytes = frame.judge (next_line is_ended row_for p) bytes
