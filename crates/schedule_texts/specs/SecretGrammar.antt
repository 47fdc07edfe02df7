-- The grammar of the text that makes the store of an authority's key, which its table gives.
use Rattle.std.specs.Prelude.{ℕ, List, Result}
use Rattle.line_text.specs.declared.bad_word.BadWord.{BadWord}
use Rattle.line_text.specs.Answers.{Progress, next_line}
use Rattle.line_text.specs.Frame as frame
use Rattle.line_text.specs.Tables.{Spells}
use Rattle.schedule_texts.specs.declared.line.SecretLine.{SecretLine}
use Rattle.schedule_texts.specs.declared.line.SecretLine.TheVariants as lines
use Rattle.schedule_texts.specs.declared.secret.SecretText.{SecretText}
use Rattle.schedule_texts.specs.declared.secret.SecretText.TheVariants as secret
use Rattle.schedule_texts.specs.SecretRows.{is_ended, row_for, secret_table}

-- Every value may be reached.
abbrev pub IsSound : SecretText → Type 0
IsSound form = Unit {0}

-- These words are this line, which may stand here.
abbrev pub IsSecret : SecretText → List (List ℕ) → SecretLine → Type 0
IsSecret form ws l = Spells secret_table form ws l

-- ## Behind a line

-- what has been read behind this line, wherever it stands
abbrev pub text_behind : SecretLine → SecretText
text_behind lines.Header = secret.Headed
text_behind (lines.Group g) = secret.Grouped
text_behind (lines.Kinds k) = secret.Kinded
text_behind (lines.Secret s) = secret.Given
text_behind lines.End = secret.Ended

abbrev pub after : SecretText → SecretLine → SecretText
after form l = text_behind l

-- ## A reader of the form

-- What the next line is, or its first bad word.
abbrev pub judge : Progress SecretText → List ℕ → Result SecretLine BadWord
judge p bytes = frame.judge (next_line is_ended row_for p) bytes
