-- What is taken as a line of the direct form is one by its grammar, and what is one is taken.
use Rattle.std.proofs.Common.{◌≡◌, ℕ, List, ◌∷◌, Some, Result, Ok, Err, refl, ap, if◌then◌else◌}
use Rattle.line_text.specs.declared.bad_word.BadWord.{BadWord}
use Rattle.line_text.specs.declared.bad_word.BadWord.TheVariants as bad
use Rattle.line_text.specs.Frame.{fields_line, row_line}
use Rattle.line_text.specs.Shapes.{Values, line_from, made_of, tests_for}
use Rattle.line_text.specs.Tables.{IsSound as IsSoundTable, Line, row_of}
use Rattle.line_text.proofs.TableLemmas.{table-spelled, table-taken}
use Rattle.schedule_direct.specs.declared.direct.Direct.{Direct}
use Rattle.schedule_direct.specs.declared.line.DirectLine.{DirectLine}
use Rattle.schedule_direct.specs.declared.line.LineWord.{LineWord}
use Rattle.schedule_direct.specs.declared.line.LineWord.TheVariants as words
use Rattle.schedule_direct.specs.Rows.{direct_table, fields, fields_of, line, line_of, line_word, may_stand, parts, reads, row_for, word_text}
use Rattle.schedule_direct.specs.Grammar.{IsDirect, IsSound}

named : (word : LineWord) → line_word (word_text word) ≡ Some word
named words.End = refl
named _ = refl

parted : (d : Direct) (word : LineWord) (vs : Values (fields d word)) → parts d (made_of (fields d word) (line d word) vs) ≡ Line word vs
parted d words.End vs = refl
parted d _ vs = refl

sound : IsSoundTable direct_table
sound = record { named = named; headed = λ d. refl; parted = parted }

-- What is taken as a line is one.
pub direct-spelled : (d : Direct) (first : List ℕ) (args : List (List ℕ)) (l : DirectLine) → row_line (row_for d (first ∷ args)) args ≡ Ok l → IsDirect d (first ∷ args) l
direct-spelled d first args l e = table-spelled direct_table sound d first args l e

-- What is a line is taken, as that line.
pub direct-taken : (d : Direct) (first : List ℕ) (args : List (List ℕ)) (l : DirectLine) → IsSound d → IsDirect d (first ∷ args) l → row_line (row_for d (first ∷ args)) args ≡ Ok l
direct-taken d first args l good h = table-taken direct_table sound d first args l h

words_are : (d : Direct) (word : LineWord) (args : List (List ℕ)) → fields_line (fields_of d word) (line_of word) args ≡ fields_line (tests_for (fields d word) args) (line_from (fields d word) (line d word)) args
words_are d words.End args = refl
words_are d _ args = refl

-- What is read is what the table says.
pub direct-reads : (d : Direct) (word : LineWord) (args : List (List ℕ)) → reads d word args ≡ row_line (Ok (row_of direct_table d word)) args
direct-reads d word args = ap (λ (r : Result DirectLine BadWord). if may_stand d word then r else Err bad.Order) (words_are d word args)
