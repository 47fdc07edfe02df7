-- What is taken as a line of the world form is one by its grammar, and what is one is taken.
use Rattle.std.proofs.Common.{◌≡◌, ℕ, List, ◌∷◌, Some, Result, Ok, Err, refl, ap, if◌then◌else◌}
use Rattle.line_text.specs.declared.bad_word.BadWord.{BadWord}
use Rattle.line_text.specs.declared.bad_word.BadWord.TheVariants as bad
use Rattle.line_text.specs.Frame.{row_line, whole_line}
use Rattle.line_text.specs.Shapes.{Values, line_from, made_of, tests_for, values}
use Rattle.line_text.specs.Tables.{IsSound as IsSoundTable, Line, row_of}
use Rattle.line_text.proofs.TableLemmas.{table-spelled, table-taken}
use Rattle.schedule_world.specs.declared.line.LineWord.{LineWord}
use Rattle.schedule_world.specs.declared.line.LineWord.TheVariants as words
use Rattle.schedule_world.specs.declared.line.WorldLine.{WorldLine}
use Rattle.schedule_world.specs.declared.text.WorldText.{WorldText}
use Rattle.schedule_world.specs.Rows.{fields, line, line_word, may_stand, parts, reads, row_for, whole_fault, word_text, words_line, world_table}
use Rattle.schedule_world.specs.Grammar.{IsSound, IsWorld}

found : (word : LineWord) → line_word (word_text word) ≡ Some word
found words.End = refl
found _ = refl

parted : (w : WorldText) (word : LineWord) (vs : Values (fields w word)) → parts w (made_of (fields w word) (line w word) vs) ≡ Line word vs
parted w words.End vs = refl
parted w _ vs = refl

sound : IsSoundTable world_table
sound = record { named = found; headed = λ w. refl; parted = parted }

-- What is taken as a line is one.
pub world-spelled : (w : WorldText) (first : List ℕ) (args : List (List ℕ)) (l : WorldLine) → row_line (row_for w (first ∷ args)) args ≡ Ok l → IsWorld w (first ∷ args) l
world-spelled w first args l e = table-spelled world_table sound w first args l e

-- What is a line is taken, as that line.
pub world-taken : (w : WorldText) (first : List ℕ) (args : List (List ℕ)) (l : WorldLine) → IsSound w → IsWorld w (first ∷ args) l → row_line (row_for w (first ∷ args)) args ≡ Ok l
world-taken w first args l good h = table-taken world_table sound w first args l h

words_are : (w : WorldText) (word : LineWord) (args : List (List ℕ)) → words_line w word args ≡ whole_line (tests_for (fields w word) args) (λ ws. whole_fault w word (values (fields w word) ws)) (line_from (fields w word) (line w word)) args
words_are w words.End args = refl
words_are w _ args = refl

-- What is read is what the table says.
pub world-reads : (w : WorldText) (word : LineWord) (args : List (List ℕ)) → reads w word args ≡ row_line (Ok (row_of world_table w word)) args
world-reads w word args = ap (λ (r : Result WorldLine BadWord). if may_stand w word then r else Err bad.Order) (words_are w word args)
