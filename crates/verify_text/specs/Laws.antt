-- What is taken as a line is one by the grammar, and what is one is taken.
use Rattle.std.proofs.Common.{◌≡◌, ℕ, List, ◌∷◌, Some, Result, Ok, Err, refl, ap, if◌then◌else◌}
use Rattle.line_text.specs.declared.bad_word.BadWord.{BadWord}
use Rattle.line_text.specs.declared.bad_word.BadWord.TheVariants as bad
use Rattle.line_text.specs.Frame.{fields_line, row_line}
use Rattle.line_text.specs.Shapes.{Values, line_from, made_of, tests_for}
use Rattle.line_text.specs.Tables.{IsSound as IsSoundTable, Line, row_of}
use Rattle.line_text.proofs.TableLemmas.{table-spelled, table-taken}
use Rattle.verify_text.specs.declared.line.LineWord.{LineWord}
use Rattle.verify_text.specs.declared.line.LineWord.TheVariants as words
use Rattle.verify_text.specs.declared.line.VerifyLine.{VerifyLine}
use Rattle.verify_text.specs.declared.verify.Verify.{Verify}
use Rattle.verify_text.specs.Rows.{fields, fields_of, line, line_of, line_word, may_stand, parts, reads, row_for, verify_table, word_text}
use Rattle.verify_text.specs.Grammar.{IsSound, IsVerify}

named : (word : LineWord) → line_word (word_text word) ≡ Some word
named words.End = refl
named _ = refl

parted : (v : Verify) (word : LineWord) (vs : Values (fields word)) → parts (made_of (fields word) (line word) vs) ≡ Line word vs
parted v words.End vs = refl
parted v _ vs = refl

sound : IsSoundTable verify_table
sound = record { named = named; headed = λ v. refl; parted = parted }

-- What is taken as a line is one.
pub verify-spelled : (v : Verify) (first : List ℕ) (args : List (List ℕ)) (l : VerifyLine) → row_line (row_for v (first ∷ args)) args ≡ Ok l → IsVerify v (first ∷ args) l
verify-spelled v first args l e = table-spelled verify_table sound v first args l e

-- What is a line is taken, as that line.
pub verify-taken : (v : Verify) (first : List ℕ) (args : List (List ℕ)) (l : VerifyLine) → IsSound v → IsVerify v (first ∷ args) l → row_line (row_for v (first ∷ args)) args ≡ Ok l
verify-taken v first args l good h = table-taken verify_table sound v first args l h

words_are : (word : LineWord) (args : List (List ℕ)) → fields_line (fields_of word) (line_of word) args ≡ fields_line (tests_for (fields word) args) (line_from (fields word) (line word)) args
words_are words.End args = refl
words_are _ args = refl

-- What is read is what the table says.
pub verify-reads : (v : Verify) (word : LineWord) (args : List (List ℕ)) → reads v word args ≡ row_line (Ok (row_of verify_table v word)) args
verify-reads v word args = ap (λ (r : Result VerifyLine BadWord). if may_stand v word then r else Err bad.Order) (words_are word args)
