-- What is taken as a line of a secret's text is one by its grammar, and what is one is taken.
use Rattle.std.proofs.Common.{◌≡◌, ℕ, true, not, List, ◌∷◌, Some, Ok, Err, refl, ap, if◌then◌else◌}
use Rattle.std.proofs.lemmas.Bool.{not-false}
use Rattle.sign_keys.specs.declared.kinds.Kinds.{Kinds}
use Rattle.sign_keys.specs.Kinds.{is_in_profile}
use Rattle.line_text.specs.declared.bad_word.BadWord.TheVariants as bad
use Rattle.line_text.specs.Frame.{row_line, whole_line}
use Rattle.line_text.specs.Shapes.{Values, line_from, made_of}
use Rattle.line_text.specs.Tables.{IsSound as IsSoundTable, Line, row_of}
use Rattle.line_text.proofs.FrameLemmas.{passed}
use Rattle.line_text.proofs.TableLemmas.{table-spelled, table-taken}
use Rattle.schedule_texts.specs.declared.line.SecretLine.{SecretLine}
use Rattle.schedule_texts.specs.declared.line.SecretLine.TheVariants as lines
use Rattle.schedule_texts.specs.declared.secret.SecretText.{SecretText}
use Rattle.schedule_texts.specs.declared.secret.LineWord.{LineWord}
use Rattle.schedule_texts.specs.declared.secret.LineWord.TheVariants as words
use Rattle.schedule_texts.specs.SecretRows.{fields, fields_of, line, line_fault, line_of, line_word, may_stand, parts, reads, row_for, secret_table, word_text}
use Rattle.schedule_texts.specs.SecretGrammar.{IsSecret, IsSound}

-- Each line word is found by its text.
pub named : (word : LineWord) → line_word (word_text word) ≡ Some word
named words.End = refl
named _ = refl

-- A line that is made of values has these.
pub parted : (word : LineWord) (vs : Values (fields word)) → parts (made_of (fields word) (line word) vs) ≡ Line word vs
parted words.End vs = refl
parted _ vs = refl

sound : IsSoundTable secret_table
sound = record { named = named; headed = λ form. refl; parted = λ form. parted }

-- What is taken as a line is one.
pub secret-spelled : (form : SecretText) (first : List ℕ) (args : List (List ℕ)) (l : SecretLine) → row_line (row_for form (first ∷ args)) args ≡ Ok l → IsSecret form (first ∷ args) l
secret-spelled form first args l e = table-spelled secret_table sound form first args l e

-- What is a line is taken, as that line.
pub secret-taken : (form : SecretText) (first : List ℕ) (args : List (List ℕ)) (l : SecretLine) → IsSound form → IsSecret form (first ∷ args) l → row_line (row_for form (first ∷ args)) args ≡ Ok l
secret-taken form first args l good h = table-taken secret_table sound form first args l h

-- What the words are read as is the line that they make.
pub line_is : (word : LineWord) → line_of word ≡ line_from (fields word) (line word)
line_is words.End = refl
line_is _ = refl

-- What is read is what the table says.
pub secret-reads : (form : SecretText) (word : LineWord) (args : List (List ℕ)) → reads form word args ≡ row_line (Ok (row_of secret_table form word)) args
secret-reads form word args = ap (λ (of : List (List ℕ) → SecretLine). if may_stand form word then whole_line (fields_of word args) (λ ws. line_fault (of ws)) of args else Err bad.Order) (line_is word)

-- There are keys of the kinds of a line.
pub secret-kinds : (form : SecretText) (ws : List (List ℕ)) (k : Kinds) → IsSecret form ws (lines.Kinds k) → is_in_profile k ≡ true
secret-kinds form ws k h = not-false (is_in_profile k) (passed bad.Limit (not (is_in_profile k)) h.whole)
