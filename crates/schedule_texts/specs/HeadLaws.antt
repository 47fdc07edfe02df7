-- What is taken as a line of the head is one by its grammar, and what is one is taken.
use Rattle.std.proofs.Common.{◌≡◌, ℕ, List, ◌∷◌, Some, None, Ok, refl}
use Rattle.line_text.specs.Frame.{row_line}
use Rattle.line_text.specs.Shapes.{Values, made_of}
use Rattle.line_text.specs.Tables.{IsSound as IsSoundTable, Line}
use Rattle.line_text.proofs.TableLemmas.{table-spelled, table-taken}
use Rattle.records.specs.declared.keys.Key.TheVariants as keys
use Rattle.schedule_texts.specs.declared.head.HeadText.{HeadText}
use Rattle.schedule_texts.specs.declared.head.HeadText.TheVariants as head
use Rattle.schedule_texts.specs.declared.head_line.HeadLine.{HeadLine}
use Rattle.schedule_texts.specs.declared.head_line.LineWord.{LineWord}
use Rattle.schedule_texts.specs.declared.head_line.LineWord.TheVariants as words
use Rattle.schedule_texts.specs.HeadRows.{fields, head_table, line, line_word, parts, reads, row_for, row_of, word_text}
use Rattle.schedule_texts.specs.HeadGrammar.{IsHead, IsSound}

named : (word : LineWord) → line_word (word_text word) ≡ Some word
named words.End = refl
named _ = refl

parted : (form : HeadText) (word : LineWord) (vs : Values (fields form word)) → parts form (made_of (fields form word) (line form word) vs) ≡ Line word vs
parted (head.Body g me authority named None) words.State vs = refl
parted (head.Body g me authority named (Some (keys.Lms key))) words.State vs = refl
parted (head.Body g me authority named (Some (keys.Hss key))) words.State vs = refl
parted form words.End vs = refl
parted form _ vs = refl

sound : IsSoundTable head_table
sound = record { named = named; headed = λ form. refl; parted = parted }

-- What is taken as a line is one.
pub head-spelled : (form : HeadText) (first : List ℕ) (args : List (List ℕ)) (l : HeadLine) → row_line (row_for form (first ∷ args)) args ≡ Ok l → IsHead form (first ∷ args) l
head-spelled form first args l e = table-spelled head_table sound form first args l e

-- What is a line is taken, as that line.
pub head-taken : (form : HeadText) (first : List ℕ) (args : List (List ℕ)) (l : HeadLine) → IsSound form → IsHead form (first ∷ args) l → row_line (row_for form (first ∷ args)) args ≡ Ok l
head-taken form first args l good h = table-taken head_table sound form first args l h

-- What is read is what the table says.
pub head-reads : (form : HeadText) (word : LineWord) (args : List (List ℕ)) → reads form word args ≡ row_line (Ok (row_of form word)) args
head-reads head.Headed words.Group args = refl
head-reads (head.Grouped g heal) words.Heal args = refl
head-reads (head.Grouped g heal) words.Own args = refl
head-reads (head.Owned g me) words.Authority args = refl
head-reads (head.Body g me authority named own) words.Cert args = refl
head-reads (head.Body g me authority named own) words.State args = refl
head-reads (head.Stated owned) words.Journal args = refl
head-reads _ _ args = refl
