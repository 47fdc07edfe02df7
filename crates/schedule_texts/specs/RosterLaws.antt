-- What is taken as a line of a roster is one by its grammar, and what is one is taken.
use Rattle.std.proofs.Common.{◌≡◌, ℕ, List, ◌∷◌, Option, Some, None, Result, Ok, Err, refl, sym, ap, if◌then◌else◌}
use Rattle.lms_tree.specs.declared.kind.TreeKind.{TreeKind}
use Rattle.sign_keys.specs.declared.kinds.Kinds.{Kinds}
use Rattle.line_text.specs.declared.bad_word.BadWord.{BadWord}
use Rattle.line_text.specs.declared.bad_word.BadWord.TheVariants as bad
use Rattle.line_text.specs.Frame.{fields_line, row_line}
use Rattle.line_text.specs.Shapes.{Values, line_from, made_of, tests_for}
use Rattle.line_text.specs.Tables.{IsSound as IsSoundTable, Line, row_of}
use Rattle.line_text.proofs.TableLemmas.{table-spelled, table-taken}
use Rattle.schedule_texts.specs.declared.line.RosterLine.{RosterLine}
use Rattle.schedule_texts.specs.declared.line.RosterLine.TheVariants as lines
use Rattle.schedule_texts.specs.declared.roster.RosterText.{RosterText}
use Rattle.schedule_texts.specs.declared.roster.LineWord.{LineWord}
use Rattle.schedule_texts.specs.declared.roster.LineWord.TheVariants as words
use Rattle.schedule_texts.specs.RosterRows.{fields, fields_of, line, line_of, line_word, may_stand, parts, reads, row_for, roster_table, word_text}
use Rattle.schedule_texts.specs.RosterGrammar.{IsRoster, IsSound}

named : (word : LineWord) → line_word (word_text word) ≡ Some word
named words.End = refl
named _ = refl

parted : (form : RosterText) (word : LineWord) (vs : Values (fields form word)) → parts form (made_of (fields form word) (line form word) vs) ≡ Line word vs
parted form words.End vs = refl
parted form _ vs = refl

sound : IsSoundTable roster_table
sound = record { named = named; headed = λ form. refl; parted = parted }

-- What is taken as a line is one.
pub roster-spelled : (form : RosterText) (first : List ℕ) (args : List (List ℕ)) (l : RosterLine) → row_line (row_for form (first ∷ args)) args ≡ Ok l → IsRoster form (first ∷ args) l
roster-spelled form first args l e = table-spelled roster_table sound form first args l e

-- What is a line is taken, as that line.
pub roster-taken : (form : RosterText) (first : List ℕ) (args : List (List ℕ)) (l : RosterLine) → IsSound form → IsRoster form (first ∷ args) l → row_line (row_for form (first ∷ args)) args ≡ Ok l
roster-taken form first args l good h = table-taken roster_table sound form first args l h

words_are : (form : RosterText) (word : LineWord) (args : List (List ℕ)) → fields_line (fields_of form word) (line_of word) args ≡ fields_line (tests_for (fields form word) args) (line_from (fields form word) (line form word)) args
words_are form words.End args = refl
words_are form _ args = refl

-- What is read is what the table says.
pub roster-reads : (form : RosterText) (word : LineWord) (args : List (List ℕ)) → reads form word args ≡ row_line (Ok (row_of roster_table form word)) args
roster-reads form word args = ap (λ (r : Result RosterLine BadWord). if may_stand form word then r else Err bad.Order) (words_are form word args)

abbrev bottom_of : RosterLine → Option TreeKind
bottom_of (lines.Kinds k) = k.bottom
bottom_of l = None

-- An authority's key has one level.
pub roster-kinds : (form : RosterText) (ws : List (List ℕ)) (k : Kinds) → IsRoster form ws (lines.Kinds k) → k.bottom ≡ None
roster-kinds form ws k h = sym (ap bottom_of h.made)
