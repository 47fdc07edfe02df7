-- What the grammar says of a line.
use Rattle.std.proofs.Common.{◌≡◌, ℕ, true, List, [], refl, ◌∙◌}
use Rattle.line_text.specs.Shapes.{have_one_word}
use Rattle.line_text.specs.Tables.{words_of}
use Rattle.line_text.proofs.TableLemmas.{table-words}
use Rattle.schedule_direct.specs.declared.direct.Direct.{Direct}
use Rattle.schedule_direct.specs.declared.line.DirectLine.{DirectLine}
use Rattle.schedule_direct.specs.declared.line.DirectLine.TheVariants as lines
use Rattle.schedule_direct.specs.declared.line.LineWord.{LineWord}
use Rattle.schedule_direct.specs.declared.line.LineWord.TheVariants as words
use Rattle.schedule_direct.specs.Rows.{direct_table, fields}
use Rattle.schedule_direct.specs.Grammar.{IsDirect, spelled_words}

one : (d : Direct) (word : LineWord) → have_one_word (fields d word) ≡ true
one d words.End = refl
one d _ = refl

same : (d : Direct) (l : DirectLine) → words_of direct_table d [] l ≡ spelled_words l
same d lines.End = refl
same d _ = refl

-- A line has one spelling.
pub direct-words : (d : Direct) (ws : List (List ℕ)) (l : DirectLine) → IsDirect d ws l → ws ≡ spelled_words l
direct-words d ws l h = table-words direct_table d ws l (one d) [] h ∙ same d l
