-- The journal of a life that has begun so: from its turns, which of its datagrams were lost, and whether it leaves.
use Rattle.std.specs.Prelude.{ℕ, Bool, List, [], ◌∷◌, ◌++◌, map, codes}
use Rattle.journal.specs.declared.turn.Turn.{Turn}
use Rattle.node_rules.specs.Nodes.{Setting}
use Rattle.node_rules.specs.Calls.{Call}
use Rattle.turn_rules.specs.Turns.{acts_of}
use Rattle.turn_rules.specs.Lines.{JournalLine, OfEvent, line_text, with_feed}
use Rattle.turn_rules.specs.Courses.{course, course_from}

-- The lines of the turns and of the events that the calls report, and behind the last turn those of the leaving.
abbrev pub turn_lines : Setting → Call → List Turn → (ℕ → Bool) → Bool → List JournalLine
turn_lines s start turns lost leave = (course s lost (acts_of turns leave) (course_from start.node)).lines

-- the lines of what the start reports, and those
abbrev pub life_lines : Setting → Call → List Turn → (ℕ → Bool) → Bool → List JournalLine
life_lines s start turns lost leave = map OfEvent start.told ++ turn_lines s start turns lost leave

abbrev pub end_text : List ℕ
end_text = codes "end"

abbrev pub end_line : List ℕ
end_line = with_feed end_text

-- The texts of all lines of the journal, the last of which is `end`.
abbrev pub journal_over : Setting → Call → List Turn → (ℕ → Bool) → Bool → List (List ℕ)
journal_over s start turns lost leave = map line_text (life_lines s start turns lost leave) ++ end_text ∷ []
