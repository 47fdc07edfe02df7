-- What is written for a line, and for what nodes report.
use Rattle.std.specs.Prelude.{ℕ, List, [], ◌∷◌, ◌++◌, flat_map}
use Rattle.journal.specs.declared.event.Event as journal
use Rattle.schedule_world.specs.declared.line.WorldLine.{WorldLine}
use Rattle.world_text.specs.Lines.{line_text}
use Rattle.world_rules.specs.Steps.{Answer, NodeEvent, numbered_from, told_in}
use Rattle.world_rules.specs.Walk.{behind_line, told_text}

-- An event has a line of its own.
abbrev pub told_line : NodeEvent → List ℕ
told_line t = told_text t ++ 10 ∷ []

abbrev pub told_lines : List NodeEvent → List ℕ
told_lines told = flat_map told_line told

-- The event of this node, before whose call so many datagrams were sent.
abbrev pub numbered : ℕ → ℕ → journal.Event → NodeEvent
numbered m before e = record { who = m; event = record e { what = numbered_from before e.what } }

-- The lines of what a node's call reports, before which so many datagrams were sent.
abbrev pub call_lines : ℕ → ℕ → List journal.Event → List ℕ
call_lines m before events = told_lines (told_in m before events)

-- The line, its verdict, and a line for each event.
abbrev pub answer_text : WorldLine → Answer → List ℕ
answer_text line a = line_text line ++ behind_line a.verdict ++ 10 ∷ [] ++ told_lines a.told
