-- What comes of a workload.
use Rattle.std.specs.Prelude.{◌≡◌, ℕ, List, [], ◌∷◌, ◌++◌, length, Some, None, Result, Ok, Err, map}
use Rattle.schedule_world.specs.declared.line.WorldLine.{WorldLine}
use Rattle.soak_lines.specs.Workload.{workload}
use Rattle.world_rules.specs.Forgeries.{Forgery}
use Rattle.world_rules.specs.Counts.{Counts, counts_of, nothing_counted}
use Rattle.world_rules.specs.Steps.{NodeEvent}
use Rattle.world_rules.specs.declared.cause.Cause.TheVariants as causes
use Rattle.world_rules.specs.Walk.{Lists, Plays, Stage, Walk, events_in, last_line, setting_in, walk_over}
use Rattle.world_text.specs.Lines.{line_text}
use Rattle.world.specs.Counting.{AreKept}
use Rattle.world_replay.specs.Causes.{grammar}
use Rattle.world_replay.specs.declared.fault.SoakFault.{SoakFault}
use Rattle.world_replay.specs.declared.fault.SoakFault.TheVariants as faults
use Rattle.world_replay.specs.declared.summary.Summary.{Summary}

-- The lines of a text: each in its one spelling, with its line feed.
abbrev pub spelled_lines : List WorldLine → List (List ℕ)
spelled_lines ls = map (λ l. line_text l ++ 10 ∷ []) ls

-- The walk over the text of the workload of this seed with so many members and rounds: that of its replay.
abbrev pub workload_walk : ℕ → ℕ → ℕ → Walk
workload_walk seed members rounds = walk_over grammar setting_in (spelled_lines (workload seed members rounds))

-- How often things came that are reported of a world.
abbrev pub counts_at : Stage → List NodeEvent → Counts
counts_at (Lists r) told = nothing_counted
counts_at (Plays s w) told = counts_of s told

abbrev pub counts_in : Walk → Counts
counts_in w = counts_at w.stage (events_in w)

-- All lines were taken, and the summary says how many they are and what they reported.
pub record IsSummary (all : List WorldLine) (w : Walk) (s : Summary) : Type 0 where
  pub whole : w.cause ≡ None
  pub lines : s.lines ≡ length all
  pub counts : AreKept s.counts (counts_in w)

-- A line hands over what is forged: the first cause that ends the walk, at its line.
pub record IsFoundForged (w : Walk) (number : ℕ) (found : Forgery) : Type 0 where
  pub cause : w.cause ≡ Some (causes.Forged found.who found.body)
  pub line : number ≡ last_line w

-- The summary; or, where a line hands over what is forged, that; or memory was refused.
abbrev pub Answers : List WorldLine → Walk → Result Summary SoakFault → Type 0
Answers all w (Ok s) = IsSummary all w s
Answers all w (Err (faults.Forged line who body)) = IsFoundForged w line (record { who = who; body = body })
Answers all w (Err faults.OutOfMemory) = Unit {0}
