-- What has come of a schedule, as it is kept, and what a line brings.
use Rattle.std.specs.Prelude.{◌≡◌, ◌<◌, ◌≤◌, ◌+◌, ℕ, true, List, [], ◌∷◌, ◌++◌, length, Option, Some, None, Result, Ok, Err}
use Rattle.lms_tree.specs.Kinds.{height}
use Rattle.node_core.specs.Begins.{IsGroup}
use Rattle.schedule_world.specs.declared.line.WorldLine.{WorldLine}
use Rattle.schedule_world.specs.declared.line.WorldLine.TheVariants as lines
use Rattle.sign_keys.specs.Kinds.{is_in_profile}
use Rattle.world_rules.specs.Steps.{NodeEvent}
use Rattle.world_rules.specs.Walk as walk
use Rattle.world_rules.specs.Walk.{Brought, Lists, Plays, behind_line, brought, setting_in}
use Rattle.world_text.specs.Lines.{line_text}
use Rattle.world.specs.Telling.{told_lines}
use Rattle.world.specs.Courses.{HasItsRing}
use Rattle.world.specs.Holding.{Holds, Kept, StandsForWorld}
use Rattle.world.specs.Opening.{IsApart}
use Rattle.world.specs.declared.fault.WorldFault.{WorldFault}
use Rattle.world.specs.declared.fault.WorldFault.TheVariants as faults
use Rattle.world_replay.specs.declared.stage.Stage.{Stage}
use Rattle.world_replay.specs.declared.stage.Stage.TheVariants as stages

-- A world may begin with the roster.
pub record CanBegin (r : walk.Roster) : Type 0 where
  pub group : IsGroup r.group
  pub some : 0 < length r.correct
  pub few : length r.correct + length r.liars ≤ 32
  pub kinds : height r.kinds.tree ≤ 10
  pub profile : is_in_profile r.kinds ≡ true
  pub apart : IsApart r.correct r.liars

-- The roster may take the line: where it ends the roster, a world may begin with that.
abbrev pub CanList : walk.Roster → WorldLine → Type 0
CanList r lines.Begin = CanBegin r
CanList r line = Unit {0}

-- The line may be taken: by the roster; or by what stands for a world, if the ring that it asks about is one of the group's.
abbrev pub CanTake : Stage → WorldLine → Type 0
CanTake (stages.Lists r) line = CanList r line
CanTake (stages.Plays world) line = StandsForWorld world × HasItsRing world line

-- This has come of a roster: it is the one that is kept, or the world that began with it is.
abbrev pub IsBehind : walk.Stage → walk.Roster → Option Kept → Type 0
IsBehind (Lists r) kept None = kept ≡ r
IsBehind (Plays s w) kept (Some world) = Holds s w [] world
IsBehind stage kept begun = ⊥

-- What is kept stands for what has come of the schedule, when this was reported.
abbrev pub HoldsStage : walk.Stage → List NodeEvent → Stage → Type 0
HoldsStage (Lists r) told (stages.Lists kept) = (kept ≡ r) × (told ≡ [])
HoldsStage (Plays s w) told (stages.Plays kept) = Holds s w told kept
HoldsStage stage told kept = ⊥

-- What is written of the line: its text, its verdict, and a line for each event.
abbrev pub brought_text : WorldLine → Brought → List ℕ
brought_text line b = line_text line ++ behind_line b.verdict ++ 10 ∷ [] ++ told_lines b.told

-- The line brought this, and that was appended.
pub record Took (told : List NodeEvent) (line : WorldLine) (new : Stage) (old_text new_text : List ℕ) (b : Brought) : Type 0 where
  pub holds : HoldsStage b.stage (told ++ b.told) new
  pub written : new_text ≡ old_text ++ brought_text line b

-- The line brought what it brings by the walk; or what is forged in it is named, or memory was refused, and nothing is written.
abbrev pub Takes : walk.Stage → List NodeEvent → WorldLine → Stage → List ℕ → List ℕ → Result (Unit {0}) WorldFault → Type 0
Takes stage told line new old_text new_text (Ok done) = (b : Brought) × (brought setting_in stage line ≡ Ok b) × Took told line new old_text new_text b
Takes stage told line new old_text new_text (Err (faults.Forged who body)) = (brought setting_in stage line ≡ Err (record { who = who; body = body })) × (new_text ≡ old_text)
Takes stage told line new old_text new_text (Err faults.OutOfMemory) = new_text ≡ old_text
