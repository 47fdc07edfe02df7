-- One line of a workload.
use Rattle.std.specs.Prelude.{◌≡◌, ℕ, Bool, true, false, List, [], ◌∷◌, ◌++◌, Result, Ok, Err}
use Rattle.schedule_world.specs.declared.line.WorldLine.{WorldLine}
use Rattle.world_rules.specs.Forgeries.{Forgery}
use Rattle.world_rules.specs.Steps.{NodeEvent}
use Rattle.world_rules.specs.Walk as walk
use Rattle.world_rules.specs.Walk.{Brought, brought, setting_in}
use Rattle.world_replay.specs.declared.stage.Stage.{Stage}
use Rattle.world_replay.specs.Stages.{CanTake, HoldsStage}
use Rattle.world_replay.specs.declared.fault.SoakFault.{SoakFault}
use Rattle.world_replay.specs.declared.fault.SoakFault.TheVariants as faults

-- The first line that is left may be taken, if there is one.
abbrev pub CanTurn : List WorldLine → Stage → Type 0
CanTurn [] kept = Unit {0}
CanTurn (line ∷ rest) kept = CanTake kept line

-- The first line was taken, and the others are left.
pub record TakesFirst (left : List WorldLine) (kept : Stage) (later : List WorldLine) (new : Stage) : Type 0 where
  pub line : WorldLine
  pub given : left ≡ line ∷ later
  pub takes : (stage : walk.Stage) (told : List NodeEvent) → HoldsStage stage told kept → (b : Brought) × (brought setting_in stage line ≡ Ok b) × HoldsStage b.stage (told ++ b.told) new

-- The first line, which has this number, hands over what is forged.
pub record FindsForged (left : List WorldLine) (kept : Stage) (number : ℕ) (line : ℕ) (found : Forgery) : Type 0 where
  pub first : WorldLine
  pub rest : List WorldLine
  pub given : left ≡ first ∷ rest
  pub forged : (stage : walk.Stage) (told : List NodeEvent) → HoldsStage stage told kept → brought setting_in stage first ≡ Err found
  pub at : line ≡ number

abbrev pub Turns : List WorldLine → Stage → ℕ → List WorldLine → Stage → Result Bool SoakFault → Type 0
Turns left kept number later new (Ok true) = TakesFirst left kept later new
Turns left kept number later new (Ok false) = (left ≡ []) × (new ≡ kept)
Turns left kept number later new (Err (faults.Forged line who body)) = FindsForged left kept number line (record { who = who; body = body })
Turns left kept number later new (Err faults.OutOfMemory) = Unit {0}
