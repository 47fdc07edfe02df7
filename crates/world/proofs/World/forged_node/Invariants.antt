use Rattle.std.proofs.Common.{◌≡◌, List, Some, drop}
use Rattle.std.specs.Prelude.{find}
use Rattle.world_rules.specs.Forgeries.{is_forged_for}
use Rattle.world_rules.specs.Settings.{Setting, nodes}
use Rattle.world_rules.specs.Steps.{NodeEvent}
use Rattle.world_rules.specs.Worlds.{World as ModelWorld}
use Rattle.world.specs.Holding.{Holds, numbers}
use Rattle.world.proofs.World.forged_node.Given as goal

abbrev pub invariant-loop-at : goal.invariant-loop-at
invariant-loop-at l = (s : Setting) (w : ModelWorld) (told : List NodeEvent) → Holds s w told l.fn.self
    → find (λ m. is_forged_for s w l.fn.rec (Some m)) (nodes s) ≡ find (λ m. is_forged_for s w l.fn.rec (Some m)) (drop l.at (numbers l.fn.self))
