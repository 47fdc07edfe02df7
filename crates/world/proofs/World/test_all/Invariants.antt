use Rattle.std.proofs.Common.{◌≡◌, List, drop}
use Rattle.world_rules.specs.Forgeries.{first_forgery}
use Rattle.world_rules.specs.Settings.{Setting}
use Rattle.world_rules.specs.Steps.{NodeEvent}
use Rattle.world_rules.specs.Worlds.{World as ModelWorld}
use Rattle.world.specs.Holding.{Holds, numbers}
use Rattle.world.proofs.World.test_all.Given as goal

abbrev pub invariant-loop-rec : goal.invariant-loop-rec
invariant-loop-rec l =
    (numbers l.self ≡ numbers l.initial.self)
    × ((s : Setting) (w : ModelWorld) (told : List NodeEvent) → Holds s w told l.initial.self → (first_forgery s w l.records ≡ first_forgery s w (drop l.rec-index l.records)) × Holds s w told l.self)
