use Rattle.std.proofs.Common.{◌≡◌, ℕ, List, drop}
use Rattle.world_rules.specs.Settings.{Setting}
use Rattle.world_rules.specs.Steps.{Execution, NodeEvent}
use Rattle.world.specs.Holding.{numbers}
use Rattle.world.specs.Courses.{At, hands_each}
use Rattle.world.proofs.LoopLemmas.{Sofar}
use Rattle.world.proofs.World.hand_all.Given as goal

abbrev pub invariant-loop-at : goal.invariant-loop-at
invariant-loop-at l =
    (numbers l.self ≡ numbers l.initial.self)
    × ((s : Setting) (before : List NodeEvent) (base : List ℕ) (c : Execution) → At s before base l.initial.self l.initial.out.items c
    → Sofar s before base l.self l.out.items (hands_each s (numbers l.initial.self) l.bytes c) (hands_each s (drop l.at (numbers l.initial.self)) l.bytes))
