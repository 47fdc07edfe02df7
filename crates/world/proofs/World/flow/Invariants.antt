use Rattle.std.proofs.Common.{◌≡◌, ℕ, ◌-◌, List}
use Rattle.world_rules.specs.Settings.{Setting}
use Rattle.world_rules.specs.Steps.{Execution, NodeEvent, flows}
use Rattle.world.specs.Holding.{numbers}
use Rattle.world.specs.Courses.{At}
use Rattle.world.proofs.LoopLemmas.{Sofar}
use Rattle.world.proofs.World.flow.Given as goal

abbrev pub invariant-loop-turn : goal.invariant-loop-turn
invariant-loop-turn l =
    (numbers l.self ≡ numbers l.initial.self)
    × ((s : Setting) (before : List NodeEvent) (base : List ℕ) (c : Execution) → At s before base l.initial.self l.initial.out.items c → Sofar s before base l.self l.out.items (flows s l.most c) (flows s (l.most - l._turn)))
