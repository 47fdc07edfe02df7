use Rattle.std.proofs.Common.{◌≡◌, ℕ, ◌-◌, List}
use Rattle.std.specs.Prelude.{Ok}
use Rattle.world_rules.specs.Settings.{Setting}
use Rattle.world_rules.specs.Steps.{Execution, NodeEvent, ticks}
use Rattle.world.specs.Holding.{numbers}
use Rattle.world.specs.Courses.{At, IsPlace}
use Rattle.world.proofs.LoopLemmas.{Sofar, ticks_left}
use Rattle.world.proofs.World.tick.Given as goal

abbrev pub invariant-loop-tick : goal.invariant-loop-tick
invariant-loop-tick l =
    (numbers l.self ≡ numbers l.initial.self)
    × ((s : Setting) (before : List NodeEvent) (base : List ℕ) (c : Execution) (m : ℕ) → At s before base l.initial.self l.initial.out.items c → IsPlace l.initial.self l.at m
    → Sofar s before base l.self l.out.items (Ok (ticks s m l.ticks c)) (ticks_left s m (l.ticks - l._tick)))
