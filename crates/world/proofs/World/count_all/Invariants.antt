use Rattle.std.proofs.Common.{◌≡◌, take}
use Rattle.std.specs.Prelude.{fold}
use Rattle.world_rules.specs.Counts.{Counts as Counted, with_event}
use Rattle.world_rules.specs.Settings.{Setting, nodes}
use Rattle.world.specs.Counting.{AreKept}
use Rattle.world.specs.Holding.{numbers}
use Rattle.world.proofs.World.count_all.Given as goal

abbrev pub invariant-loop-event : goal.invariant-loop-event
invariant-loop-event l =
    (l.self ≡ record l.initial.self { counts = l.self.counts })
    × ((s : Setting) (c : Counted) → numbers l.initial.self ≡ nodes s → AreKept l.initial.self.counts c → AreKept l.self.counts (fold (λ c e. with_event s c e.what) c (take l.event-index l.events)))
