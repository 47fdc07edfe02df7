use Rattle.std.proofs.Common.{◌≡◌, ◌≤◌, length, vec_capacity}
use Rattle.ff_ids.specs.Views.{State}
use Rattle.membership.specs.Holds.{Holds}
use Rattle.detector.specs.Successors.{watched_below}
use Rattle.detector.proofs.watch.watch_all.Given as goal

abbrev pub invariant-loop-ring : goal.invariant-loop-ring
invariant-loop-ring l =
    record {
      items : (s : State) → Holds l.membership s → l.list.items ≡ watched_below s l.me l.ring;
      few : length l.list.items ≤ l.ring;
      room : vec_capacity l.list ≡ vec_capacity l.initial.list;
    }
