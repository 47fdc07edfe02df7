use Rattle.std.proofs.Common.{◌+◌, ◌≤◌, length, filter, vec_len, vec_capacity}
use Rattle.ff_ids.specs.Steps.{is_due}
use Rattle.removal_timer.specs.Kept.{entries_in}
use Rattle.removal_timer.specs.Tally.{AreTallied}
use Rattle.removal_timer.proofs.HeldLemmas.{IsTaking}
use Rattle.removal_timer.proofs.take_due.Given as goal

abbrev pub invariant-loop-number : goal.invariant-loop-number
invariant-loop-number l =
    record {
      taking : IsTaking l.rings l.timeout l.now l.initial.slots l.slots l.queue l.initial.out.items l.out.items;
      room : vec_len l.out + length (filter (is_due l.timeout l.now) (entries_in l.slots)) ≤ vec_capacity l.out;
      tallied : AreTallied (entries_in l.slots) l.tallies;
      capacity : vec_capacity l.initial.out ≤ vec_capacity l.out;
    }

abbrev pub decreases-loop-number : goal.decreases-loop-number
decreases-loop-number l = length l.queue
