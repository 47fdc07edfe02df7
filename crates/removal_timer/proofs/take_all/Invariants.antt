use Rattle.std.proofs.Common.{length}
use Rattle.removal_timer.specs.Kept.{AreQueued, entries_in}
use Rattle.removal_timer.specs.Tally.{AreTallied}
use Rattle.removal_timer.proofs.take_all.Given as goal

abbrev pub invariant-loop-number : goal.invariant-loop-number
invariant-loop-number l = record { queued : AreQueued l.rings l.slots l.queue; tallied : AreTallied (entries_in l.slots) l.tallies }

abbrev pub decreases-loop-number : goal.decreases-loop-number
decreases-loop-number l = length l.queue
