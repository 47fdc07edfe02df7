use Rattle.std.proofs.Common.{◌≡◌, ◌<◌, Some, None, length, sym, ◌∙◌}
use Rattle.removal_timer.specs.Queue.{first_number}
use Rattle.removal_timer.proofs.HeldLemmas.{first_queued, length-left, nothing_filled}
use Rattle.removal_timer.proofs.take_all.Goals as goal

pub loop-number-smaller : goal.loop-number-smaller
loop-number-smaller c =
    let first : first_number c.loop-number.queue ≡ Some c.in-Some.number = cc in
    let less : length c.take_out.new.queue < length c.loop-number.queue = rw c.take_out.ensures.left (length-left c.in-Some.number c.loop-number.queue (first_queued c.loop-number.queue c.in-Some.number first)) in
    less

pub returns-clause-none : goal.returns-clause-none
returns-clause-none c =
    let first : first_number c.loop-number.queue ≡ None = sym c.first.ensures.value ∙ c.in_default.is in
    nothing_filled c.args.rings c.loop-number.slots c.loop-number.queue c.loop-number.invariant.queued first
