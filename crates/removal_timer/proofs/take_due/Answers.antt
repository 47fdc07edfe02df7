use Rattle.std.proofs.Common.{◌≡◌, ◌<◌, [], true, None, is_some, length, set, filter, ap, ◌∙◌, arith}
use Rattle.ff_ids.specs.Steps.{is_due}
use Rattle.removal_timer.specs.Kept.{entries_in, AreQueued}
use Rattle.removal_timer.specs.Queue.{is_queued, without}
use Rattle.removal_timer.proofs.SlotLemmas.{Entry, Slots}
use Rattle.removal_timer.proofs.HeldLemmas.{IsDueAt-taken, IsTaking-more, IsTaking-end, fewer_due, length-left}
use Rattle.removal_timer.proofs.take_due.Goals as goal

pub push_reserved-requires : goal.push_reserved-requires
push_reserved-requires c =
    let p : Entry = (c.in-Some-take_out.acc, c.in-Some-take_out._since) in
    let at = IsDueAt-taken c.args.timeout c.args.now c.loop-number.slots c.in-Some.number p c.take_out.result c.in-Some-take_out.is c.take_out.ensures.value c.in-Some.ensures.due in
    omega (arith, fewer_due c.args.timeout c.args.now c.loop-number.slots c.in-Some.number p at.there at.due, c.loop-number.invariant.room)

pub loop-number-smaller-in-Some-take_out : goal.loop-number-smaller-in-Some-take_out
loop-number-smaller-in-Some-take_out c =
    let queued : is_queued c.loop-number.queue c.in-Some.number ≡ true = c.loop-number.invariant.taking.queued.filled c.in-Some.number ∙ c.in-Some.ensures.filled in
    let less : length c.take_out.new.queue < length c.loop-number.queue = rw c.take_out.ensures.left (length-left c.in-Some.number c.loop-number.queue queued) in
    less

pub loop-number-preserved-in-Some-take_out : goal.loop-number-preserved-in-Some-take_out
loop-number-preserved-in-Some-take_out c =
    let slots = c.loop-number.slots in
    let n = c.in-Some.number in
    let p : Entry = (c.in-Some-take_out.acc, c.in-Some-take_out._since) in
    let at = IsDueAt-taken c.args.timeout c.args.now slots n p c.take_out.result c.in-Some-take_out.is c.take_out.ensures.value c.in-Some.ensures.due in
    let queued : AreQueued c.args.rings (set slots n None) (without n c.loop-number.queue) = rw (← c.take_out.ensures.emptied, ← c.take_out.ensures.left) c.take_out.ensures.queued in
    let more = IsTaking-more c.args.rings c.args.timeout c.args.now c.args.slots.now slots c.loop-number.queue c.args.out.now.items c.loop-number.out.items n p c.loop-number.invariant.taking at.there at.due queued in
    let fewer = fewer_due c.args.timeout c.args.now slots n p at.there at.due in
    let left : length (filter (is_due c.args.timeout c.args.now) (entries_in c.take_out.new.slots)) ≡ length (filter (is_due c.args.timeout c.args.now) (entries_in (set slots n None))) =
    ap (λ (xs : Slots). length (filter (is_due c.args.timeout c.args.now) (entries_in xs))) c.take_out.ensures.emptied in
    record {
      taking = rw (c.take_out.ensures.emptied, c.take_out.ensures.left, c.push_reserved.ensures.items) more;
      room = omega (arith, left, fewer, c.push_reserved.ensures.len, c.push_reserved.ensures.capacity, c.loop-number.invariant.room);
      tallied = c.take_out.ensures.tallied;
      capacity = omega (arith, c.push_reserved.ensures.capacity, c.loop-number.invariant.capacity);
    }

pub returns-clause-left : goal.returns-clause-left
returns-clause-left c =
    let none : filter (is_due c.args.timeout c.args.now) (entries_in c.loop-number.slots) ≡ [] = c.first_due.ensures.none (ap is_some c.in_default.is) in
    (IsTaking-end c.args.rings c.args.timeout c.args.now c.args.slots.now c.loop-number.slots c.loop-number.queue c.args.out.now.items c.loop-number.out.items c.loop-number.invariant.taking none).1
