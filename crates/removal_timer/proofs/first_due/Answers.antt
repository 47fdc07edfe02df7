use Rattle.std.proofs.Common.{◌≡◌, Some, None, false, get_or, filter, ap, sym, ◌∙◌}
use Rattle.ff_ids.specs.Steps.{is_due}
use Rattle.removal_timer.specs.Queue.{first_number}
use Rattle.removal_timer.proofs.HeldLemmas.{nothing_filled, nothing_due}
use Rattle.removal_timer.proofs.first_due.Goals as goal

pub returns-in_err-number-clause-none : goal.returns-in_err-number-clause-none
returns-in_err-number-clause-none c = λ none.
    let first : first_number c.args.queue.now ≡ None = cc in
    ap (filter (is_due c.args.timeout c.args.now)) (nothing_filled c.args._rings c.args.slots.now c.args.queue.now c.requires first)

pub returns-else-is_due-clause-none : goal.returns-else-is_due-clause-none
returns-else-is_due-clause-none c = λ none.
    let first : first_number c.args.queue.now ≡ Some c.in_ok-number.number = cc in
    let there : get_or c.args.slots.now c.in_ok-number.number None ≡ Some c.in_ok-entry.entry = sym c.kept_in.ensures.value ∙ c.in_ok-entry.was in
    let late : is_due c.args.timeout c.args.now c.in_ok-entry.entry ≡ false = sym c.is_due.ensures ∙ c.if-is_due.false in
    nothing_due c.args._rings c.args.timeout c.args.now c.args.slots.now c.args.queue.now c.in_ok-number.number c.in_ok-entry.entry c.requires first there late
