use Rattle.std.proofs.Common.{◌≡◌, Some, None, sym, ◌∙◌}
use Rattle.removal_timer.specs.Queue.{first_number}
use Rattle.removal_timer.proofs.HeldLemmas.{nothing_filled}
use Rattle.removal_timer.proofs.WaitLemmas.{first-since, there-since}
use Rattle.removal_timer.proofs.first_since.Goals as goal

pub returns-in_err-number-clause-none : goal.returns-in_err-number-clause-none
returns-in_err-number-clause-none c = λ none.
    let first : first_number c.args.queue.now ≡ None = cc in
    nothing_filled c.args._rings c.args.slots.now c.args.queue.now c.requires first

pub returns-clause-first : goal.returns-clause-first
returns-clause-first c =
    let first : first_number c.args.queue.now ≡ Some c.in_ok-number.number = cc in
    first-since c.args._rings c.args.slots.now c.args.queue.now c.in_ok-number.number c.in_ok-entry.entry c.requires first (sym c.kept_in.ensures.value ∙ c.in_ok-entry.was)

pub returns-clause-there : goal.returns-clause-there
returns-clause-there c =
    there-since c.args.slots.now c.in_ok-number.number c.in_ok-entry.entry (sym c.kept_in.ensures.value ∙ c.in_ok-entry.was)
