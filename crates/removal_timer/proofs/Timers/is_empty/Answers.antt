use Rattle.std.proofs.Common.{ap, ◌∙◌, eqb, length}
use Rattle.removal_timer.specs.Kept.{Kept}
use Rattle.removal_timer.proofs.HeldLemmas.{empty_value, empty_from}
use Rattle.removal_timer.proofs.Timers.is_empty.Goals as goal

pub returns-clause-value : goal.returns-clause-value
returns-clause-value c =
    empty_value c.self.inside.rings c.self.inside.slots.items c.self.inside.queue c.first.result c.is_none.result c.self.invariant.queued c.first.ensures.value c.is_none.ensures
    ∙ ap (λ (k : Kept). eqb (length k.entries) 0) c.self.view_is

pub returns-clause-empty : goal.returns-clause-empty
returns-clause-empty c = empty_from c.is_none.result c.args.self.now.entries (returns-clause-value c)
