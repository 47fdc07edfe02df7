use Rattle.std.proofs.Common.{ap, ◌∙◌}
use Rattle.std.specs.Prelude.{nat_lt}
use Rattle.std.specs.List.{list_any}
use Rattle.removal_timer.specs.Kept.{Kept, entries_in}
use Rattle.removal_timer.specs.Tally.{is_by}
use Rattle.removal_timer.proofs.TallyLemmas.{list_any-counted}
use Rattle.removal_timer.proofs.Timers.is_accuser.Goals as goal

pub returns : goal.returns
returns c =
    c.is_any.ensures.value ∙ ap (λ n. nat_lt 0 n) (c.self.invariant.tallied.by c.args.member c.is_any.ensures.range) ∙ list_any-counted (is_by c.args.member) (entries_in c.self.inside.slots.items)
    ∙ ap (λ (k : Kept). list_any (is_by c.args.member) k.entries) c.self.view_is
