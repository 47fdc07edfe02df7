use Rattle.std.proofs.Common.{◌≡◌, false, sym, ap, ◌∙◌}
use Rattle.std.specs.Prelude.{nat_lt}
use Rattle.std.specs.List.{list_any}
use Rattle.removal_timer.specs.Kept.{Kept, entry_at, entries_in}
use Rattle.removal_timer.specs.Tally.{is_against}
use Rattle.removal_timer.proofs.TallyLemmas.{list_any-counted, none_against}
use Rattle.removal_timer.proofs.Timers.is_accused.Goals as goal

pub returns-clause-value : goal.returns-clause-value
returns-clause-value c =
    c.is_any.ensures.value ∙ ap (λ n. nat_lt 0 n) (c.self.invariant.tallied.against c.args.member c.is_any.ensures.range) ∙ list_any-counted (is_against c.args.member) (entries_in c.self.inside.slots.items)
    ∙ ap (λ (k : Kept). list_any (is_against c.args.member) k.entries) c.self.view_is

pub returns-clause-none : goal.returns-clause-none
returns-clause-none c = λ off ring.
    let entries = entries_in c.self.inside.slots.items in
    let none : list_any (is_against c.args.member) entries ≡ false = sym (list_any-counted (is_against c.args.member) entries) ∙ sym (ap (λ n. nat_lt 0 n) (c.self.invariant.tallied.against c.args.member c.is_any.ensures.range)) ∙ sym c.is_any.ensures.value ∙ off in
    sym (sym (none_against c.args.member ring entries none) ∙ ap (λ (k : Kept). entry_at c.args.member ring k.entries) c.self.view_is)
