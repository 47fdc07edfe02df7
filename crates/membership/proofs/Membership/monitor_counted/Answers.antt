use Rattle.std.proofs.Common.{◌∙◌, ◌+◌, ◌-◌, ◌*◌, ◌^◌, ◌≤◌, ap, sym, subst, length}
use Rattle.std.specs.FinMap.{get}
use Rattle.membership.specs.Life.{Life}
use Rattle.membership.specs.Holds.{Holds}
use Rattle.membership.specs.contracts.Membership.{the_view}
use Rattle.membership.proofs.HoldLemmas.{each_held, monitor-held, live_count-each}
use Rattle.membership.proofs.Membership.monitor_counted.Goals as goal

pub returns-clause-value : goal.returns-clause-value
returns-clause-value g c = λ s h.
    let held = subst (λ (l : Life). Holds l s) (sym c.self.view_is) h in
    let placed = ap (λ (l : Life). get l.places c.args.member) c.self.view_is ∙ c.places_of.ensures.value in
    c.monitor_counted.ensures.value ∙ monitor-held (the_view c.self.inside) s c.args.ring.0 c.args.member c.self.inside.rings.members c.places_of.result.now (each_held _ s held) c.self.invariant.sound.viewed placed

pub returns-clause-most : goal.returns-clause-most
returns-clause-most g c = λ s h.
    let held = subst (λ (l : Life). Holds l s) (sym c.self.view_is) h in
    let many = ap length c.self.invariant.sound.viewed ∙ live_count-each (the_view c.self.inside) s (each_held _ s held) in
    subst (λ n. 2 ^ (c.monitor_counted.new.steps - c.args.steps.now) ≤ 2 * n + 1) many c.monitor_counted.ensures.most
