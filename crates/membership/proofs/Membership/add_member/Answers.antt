use Rattle.std.proofs.Common.{◌≡◌, ◌∙◌, ap, sym, subst, false}
use Rattle.ff_ids.specs.Masks.{ring_count}
use Rattle.membership.specs.Life.{Life, has_joined}
use Rattle.membership.specs.Holds.{Holds}
use Rattle.membership.proofs.AddLemmas.{IsSound-added, Holds-added}
use Rattle.membership.proofs.Membership.add_member.Goals as goal

absent : (c : goal.After-set) → has_joined c.args.self.now c.args.member ≡ false
absent c = sym c.is_member.ensures.joined ∙ c.if-is_member.false

pub invariant_of-self : goal.invariant_of-self
invariant_of-self c =
    let long = c.requires ∙ sym (ap (λ (l : Life). ring_count l.group.t) c.self.view_is) in
    let new = ap (λ (l : Life). has_joined l c.args.member) c.self.view_is ∙ absent c in
    record { sound = rw c.set.ensures.value (IsSound-added _ _ _ _ _ c.args.member c.args.places c.self.invariant.sound (record { number = c.set.ensures.range; on_each = long }) new); timed = c.self.invariant.timed }

pub returns-clause-step : goal.returns-clause-step
returns-clause-step c = λ s h.
    let held = subst (λ (l : Life). Holds l s) (sym c.self.view_is) h in
    let new = ap (λ (l : Life). has_joined l c.args.member) c.self.view_is ∙ absent c in
    rw c.set.ensures.value (Holds-added _ s c.args.member c.args.places held c.self.invariant.sound.noted new)
