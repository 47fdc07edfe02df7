use Rattle.std.proofs.Common.{◌≡◌, ◌≤◌, ◌+◌, ◌∙◌, ap, refl, subst, length, arith, filter, not, ℕ, None}
use Rattle.std.specs.FinMap.{get}
use Rattle.std.proofs.lemmas.List.{length-map}
use Rattle.std.proofs.lemmas.List.Filters.{length-filter_both}
use Rattle.ff_ids.specs.declared.TheConstants.{MAX_RINGS}
use Rattle.ff_ids.specs.Masks.{ring_count}
use Rattle.ff_ids.specs.Steps.{Report, is_due}
use Rattle.removal_timer.specs.Kept.{Kept as Timed, IsInOrder}
use Rattle.membership.specs.Life.{Life}
use Rattle.removal_timer.proofs.KeptLemmas.{length-in_order, IsInOrder-filter, All-filter, All-weaker}
use Rattle.membership.proofs.Membership.advance.Goals as goal

pub take_due-requires-clause-few : goal.take_due-requires-clause-few
take_due-requires-clause-few c =
    let few : ring_count c.self.inside.group.t ≤ MAX_RINGS = omega (arith, c.self.invariant.sound.tolerance) in
    length-in_order (ring_count c.self.inside.group.t) c.self.inside.timers.entries few c.self.invariant.timed.in_order

pub invariant_of-self : goal.invariant_of-self
invariant_of-self c =
    record {
      sound = c.self.invariant.sound;
      timed = record {
        rings_same = ap (λ (t : Timed). t.rings) c.take_due.ensures.left ∙ c.self.invariant.timed.rings_same;
        timeout_same = ap (λ (t : Timed). t.timeout) c.take_due.ensures.left ∙ c.self.invariant.timed.timeout_same;
        in_order = rw c.take_due.ensures.left (IsInOrder-filter (ring_count c.self.inside.group.t) _ c.self.inside.timers.entries c.self.invariant.timed.in_order);
        past = rw c.take_due.ensures.left (All-weaker (λ p. p.1 ≤ c.self.inside.moment) (λ p. p.1 ≤ c.self.inside.moment + 1) (λ p h. omega (arith, h)) _ (All-filter (λ p. p.1 ≤ c.self.inside.moment) _ c.self.inside.timers.entries c.self.invariant.timed.past));
      };
    }

pub returns-clause-few : goal.returns-clause-few
returns-clause-few c =
    let few : ring_count c.self.inside.group.t ≤ MAX_RINGS = omega (arith, c.self.invariant.sound.tolerance) in
    let all = length-in_order (ring_count c.self.inside.group.t) c.self.inside.timers.entries few c.self.invariant.timed.in_order in
    let due = is_due c.self.inside.timers.timeout (c.self.inside.moment + 1) in
    let both = length-filter_both due (λ p. not (due p)) (λ p. refl) c.self.inside.timers.entries in
    let told = ap (λ (r : Report). length r.expired) c.take_due.ensures.expired ∙ length-map (filter due c.self.inside.timers.entries) (λ p. p.0) in
    let left = ap (λ (t : Timed). length t.entries) c.take_due.ensures.left in
    omega (arith, all, both, told, left)

pub returns-clause-in_order : goal.returns-clause-in_order
returns-clause-in_order c = subst (λ (l : Life). IsInOrder (ring_count l.group.t) l.kept) c.self.view_is c.self.invariant.timed.in_order

pub returns-clause-noted : goal.returns-clause-noted
returns-clause-noted c = subst (λ (l : Life). (m : ℕ) → get l.places m ≡ None → get l.notes m ≡ None) c.self.view_is c.self.invariant.sound.noted
