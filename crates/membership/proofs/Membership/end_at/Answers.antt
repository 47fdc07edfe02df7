use Rattle.std.proofs.Common.{◌≤◌, ◌∙◌, ap, sym, length, arith, List, filter}
use Rattle.ff_ids.specs.Masks.{ring_count}
use Rattle.ff_ids.specs.Steps.{Report}
use Rattle.removal_timer.specs.Kept.{Kept as Timed}
use Rattle.removal_timer.proofs.KeptLemmas.{IsInOrder-filter, All-filter}
use Rattle.membership.specs.Life.{Life}
use Rattle.membership.specs.Ends.{Entry}
use Rattle.membership.proofs.EndLemmas.{length-cleared, none_cleared, length-with_fallen}
use Rattle.membership.proofs.Membership.end_at.Goals as goal

pub invariant_of-self : goal.invariant_of-self
invariant_of-self c =
    let timed = c.self.invariant.timed in
    record {
      sound = c.self.invariant.sound;
      timed = record {
        rings_same = ap (λ (t : Timed). t.rings) c.clear.ensures ∙ timed.rings_same;
        timeout_same = ap (λ (t : Timed). t.timeout) c.clear.ensures ∙ timed.timeout_same;
        in_order = rw c.clear.ensures (IsInOrder-filter (ring_count c.self.inside.group.t) _ c.self.inside.timers.entries timed.in_order);
        past = rw c.clear.ensures (All-filter (λ p. p.1 ≤ c.self.inside.moment) _ c.self.inside.timers.entries timed.past);
      };
    }

pub returns-in-Some-clause-room : goal.returns-in-Some-clause-room
returns-in-Some-clause-room c =
    let told = ap (λ (r : Report). length r.fell) c.report_fallen.ensures ∙ length-with_fallen c.in-Some.acc c.args.out.now.fell in
    let left = ap (λ (t : Timed). length t.entries) c.clear.ensures in
    let fewer = length-cleared c.args.accused c.args.ring.0 c.self.inside.timers.entries (c.in-Some.acc, c.in-Some._since) (sym c.standing.ensures ∙ c.in-Some.is) in
    let kept = ap (λ (l : Life). length l.kept) c.self.view_is in
    omega (arith, c.requires, told, left, fewer, kept)

pub returns-in_default-clause-kept : goal.returns-in_default-clause-kept
returns-in_default-clause-kept c =
    let none = none_cleared c.args.accused c.args.ring.0 c.self.inside.timers.entries (sym c.standing.ensures ∙ c.in_default.is) in
    let kept = ap (λ (l : Life). l.kept) c.self.view_is in
    ap (λ (es : List Entry). record c.args.self.now { kept = es }) (sym kept ∙ sym none ∙ ap (filter _) kept)
