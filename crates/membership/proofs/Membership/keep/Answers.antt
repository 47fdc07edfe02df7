use Rattle.std.proofs.Common.{◌≤◌, ◌∙◌, ap, arith}
use Rattle.removal_timer.specs.Kept.{Kept as Timed}
use Rattle.removal_timer.proofs.KeptLemmas.{All-with_kept}
use Rattle.membership.specs.Life.{Life, accusation_fault_in}
use Rattle.membership.specs.contracts.Membership.{the_view}
use Rattle.membership.proofs.AccuseLemmas.{IsInOrder-accused}
use Rattle.membership.proofs.Membership.keep.Goals as goal

pub invariant_of-self : goal.invariant_of-self
invariant_of-self c =
    let timed = c.self.invariant.timed in
    let fine = ap (λ (l : Life). accusation_fault_in l c.args.acc) c.self.view_is ∙ c.requires in
    record {
      sound = c.self.invariant.sound;
      timed = record {
        rings_same = ap (λ (t : Timed). t.rings) c.set.ensures ∙ timed.rings_same;
        timeout_same = ap (λ (t : Timed). t.timeout) c.set.ensures ∙ timed.timeout_same;
        in_order = rw c.set.ensures (IsInOrder-accused (the_view c.self.inside) c.self.inside.rings c.args.acc c.self.invariant.sound timed.in_order fine);
        past = rw c.set.ensures (All-with_kept (λ p. p.1 ≤ c.self.inside.moment) (c.args.acc, c.self.inside.moment) c.self.inside.timers.entries (omega arith) timed.past);
      };
    }
