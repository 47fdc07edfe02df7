use Rattle.std.proofs.Common.{◌∙◌, ◌+◌, ◌<◌, ◌≤◌, ◌||◌, ap, subst, None, arith, length, get_or}
use Rattle.std.proofs.lemmas.List.{get_or_default}
use Rattle.ff_ids.specs.Masks.{ring_count}
use Rattle.ff_ids.specs.Steps.{Report}
use Rattle.membership.specs.Life.{Life}
use Rattle.membership.specs.Ends.{Ends, is_on, is_named}
use Rattle.membership.proofs.EndLemmas.{is_named_below, Ends-agree, Ends-then, named_more, named_first}
use Rattle.membership.proofs.Membership.end_first.Goals as goal

pub loop-ring-preserved : goal.loop-ring-preserved
loop-ring-preserved c =
    let rings = ring_count c.args.self.now.group.t in
    let named = c.args.named.now in
    let k = c.loop-ring.ring in
    let before = c.loop-ring.invariant in
    let same = ap (λ (l : Life). ring_count l.group.t) before.life in
    let below : k < length named = omega (arith, c.loop-ring-test.true, c.requires.most, c.type_inv.named) in
    let item = get_or_default named k c.index-named-ring.result None below in
    let on = subst (λ o. Ends rings (is_on o k) c.loop-ring.self.kept c.loop-ring.out.fell c.end_on.new.self.kept c.end_on.new.out.fell) item (subst (λ r. Ends r (is_on (get_or named k c.index-named-ring.result) k) c.loop-ring.self.kept c.loop-ring.out.fell c.end_on.new.self.kept c.end_on.new.out.fell) same c.end_on.ensures.ends) in
    let both = Ends-then rings (is_named_below k named) (is_on (get_or named k None) k) c.args.self.now.kept c.loop-ring.self.kept c.end_on.new.self.kept c.args.out.now.fell c.loop-ring.out.fell c.end_on.new.out.fell before.ends on in
    record {
      ends = Ends-agree rings (λ p. is_named_below k named p || is_on (get_or named k None) k p) (is_named_below (k + 1) named) c.args.self.now.kept c.end_on.new.self.kept c.args.out.now.fell c.end_on.new.out.fell (λ p _. named_more named k p) both;
      life = c.end_on.ensures.rest ∙ ap (λ (l : Life). record l { kept = c.end_on.new.self.kept }) before.life;
      report = c.end_on.ensures.report ∙ ap (λ (r : Report). record r { fell = c.end_on.new.out.fell }) before.report;
      room = c.end_on.ensures.room;
    }

pub returns-clause-ends : goal.returns-clause-ends
returns-clause-ends c =
    let rings = ring_count c.args.self.now.group.t in
    let all : c.args.rings ≤ c.loop-ring.ring = omega (arith, c.loop-ring-test.false) in
    Ends-agree rings (is_named_below c.loop-ring.ring c.args.named.now) (is_named c.args.named.now) c.args.self.now.kept c.loop-ring.self.kept c.args.out.now.fell c.loop-ring.out.fell (λ p below. named_first c.args.named.now c.loop-ring.ring p (λ past. c.requires.beyond p.0.ring.0 (omega (arith, past, all)) below)) c.loop-ring.invariant.ends
