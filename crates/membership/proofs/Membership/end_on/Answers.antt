use Rattle.std.proofs.Common.{ap, sym, subst}
use Rattle.ff_ids.specs.Masks.{ring_count}
use Rattle.ff_ids.specs.Steps.{Report}
use Rattle.membership.specs.Life.{Life}
use Rattle.membership.specs.Ends.{Ends, is_on}
use Rattle.membership.proofs.EndLemmas.{Ends-some, Ends-on_none}
use Rattle.membership.proofs.Membership.end_on.Goals as goal

pub returns-in-Some-clause-ends : goal.returns-in-Some-clause-ends
returns-in-Some-clause-ends c =
    let ends = Ends-some (ring_count c.args.self.now.group.t) c.in-Some.member c.args.ring.0 c.args.self.now.kept c.end_at.new.self.kept c.args.out.now.fell c.end_at.new.out.fell (ap (λ (l : Life). l.kept) c.end_at.ensures.kept) (ap (λ (r : Report). r.fell) c.end_at.ensures.fell) in
    subst (λ o. Ends (ring_count c.args.self.now.group.t) (is_on o c.args.ring.0) c.args.self.now.kept c.args.out.now.fell c.end_at.new.self.kept c.end_at.new.out.fell) (sym c.in-Some.is) ends

pub returns-in_default-clause-ends : goal.returns-in_default-clause-ends
returns-in_default-clause-ends c =
    subst (λ o. Ends (ring_count c.args.self.now.group.t) (is_on o c.args.ring.0) c.args.self.now.kept c.args.out.now.fell c.args.self.now.kept c.args.out.now.fell) (sym c.in_default.is) (Ends-on_none (ring_count c.args.self.now.group.t) c.args.ring.0 c.args.self.now.kept c.args.out.now.fell)
