use Rattle.std.proofs.Common.{◌∙◌, ap, sym, arith}
use Rattle.ff_ids.specs.Masks.{ring_count}
use Rattle.membership.specs.Life.{Life}
use Rattle.membership.specs.Ends.{is_named}
use Rattle.membership.proofs.EndLemmas.{Ends-nothing_kept}
use Rattle.membership.proofs.Membership.end_named.Goals as goal

pub end_first-requires-clause-beyond : goal.end_first-requires-clause-beyond
end_first-requires-clause-beyond c = λ ring past below. absurd (omega (arith, past, below, ap (λ (l : Life). l.group.t) c.self.view_is, ap (λ (l : Life). l.group.t) c.end_first.view_is))

pub returns-then-is_empty-clause-ends : goal.returns-then-is_empty-clause-ends
returns-then-is_empty-clause-ends c =
    let none = sym (ap (λ (l : Life). l.kept) c.self.view_is) ∙ c.if-is_empty.ensures.empty in
    Ends-nothing_kept (ring_count c.args.self.now.group.t) (is_named c.args.named.now) c.args.self.now.kept c.args.out.now.fell none
