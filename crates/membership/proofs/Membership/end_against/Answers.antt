use Rattle.std.proofs.Common.{◌≡◌, ◌∙◌, ◌≤◌, false, ap, sym, arith, replicate, Some}
use Rattle.std.specs.List.{list_any}
use Rattle.ff_ids.specs.declared.TheConstants.{MAX_RINGS}
use Rattle.ff_ids.specs.Masks.{ring_count}
use Rattle.ff_ids.specs.Views.{is_number}
use Rattle.removal_timer.specs.Tally.{is_against}
use Rattle.membership.specs.Life.{Life}
use Rattle.membership.specs.Ends.{is_named}
use Rattle.membership.proofs.EndLemmas.{Ends-agree, Ends-no_more, Ends-none, alone, some_at, swap_eqb}
use Rattle.membership.proofs.Membership.end_against.Goals as goal

pub returns-then-is_accused-clause-ends : goal.returns-then-is_accused-clause-ends
returns-then-is_accused-clause-ends c =
    let l = c.args.self.now in
    let m = c.args.member in
    let few : ring_count l.group.t ≤ MAX_RINGS = omega (arith, c.self.invariant.sound.tolerance, ap (λ (k : Life). k.group.t) c.self.view_is) in
    Ends-agree (ring_count l.group.t) (is_named (replicate MAX_RINGS (Some m))) (is_against m) l.kept c.end_named.new.self.kept c.args.out.now.fell c.end_named.new.out.fell (λ p below.
    ap (λ o. is_number o p.0.accused) (some_at m MAX_RINGS p.0.ring.0 (omega (arith, below, few))) ∙ swap_eqb m p.0.accused) c.end_named.ensures.ends

pub returns-else-is_accused-clause-ends : goal.returns-else-is_accused-clause-ends
returns-else-is_accused-clause-ends c =
    let l = c.args.self.now in
    let m = c.args.member in
    let none : list_any (is_against m) l.kept ≡ false = sym (c.is_accused.ensures.value ∙ ap (λ (k : Life). list_any (is_against m) k.kept) c.self.view_is) ∙ c.if-is_accused.false in
    Ends-no_more (ring_count l.group.t) (λ p. false) (is_against m) (is_against m) l.kept l.kept c.args.out.now.fell c.args.out.now.fell (alone (is_against m) l.kept) none (Ends-none (ring_count l.group.t) l.kept c.args.out.now.fell)
