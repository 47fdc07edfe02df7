use Rattle.std.proofs.Common.{◌≡◌, ◌∙◌, ◌+◌, ◌||◌, false, eqb, ap, sym, subst, arith}
use Rattle.std.specs.List.{list_any}
use Rattle.ff_ids.specs.Masks.{ring_count}
use Rattle.ff_ids.specs.Steps.{Report}
use Rattle.removal_timer.specs.Tally.{is_against, is_by}
use Rattle.membership.specs.Life.{Life}
use Rattle.membership.specs.Ends.{Ends, is_of, is_on, next_of}
use Rattle.membership.proofs.EndLemmas.{AllBy-then, Ends-agree, Ends-then, Ends-no_more, is_of_below, of_all, of_more, of_none, of_rest}
use Rattle.membership.proofs.Membership.end_of.Goals as goal

pub loop-ring-init : goal.loop-ring-init
loop-ring-init c =
    let l = c.args.self.now in
    let m = c.args.member in
    record {
      ends = Ends-agree (ring_count l.group.t) (is_against m) (is_of_below 0 l m) l.kept c.end_against.new.self.kept c.args.out.now.fell c.end_against.new.out.fell (λ p _. of_none l m p) c.end_against.ensures.ends;
      life = c.end_against.ensures.rest;
      report = c.end_against.ensures.report;
      room = c.end_against.ensures.room;
    }

pub loop-ring-preserved : goal.loop-ring-preserved
loop-ring-preserved c =
    let l = c.args.self.now in
    let m = c.args.member in
    let k = c.loop-ring.ring in
    let rings = ring_count l.group.t in
    let before = c.loop-ring.invariant in
    let same = ap (λ (k : Life). ring_count k.group.t) before.life in
    let next = c.next_on-next.ensures ∙ ap (λ (s : Life). next_of s m k) before.life in
    let on = subst (λ o. Ends rings (is_on o k) c.loop-ring.self.kept c.loop-ring.out.fell c.end_on.new.self.kept c.end_on.new.out.fell) next (subst (λ r. Ends r (is_on c.next_on-next.result k) c.loop-ring.self.kept c.loop-ring.out.fell c.end_on.new.self.kept c.end_on.new.out.fell) same c.end_on.ensures.ends) in
    let both = Ends-then rings (is_of_below k l m) (is_on (next_of l m k) k) l.kept c.loop-ring.self.kept c.end_on.new.self.kept c.args.out.now.fell c.loop-ring.out.fell c.end_on.new.out.fell before.ends on in
    record {
      ends = Ends-agree rings (λ p. is_of_below k l m p || is_on (next_of l m k) k p) (is_of_below (k + 1) l m) l.kept c.end_on.new.self.kept c.args.out.now.fell c.end_on.new.out.fell (λ p _. of_more l m k p) both;
      life = c.end_on.ensures.rest ∙ ap (λ (s : Life). record s { kept = c.end_on.new.self.kept }) before.life;
      report = c.end_on.ensures.report ∙ ap (λ (r : Report). record r { fell = c.end_on.new.out.fell }) before.report;
      room = c.end_on.ensures.room;
    }

pub returns-then-not-is_accuser-clause-ends : goal.returns-then-not-is_accuser-clause-ends
returns-then-not-is_accuser-clause-ends c = λ theirs.
    let l = c.args.self.now in
    let m = c.args.member in
    let k = c.loop-ring.ring in
    let none : list_any (is_by m) c.loop-ring.self.kept ≡ false = sym (c.is_accuser.ensures ∙ ap (λ (s : Life). list_any (is_by m) s.kept) c.self-in-loop-ring.view_is) ∙ c.if-not-is_accuser.true in
    Ends-no_more (ring_count l.group.t) (is_of_below k l m) (is_of l m) (is_by m) l.kept c.loop-ring.self.kept c.args.out.now.fell c.loop-ring.out.fell
    (AllBy-then (λ p. is_of l m p ≡ (eqb m p.0.accused || eqb m p.0.accuser)) (λ p. is_of l m p ≡ (is_of_below k l m p || is_by m p)) (λ p is. of_rest l m k p is) l.kept theirs) none c.loop-ring.invariant.ends

pub returns-then-not-is_accuser-clause-rest : goal.returns-then-not-is_accuser-clause-rest
returns-then-not-is_accuser-clause-rest c = c.loop-ring.invariant.life

pub returns-then-not-is_accuser-clause-report : goal.returns-then-not-is_accuser-clause-report
returns-then-not-is_accuser-clause-report c = c.loop-ring.invariant.report

pub next_on-next-requires : goal.next_on-next-requires
next_on-next-requires c = omega (arith, c.loop-ring-test.true, ap (λ (s : Life). s.group.t) c.self.view_is, ap (λ (s : Life). s.group.t) c.end_against.ensures.rest, ap (λ (s : Life). s.group.t) c.loop-ring.invariant.life)

pub returns-clause-ends : goal.returns-clause-ends
returns-clause-ends c = λ theirs.
    let l = c.args.self.now in
    let m = c.args.member in
    let same = ap (λ (s : Life). s.group.t) c.self.view_is ∙ ap (λ (s : Life). s.group.t) c.end_against.ensures.rest in
    Ends-agree (ring_count l.group.t) (is_of_below c.loop-ring.ring l m) (is_of l m) l.kept c.loop-ring.self.kept c.args.out.now.fell c.loop-ring.out.fell (λ p below. of_all l m c.loop-ring.ring p (omega (arith, below, c.loop-ring-test.false, same))) c.loop-ring.invariant.ends
