use Rattle.std.proofs.Common.{sym, subst}
use Rattle.ff_ids.specs.Masks.{ring_count}
use Rattle.ff_ids.specs.Views.{is_number}
use Rattle.removal_timer.specs.Kept.{IsInOrder}
use Rattle.membership.specs.Life.{Life}
use Rattle.membership.specs.Ends.{Ends, answered_on, is_answered, is_ended_by, next_of}
use Rattle.membership.proofs.EndLemmas.{Ends-each, Ends-kept, Ends-nothing_kept, answered-each}
use Rattle.std.proofs.Common.{ap, ◌∙◌}
use Rattle.membership.proofs.Membership.end_by_note.Goals as goal

pub returns-then-is_empty-clause-ends : goal.returns-then-is_empty-clause-ends
returns-then-is_empty-clause-ends c = λ theirs.
    let l = c.args.self.now in
    let none = sym (ap (λ (k : Life). k.kept) c.self.view_is) ∙ c.if-is_empty.ensures.empty in
    Ends-nothing_kept (ring_count l.group.t) (is_ended_by l c.args.note.now c.args.effect) l.kept c.args.out.now.fell none

pub returns-in-Enters-clause-ends : goal.returns-in-Enters-clause-ends
returns-in-Enters-clause-ends c = λ theirs.
    let l = c.args.self.now in
    let n = c.args.note.now in
    let ends = Ends-each (ring_count l.group.t) c.next_after_last-successors.result (next_of l n.member) l.kept c.end_named.new.self.kept c.args.out.now.fell c.end_named.new.out.fell c.next_after_last-successors.ensures.each c.end_named.ensures.ends in
    subst (λ e. Ends (ring_count l.group.t) (is_ended_by l n e) l.kept c.args.out.now.fell c.end_named.new.self.kept c.end_named.new.out.fell) (sym c.in-Enters.is) ends

pub returns-in-Leaves-clause-ends : goal.returns-in-Leaves-clause-ends
returns-in-Leaves-clause-ends c = λ theirs.
    let l = c.args.self.now in
    let n = c.args.note.now in
    subst (λ e. Ends (ring_count l.group.t) (is_ended_by l n e) l.kept c.args.out.now.fell c.end_of.new.self.kept c.end_of.new.out.fell) (sym c.in-Leaves.is) (c.end_of.ensures.ends (theirs c.in-Leaves.is))

pub returns-in-Stays-clause-ends : goal.returns-in-Stays-clause-ends
returns-in-Stays-clause-ends c = λ theirs.
    let l = c.args.self.now in
    let n = c.args.note.now in
    let ordered = subst (λ (k : Life). IsInOrder (ring_count k.group.t) k.kept) c.self.view_is c.self.invariant.timed.in_order in
    let named = Ends-each (ring_count l.group.t) c.answered_by-answered.result (answered_on l n) l.kept c.end_first.new.self.kept c.args.out.now.fell c.end_first.new.out.fell c.answered_by-answered.ensures.each c.end_first.ensures.ends in
    let ends = Ends-kept (ring_count l.group.t) (λ p. is_number (answered_on l n p.0.ring.0) p.0.accused) (is_answered n) l.kept c.end_first.new.self.kept c.args.out.now.fell c.end_first.new.out.fell (answered-each (ring_count l.group.t) l n ordered) named in
    subst (λ e. Ends (ring_count l.group.t) (is_ended_by l n e) l.kept c.args.out.now.fell c.end_first.new.self.kept c.end_first.new.out.fell) (sym c.in-Stays.is) ends
