use Rattle.std.proofs.Common.{◌≡◌, rules, Some, ap, sym, subst, ◌∙◌}
use Rattle.ff_ids.specs.Faults.{accusation_fault}
use Rattle.ff_ids.specs.declared.Group.{Group}
use Rattle.membership.specs.Life.{facts_in}
use Rattle.std.specs.FinMap.{get}
use Rattle.node_rules.specs.Nodes.{state_of}
use Rattle.audit_node.specs.Noted.{own_note}
use Rattle.audit_node.specs.Playing.{Kept, IsMirror}
use Rattle.audit_node.specs.Returning.{is_placed}
use Rattle.audit_node.specs.contracts.Mirror.{the_view}
use Rattle.audit_node.proofs.NotedLemmas.{some_is}
use Rattle.audit_node.proofs.PlayLemmas.{setting-group}
use Rattle.audit_node.proofs.ReturnLemmas.{misplaced-is, misplaced-not, placed-epoch}
use Rattle.audit_node.proofs.Mirror.is_misplaced.Goals as goal

pub returns-then-is_of_place : goal.returns-then-is_of_place
returns-then-is_of_place c = λ s n is0.
    let v : Kept = the_view c.self.inside in
    let is = subst (λ v. IsMirror s v n) (sym c.self.view_is) is0 in
    let a = c.args.acc.now in
    let some : c.note_of.result ≡ Some c.in-Some.own = search rules in
    let own : c.in-Some.own ≡ own_note c.self.inside.me c.self.inside.stored =
    some_is _ _ (sym some ∙ c.note_of.ensures.kept ∙ c.self.invariant.newest_own) in
    let g : s.group ≡ v.group = setting-group s v n is in
    let fault : c.accusation_fault-fault.result ≡ accusation_fault s.group.t (state_of s n) a =
    c.accusation_fault-fault.ensures.value (state_of s n) is.holds
    ∙ ap (λ (x : Group). accusation_fault x.t (state_of s n) a) (c.self.invariant.membership_group ∙ sym g) in
    let placed = sym c.is_of_place.ensures ∙ c.if-is_of_place.true in
    misplaced-is s v n a c.accusation_fault-fault.result c.must_answer.result c.in-Some.own is fault placed own c.must_answer.ensures
    (λ who. placed-epoch v.membership.group.t (facts_in v.membership a) a c.in-Some.own (ap (get v.membership.notes) who ∙ sym c.note_of.ensures.kept ∙ some) (ap is_placed (sym c.accusation_fault-fault.ensures.kept) ∙ placed))

pub returns-else-is_of_place : goal.returns-else-is_of_place
returns-else-is_of_place c = λ s n is0.
    let v : Kept = the_view c.self.inside in
    let is = subst (λ v. IsMirror s v n) (sym c.self.view_is) is0 in
    let a = c.args.acc.now in
    let g : s.group ≡ v.group = setting-group s v n is in
    let fault : c.accusation_fault-fault.result ≡ accusation_fault s.group.t (state_of s n) a =
    c.accusation_fault-fault.ensures.value (state_of s n) is.holds
    ∙ ap (λ (x : Group). accusation_fault x.t (state_of s n) a) (c.self.invariant.membership_group ∙ sym g) in
    c.if-is_of_place.false
    ∙ misplaced-not s n a c.accusation_fault-fault.result fault (sym c.is_of_place.ensures ∙ c.if-is_of_place.false)
