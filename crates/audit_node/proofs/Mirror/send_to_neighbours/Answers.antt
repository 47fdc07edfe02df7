use Rattle.std.proofs.Common.{◌≡◌, ℕ, List, Option, subst, sym, ap, ◌∙◌, arith, cond}
use Rattle.std.specs.List.{list_any}
use Rattle.ff_ids.specs.declared.TheConstants.{MEMBERS}
use Rattle.ff_ids.specs.Views.{is_number}
use Rattle.datagram.specs.declared.Datagram.{Datagram}
use Rattle.datagram.specs.declared.Datagram.TheVariants as kinds
use Rattle.node_rules.specs.Calls.{sends, sends_to_all}
use Rattle.audit_node.specs.Playing.{Plays, IsMirror}
use Rattle.audit_node.specs.contracts.Mirror.{the_view}
use Rattle.audit_node.proofs.PlayLemmas.{sends-more, wanted_of, grows-trans, all-wanted}
use Rattle.node_rules.specs.Nodes.{state_of}
use Rattle.audit_node.specs.Neighbours.{addressees}
use Rattle.audit_node.proofs.PlayLemmas.{from-fine}
use Rattle.audit_node.proofs.Mirror.send_to_neighbours.Goals as goal

pub loop-number-preserved : goal.loop-number-preserved
loop-number-preserved c = (
  λ s es call rs p are can.
      let d : Datagram = kinds.Records s.me rs in
      let listed : List (Option ℕ) = c.list_successors-listed.result.items in
      let n : ℕ = c.loop-number.number in
      let so_far = sends_to_all s (wanted_of listed n) d call in
      let at = c.send_if_listed.ensures.plays s es so_far rs (c.loop-number.invariant.0 s es call rs p are can) are can in
      let at1 = subst (λ (xs : List (Option ℕ)). Plays s es c.send_if_listed.new.self (cond (list_any (λ o. is_number o c.new-member.result) xs) (sends s d so_far c.new-member.result) so_far)) c.as_slice.ensures.value at in
      let at2 = subst (λ (m : ℕ). Plays s es c.send_if_listed.new.self (cond (list_any (λ o. is_number o m) listed) (sends s d so_far m) so_far)) c.new-member.ensures at1 in
      subst (Plays s es c.send_if_listed.new.self) (sends-more s listed n d call) at2,
  grows-trans c.args.self.now c.loop-number.self c.send_if_listed.new.self c.loop-number.invariant.1 c.send_if_listed.ensures.grows,
)

pub returns-clause-plays : goal.returns-clause-plays
returns-clause-plays c = λ s es call rs p are can.
    let d : Datagram = kinds.Records s.me rs in
    let listed : List (Option ℕ) = c.list_successors-listed.result.items in
    let last : c.loop-number.number ≡ MEMBERS = omega (arith, c.loop-number-test.false, c.loop-number.auto.number-end) in
    let v = the_view c.self.inside in
    from-fine s es c.args.self.now c.loop-number.self call (sends_to_all s (addressees s c.args.also (state_of s call.node)) d call) p c.loop-number.invariant.1 (λ h.
    let is = subst (λ v. IsMirror s v call.node) (sym c.self.view_is) h.is in
    let all = all-wanted s v call.node c.args.also listed is c.self.invariant.membership_group c.list_successors-listed.ensures in
    let at = c.loop-number.invariant.0 s es call rs p are can in
    subst (λ xs. Plays s es c.loop-number.self (sends_to_all s xs d call)) (ap (λ (n : ℕ). wanted_of listed n) last ∙ all) at)
