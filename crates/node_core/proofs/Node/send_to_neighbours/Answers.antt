use Rattle.std.proofs.Common.{◌≡◌, ℕ, List, Option, subst, sym, ap, ◌∙◌, arith, cond}
use Rattle.std.specs.List.{list_any}
use Rattle.ff_ids.specs.declared.TheConstants.{MEMBERS}
use Rattle.ff_ids.specs.Views.{is_number}
use Rattle.node_rules.specs.Calls.{sends, sends_to_all}
use Rattle.node_core.specs.Playing.{Plays, IsNode}
use Rattle.node_core.specs.contracts.Node.{the_view}
use Rattle.node_core.proofs.PlayLemmas.{sends-more, wanted_of, grows-trans, all-wanted}
use Rattle.node_core.proofs.SpendLemmas.{nothing-trans}
use Rattle.node_rules.specs.Nodes.{state_of}
use Rattle.node_core.specs.Neighbours.{addressees}
use Rattle.node_core.proofs.ExtendLemmas.{extends-sends_to_all}
use Rattle.node_core.proofs.DueLemmas.{from-fine}
use Rattle.node_core.proofs.Node.send_to_neighbours.Goals as goal

pub loop-number-preserved : goal.loop-number-preserved
loop-number-preserved c = (
  λ s es os call d p spelled.
      let listed : List (Option ℕ) = c.list_successors-listed.result.items in
      let n : ℕ = c.loop-number.number in
      let so_far = sends_to_all s (wanted_of listed n) d call in
      let at = c.send_if_listed.ensures.plays s es os so_far d (c.loop-number.invariant.0 s es os call d p spelled) spelled in
      let at1 = subst (λ (xs : List (Option ℕ)). Plays s es os c.send_if_listed.new.self (cond (list_any (λ o. is_number o c.new-member.result) xs) (sends s d so_far c.new-member.result) so_far)) c.as_slice.ensures.value at in
      let at2 = subst (λ (m : ℕ). Plays s es os c.send_if_listed.new.self (cond (list_any (λ o. is_number o m) listed) (sends s d so_far m) so_far)) c.new-member.ensures at1 in
      subst (Plays s es os c.send_if_listed.new.self) (sends-more s listed n d call) at2,
  grows-trans c.args.self.now c.loop-number.self c.send_if_listed.new.self c.loop-number.invariant.1 c.send_if_listed.ensures.grows,
  nothing-trans c.args.self.now c.loop-number.self c.send_if_listed.new.self c.loop-number.invariant.2 c.send_if_listed.ensures.signs_nothing,
)

pub returns-clause-plays : goal.returns-clause-plays
returns-clause-plays c = λ s es os call d p spelled.
    let listed : List (Option ℕ) = c.list_successors-listed.result.items in
    let last : c.loop-number.number ≡ MEMBERS = omega (arith, c.loop-number-test.false, c.loop-number.auto.number-end) in
    let v = the_view c.self.inside in
    from-fine s es os c.args.self.now c.loop-number.self call (sends_to_all s (addressees s c.args.also (state_of s call.node)) d call) p c.loop-number.invariant.1
    (extends-sends_to_all s (addressees s c.args.also (state_of s call.node)) d call) (λ h.
    let is = subst (λ v. IsNode s v call.node) (sym c.self.view_is) h.is in
    let all = all-wanted s v call.node c.args.also listed is c.self.invariant.membership_group c.list_successors-listed.ensures in
    let at = c.loop-number.invariant.0 s es os call d p spelled in
    subst (λ xs. Plays s es os c.loop-number.self (sends_to_all s xs d call)) (ap (λ (n : ℕ). wanted_of listed n) last ∙ all) at)
