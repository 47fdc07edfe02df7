use Rattle.std.proofs.Common.{rules, ◌≡◌, ap, sym, subst, ◌∙◌}
use Rattle.std.specs.Prelude.{◌&&◌, is_some}
use Rattle.records.specs.declared.Body.TheVariants.{Accusation}
use Rattle.node_rules.specs.Deliveries.{may_rise, verifies_for}
use Rattle.audit_node.specs.Playing.{Kept, IsMirror}
use Rattle.audit_node.specs.Returning.{is_misplaced}
use Rattle.audit_node.specs.contracts.Mirror.{the_view}
use Rattle.audit_node.proofs.PlayLemmas.{setting-heal}
use Rattle.audit_node.proofs.ReturnLemmas.{and-on, and-off, asks-is}
use Rattle.audit_node.proofs.Mirror.asks_return.Goals.{then-is_some, else-is_some, then-may_rise, else-may_rise}
use Rattle.audit_node.proofs.Mirror.asks_return.Goals as goal

pub returns-then-is_misplaced : goal.returns-then-is_misplaced
returns-then-is_misplaced c = λ s n is0.
    let v : Kept = the_view c.self.inside in
    let is = subst (λ v. IsMirror s v n) (sym c.self.view_is) is0 in
    let heal : is_some s.heal ≡ c.is_some.result = ap is_some (setting-heal s v n is) ∙ sym c.is_some.ensures in
    let accused : c.args.rec.now.body ≡ Accusation c.in-Accusation.acc = search rules in
    let first : c.if-is_some.value ≡ (is_some s.heal && may_rise s.heal n) =
    elim c.if-is_some.branch [
      | then-is_some w ↦ w.value-is ∙ w.may_rise.ensures s n is0 ∙ sym (and-on _ _ (heal ∙ w.if-is_some.true))
      | else-is_some w ↦ w.value-is ∙ w.if-is_some.false ∙ sym (and-off _ _ (heal ∙ w.if-is_some.false))
    ] in
    let second : c.if-may_rise.value ≡ ((is_some s.heal && may_rise s.heal n) && is_misplaced s n c.in-Accusation.acc) =
    elim c.if-may_rise.branch [
      | then-may_rise w ↦ w.value-is ∙ w.is_misplaced.ensures s n is0 ∙ sym (and-on _ _ (sym first ∙ w.if-may_rise.true))
      | else-may_rise w ↦ w.value-is ∙ w.if-may_rise.false ∙ sym (and-off _ _ (sym first ∙ w.if-may_rise.false))
    ] in
    c.verifies_for.ensures s n is0 ∙ sym (and-on _ _ (sym second ∙ c.if-is_misplaced.true))
    ∙ asks-is s n c.in-Accusation.acc c.args.rec.now accused

pub returns-else-is_misplaced : goal.returns-else-is_misplaced
returns-else-is_misplaced c = λ s n is0.
    let v : Kept = the_view c.self.inside in
    let is = subst (λ v. IsMirror s v n) (sym c.self.view_is) is0 in
    let heal : is_some s.heal ≡ c.is_some.result = ap is_some (setting-heal s v n is) ∙ sym c.is_some.ensures in
    let accused : c.args.rec.now.body ≡ Accusation c.in-Accusation.acc = search rules in
    let first : c.if-is_some.value ≡ (is_some s.heal && may_rise s.heal n) =
    elim c.if-is_some.branch [
      | then-is_some w ↦ w.value-is ∙ w.may_rise.ensures s n is0 ∙ sym (and-on _ _ (heal ∙ w.if-is_some.true))
      | else-is_some w ↦ w.value-is ∙ w.if-is_some.false ∙ sym (and-off _ _ (heal ∙ w.if-is_some.false))
    ] in
    let second : c.if-may_rise.value ≡ ((is_some s.heal && may_rise s.heal n) && is_misplaced s n c.in-Accusation.acc) =
    elim c.if-may_rise.branch [
      | then-may_rise w ↦ w.value-is ∙ w.is_misplaced.ensures s n is0 ∙ sym (and-on _ _ (sym first ∙ w.if-may_rise.true))
      | else-may_rise w ↦ w.value-is ∙ w.if-may_rise.false ∙ sym (and-off _ _ (sym first ∙ w.if-may_rise.false))
    ] in
    c.if-is_misplaced.false
    ∙ sym (and-off _ (verifies_for s n c.in-Accusation.acc.accuser c.args.rec.now) (sym second ∙ c.if-is_misplaced.false))
    ∙ asks-is s n c.in-Accusation.acc c.args.rec.now accused
