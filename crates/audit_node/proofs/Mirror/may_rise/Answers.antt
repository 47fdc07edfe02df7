use Rattle.std.proofs.Common.{◌≡◌, false, ap, sym, subst, ◌∙◌, arith, eq-eqb}
use Rattle.std.specs.Prelude.{nat_eq}
use Rattle.std.proofs.lemmas.Bool.Decides.{nat_tests}
use Rattle.epoch_store.specs.declared.Stored.{Stored}
use Rattle.audit_node.specs.Playing.{Kept, IsMirror}
use Rattle.audit_node.specs.contracts.Mirror.{the_view}
use Rattle.audit_node.proofs.PlayLemmas.{setting-heal}
use Rattle.audit_node.proofs.ReturnLemmas.{rise-any, rise-free, rise-below}
use Rattle.audit_node.proofs.Mirror.may_rise.Goals as goal

pub returns-in_default : goal.returns-in_default
returns-in_default c = λ s n is0.
    let v : Kept = the_view c.self.inside in
    let is = subst (λ v. IsMirror s v n) (sym c.self.view_is) is0 in
    rise-any s.heal n (setting-heal s v n is ∙ c.in_default.is)

pub returns-then-most-eq0 : goal.returns-then-most-eq0
returns-then-most-eq0 c = λ s n is0.
    let v : Kept = the_view c.self.inside in
    let is = subst (λ v. IsMirror s v n) (sym c.self.view_is) is0 in
    rise-free s.heal n c.in-Some.heal c.most.result (setting-heal s v n is ∙ c.in-Some.is) c.most.ensures
    (eq-eqb c.most.result 0 c.if-most-eq0.true)

pub returns-else-most-eq0 : goal.returns-else-most-eq0
returns-else-most-eq0 c = λ s n is0.
    let v : Kept = the_view c.self.inside in
    let is = subst (λ v. IsMirror s v n) (sym c.self.view_is) is0 in
    let most : c.from.result ≡ c.in-Some.heal.most = c.from.ensures ∙ c.most-else-most-eq0.ensures in
    let some : nat_eq c.from.result 0 ≡ false = grind (arith, nat_tests, most, c.most.ensures, c.if-most-eq0.false) in
    rise-below s.heal n c.in-Some.heal c.from.result c.saturating_sub-risen.result v.stored.epoch c.self.inside.since
    (setting-heal s v n is ∙ c.in-Some.is) most some c.saturating_sub-risen.ensures
    (ap (λ (x : Stored). x.epoch) is.stored) is.since
