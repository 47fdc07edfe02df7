use Rattle.std.proofs.Common.{◌≡◌, ◌≢◌, subst, sym, ◌∙◌, arith}
use Rattle.std.proofs.lemmas.Bool.Decides.{nat_tests}
use Rattle.audit_node.specs.Playing.{Kept, IsMirror}
use Rattle.audit_node.specs.contracts.Mirror.{the_view}
use Rattle.audit_node.proofs.HearLemmas.{other-then, other-else}
use Rattle.audit_node.proofs.Mirror.is_other.Goals as goal

pub returns-then-ne : goal.returns-then-ne
returns-then-ne c = λ s n is.
    let v : Kept = the_view c.self.inside in
    let is0 = subst (λ v. IsMirror s v n) (sym c.self.view_is) is in
    let apart : c.args.member ≢ c.self.inside.me = λ e. absurd (grind (arith, nat_tests, c.ne.ensures, c.if-ne.true, e)) in
    c.is_some.ensures ∙ other-then s v n c.args.member c.get.result is0 c.get.ensures apart

pub returns-else-ne : goal.returns-else-ne
returns-else-ne c = λ s n is.
    let v : Kept = the_view c.self.inside in
    let is0 = subst (λ v. IsMirror s v n) (sym c.self.view_is) is in
    let same : c.args.member ≡ c.self.inside.me = grind (arith, nat_tests, c.ne.ensures, c.if-ne.false) in
    c.if-ne.false ∙ other-else s v n c.args.member is0 same
