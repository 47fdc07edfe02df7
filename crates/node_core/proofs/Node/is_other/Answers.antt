use Rattle.std.proofs.Common.{◌≡◌, ◌≢◌, subst, sym, ◌∙◌, arith}
use Rattle.std.proofs.lemmas.Bool.Decides.{nat_tests}
use Rattle.node_core.specs.Playing.{Kept, IsNode}
use Rattle.node_core.specs.contracts.Node.{the_view}
use Rattle.node_core.proofs.HearLemmas.{other-then, other-else}
use Rattle.node_core.proofs.Node.is_other.Goals as goal

pub returns-then-ne : goal.returns-then-ne
returns-then-ne c = λ s n is.
    let v : Kept = the_view c.self.inside in
    let is0 = subst (λ v. IsNode s v n) (sym c.self.view_is) is in
    let apart : c.args.member ≢ c.self.inside.me = λ e. absurd (grind (arith, nat_tests, c.ne.ensures, c.if-ne.true, e)) in
    c.is_some.ensures ∙ other-then s v n c.args.member c.get.result is0 c.get.ensures apart

pub returns-else-ne : goal.returns-else-ne
returns-else-ne c = λ s n is.
    let v : Kept = the_view c.self.inside in
    let is0 = subst (λ v. IsNode s v n) (sym c.self.view_is) is in
    let same : c.args.member ≡ c.self.inside.me = grind (arith, nat_tests, c.ne.ensures, c.if-ne.false) in
    c.if-ne.false ∙ other-else s v n c.args.member is0 same
