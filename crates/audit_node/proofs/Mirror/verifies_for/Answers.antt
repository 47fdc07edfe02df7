use Rattle.std.proofs.Common.{rules, ◌≡◌, ap, sym, subst, ◌∙◌}
use Rattle.std.specs.Result.{is_ok}
use Rattle.records.specs.Keys.{verdict_of}
use Rattle.records.specs.Signing.{signed_bytes}
use Rattle.audit_node.specs.Playing.{Kept, IsMirror}
use Rattle.audit_node.specs.contracts.Mirror.{the_view}
use Rattle.audit_node.proofs.ReturnLemmas.{verifies-by}
use Rattle.audit_node.proofs.Mirror.verifies_for.Goals as goal

pub returns : goal.returns
returns c = λ s n is0.
    let v : Kept = the_view c.self.inside in
    let is = subst (λ v. IsMirror s v n) (sym c.self.view_is) is0 in
    let verdict : c.verify.result ≡ verdict_of c.in-Some.cert.now.key (signed_bytes c.self.inside.group.tag c.self.inside.group.t c.args.rec.now.body) c.args.rec.now.signature =
    search rules in
    c.is_ok.ensures.value ∙ ap is_ok verdict
    ∙ verifies-by s v n c.args.member c.args.rec.now c.in-Some.cert.now is (sym c.in-Some.ensures)
