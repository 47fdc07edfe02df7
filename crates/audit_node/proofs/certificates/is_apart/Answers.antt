use Rattle.std.proofs.Common.{ap, sym, ◌∙◌}
use Rattle.records.specs.declared.Record.{Record}
use Rattle.audit_node.proofs.CertificateLemmas.{apart-is, is-apart}
use Rattle.audit_node.proofs.certificates.is_apart.Goals as goal

pub returns-in-Certificate : goal.returns-in-Certificate
returns-in-Certificate c =
    let body = ap (λ (r : Record). r.body) (sym c.rec.ensures.value) ∙ c.in-Certificate.is in
    let cert = c.in-Certificate.cert in (
      λ h. apart-is c.args.rec.now.rec cert c.args.behind.now body (sym c.are_of_others.ensures ∙ h),
      λ apart. c.are_of_others.ensures ∙ is-apart c.args.rec.now.rec cert c.args.behind.now body apart,
    )
