use Rattle.std.proofs.Common.{sym, ◌∙◌}
use Rattle.audit_node.proofs.CertificateLemmas.{among-recs}
use Rattle.audit_node.proofs.certificates.are_certificates_of.Goals as goal

pub returns-then-are_apart : goal.returns-then-are_apart
returns-then-are_apart c = (
  λ h. record {
    apart = c.are_apart.ensures.0 c.if-are_apart.true;
    among = sym (c.have_member.ensures ∙ among-recs c.args.member c.args.certificates.now) ∙ h;
  },
  λ of. c.have_member.ensures ∙ among-recs c.args.member c.args.certificates.now ∙ of.among,
)
