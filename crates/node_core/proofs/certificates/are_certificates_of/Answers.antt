use Rattle.std.proofs.Common.{sym, ◌∙◌}
use Rattle.std.proofs.lemmas.Bool.{false≢true}
use Rattle.node_core.proofs.CertificateLemmas.{among-recs}
use Rattle.node_core.proofs.certificates.are_certificates_of.Goals as goal
use Rattle.node_core.proofs.certificates.are_certificates_of.Goals.{then-are_apart, else-are_apart}

pub returns-then-have_member : goal.returns-then-have_member
returns-then-have_member c =
    elim c.if-are_apart.branch [
      | then-are_apart w ↦ (
        λ keys. record {
          apart = c.are_apart.ensures.decides.0 w.if-are_apart.true;
          among = sym (w.have_member.ensures ∙ among-recs c.args.member c.args.certificates.now) ∙ sym w.value-is ∙ c.if-have_member.true;
          keys = c.have_key.ensures.0 keys;
          verify = c.are_apart.ensures.checked w.if-are_apart.true;
        },
        λ of. c.have_key.ensures.1 of.keys,
      )
      | else-are_apart w ↦ absurd (false≢true (sym w.if-are_apart.false ∙ sym w.value-is ∙ c.if-have_member.true))
    ]

pub returns-else-have_member : goal.returns-else-have_member
returns-else-have_member c = (
  λ h. absurd (false≢true (sym c.if-have_member.false ∙ h)),
  λ of. elim c.if-are_apart.branch [
    | then-are_apart w ↦ w.value-is ∙ w.have_member.ensures ∙ among-recs c.args.member c.args.certificates.now ∙ of.among
    | else-are_apart w ↦ absurd (false≢true (sym w.if-are_apart.false ∙ c.are_apart.ensures.decides.1 of.apart))
  ],
)
