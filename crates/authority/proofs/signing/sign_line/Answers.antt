use Rattle.authority.proofs.signing.sign_line.Goals as goal

pub returns-in-Cert-clause-signs : goal.returns-in-Cert-clause-signs
returns-in-Cert-clause-signs g c = λ source. rw c.in-Cert.is (c.sign_one.ensures.signs source)
