use Rattle.std.proofs.Common.{◌≡◌, ◌∙◌, ap, refl, subst, inr}
use Rattle.std.specs.Io.KnownBytes.{Appends}
use Rattle.authority.specs.Lines.{cert_line, signed_line}
use Rattle.authority.specs.Signing.{line_next}
use Rattle.play.specs.Plays.{io}
use Rattle.ports.specs.Contents.{TookFront}
use Rattle.records.specs.Signing.{CheckedRecord}
use Rattle.authority.proofs.SigningLemmas.{not-signed, one-signed}
use Rattle.authority.proofs.signing.sign_one.Goals as goal

pub returns-in-Err-clause-signs : goal.returns-in-Err-clause-signs
returns-in-Err-clause-signs g c = λ source.
    rw c.halt_of.ensures
    (not-signed c.args.cert c.args.signer.now c.sign_certificate.new.self (io source (g.O.Sink.state c.args.out.now))
    (g.D.Disk.state c.args.disk.now)
    (g.D.Disk.state c.sign_certificate.new.disk)
    c.in-Err.fault c.requires.going c.in-Err.ensures)

pub returns-in-Ok-write_all-clause-signs : goal.returns-in-Ok-write_all-clause-signs
unfolding signed_line
returns-in-Ok-write_all-clause-signs g c = λ source.
    let line : c.as_bytes.result.now ≡ line_next c.args.signer.now c.args.cert =
    c.as_bytes.ensures.value ∙ c.in-Ok-cert_line.ensures ∙ ap (cert_line c.args.cert) (c.as_slice.ensures ∙ ap (λ r. r.signature) c.rec.ensures.value ∙ ap (λ (r : CheckedRecord). r.rec.signature) c.in-Ok.ensures.signed) in (
      one-signed c.args.cert c.args.signer.now c.sign_certificate.new.self
          (g.D.Disk.state c.args.disk.now)
          (g.D.Disk.state c.sign_certificate.new.disk)
          c.in-Ok.signed c.requires.going c.in-Ok.ensures,
      record {
        wrote = subst (Appends (g.O.Sink.state c.args.out.now).taken (g.O.Sink.state c.write_all.new.out).taken) line c.in-Ok-write_all.ensures.wrote;
        left = refl;
        unfailed = record { reads = refl; writes = c.in-Ok-write_all.ensures.faults };
      },
    )

pub returns-clause-signs : goal.returns-clause-signs
unfolding signed_line
returns-clause-signs g c = λ source.
    let line : c.as_bytes.result.now ≡ line_next c.args.signer.now c.args.cert =
    c.as_bytes.ensures.value ∙ c.in-Ok-cert_line.ensures ∙ ap (cert_line c.args.cert) (c.as_slice.ensures ∙ ap (λ r. r.signature) c.rec.ensures.value ∙ ap (λ (r : CheckedRecord). r.rec.signature) c.in-Ok.ensures.signed) in (
      one-signed c.args.cert c.args.signer.now c.sign_certificate.new.self
          (g.D.Disk.state c.args.disk.now)
          (g.D.Disk.state c.sign_certificate.new.disk)
          c.in-Ok.signed c.requires.going c.in-Ok.ensures,
      record {
        wrote = subst (TookFront (g.O.Sink.state c.args.out.now).taken (g.O.Sink.state c.write_all.new.out).taken) line c.in-Err-write_all.ensures.wrote;
        left = refl;
        reads = refl;
        writes = c.in-Err-write_all.ensures.faults;
      },
    )

pub returns-in-Err-cert_line-clause-signs : goal.returns-in-Err-cert_line-clause-signs
returns-in-Err-cert_line-clause-signs g c = λ source. (
  refl,
  inr (one-signed c.args.cert c.args.signer.now c.sign_certificate.new.self
      (g.D.Disk.state c.args.disk.now)
      (g.D.Disk.state c.sign_certificate.new.disk)
      c.in-Ok.signed c.requires.going c.in-Ok.ensures),
)
