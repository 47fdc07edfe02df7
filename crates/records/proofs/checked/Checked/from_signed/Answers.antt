use Rattle.std.proofs.Common.{arith}
use Rattle.records.specs.declared.Body.{Body}
use Rattle.records.specs.declared.Body.TheVariants.{Certificate, Note, Accusation}
use Rattle.records.specs.Spelling.{IsBody, HasPort}
use Rattle.records.proofs.Signatures.{signed-length}
use Rattle.records.proofs.checked.Checked.from_signed.Goals as goal

port-of : (b : Body) → IsBody b → HasPort b
port-of (Certificate c) is = is.has_port
port-of (Note n) is = tt
port-of (Accusation a) is = tt

pub invariant_of-result : goal.invariant_of-result
invariant_of-result c = record {
  signed = c.requires.signed;
  writable = record { port = port-of _ c.requires.body; signature = signed-length _ _ _ c.requires.signed };
  body = c.requires.body;
  tag_long = omega arith;
}
