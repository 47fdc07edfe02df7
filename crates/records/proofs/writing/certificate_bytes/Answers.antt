use Rattle.std.proofs.Common.{arith}
use Rattle.records.proofs.writing.certificate_bytes.Goals as goal

pub returns-clause-body : goal.returns-clause-body
returns-clause-body c = λ port.
    record {
      member_number = omega (arith, c.get.ensures.value, c.get.ensures.range);
      has_port = port;
      port_fits = omega arith;
      key = c.write.ensures.key;
    }
