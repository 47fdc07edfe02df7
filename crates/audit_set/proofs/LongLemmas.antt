-- What is known of a record has some bytes.
use Rattle.std.proofs.Common.{◌<◌, arith}
use Rattle.record_slots.proofs.LengthLemmas.{record_long}
use Rattle.audit_set.specs.declared.known.Known.{Known}
use Rattle.audit_set.specs.declared.known.Known.TheVariants.{Came, Own}
use Rattle.audit_set.specs.Knowns.{long}

pub some_long : (k : Known) → 0 < long k
some_long (Came c) = omega (arith, record_long c.rec)
some_long (Own o) = omega arith
