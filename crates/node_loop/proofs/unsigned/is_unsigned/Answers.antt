use Rattle.std.proofs.Common.{arith, sym, ◌∙◌}
use Rattle.node_loop.proofs.UnsignedLemmas.{brings-none}
use Rattle.node_loop.proofs.unsigned.is_unsigned.Goals as goal

pub returns-then-bytes-gt3-clause-plain : goal.returns-then-bytes-gt3-clause-plain
returns-then-bytes-gt3-clause-plain c = λ unsigned. brings-none c.args.bytes.now (λ i. omega (arith, c.type_inv.bytes i)) (sym c.is_unsigned_kind.ensures ∙ unsigned)
