use Rattle.std.proofs.Common.{◌≡◌, length}
use Rattle.hss.specs.Pairs.{signature_length}
use Rattle.bench.proofs.pairs.sign_and_verify.Given as goal

abbrev pub invariant-indexes : goal.invariant-indexes
invariant-indexes g l = length l.signature ≡ signature_length l.pair.key
