use Rattle.std.proofs.Common.{arith}
use Rattle.std.proofs.lemmas.Nat.{row_fits}
use Rattle.ff_ids.specs.declared.TheConstants.{MAX_RINGS, MEMBERS}
use Rattle.removal_timer.proofs.slot_of.Goals as goal

pub returns-clause-range : goal.returns-clause-range
returns-clause-range c = λ on.
    omega (arith, on, row_fits c.get.result c.from.result MEMBERS MAX_RINGS c.get.ensures.range (omega (arith, c.requires)))
