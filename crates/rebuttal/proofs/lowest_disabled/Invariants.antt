use Rattle.std.proofs.Common.{◌≡◌, ℕ, ◌<◌, true}
use Rattle.ff_ids.specs.Masks.{enables}
use Rattle.rebuttal.proofs.lowest_disabled.Given as goal

abbrev pub invariant-loop-ring : goal.invariant-loop-ring
invariant-loop-ring l = (r : ℕ) → r < l.ring → enables l.mask.0 r ≡ true
