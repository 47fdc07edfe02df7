use Rattle.std.proofs.Common.{◌≡◌, ◌≤◌, false, sym, rules, ◌∙◌, nat_lt}
use Rattle.ff_ids.specs.declared.TheConstants.{MASK_BITS}
use Rattle.rebuttal.proofs.Answering.{none_above}
use Rattle.rebuttal.proofs.is_enabled.Goals as goal

pub returns-else-ring-lt-MASK_BITS : goal.returns-else-ring-lt-MASK_BITS
returns-else-ring-lt-MASK_BITS c =
    let high : MASK_BITS ≤ c.args.ring = search rules in
    let low : nat_lt c.args.ring MASK_BITS ≡ false = search rules in
    low ∙ sym (none_above c.args.rings MASK_BITS c.args.ring c.ranges.rings.fits high)
