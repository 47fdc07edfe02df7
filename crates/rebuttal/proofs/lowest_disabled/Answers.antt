use Rattle.std.proofs.Common.{rules, ◌≡◌, false}
use Rattle.ff_ids.specs.Masks.{enables}
use Rattle.rebuttal.proofs.Masks.{lowest-from}
use Rattle.rebuttal.proofs.lowest_disabled.Goals as goal

pub returns-then-not-enables : goal.returns-then-not-enables
returns-then-not-enables c =
    let disabled : enables c.args.mask.0 c.loop-ring.ring ≡ false = search rules in
    (c.loop-ring-test.true, lowest-from c.args.mask.0 c.loop-ring.ring (record { disabled = disabled; lowest = c.loop-ring.invariant }))
