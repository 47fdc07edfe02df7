use Rattle.std.proofs.Common.{◌≡◌}
use Rattle.ring_order.specs.Hashed.{hashed_places_below}
use Rattle.ring_order.proofs.hashed.hash_places.Given as goal

abbrev pub invariant-loop-ring : goal.invariant-loop-ring
invariant-loop-ring l = l.all ≡ hashed_places_below l.group.tag l.ring l.member
