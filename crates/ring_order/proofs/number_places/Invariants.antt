use Rattle.std.proofs.Common.{◌≡◌, map, take}
use Rattle.ring_order.specs.Rows.{place_of_number}
use Rattle.ring_order.proofs.number_places.Given as goal

abbrev pub invariant-loop-place : goal.invariant-loop-place
invariant-loop-place l = l.all ≡ map place_of_number (take l.place-index l.places)
