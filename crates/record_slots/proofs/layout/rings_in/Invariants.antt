use Rattle.std.proofs.Common.{◌≡◌, ◌+◌, None, is_some, get_or}
use Rattle.ff_ids.specs.Masks.{bits_where}
use Rattle.record_slots.proofs.layout.rings_in.Given as goal

abbrev pub invariant-loop-ring : goal.invariant-loop-ring
invariant-loop-ring g l = l.rings ≡ bits_where (λ r. is_some (get_or l.slots (l.first + r) None)) l.ring
