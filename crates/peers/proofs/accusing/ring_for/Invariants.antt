use Rattle.std.proofs.Common.{◌≡◌, false}
use Rattle.std.specs.Prelude.{◌&&◌}
use Rattle.std.specs.List.{list_any, range_with_len}
use Rattle.ff_ids.specs.Masks.{enables}
use Rattle.ff_ids.specs.Views.{State, monitor, is_number}
use Rattle.membership.specs.Holds.{Holds}
use Rattle.peers.proofs.accusing.ring_for.Given as goal

abbrev pub invariant-loop-ring : goal.invariant-loop-ring
invariant-loop-ring l = (st : State) → Holds l.fn.membership st → list_any (λ ring. enables l.fn.note.mask.0 ring && is_number (monitor st ring l.fn.member) l.fn.me) (range_with_len 0 l.ring) ≡ false
