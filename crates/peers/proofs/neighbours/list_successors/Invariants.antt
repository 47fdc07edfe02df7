use Rattle.std.proofs.Common.{◌≡◌, ◌+◌, ◌∷◌, map}
use Rattle.std.specs.List.{range_with_len}
use Rattle.arrayvec.specs.ArrayVec.{array_vec_len}
use Rattle.ff_ids.specs.Views.{State, successor}
use Rattle.membership.specs.Holds.{Holds}
use Rattle.peers.proofs.neighbours.list_successors.Given as goal

abbrev pub invariant-loop-ring : goal.invariant-loop-ring
invariant-loop-ring l =
    ((st : State) → Holds l.fn.membership st → l.listed.items ≡ l.fn.also ∷ map (λ ring. successor st ring l.fn.me) (range_with_len 0 l.ring)) × (array_vec_len l.listed ≡ l.ring + 1)
