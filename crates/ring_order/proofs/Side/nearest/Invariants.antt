use Rattle.std.proofs.Common.{◌≡◌, ◌+◌, ◌<◌, None, length, take}
use Rattle.std.specs.List.{fold}
use Rattle.std.specs.Option.{option_map, IfSome}
use Rattle.ring_order.specs.Nearest.{key_of_pair, keys_of, nearer, nearest_so_far, comparisons_of_all}
use Rattle.ring_order.proofs.Side.nearest.Given as goal

abbrev pub invariant-loop-listed : goal.invariant-loop-listed
invariant-loop-listed g l =
    record {
      best : option_map (key_of_pair l.ring.0) l.best ≡ fold (nearest_so_far (nearer l.self (key_of_pair l.ring.0 l.member)) l.member.1) None (keys_of l.ring.0 (take l.listed-index l.live));
      placed : IfSome l.best (λ p. l.ring.0 < length p.0);
      steps : l.steps ≡ l.initial.steps + comparisons_of_all l.member.1 (keys_of l.ring.0 (take l.listed-index l.live));
    }
