use Rattle.std.proofs.Common.{◌≡◌, ◌++◌, filter}
use Rattle.std.specs.Option.{option_copied}
use Rattle.ff_ids.specs.Masks.{enabled}
use Rattle.gossip.specs.Differ.{lacks_ring, keys_against}
use Rattle.gossip.proofs.lacking.push_rings.Given as goal

abbrev pub invariant-loop-number : goal.invariant-loop-number
invariant-loop-number l = l.out.items ≡ l.initial.out.items ++ keys_against l.here.member (filter (lacks_ring (option_copied l.there) l.here) (enabled l.number l.here.rings))
