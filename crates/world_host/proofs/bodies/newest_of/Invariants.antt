use Rattle.std.proofs.Common.{◌≡◌, filter_map, take}
use Rattle.world_rules.specs.Refusals.{epoch_of_note as epoch_in, greatest}
use Rattle.world_host.proofs.bodies.newest_of.Given as goal

abbrev pub invariant-loop-body : goal.invariant-loop-body
invariant-loop-body l = l.newest ≡ greatest (filter_map (epoch_in l.member) (take l.body-index l.bodies))
