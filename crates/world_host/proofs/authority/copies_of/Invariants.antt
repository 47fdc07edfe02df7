use Rattle.std.proofs.Common.{◌≡◌, take}
use Rattle.world_host.proofs.authority.copies_of.Given as goal

abbrev pub invariant-loop-checked : goal.invariant-loop-checked
invariant-loop-checked l = l.copies.items ≡ take l.checked-index l.certificates
