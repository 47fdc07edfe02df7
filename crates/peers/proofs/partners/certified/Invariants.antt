use Rattle.std.proofs.Common.{◌≡◌, is_some, filter}
use Rattle.std.specs.List.{range_with_len}
use Rattle.validate.specs.Certified.{certificate_of}
use Rattle.peers.proofs.partners.certified.Given as goal

abbrev pub invariant-loop-number : goal.invariant-loop-number
invariant-loop-number l = l.listed.items ≡ filter (λ m. is_some (certificate_of l.fn.roster m)) (range_with_len 0 l.number)
