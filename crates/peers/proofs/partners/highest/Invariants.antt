use Rattle.std.proofs.Common.{◌≡◌, None, take}
use Rattle.std.specs.Prelude.{unwrap_or}
use Rattle.std.specs.List.{last_or}
use Rattle.peers.proofs.partners.highest.Given as goal

abbrev pub invariant-loop-member : goal.invariant-loop-member
invariant-loop-member l = l.last ≡ unwrap_or (last_or None (take l.member-index l.numbers)) 0
