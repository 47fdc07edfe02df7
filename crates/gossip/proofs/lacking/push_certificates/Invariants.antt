use Rattle.std.proofs.Common.{◌≡◌, ◌++◌, take}
use Rattle.gossip.specs.Differ.{certificates_lacking}
use Rattle.gossip.proofs.lacking.push_certificates.Given as goal

abbrev pub invariant-loop-here : goal.invariant-loop-here
invariant-loop-here l = l.out.items ≡ l.initial.out.items ++ certificates_lacking (take l.here-index l.mine) l.theirs
