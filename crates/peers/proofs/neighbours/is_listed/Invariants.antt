use Rattle.std.proofs.Common.{◌≡◌, false, take}
use Rattle.std.specs.List.{list_any}
use Rattle.ff_ids.specs.Views.{is_number}
use Rattle.peers.proofs.neighbours.is_listed.Given as goal

abbrev pub invariant-loop-one : goal.invariant-loop-one
invariant-loop-one l = list_any (λ o. is_number o l.fn.member) (take l.one-index l.listed) ≡ false
