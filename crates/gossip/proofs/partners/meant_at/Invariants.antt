use Rattle.std.proofs.Common.{◌≡◌, drop}
use Rattle.std.specs.List.{slice_get}
use Rattle.ff_ids.specs.Views.{State}
use Rattle.membership.specs.Holds.{Holds}
use Rattle.gossip.specs.Partners.{meant}
use Rattle.gossip.proofs.partners.meant_at.Given as goal

abbrev pub invariant-loop-member : goal.invariant-loop-member
invariant-loop-member l = (s : State) → Holds l.membership s → slice_get (meant l.outward s (drop l.member-index l.certified) l.me) l.left ≡ slice_get (meant l.outward s l.certified l.me) l.place
