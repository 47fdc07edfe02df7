use Rattle.std.proofs.Common.{◌≡◌, ◌+◌, ◌≤◌, drop, length}
use Rattle.ff_ids.specs.Views.{State}
use Rattle.membership.specs.Holds.{Holds}
use Rattle.gossip.specs.Partners.{meant}
use Rattle.gossip.proofs.partners.count_meant.Given as goal

abbrev pub invariant-loop-member : goal.invariant-loop-member
invariant-loop-member l =
    record {
      few : l.count ≤ l.member-index;
      so_far : (s : State) → Holds l.membership s → l.count + length (meant l.outward s (drop l.member-index l.certified) l.me) ≡ length (meant l.outward s l.certified l.me);
    }
