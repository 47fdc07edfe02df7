use Rattle.std.proofs.Common.{◌≡◌, ◌≤◌, ◌+◌, length}
use Rattle.ff_ids.specs.declared.TheConstants.{MAX_ACCUSATIONS}
use Rattle.ff_ids.specs.Masks.{ring_count}
use Rattle.membership.specs.Ends.{Ends}
use Rattle.membership.proofs.EndLemmas.{is_of_below}
use Rattle.membership.proofs.Membership.end_of.Given as goal

abbrev pub invariant-loop-ring : goal.invariant-loop-ring
invariant-loop-ring l =
    record {
      ends : Ends (ring_count l.fn.self.group.t) (is_of_below l.ring l.fn.self l.member) l.fn.self.kept l.fn.out.fell l.self.kept l.out.fell;
      life : l.self ≡ record l.fn.self { kept = l.self.kept };
      report : l.out ≡ record l.fn.out { fell = l.out.fell };
      room : length l.out.fell + length l.self.kept ≤ MAX_ACCUSATIONS;
    }
