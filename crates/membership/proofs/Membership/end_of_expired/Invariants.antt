use Rattle.std.proofs.Common.{◌≡◌, ◌≤◌, ◌+◌, length, take}
use Rattle.std.specs.List.{All}
use Rattle.ff_ids.specs.declared.TheConstants.{MAX_ACCUSATIONS}
use Rattle.ff_ids.specs.Masks.{ring_count}
use Rattle.membership.specs.Ends.{AreTheirs, Ends, is_of_any}
use Rattle.membership.proofs.Membership.end_of_expired.Given as goal

abbrev pub invariant-loop-index : goal.invariant-loop-index
invariant-loop-index l =
    record {
      ends : All (λ a. AreTheirs l.initial.self a.accused l.initial.self.kept) l.initial.out.expired → Ends (ring_count l.initial.self.group.t) (is_of_any l.initial.self (take l.index l.initial.out.expired)) l.initial.self.kept l.initial.out.fell l.self.kept l.out.fell;
      life : l.self ≡ record l.initial.self { kept = l.self.kept };
      report : l.out ≡ record l.initial.out { fell = l.out.fell };
      room : length l.out.fell + length l.self.kept ≤ MAX_ACCUSATIONS;
    }
