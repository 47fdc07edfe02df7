use Rattle.std.proofs.Common.{◌≡◌, ◌≤◌, ◌++◌, drop, length}
use Rattle.membership.specs.Kept.{raised, leavers}
use Rattle.membership.proofs.Membership.expire_all.Given as goal

abbrev pub invariant-loop-index : goal.invariant-loop-index
invariant-loop-index l =
    record {
      life : l.self ≡ record l.initial.self { expired = l.self.expired };
      report : l.out ≡ record l.initial.out { removed = l.out.removed };
      epochs : raised l.self.expired (drop l.index l.initial.out.expired) ≡ raised l.initial.self.expired l.initial.out.expired;
      gone : l.out.removed ++ leavers l.self.notes l.self.expired (drop l.index l.initial.out.expired) ≡ leavers l.initial.self.notes l.initial.self.expired l.initial.out.expired;
      few : length l.out.removed ≤ l.index;
    }
