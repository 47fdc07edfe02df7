use Rattle.std.proofs.Common.{◌≡◌, ◌-◌, ◌≤◌, length}
use Rattle.std.specs.Prelude.{vec_capacity, vec_len}
use Rattle.ff_ids.specs.declared.TheConstants.{MEMBERS}
use Rattle.membership.specs.Slots.{taken_from}
use Rattle.membership.proofs.by_member.reach.Given as goal

abbrev pub invariant-growing : goal.invariant-growing
invariant-growing g l =
    record {
      few : length l.slots.items ≤ MEMBERS;
      room : MEMBERS ≤ vec_capacity l.slots;
      same : taken_from 0 l.slots.items ≡ taken_from 0 l.fn.slots.items;
    }

abbrev pub decreases-growing : goal.decreases-growing
decreases-growing g l = l.index - vec_len l.slots
