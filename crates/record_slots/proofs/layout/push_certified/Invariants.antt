use Rattle.std.proofs.Common.{◌≡◌, ◌+◌, ◌≤◌, ◌++◌, length}
use Rattle.record_slots.specs.Slots.{ready_entries}
use Rattle.record_slots.proofs.layout.push_certified.Given as goal

abbrev pub invariant-loop-index : goal.invariant-loop-index
invariant-loop-index g l =
    record {
      page : l.out.page ≡ l.initial.out.page;
      listed : l.out.listed ≡ l.initial.out.listed ++ ready_entries l.slots l.entries l.first l.index;
      few : length l.out.listed ≤ length l.initial.out.listed + l.index;
    }
