use Rattle.std.proofs.Common.{◌≡◌, ℕ, ◌+◌, ◌<◌, ◌≤◌, length}
use Rattle.std.specs.Prelude.{vec_capacity}
use Rattle.removal_timer.specs.Queue.{next_at, previous_at}
use Rattle.removal_timer.specs.declared.queue.TheConstants.{END}
use Rattle.removal_timer.proofs.queue.Queue.new.Given as goal

abbrev pub invariant-loop-number : goal.invariant-loop-number
invariant-loop-number l =
    record {
      count : length l.links.items ≡ l._number;
      room : END + 1 ≤ vec_capacity l.links;
      next : (n : ℕ) → n < l._number → next_at l.links.items n ≡ END;
      previous : (n : ℕ) → n < l._number → previous_at l.links.items n ≡ END;
    }
