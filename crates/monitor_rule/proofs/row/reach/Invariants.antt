use Rattle.std.proofs.Common.{◌≡◌, ℕ, ◌+◌, ◌-◌, ◌<◌, ◌≤◌, length, get_or}
use Rattle.std.specs.Prelude.{vec_capacity, vec_len}
use Rattle.ff_ids.specs.declared.TheConstants.{MEMBERS}
use Rattle.ring_order.specs.Ranks.{Ranked}
use Rattle.monitor_rule.proofs.row.reach.Given as goal

abbrev pub invariant-growing : goal.invariant-growing
invariant-growing l =
    record {
      few : length l.ranks.items ≤ MEMBERS;
      more : length l.fn.ranks.items ≤ length l.ranks.items;
      room : MEMBERS ≤ vec_capacity l.ranks;
      same : (k : ℕ) (d : Ranked) → k < length l.fn.ranks.items → get_or l.ranks.items k d ≡ get_or l.fn.ranks.items k d;
    }

abbrev pub decreases-growing : goal.decreases-growing
decreases-growing l = l.member + 1 - vec_len l.ranks
