use Rattle.std.proofs.Common.{◌≡◌, ℕ, ◌<◌, ◌≤◌, None, length, slice_index_or}
use Rattle.ff_ids.specs.declared.TheConstants.{MAX_RINGS}
use Rattle.membership.specs.Ends.{answered_on}
use Rattle.membership.proofs.Membership.answered_by.Given as goal

abbrev pub invariant-loop-ring : goal.invariant-loop-ring
invariant-loop-ring l =
    record {
      long : length l.named ≡ MAX_RINGS;
      each : (k : ℕ) → k < l.ring → slice_index_or l.named k None ≡ answered_on l.self l.note k;
      beyond : (k : ℕ) → l.ring ≤ k → slice_index_or l.named k None ≡ None;
    }
