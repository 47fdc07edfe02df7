use Rattle.std.proofs.Common.{◌≡◌, ◌+◌, ◌-◌, ◌≤◌}
use Rattle.trace.specs.Answers.{Recorded}
use Rattle.replay.specs.Plays.{PlaysOne}
use Rattle.replay.proofs.EventLemmas.{IsTicked}
use Rattle.replay.proofs.life.Life.take_ticks.Given as goal

-- so many ticks have passed, and what they brought has been reported
abbrev pub invariant-loop-passed : goal.invariant-loop-passed
invariant-loop-passed l = record {
  most : l.passed ≤ l.ticks;
  moment : l.self.membership.moment ≡ l.fn.self.membership.moment + l.passed;
  ticked : (r : Recorded) → PlaysOne l.fn.self r → IsTicked l.passed r l.self l.fn.text.items l.text.items;
}

abbrev pub decreases-loop-passed : goal.decreases-loop-passed
decreases-loop-passed l = l.ticks - l.passed
