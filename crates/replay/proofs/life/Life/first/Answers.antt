use Rattle.std.proofs.Common.{refl}
use Rattle.trace.specs.Answers.{state_of}
use Rattle.replay.proofs.life.Life.first.Goals as goal

pub returns : goal.returns
unfolding state_of
returns c = record { group = c.in_ok-open.ensures.group; number = refl; holds = c.in_ok-open.ensures.holds }
