use Rattle.world_replay.specs.Causes.{replayed}
use Rattle.world_tests.proofs.player.play.Goals as goal

pub play-requires-clause-owing : goal.play-requires-clause-owing
play-requires-clause-owing c = record { owed = replayed; is = c.new-player.ensures.owes }
