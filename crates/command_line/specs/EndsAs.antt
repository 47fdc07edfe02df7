-- How a run of each command ends, over a disk, a link and a clock.
use Rattle.std.specs.Prelude.{◌≡◌, ℕ, List}
use Rattle.play.specs.Plays.{IoState}
use Rattle.verifier.specs.Answered.{verified}
use Rattle.ports.specs.Outside.{OfDisk}
use Rattle.world_replay.specs.Causes.{IsJudged}
use Rattle.command_line.specs.Replayed.{replayed}
use Rattle.command_line.specs.Causes.{for_cause}
use Rattle.command_line.specs.Ends.{Ends, EndsBy, EnrollEnds, MigrateEnds, NodeEnds, StoreEnds, NetState}
use Rattle.command_line.specs.Soaking.{SoakEnds}
use Rattle.command_line.specs.declared.command.Command.{Command}
use Rattle.command_line.specs.declared.command.Command.TheVariants.{Replay, Verify, Store, Enroll, Migrate, Node, Soak}
use Rattle.command_line.specs.declared.status.Status.{Status}

-- How a run of each command ends.
abbrev pub EndsAs : Command → List ℕ → IoState → IoState → OfDisk → OfDisk → NetState → NetState → Status → Type 0
EndsAs Replay name was now old new before after s = EndsBy IsJudged for_cause replayed was now s × (new ≡ old)
EndsAs Verify name was now old new before after s = Ends verified was now s × (new ≡ old)
EndsAs Store name was now old new before after s = StoreEnds name was now old new s
EndsAs Enroll name was now old new before after s = EnrollEnds name was now old new s
EndsAs Migrate name was now old new before after s = MigrateEnds name was now old new s
EndsAs (Node stay) name was now old new before after s = NodeEnds name stay was now old new before after s
EndsAs (Soak seed members rounds) name was now old new before after s = SoakEnds seed members rounds was now s × (new ≡ old)
