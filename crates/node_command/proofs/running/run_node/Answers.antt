use Rattle.std.proofs.Common.{refl}
use Rattle.play.specs.Plays.{io}
use Rattle.node_command.specs.Journal.{environment}
use Rattle.node_command.proofs.RestLemmas.{run-rests}
use Rattle.node_command.proofs.running.run_node.Goals as goal

pub returns-clause-rests : goal.returns-clause-rests
returns-clause-rests g c = λ feed link_is coming_is reading_is stay_is.
    run-rests feed
    (io (g.S.Source.state c.args.input.now) (g.O.Sink.state c.args.out.now))
    (io (g.S.Source.state c.read_and_run.new.input) (g.O.Sink.state c.read_and_run.new.out))
    (environment (g.O.Sink.state c.args.out.now).taken (g.L.Link.state c.args.link.now).contents (g.D.Disk.state c.args.disk.now))
    (environment (g.O.Sink.state c.read_and_run.new.out).taken (g.L.Link.state c.read_and_run.new.link).contents (g.D.Disk.state c.read_and_run.new.disk))
    c.read_and_run.result refl (c.read_and_run.ensures.runs feed link_is coming_is reading_is stay_is)
