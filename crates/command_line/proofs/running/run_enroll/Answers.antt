use Rattle.authority.specs.Enrolling.{Enrols}
use Rattle.play.specs.Plays.{io}
use Rattle.command_line.proofs.EndLemmas.{halt-ends}
use Rattle.command_line.proofs.running.run_enroll.Goals as goal

pub returns : goal.returns
returns g c = record {
  ends =
      halt-ends
      (λ between result. Enrols c.args.name.now (io (g.S.Source.state c.args.input.now) (g.O.Sink.state c.args.out.now)) between (g.D.Disk.state c.args.disk.now) (g.D.Disk.state c.enroll-ended.new.disk) result)
      c.enroll-ended.result c.from.result c.conclude.result
      (io (g.S.Source.state c.enroll-ended.new.input) (g.O.Sink.state c.enroll-ended.new.out))
      (io (g.S.Source.state c.enroll-ended.new.input) (g.O.Sink.state c.conclude.new.out))
      c.enroll-ended.ensures.enrols c.from.ensures (c.conclude.ensures (g.S.Source.state c.enroll-ended.new.input));
}
