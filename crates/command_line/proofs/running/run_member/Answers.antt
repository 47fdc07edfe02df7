use Rattle.play.specs.Plays.{io}
use Rattle.command_line.specs.Ends.{net_state}
use Rattle.command_line.proofs.NodeLemmas.{node-ends}
use Rattle.command_line.proofs.running.run_member.Goals as goal

pub returns : goal.returns
returns g c = record {
  ends =
      node-ends c.args.name.now c.args.stay
      (io (g.S.Source.state c.args.input.now) (g.O.Sink.state c.args.out.now))
      (io (g.S.Source.state c.run_node-ended.new.input) (g.O.Sink.state c.run_node-ended.new.out))
      (io (g.S.Source.state c.run_node-ended.new.input) (g.O.Sink.state c.conclude.new.out))
      (g.D.Disk.state c.args.disk.now)
      (g.D.Disk.state c.run_node-ended.new.disk)
      (net_state (g.L.Link.state c.args.link.now) (g.C.Clock.state c.args.clock.now))
      (net_state (g.L.Link.state c.run_node-ended.new.link) (g.C.Clock.state c.run_node-ended.new.clock))
      c.run_node-ended.result c.from.result c.conclude.result c.run_node-ended.ensures.takes c.run_node-ended.ensures.cause c.run_node-ended.ensures.no_disk_fault c.run_node-ended.ensures.store_fault c.run_node-ended.ensures.link_fault
      c.run_node-ended.ensures.runs c.run_node-ended.ensures.rests c.run_node-ended.ensures.spends c.from.ensures (c.conclude.ensures (g.S.Source.state c.run_node-ended.new.input));
}
