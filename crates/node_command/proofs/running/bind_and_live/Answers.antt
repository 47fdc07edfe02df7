use Rattle.std.proofs.Common.{ℕ, Err, inl, subst}
use Rattle.node_command.proofs.RunLemmas.{bound, run-behind, unbound, unbound-starved}
use Rattle.node_command.proofs.SpendLemmas.{same-spends}
use Rattle.node_command.specs.declared.halt.NodeHalt.TheVariants as halt
use Rattle.node_command.specs.Spendings.{SpendsBehind}
use Rattle.node_command.proofs.running.bind_and_live.Goals as goal

pub returns-in-Done-clause-runs : goal.returns-in-Done-clause-runs
returns-in-Done-clause-runs g c = λ feed link_is coming_is reading_is stay_is.
    let now = bound c.args.member feed.link c.port.result (g.L.Link.state c.args.link.now).contents (g.L.Link.state c.bind.new.self).contents link_is c.port.ensures c.in-Done.ensures.binds in
    run-behind c.args.member feed (g.O.Sink.state c.args.out.now).taken (g.L.Link.state c.args.link.now).contents (g.L.Link.state c.bind.new.self).contents
    (g.D.Disk.state c.args.disk.now) _ c.begin_and_live.result now
    (c.begin_and_live.ensures.runs feed now coming_is reading_is stay_is)

pub returns-in-Failed-clause-runs : goal.returns-in-Failed-clause-runs
returns-in-Failed-clause-runs g c = λ feed link_is coming_is reading_is stay_is.
    unbound (g.O.Sink.state c.args.out.now).taken (g.L.Link.state c.args.link.now).contents (g.L.Link.state c.bind.new.self).contents (g.D.Disk.state c.args.disk.now) feed.link c.port.result link_is c.in-Failed.ensures.binds

pub returns-in-OutOfMemory-clause-runs : goal.returns-in-OutOfMemory-clause-runs
returns-in-OutOfMemory-clause-runs g c = λ feed link_is coming_is reading_is stay_is.
    inl (unbound-starved (g.O.Sink.state c.args.out.now).taken (g.L.Link.state c.args.link.now).contents (g.L.Link.state c.bind.new.self).contents (g.D.Disk.state c.args.disk.now) feed.link c.port.result link_is c.in-OutOfMemory.ensures.binds)

pub returns-in-Failed-clause-spends : goal.returns-in-Failed-clause-spends
returns-in-Failed-clause-spends g c = inl (tt, same-spends (g.O.Sink.state c.args.out.now).taken (g.D.Disk.state c.args.disk.now) _ _ (Err halt.LinkFault) c.in-Failed.ensures.faults)

pub returns-in-OutOfMemory-clause-spends : goal.returns-in-OutOfMemory-clause-spends
returns-in-OutOfMemory-clause-spends g c = inl (tt, same-spends (g.O.Sink.state c.args.out.now).taken (g.D.Disk.state c.args.disk.now) _ _ (Err halt.OutOfMemory) c.in-OutOfMemory.ensures.faults)

pub returns-in-Done-clause-spends : goal.returns-in-Done-clause-spends
returns-in-Done-clause-spends g c =
    subst (λ (count : ℕ). SpendsBehind c.args.member (g.O.Sink.state c.args.out.now).taken (g.O.Sink.state c.begin_and_live.new.out).taken (g.D.Disk.state c.args.disk.now) (g.D.Disk.state c.begin_and_live.new.disk) count (g.L.Link.state c.begin_and_live.new.link).faults c.begin_and_live.result)
    c.in-Done.ensures.faults c.begin_and_live.ensures.spends
