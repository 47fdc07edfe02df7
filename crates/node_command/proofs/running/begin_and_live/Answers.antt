use Rattle.std.proofs.Common.{◌∙◌, ap, inr, sym}
use Rattle.ports.specs.Count.{counted}
use Rattle.node_command.specs.Journal.{environment, bound_for}
use Rattle.node_command.specs.Opening.{setting_for, start_of}
use Rattle.node_command.proofs.RunLemmas.{begins-behind, begins-bound, begins-cause, begins-rose, begins-writable, begun-unsent, calm-behind, lived-run, not-begun, rose-behind, served-cause}
use Rattle.node_command.proofs.SpendLemmas.{begun-spends, unbegun-spends}
use Rattle.node_command.proofs.running.begin_and_live.Goals as goal

pub live-ended-requires-clause-unsent : goal.live-ended-requires-clause-unsent
live-ended-requires-clause-unsent g c = begun-unsent c.args.member c.in-Ok.node c.begin.new.events _ _ c.in-Ok.ensures.begins

pub returns-in-Ok-clause-no_disk_fault : goal.returns-in-Ok-clause-no_disk_fault
returns-in-Ok-clause-no_disk_fault g c = calm-behind c.live-ended.result _ _ _ c.live-ended.ensures.no_disk_fault c.in-Ok.ensures.begins.1.faults

pub returns-in-Ok-clause-store_fault : goal.returns-in-Ok-clause-store_fault
returns-in-Ok-clause-store_fault g c = rose-behind c.live-ended.result _ _ _ c.live-ended.ensures.store_fault c.in-Ok.ensures.begins.1.faults

pub returns-in-Ok-clause-runs : goal.returns-in-Ok-clause-runs
returns-in-Ok-clause-runs g c = λ feed link_is coming_is reading_is stay_is.
    lived-run c.args.member feed c.in-Ok.ensures.begins.0 c.in-Ok.node c.begin.new.events
    (environment (g.O.Sink.state c.args.out.now).taken (g.L.Link.state c.args.link.now).contents (g.D.Disk.state c.args.disk.now))
    (environment (g.O.Sink.state c.live-ended.new.out).taken (g.L.Link.state c.live-ended.new.link).contents (g.D.Disk.state c.live-ended.new.disk))
    (g.D.Disk.state c.begin.new.disk) c.live-ended.result (g.C.Clock.state c.args.clock.now).reading c.args.stay reading_is stay_is c.in-Ok.ensures.begins.1
    (c.live-ended.ensures.lives (setting_for c.args.member) (start_of c.args.member c.in-Ok.ensures.begins.0).node (bound_for c.args.member feed.link) feed.readings c.in-Ok.ensures.begins.1.is link_is coming_is)

pub returns-in-Ok-clause-spends : goal.returns-in-Ok-clause-spends
returns-in-Ok-clause-spends g c =
    inr (begun-spends c.args.member c.in-Ok.ensures.begins.0 c.in-Ok.node c.begin.new.events _ _ _ (g.D.Disk.state c.begin.new.disk) _ _ _ c.live-ended.result c.in-Ok.ensures.begins.1 c.live-ended.ensures.spends)

pub returns-clause-spends : goal.returns-clause-spends
returns-clause-spends g c = unbegun-spends c.args.member _ _ _ _ c.begin.new.events c.in-Err.halt c.in-Err.ensures.begins

pub returns-clause-sink : goal.returns-clause-sink
returns-clause-sink g c = c.requires.sink ∙ sym (begins-writable c.args.member _ _ c.begin.new.events c.in-Err.halt c.in-Err.ensures.begins).0

pub returns-clause-write_fault : goal.returns-clause-write_fault
returns-clause-write_fault g c = ap (λ b. counted b (g.O.Sink.state c.args.out.now).faults) (sym (begins-writable c.args.member _ _ c.begin.new.events c.in-Err.halt c.in-Err.ensures.begins).1)

pub returns-clause-store_fault : goal.returns-clause-store_fault
returns-clause-store_fault g c = begins-rose c.args.member _ _ c.begin.new.events c.in-Err.halt c.in-Err.ensures.begins

pub returns-clause-bound : goal.returns-clause-bound
returns-clause-bound g c = begins-bound c.args.member _ _ c.begin.new.events c.in-Err.halt c.in-Err.ensures.begins

pub returns-clause-runs : goal.returns-clause-runs
returns-clause-runs g c = λ feed link_is coming_is reading_is stay_is.
    not-begun c.args.member feed
    (environment (g.O.Sink.state c.args.out.now).taken (g.L.Link.state c.args.link.now).contents (g.D.Disk.state c.args.disk.now))
    (g.D.Disk.state c.begin.new.disk) c.begin.new.events c.in-Err.halt c.in-Err.ensures.begins

pub returns-clause-behind : goal.returns-clause-behind
returns-clause-behind g c = begins-behind c.args.member _ _ c.begin.new.events c.in-Err.halt c.in-Err.ensures.begins

pub returns-in-Ok-clause-cause : goal.returns-in-Ok-clause-cause
returns-in-Ok-clause-cause g c =
    served-cause c.args.member c.args.name.now (g.D.Disk.state c.args.disk.now) (g.D.Disk.state c.live-ended.new.disk) c.live-ended.result c.live-ended.ensures.served

pub returns-clause-cause : goal.returns-clause-cause
returns-clause-cause g c = begins-cause c.args.member c.args.name.now _ _ c.begin.new.events c.in-Err.halt c.in-Err.ensures.begins c.in-Err.ensures.opened
