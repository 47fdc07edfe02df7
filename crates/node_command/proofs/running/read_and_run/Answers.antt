use Rattle.std.proofs.Common.{◌≡◌, ◌∙◌, ap, sym, subst, Err, refl, inl, inr}
use Rattle.play.specs.Plays.{io}
use Rattle.ports.specs.Count.{Rose, next_count}
use Rattle.node_command.specs.declared.halt.NodeHalt.{NodeHalt}
use Rattle.node_command.specs.declared.halt.NodeHalt.TheVariants as halt
use Rattle.node_command.specs.Halts.{is_writable}
use Rattle.node_command.specs.Journal.{environment}
use Rattle.node_command.specs.Running.{IsCaused}
use Rattle.node_command.proofs.RunLemmas.{cut-cause, cut-takes, read-cause, same-out, stop-unlinked, stop-unstored, unread, unread-writable, went, whole-takes}
use Rattle.node_command.proofs.SpendLemmas.{cut-spends, read-spends, ungathered-spends}
use Rattle.node_command.proofs.running.read_and_run.Goals as goal

pub member_of-requires : goal.member_of-requires
member_of-requires g c = record { seen = c.in-Ok.ensures.whole.seen_lines; are = c.in-Ok.ensures.whole.are }

pub returns-in-Err-clause-sink : goal.returns-in-Err-clause-sink
returns-in-Err-clause-sink g c =
    c.in-Err.ensures.sink ∙ sym (ap (λ (h : NodeHalt). is_writable (Err h)) c.from.ensures ∙ unread-writable _ _ c.in-Err.stop c.in-Err.ensures.unfinished)

pub returns-in-Err-clause-store_fault : goal.returns-in-Err-clause-store_fault
returns-in-Err-clause-store_fault g c =
    let older = (g.D.Disk.state c.args.disk.now).faults in
    subst (λ (h : NodeHalt). h ≡ halt.StoreFault → Rose older older) (sym c.from.ensures) (stop-unstored c.in-Err.stop (Rose older older))

pub returns-in-Err-clause-link_fault : goal.returns-in-Err-clause-link_fault
returns-in-Err-clause-link_fault g c =
    let older = (g.L.Link.state c.args.link.now).faults in
    subst (λ (h : NodeHalt). h ≡ halt.LinkFault → older ≡ next_count older) (sym c.from.ensures) (stop-unlinked c.in-Err.stop (older ≡ next_count older))

pub returns-in-Err-clause-runs : goal.returns-in-Err-clause-runs
returns-in-Err-clause-runs g c = λ feed link_is coming_is reading_is stay_is.
    rw c.from.ensures (unread feed _ _ _ _ c.in-Err.stop c.in-Err.ensures.unfinished refl refl)

pub returns-in-Ok-member_of-clause-runs : goal.returns-in-Ok-member_of-clause-runs
returns-in-Ok-member_of-clause-runs g c = λ feed link_is coming_is reading_is stay_is.
    let m = c.in-Ok-member_of.member in
    let between = io (g.S.Source.state c.read_whole.new.input) (g.O.Sink.state c.read_whole.new.out) in
    went feed _ between _
    (environment (g.O.Sink.state c.args.out.now).taken (g.L.Link.state c.args.link.now).contents (g.D.Disk.state c.args.disk.now)) _ m c.bind_and_live.result
    (record { lines = c.in-Ok.lines.items; whole = c.in-Ok.ensures.whole; is = c.in-Ok-member_of.ensures.value; sound = c.in-Ok-member_of.ensures.sound }) refl refl
    (c.bind_and_live.ensures.runs feed link_is coming_is reading_is stay_is)

pub returns-in-Err-member_of-clause-runs : goal.returns-in-Err-member_of-clause-runs
returns-in-Err-member_of-clause-runs g c = λ feed link_is coming_is reading_is stay_is.
    inr (inl (record { lines = c.in-Ok.lines.items; whole = c.in-Ok.ensures.whole; link = refl; disk = refl }))

pub returns-in-Err-clause-takes : goal.returns-in-Err-clause-takes
returns-in-Err-clause-takes g c = rw c.from.ensures (cut-takes _ _ _ _ c.in-Err.stop c.in-Err.ensures.unfinished refl)

pub returns-in-Ok-member_of-clause-takes : goal.returns-in-Ok-member_of-clause-takes
returns-in-Ok-member_of-clause-takes g c =
    let between = io (g.S.Source.state c.read_whole.new.input) (g.O.Sink.state c.read_whole.new.out) in
    let now = io (g.S.Source.state c.read_whole.new.input) (g.O.Sink.state c.bind_and_live.new.out) in
    whole-takes c.in-Ok.lines.items _ between now (g.D.Disk.state c.args.disk.now) (g.D.Disk.state c.bind_and_live.new.disk) c.bind_and_live.result
    c.in-Ok.ensures.whole refl refl c.bind_and_live.ensures.write_fault c.bind_and_live.ensures.behind
    (same-out c.bind_and_live.result (λ (o : _). io (g.S.Source.state c.read_whole.new.input) (g.O.Sink.state o)) _ _ c.bind_and_live.ensures.unwritten)
    (same-out c.bind_and_live.result (λ (d : _). g.D.Disk.state d) _ _ c.bind_and_live.ensures.undone)

pub returns-in-Err-member_of-clause-takes : goal.returns-in-Err-member_of-clause-takes
returns-in-Err-member_of-clause-takes g c =
    let between = io (g.S.Source.state c.read_whole.new.input) (g.O.Sink.state c.read_whole.new.out) in
    inr (record { lines = c.in-Ok.lines.items; between = between; whole = c.in-Ok.ensures.whole; left = refl; reads = refl; writes = refl })

pub returns-in-Err-clause-cause : goal.returns-in-Err-clause-cause
returns-in-Err-clause-cause g c =
    let was = io (g.S.Source.state c.args.input.now) (g.O.Sink.state c.args.out.now) in
    let disk = g.D.Disk.state c.args.disk.now in
    subst (λ (h : NodeHalt). IsCaused c.args.name.now was disk disk (Err h)) (sym c.from.ensures) (cut-cause c.args.name.now was disk disk c.in-Err.stop)

pub returns-in-Ok-member_of-clause-cause : goal.returns-in-Ok-member_of-clause-cause
returns-in-Ok-member_of-clause-cause g c =
    read-cause c.args.name.now _ _ c.in-Ok-member_of.member (g.D.Disk.state c.args.disk.now) (g.D.Disk.state c.bind_and_live.new.disk) c.bind_and_live.result
    (record { lines = c.in-Ok.lines.items; whole = c.in-Ok.ensures.whole; is = c.in-Ok-member_of.ensures.value; sound = c.in-Ok-member_of.ensures.sound }) c.bind_and_live.ensures.cause

pub returns-in-Err-clause-spends : goal.returns-in-Err-clause-spends
returns-in-Err-clause-spends g c = rw c.from.ensures (cut-spends _ _ (g.D.Disk.state c.args.disk.now) _ c.in-Err.stop c.in-Err.ensures.unfinished)

pub returns-in-Err-member_of-clause-spends : goal.returns-in-Err-member_of-clause-spends
returns-in-Err-member_of-clause-spends g c = ungathered-spends _ _ c.in-Ok.lines.items (g.D.Disk.state c.args.disk.now) _ c.in-Ok.ensures.whole

pub returns-in-Ok-member_of-clause-spends : goal.returns-in-Ok-member_of-clause-spends
returns-in-Ok-member_of-clause-spends g c =
    let between = io (g.S.Source.state c.read_whole.new.input) (g.O.Sink.state c.read_whole.new.out) in
    let now = io (g.S.Source.state c.read_whole.new.input) (g.O.Sink.state c.bind_and_live.new.out) in
    read-spends _ between now c.in-Ok-member_of.member (g.D.Disk.state c.args.disk.now) (g.D.Disk.state c.bind_and_live.new.disk) _ _ c.bind_and_live.result
    (record { lines = c.in-Ok.lines.items; whole = c.in-Ok.ensures.whole; is = c.in-Ok-member_of.ensures.value; sound = c.in-Ok-member_of.ensures.sound }) c.bind_and_live.ensures.spends
