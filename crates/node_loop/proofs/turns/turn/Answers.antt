use Rattle.std.proofs.Common.{ℕ, Ok, Err, subst, sym, ap, ◌∙◌}
use Rattle.ports.specs.Count.{counted}
use Rattle.journal.specs.declared.turn.Heard.{Heard}
use Rattle.journal.specs.declared.turn.Turn.{Turn}
use Rattle.journal.specs.Turns.{turn_text}
use Rattle.node_loop.specs.declared.fault.ServeFault.{ServeFault}
use Rattle.turn_rules.specs.Turns.{Receives, turn_acts}
use Rattle.node_loop.specs.Turns.{turn_in}
use Rattle.node_loop.specs.Courses.{ServeState, acted, writes}
use Rattle.turn_rules.specs.Lines.{with_feed}
use Rattle.node_loop.specs.Writing.{Stands, Standing, has_failed, standing}
use Rattle.node_loop.specs.Serving.{Serves}
use Rattle.node_loop.proofs.LineLemmas.{goes-as, goes-from, goes-same, goes-trans, goes-turn}
use Rattle.node_loop.proofs.SendLemmas.{thrown}
use Rattle.node_loop.proofs.TellLemmas.{written}
use Rattle.node_loop.proofs.TurnLemmas.{at-heard, heard-is, on-any, read-next, seen-made, seen-turn, sees-after, ticked-turn, turn-due, undelivered-turn, unheard-turn, unticked-turn, unwritten-turn, within-unheard}
use Rattle.node_loop.proofs.turns.turn.Goals as goal

pub returns-in_default-clause-spends : goal.returns-in_default-clause-spends
returns-in_default-clause-spends g c = goes-same c.args.node.now.signer (g.D.Disk.state c.args.disk.now).moments (g.O.Sink.state c.args.out.now).taken _ _ _ c.in_default.ensures.faults

pub returns-in_default-clause-serves : goal.returns-in_default-clause-serves
returns-in_default-clause-serves g c = λ s before r o at sees.
    let w : Standing = standing c.args.node.now (g.L.Link.state c.hear.new.link).contents (g.O.Sink.state c.args.out.now).taken (g.D.Disk.state c.args.disk.now).moments c.args.progress.now.sent in
    unheard-turn s before w r (turn_acts (turn_in c.args.progress.now.pace c.args.progress.now.base c.args.number o))
    (within-unheard s before c.args.node.now (g.L.Link.state c.args.link.now).contents (g.L.Link.state c.hear.new.link).contents (g.O.Sink.state c.args.out.now).taken (g.D.Disk.state c.args.disk.now).moments c.args.progress.now.sent r c.in_default.field-0 at c.in_default.ensures.hears)

pub returns-in_err-write_turn_line-clause-spends : goal.returns-in_err-write_turn_line-clause-spends
returns-in_err-write_turn_line-clause-spends g c =
    let made : Turn = record { number = c.args.number; heard = c.in-Ok.heard; ticks = c.next_ticks-ticks.result } in
    let e : ServeFault = c.in_err-write_turn_line.field-0.0 in
    goes-as _ _ _ _ _ _ _ _ c.from_residual.result (Err e) (thrown c.from_residual.result e c.from_residual.ensures.1)
    (goes-turn c.args.node.now.signer (g.D.Disk.state c.args.disk.now).moments _ _ _ _ made (Err e) c.in_err-write_turn_line.ensures.wrote c.in-Ok.ensures.faults)

pub returns-in_err-write_turn_line-clause-serves : goal.returns-in_err-write_turn_line-clause-serves
returns-in_err-write_turn_line-clause-serves g c = λ s before r o at0 sees.
    let p = c.args.progress.now in
    let sent : ℕ = c.next_ticks-ticks.new.self.sent in
    let v = c.args.node.now in
    let l0 = (g.L.Link.state c.args.link.now).contents in
    let l1 = (g.L.Link.state c.hear.new.link).contents in
    let t0 = (g.O.Sink.state c.args.out.now).taken in
    let t1 = (g.O.Sink.state c.write_turn_line.new.out).taken in
    let m = (g.D.Disk.state c.args.disk.now).moments in
    let at : Stands s before (standing v l0 t0 m sent) r = subst (λ k. Stands s before (standing v l0 t0 m k) r) (sym (ap (λ x. x.sent) c.next_ticks-ticks.ensures.made)) at0 in
    let made : Turn = record { number = c.args.number; heard = c.in-Ok.heard; ticks = c.next_ticks-ticks.result } in
    let due = seen-turn p.pace p.base c.args.number o r (g.C.Clock.state c.args.clock.now).reading (g.C.Clock.state c.args.clock.now).coming (g.C.Clock.state c.now.new.self).coming p.made c.now.result c.next_ticks-ticks.result c.in-Ok.heard sees c.now.ensures.reads
    (heard-is s before v l0 l1 t0 m sent r c.in-Ok.heard at c.in-Ok.ensures.hears) c.next_ticks-ticks.ensures.ticks in
    let heard = at-heard s before v l0 l1 t0 m sent r c.in-Ok.heard at c.in-Ok.ensures.hears in
    let e : ServeFault = c.in_err-write_turn_line.field-0.0 in
    let told = written before v l1 t0 t1 m sent (with_feed (turn_text made)) (acted s r Receives) (Err e) heard.at c.in_err-write_turn_line.ensures.wrote in
    let w : Standing = standing v l1 t1 m sent in
    let T : Turn = turn_in p.pace p.base c.args.number o in
    subst (λ x. Serves s before (turn_acts T) r w x) (sym (thrown c.from_residual.result e c.from_residual.ensures.1))
    (turn-due s before r w made T (Err e) due (unwritten-turn s before w r made e told))

pub returns-in_err-deliver_heard-clause-serves : goal.returns-in_err-deliver_heard-clause-serves
returns-in_err-deliver_heard-clause-serves g c = λ s before r o at0 sees.
    let p = c.args.progress.now in
    let sent : ℕ = c.next_ticks-ticks.new.self.sent in
    let v = c.args.node.now in
    let l0 = (g.L.Link.state c.args.link.now).contents in
    let l1 = (g.L.Link.state c.hear.new.link).contents in
    let t0 = (g.O.Sink.state c.args.out.now).taken in
    let t1 = (g.O.Sink.state c.write_turn_line.new.out).taken in
    let m = (g.D.Disk.state c.args.disk.now).moments in
    let at : Stands s before (standing v l0 t0 m sent) r = subst (λ k. Stands s before (standing v l0 t0 m k) r) (sym (ap (λ x. x.sent) c.next_ticks-ticks.ensures.made)) at0 in
    let made : Turn = record { number = c.args.number; heard = c.in-Ok.heard; ticks = c.next_ticks-ticks.result } in
    let due = seen-turn p.pace p.base c.args.number o r (g.C.Clock.state c.args.clock.now).reading (g.C.Clock.state c.args.clock.now).coming (g.C.Clock.state c.now.new.self).coming p.made c.now.result c.next_ticks-ticks.result c.in-Ok.heard sees c.now.ensures.reads
    (heard-is s before v l0 l1 t0 m sent r c.in-Ok.heard at c.in-Ok.ensures.hears) c.next_ticks-ticks.ensures.ticks in
    let heard = at-heard s before v l0 l1 t0 m sent r c.in-Ok.heard at c.in-Ok.ensures.hears in
    let told : Stands s before (standing v l1 t1 m sent) (writes (with_feed (turn_text made)) (acted s r Receives)) = record {
      node = heard.node;
      at = written before v l1 t0 t1 m sent (with_feed (turn_text made)) (acted s r Receives) (Ok c.in_ok-write_turn_line.field-0) heard.at c.in_ok-write_turn_line.ensures.wrote;
    } in
    let e : ServeFault = c.in_err-deliver_heard.field-0.0 in
    let r1 : ServeState = writes (with_feed (turn_text made)) (acted s r Receives) in
    let w : Standing = standing c.deliver_heard.new.node (g.L.Link.state c.deliver_heard.new.link).contents (g.O.Sink.state c.deliver_heard.new.out).taken (g.D.Disk.state c.deliver_heard.new.disk).moments c.deliver_heard.new.sent in
    let T : Turn = turn_in p.pace p.base c.args.number o in
    subst (λ x. Serves s before (turn_acts T) r w x) (sym (thrown c.from_residual-in_err-deliver_heard.result e c.from_residual-in_err-deliver_heard.ensures.1))
    (turn-due s before r w made T (Err e) due (undelivered-turn s before w r made e (c.in_err-deliver_heard.ensures.serves s before r1 told)))

pub returns-clause-spends : goal.returns-clause-spends
returns-clause-spends g c =
    let made : Turn = record { number = c.args.number; heard = c.in-Ok.heard; ticks = c.next_ticks-ticks.result } in
    let line = goes-turn c.args.node.now.signer (g.D.Disk.state c.args.disk.now).moments _ _ _ _ made (Ok c.in_ok-write_turn_line.field-0) c.in_ok-write_turn_line.ensures.wrote c.in-Ok.ensures.faults in
    goes-trans _ _ _ _ _ _ _ _ _ _ _ _ _ (goes-trans _ _ _ _ _ _ _ _ _ _ _ _ _ line c.in_ok-deliver_heard.ensures.spends) c.tick_times.ensures.spends

pub returns-in_err-deliver_heard-clause-spends : goal.returns-in_err-deliver_heard-clause-spends
returns-in_err-deliver_heard-clause-spends g c =
    let made : Turn = record { number = c.args.number; heard = c.in-Ok.heard; ticks = c.next_ticks-ticks.result } in
    let line = goes-turn c.args.node.now.signer (g.D.Disk.state c.args.disk.now).moments _ _ _ _ made (Ok c.in_ok-write_turn_line.field-0) c.in_ok-write_turn_line.ensures.wrote c.in-Ok.ensures.faults in
    let e : ServeFault = c.in_err-deliver_heard.field-0.0 in
    goes-as _ _ _ _ _ _ _ _ c.from_residual-in_err-deliver_heard.result (Err e) (thrown c.from_residual-in_err-deliver_heard.result e c.from_residual-in_err-deliver_heard.ensures.1)
    (goes-trans _ _ _ _ _ _ _ _ _ _ _ _ (Err e) line c.in_err-deliver_heard.ensures.spends)

pub returns-clause-serves : goal.returns-clause-serves
returns-clause-serves g c = λ s before r o at0 sees.
    let p = c.args.progress.now in
    let sent : ℕ = c.next_ticks-ticks.new.self.sent in
    let v = c.args.node.now in
    let l0 = (g.L.Link.state c.args.link.now).contents in
    let l1 = (g.L.Link.state c.hear.new.link).contents in
    let t0 = (g.O.Sink.state c.args.out.now).taken in
    let t1 = (g.O.Sink.state c.write_turn_line.new.out).taken in
    let m = (g.D.Disk.state c.args.disk.now).moments in
    let at : Stands s before (standing v l0 t0 m sent) r = subst (λ k. Stands s before (standing v l0 t0 m k) r) (sym (ap (λ x. x.sent) c.next_ticks-ticks.ensures.made)) at0 in
    let made : Turn = record { number = c.args.number; heard = c.in-Ok.heard; ticks = c.next_ticks-ticks.result } in
    let due = seen-turn p.pace p.base c.args.number o r (g.C.Clock.state c.args.clock.now).reading (g.C.Clock.state c.args.clock.now).coming (g.C.Clock.state c.now.new.self).coming p.made c.now.result c.next_ticks-ticks.result c.in-Ok.heard sees c.now.ensures.reads
    (heard-is s before v l0 l1 t0 m sent r c.in-Ok.heard at c.in-Ok.ensures.hears) c.next_ticks-ticks.ensures.ticks in
    let heard = at-heard s before v l0 l1 t0 m sent r c.in-Ok.heard at c.in-Ok.ensures.hears in
    let told : Stands s before (standing v l1 t1 m sent) (writes (with_feed (turn_text made)) (acted s r Receives)) = record {
      node = heard.node;
      at = written before v l1 t0 t1 m sent (with_feed (turn_text made)) (acted s r Receives) (Ok c.in_ok-write_turn_line.field-0) heard.at c.in_ok-write_turn_line.ensures.wrote;
    } in
    let r1 : ServeState = writes (with_feed (turn_text made)) (acted s r Receives) in
    let delivered = c.in_ok-deliver_heard.ensures.serves s before r1 told in
    let w : Standing = standing c.tick_times.new.node (g.L.Link.state c.tick_times.new.link).contents (g.O.Sink.state c.tick_times.new.out).taken (g.D.Disk.state c.tick_times.new.disk).moments c.tick_times.new.sent in
    turn-due s before r w made (turn_in p.pace p.base c.args.number o) c.tick_times.result due
    (ticked-turn s before w r made c.tick_times.result (c.tick_times.ensures.serves s before _ delivered))

pub returns-clause-sees : goal.returns-clause-sees
returns-clause-sees g c = λ s before r o at sees.
    let p = c.args.progress.now in
    let v = c.args.node.now in
    let l0 = (g.L.Link.state c.args.link.now).contents in
    let l1 = (g.L.Link.state c.hear.new.link).contents in
    let t0 = (g.O.Sink.state c.args.out.now).taken in
    let m = (g.D.Disk.state c.args.disk.now).moments in
    let reading = (g.C.Clock.state c.args.clock.now).reading in
    let readings = (g.C.Clock.state c.args.clock.now).coming in
    let later = (g.C.Clock.state c.now.new.self).coming in
    let due = seen-turn p.pace p.base c.args.number o r reading readings later p.made c.now.result c.next_ticks-ticks.result c.in-Ok.heard sees c.now.ensures.reads
    (heard-is s before v l0 l1 t0 m p.sent r c.in-Ok.heard at c.in-Ok.ensures.hears) c.next_ticks-ticks.ensures.ticks in
    let read = read-next o r reading readings later p.made c.now.result sees c.now.ensures.reads in
    on-any c.tick_times.result _
    (sees-after s p.pace p.base c.args.number o r reading readings p.made (g.C.Clock.state c.now.new.self).reading later c.next_ticks-ticks.new.self.made sees (c.now.ensures.kept ∙ read.0) read.1
    (seen-made p.pace p.base c.args.number o r reading readings later p.made c.now.result c.next_ticks-ticks.new.self.made _ sees c.now.ensures.reads due (ap (λ x. x.made) c.next_ticks-ticks.ensures.made)))

pub returns-in-Some-clause-spends : goal.returns-in-Some-clause-spends
returns-in-Some-clause-spends g c =
    goes-from _ _ _ _ _ _ _ _ _ c.deliver_unsigned.result (c.in-Ok.ensures.faults ∙ ap (λ (h : Heard). counted (has_failed (Ok h)) (g.L.Link.state c.args.link.now).faults) c.in-Some.ensures.got) c.deliver_unsigned.ensures.spends

pub returns-in-Some-clause-serves : goal.returns-in-Some-clause-serves
returns-in-Some-clause-serves g c = λ s before r o at0 sees.
    let p = c.args.progress.now in
    let sent : ℕ = c.next_ticks-ticks.new.self.sent in
    let v = c.args.node.now in
    let l0 = (g.L.Link.state c.args.link.now).contents in
    let l1 = (g.L.Link.state c.hear.new.link).contents in
    let t0 = (g.O.Sink.state c.args.out.now).taken in
    let m = (g.D.Disk.state c.args.disk.now).moments in
    let at : Stands s before (standing v l0 t0 m sent) r = subst (λ k. Stands s before (standing v l0 t0 m k) r) (sym (ap (λ x. x.sent) c.next_ticks-ticks.ensures.made)) at0 in
    let made : Turn = record { number = c.args.number; heard = c.in-Ok.heard; ticks = c.next_ticks-ticks.result } in
    let due = seen-turn p.pace p.base c.args.number o r (g.C.Clock.state c.args.clock.now).reading (g.C.Clock.state c.args.clock.now).coming (g.C.Clock.state c.now.new.self).coming p.made c.now.result c.next_ticks-ticks.result c.in-Ok.heard sees c.now.ensures.reads
    (heard-is s before v l0 l1 t0 m sent r c.in-Ok.heard at c.in-Ok.ensures.hears) c.next_ticks-ticks.ensures.ticks in
    let heard = at-heard s before v l0 l1 t0 m sent r c.in-Ok.heard at c.in-Ok.ensures.hears in
    let w : Standing = standing c.deliver_unsigned.new.node (g.L.Link.state c.deliver_unsigned.new.link).contents (g.O.Sink.state c.deliver_unsigned.new.out).taken (g.D.Disk.state c.deliver_unsigned.new.disk).moments c.deliver_unsigned.new.sent in
    turn-due s before r w made (turn_in p.pace p.base c.args.number o) c.deliver_unsigned.result due
    (unticked-turn s before w r made c.deliver_unsigned.result c.in-Some.ensures.unticked (c.deliver_unsigned.ensures.serves s before (acted s r Receives) heard))

pub returns-in-Some-clause-sees : goal.returns-in-Some-clause-sees
returns-in-Some-clause-sees g c = λ s before r o at sees.
    let p = c.args.progress.now in
    let v = c.args.node.now in
    let l0 = (g.L.Link.state c.args.link.now).contents in
    let l1 = (g.L.Link.state c.hear.new.link).contents in
    let t0 = (g.O.Sink.state c.args.out.now).taken in
    let m = (g.D.Disk.state c.args.disk.now).moments in
    let reading = (g.C.Clock.state c.args.clock.now).reading in
    let readings = (g.C.Clock.state c.args.clock.now).coming in
    let later = (g.C.Clock.state c.now.new.self).coming in
    let due = seen-turn p.pace p.base c.args.number o r reading readings later p.made c.now.result c.next_ticks-ticks.result c.in-Ok.heard sees c.now.ensures.reads
    (heard-is s before v l0 l1 t0 m p.sent r c.in-Ok.heard at c.in-Ok.ensures.hears) c.next_ticks-ticks.ensures.ticks in
    let read = read-next o r reading readings later p.made c.now.result sees c.now.ensures.reads in
    on-any c.deliver_unsigned.result _
    (sees-after s p.pace p.base c.args.number o r reading readings p.made (g.C.Clock.state c.now.new.self).reading later c.next_ticks-ticks.new.self.made sees (c.now.ensures.kept ∙ read.0) read.1
    (seen-made p.pace p.base c.args.number o r reading readings later p.made c.now.result c.next_ticks-ticks.new.self.made _ sees c.now.ensures.reads due (ap (λ x. x.made) c.next_ticks-ticks.ensures.made)))
