use Rattle.std.proofs.Common.{◌≡◌, ◌+◌, ℕ, List, length, Ok, Err, subst, sym, ap, ◌∙◌, refl, arith}
use Rattle.std.specs.Prelude.{IfErr}
use Rattle.ports.specs.Count.{Rose}
use Rattle.ports.specs.Outside.{OfLink}
use Rattle.node_loop.specs.declared.fault.ServeFault.{ServeFault}
use Rattle.node_loop.specs.declared.fault.ServeFault.TheVariants as faults
use Rattle.node_loop.specs.declared.turns.Pace.{Pace}
use Rattle.turn_rules.specs.Turns.{Act, turn_acts}
use Rattle.node_loop.specs.Turns.{Outlook, room, after_turn, life_acts, pace_for, turn_in, turns_from}
use Rattle.node_loop.specs.Courses.{ServeState, served, served_from}
use Rattle.node_loop.specs.Serving.{Sees, Serves}
use Rattle.node_loop.specs.Writing.{Before, Stands, Standing, before_all, standing}
use Rattle.node_loop.proofs.LineLemmas.{goes-as, goes-from, goes-same, goes-trans}
use Rattle.node_loop.proofs.SendLemmas.{thrown}
use Rattle.node_loop.proofs.TellLemmas.{at-within}
use Rattle.node_loop.proofs.TurnLemmas.{Turned, at-pace, base-read, begins-at, begins-seeing, first_outlook, length-kept, life-ends, life-is, life-leaves, life-stays, pace-is, pace-kept, pace_in, turned-ends, turned-first, turned-last, turned-next, unheard-turn}
use Rattle.node_loop.proofs.serving.serve.Goals as goal

pub returns-in_default-clause-spends : goal.returns-in_default-clause-spends
returns-in_default-clause-spends g c = goes-same c.args.node.now.signer (g.D.Disk.state c.args.disk.now).moments (g.O.Sink.state c.args.out.now).taken _ _ _ refl

pub returns-in_default-clause-serves : goal.returns-in_default-clause-serves
returns-in_default-clause-serves g c = λ s n link_told readings is link_is coming_is.
    let taken = (g.O.Sink.state c.args.out.now).taken in
    let moments = (g.D.Disk.state c.args.disk.now).moments in
    let link = (g.L.Link.state c.args.link.now).contents in
    let before : Before = before_all taken c.args.node.now.signer moments in
    let start : ServeState = served_from n link_told in
    let w : Standing = standing c.args.node.now link taken moments 0 in (
      0,
      unheard-turn s before w start (life_acts (pace_for s c.args.millis) c.args.turns c.args.leave link_told.coming (g.C.Clock.state c.args.clock.now).reading readings)
          (at-within before w start (begins-at s c.args.node.now n link taken moments link_told is link_is).at),
    )

pub loop-done-init : goal.loop-done-init
loop-done-init g c = record {
  writable = c.requires.open;
  going = c.requires.going;
  calm = refl;
  faults = refl;
  pace = pace-kept c.args.node.now c.args.millis c.most_owed.result c.most_owed.ensures;
  base = refl;
  room = sym c.in-Ok.buf.ok.0 ∙ c.in-Ok.ensures.len;
  closed = refl;
  goes = goes-same c.args.node.now.signer (g.D.Disk.state c.args.disk.now).moments (g.O.Sink.state c.args.out.now).taken _ _ (Ok tt) refl;
  turned = λ s before o start at sees. turned-first s before (pace_in c.args.node.now c.args.millis) c.now-base.result c.args.turns o start _ _ _ _ at sees;
}

pub loop-done-preserved : goal.loop-done-preserved
loop-done-preserved g c =
    let h = c.loop-done.invariant in
    let done : ℕ = c.loop-done.done in
    let pace : Pace = pace_in c.args.node.now c.args.millis in
    record {
      writable = c.in_ok-turn.ensures.open;
      going = c.in_ok-turn.ensures.going;
      calm = c.in_ok-turn.ensures.no_disk_fault ∙ h.calm;
      faults = c.in_ok-turn.ensures.faults ∙ h.faults;
      pace = c.in_ok-turn.ensures.kept.1 ∙ h.pace;
      base = c.in_ok-turn.ensures.kept.0 ∙ h.base;
      room = length-kept c.loop-done.buf.len room c.turn.new.buf c.loop-done.buf.items c.loop-done.buf.ok.0 (let a = c.turn.auto.buf in let b = c.deref_mut.ensures.len in let d = c.deref_mut.ensures.value in omega (arith, a, b, ap length d)) h.room;
      closed = c.in_ok-turn.ensures.closed ∙ h.closed;
      goes = goes-trans _ _ _ _ _ _ _ _ _ _ _ _ _ h.goes c.in_ok-turn.ensures.spends;
      turned = λ s before o start at sees.
          let w : Standing = standing c.loop-done.node (g.L.Link.state c.loop-done.link).contents (g.O.Sink.state c.loop-done.out).taken (g.D.Disk.state c.loop-done.disk).moments c.loop-done.progress.sent in
          let w1 : Standing = standing c.turn.new.node (g.L.Link.state c.turn.new.link).contents (g.O.Sink.state c.turn.new.out).taken (g.D.Disk.state c.turn.new.disk).moments c.turn.new.progress.sent in
          let reading = (g.C.Clock.state c.loop-done.clock).reading in
          let readings = (g.C.Clock.state c.loop-done.clock).coming in
          let now = (g.C.Clock.state c.turn.new.clock).reading in
          let later = (g.C.Clock.state c.turn.new.clock).coming in
          let made : ℕ = c.loop-done.progress.made in
          let made1 : ℕ = c.turn.new.progress.made in
          let t : Turned s before pace c.now-base.result c.args.turns done o start w reading readings made = h.turned s before o start at sees in
          let r : ServeState = served s t.acts start in
          turned-next s before pace c.now-base.result c.args.turns done o start w w1 reading now readings later made made1 c.loop-done-test.true t
          (at-pace (λ m b. Stands s before w1 (served s (turn_acts (turn_in m b (done + 1) t.outlook)) r)) c.loop-done.progress.pace pace c.loop-done.progress.base c.now-base.result h.pace h.base
          (c.in_ok-turn.ensures.serves s before r t.outlook t.at t.sees))
          (at-pace (λ m b. Sees (after_turn m b t.outlook) (served s (turn_acts (turn_in m b (done + 1) t.outlook)) r) now later made1) c.loop-done.progress.pace pace c.loop-done.progress.base c.now-base.result h.pace h.base
          (c.in_ok-turn.ensures.sees s before r t.outlook t.at t.sees));
    }

pub returns-in_err-turn-clause-store_fault : goal.returns-in_err-turn-clause-store_fault
returns-in_err-turn-clause-store_fault g c =
    let e : ServeFault = c.in_err-turn.field-0.0 in
    let older = (g.D.Disk.state c.args.disk.now).faults in
    let newer = (g.D.Disk.state c.turn.new.disk).faults in
    let rose : e ≡ faults.StoreFault → Rose older newer = λ is. subst (λ k. Rose k newer) c.loop-done.invariant.calm (c.in_err-turn.ensures.store is) in
    subst (λ x. IfErr x (λ y. y ≡ faults.StoreFault → Rose older newer)) (sym (thrown c.from_residual.result e c.from_residual.ensures.1)) rose

pub returns-in_err-turn-clause-spends : goal.returns-in_err-turn-clause-spends
returns-in_err-turn-clause-spends g c =
    let e : ServeFault = c.in_err-turn.field-0.0 in
    let count = ap (λ (l : OfLink). l.faults) c.expect_certified.ensures.same in
    let goes = goes-trans _ _ _ _ _ _ _ _ _ _ _ _ (Err e) c.loop-done.invariant.goes c.in_err-turn.ensures.spends in
    goes-as _ _ _ _ _ _ _ _ c.from_residual.result (Err e) (thrown c.from_residual.result e c.from_residual.ensures.1)
    (goes-from _ _ _ _ _ _ _ _ _ (Err e) count goes)

pub returns-clause-spends : goal.returns-clause-spends
returns-clause-spends g c = goes-from _ _ _ _ _ _ _ _ _ (Ok tt) (ap (λ (l : OfLink). l.faults) c.expect_certified.ensures.same) c.loop-done.invariant.goes

pub returns-in_err-turn-clause-serves : goal.returns-in_err-turn-clause-serves
returns-in_err-turn-clause-serves g c = λ s n link_told readings is link_is coming_is.
    let h = c.loop-done.invariant in
    let done : ℕ = c.loop-done.done in
    let base : ℕ = c.now-base.result in
    let pace : Pace = pace_in c.args.node.now c.args.millis in
    let paced = pace-is s c.args.node.now n c.args.millis is in
    let last = (g.C.Clock.state c.args.clock.now).reading in
    let taken = (g.O.Sink.state c.args.out.now).taken in
    let moments = (g.D.Disk.state c.args.disk.now).moments in
    let link = (g.L.Link.state c.expect_certified.new.link).contents in
    let told = ap (λ (l : OfLink). l.contents) c.expect_certified.ensures.same ∙ link_is in
    let later = (g.C.Clock.state c.now-base.new.self).coming in
    let read = base-read last (g.C.Clock.state c.args.clock.now).coming later readings base coming_is c.now-base.ensures.reads in
    let before : Before = before_all taken c.args.node.now.signer moments in
    let start : ServeState = served_from n link_told in
    let o : Outlook = first_outlook link_told.coming base readings in
    let w : Standing = standing c.loop-done.node (g.L.Link.state c.loop-done.link).contents (g.O.Sink.state c.loop-done.out).taken (g.D.Disk.state c.loop-done.disk).moments c.loop-done.progress.sent in
    let w1 : Standing = standing c.turn.new.node (g.L.Link.state c.turn.new.link).contents (g.O.Sink.state c.turn.new.out).taken (g.D.Disk.state c.turn.new.disk).moments c.turn.new.progress.sent in
    let t : Turned s before pace base c.args.turns done o start w (g.C.Clock.state c.loop-done.clock).reading (g.C.Clock.state c.loop-done.clock).coming c.loop-done.progress.made =
    h.turned s before o start (begins-at s c.args.node.now n link taken moments link_told is told) (begins-seeing n link_told (g.C.Clock.state c.now-base.new.self).reading base later readings c.now-base.ensures.kept read.1) in
    let r : ServeState = served s t.acts start in
    let e : ServeFault = c.in_err-turn.field-0.0 in
    let ended = at-pace (λ m b. Serves s before (turn_acts (turn_in m b (done + 1) t.outlook)) r w1 (Err e)) c.loop-done.progress.pace pace c.loop-done.progress.base base h.pace h.base
    (c.in_err-turn.ensures.serves s before r t.outlook t.at t.sees) in
    let whole = turned-ends s before pace base c.args.turns done o start w w1 (g.C.Clock.state c.loop-done.clock).reading (g.C.Clock.state c.loop-done.clock).coming c.loop-done.progress.made e c.loop-done-test.true t ended in
    let turns : List Act = turns_from pace base c.args.turns 1 o in (
      c.turn.new.progress.sent,
      subst (λ x. Serves s before (life_acts (pace_for s c.args.millis) c.args.turns c.args.leave link_told.coming last readings) start w1 x) (sym (thrown c.from_residual.result e c.from_residual.ensures.1))
          (subst (λ acts. Serves s before acts start w1 (Err e)) (life-is pace (pace_for s c.args.millis) c.args.turns c.args.leave last base link_told.coming readings paced read.0) (life-ends s before turns c.args.leave start w1 e whole)),
    )

pub returns-clause-serves : goal.returns-clause-serves
returns-clause-serves g c = λ s n link_told readings is link_is coming_is.
    let base : ℕ = c.now-base.result in
    let pace : Pace = pace_in c.args.node.now c.args.millis in
    let paced = pace-is s c.args.node.now n c.args.millis is in
    let last = (g.C.Clock.state c.args.clock.now).reading in
    let taken = (g.O.Sink.state c.args.out.now).taken in
    let moments = (g.D.Disk.state c.args.disk.now).moments in
    let link = (g.L.Link.state c.expect_certified.new.link).contents in
    let told = ap (λ (l : OfLink). l.contents) c.expect_certified.ensures.same ∙ link_is in
    let later = (g.C.Clock.state c.now-base.new.self).coming in
    let read = base-read last (g.C.Clock.state c.args.clock.now).coming later readings base coming_is c.now-base.ensures.reads in
    let before : Before = before_all taken c.args.node.now.signer moments in
    let start : ServeState = served_from n link_told in
    let o : Outlook = first_outlook link_told.coming base readings in
    let w : Standing = standing c.loop-done.node (g.L.Link.state c.loop-done.link).contents (g.O.Sink.state c.loop-done.out).taken (g.D.Disk.state c.loop-done.disk).moments c.loop-done.progress.sent in
    let reading = (g.C.Clock.state c.loop-done.clock).reading in
    let coming = (g.C.Clock.state c.loop-done.clock).coming in
    let made : ℕ = c.loop-done.progress.made in
    let t : Turned s before pace base c.args.turns c.loop-done.done o start w reading coming made =
    c.loop-done.invariant.turned s before o start (begins-at s c.args.node.now n link taken moments link_told is told) (begins-seeing n link_told (g.C.Clock.state c.now-base.new.self).reading base later readings c.now-base.ensures.kept read.1) in
    let all : c.loop-done.done ≡ c.args.turns = omega arith in
    let last_turn = subst (λ k. Turned s before pace base c.args.turns k o start w reading coming made) all t in
    let turns : List Act = turns_from pace base c.args.turns 1 o in
    let behind = turned-last s before pace base c.args.turns o start w reading coming made last_turn in (
      c.loop-done.progress.sent,
      subst (λ acts. Stands s before w (served s acts start)) (life-is pace (pace_for s c.args.millis) c.args.turns c.args.leave last base link_told.coming readings paced read.0)
          (life-stays s before turns c.args.leave start w c.if-leave.false behind),
    )

pub returns-then-leave-clause-store_fault : goal.returns-then-leave-clause-store_fault
returns-then-leave-clause-store_fault g c =
    let newer = (g.D.Disk.state c.leave.new.disk).faults in
    subst (λ (k : ℕ). IfErr c.leave.result (λ e. e ≡ faults.StoreFault → Rose k newer)) c.loop-done.invariant.calm c.leave.ensures.store

pub returns-then-leave-clause-spends : goal.returns-then-leave-clause-spends
returns-then-leave-clause-spends g c =
    goes-from _ _ _ _ _ _ _ _ _ c.leave.result (ap (λ (l : OfLink). l.faults) c.expect_certified.ensures.same) (goes-trans _ _ _ _ _ _ _ _ _ _ _ _ c.leave.result c.loop-done.invariant.goes c.leave.ensures.spends)

pub returns-then-leave-clause-serves : goal.returns-then-leave-clause-serves
returns-then-leave-clause-serves g c = λ s n link_told readings is link_is coming_is.
    let base : ℕ = c.now-base.result in
    let pace : Pace = pace_in c.args.node.now c.args.millis in
    let paced = pace-is s c.args.node.now n c.args.millis is in
    let last = (g.C.Clock.state c.args.clock.now).reading in
    let taken = (g.O.Sink.state c.args.out.now).taken in
    let moments = (g.D.Disk.state c.args.disk.now).moments in
    let link = (g.L.Link.state c.expect_certified.new.link).contents in
    let told = ap (λ (l : OfLink). l.contents) c.expect_certified.ensures.same ∙ link_is in
    let later = (g.C.Clock.state c.now-base.new.self).coming in
    let read = base-read last (g.C.Clock.state c.args.clock.now).coming later readings base coming_is c.now-base.ensures.reads in
    let before : Before = before_all taken c.args.node.now.signer moments in
    let start : ServeState = served_from n link_told in
    let o : Outlook = first_outlook link_told.coming base readings in
    let w : Standing = standing c.loop-done.node (g.L.Link.state c.loop-done.link).contents (g.O.Sink.state c.loop-done.out).taken (g.D.Disk.state c.loop-done.disk).moments c.loop-done.progress.sent in
    let reading = (g.C.Clock.state c.loop-done.clock).reading in
    let coming = (g.C.Clock.state c.loop-done.clock).coming in
    let made : ℕ = c.loop-done.progress.made in
    let t : Turned s before pace base c.args.turns c.loop-done.done o start w reading coming made =
    c.loop-done.invariant.turned s before o start (begins-at s c.args.node.now n link taken moments link_told is told) (begins-seeing n link_told (g.C.Clock.state c.now-base.new.self).reading base later readings c.now-base.ensures.kept read.1) in
    let all : c.loop-done.done ≡ c.args.turns = omega arith in
    let last_turn = subst (λ k. Turned s before pace base c.args.turns k o start w reading coming made) all t in
    let turns : List Act = turns_from pace base c.args.turns 1 o in
    let behind = turned-last s before pace base c.args.turns o start w reading coming made last_turn in
    let w1 : Standing = standing c.leave.new.node (g.L.Link.state c.leave.new.link).contents (g.O.Sink.state c.leave.new.out).taken (g.D.Disk.state c.leave.new.disk).moments c.leave.new.sent in (
      c.leave.new.sent,
      subst (λ acts. Serves s before acts start w1 c.leave.result) (life-is pace (pace_for s c.args.millis) c.args.turns c.args.leave last base link_told.coming readings paced read.0)
          (life-leaves s before turns c.args.leave start w1 c.leave.result c.if-leave.true (c.leave.ensures.serves s before (served s turns start) behind)),
    )
