use Rattle.std.proofs.Common.{◌≡◌, ℕ, Ok, Err, subst, sym, ap, ◌∙◌, refl, arith}
use Rattle.std.specs.Prelude.{IfErr}
use Rattle.ports.specs.Count.{Rose, counted}
use Rattle.node_loop.specs.declared.fault.ServeFault.{ServeFault}
use Rattle.node_loop.specs.declared.fault.ServeFault.TheVariants as faults
use Rattle.turn_rules.specs.Turns.{ticks_of}
use Rattle.node_loop.specs.Courses.{served}
use Rattle.node_loop.specs.Serving.{Serves}
use Rattle.node_loop.specs.Writing.{Stands, Standing, is_write_fault, standing}
use Rattle.node_loop.proofs.LineLemmas.{goes-as, goes-same, goes-trans}
use Rattle.node_loop.proofs.SendLemmas.{thrown}
use Rattle.node_loop.proofs.TurnLemmas.{tick-ended, ticked-none, ticked-on}
use Rattle.node_loop.proofs.calls.tick_times.Goals as goal

pub loop-done-init : goal.loop-done-init
loop-done-init g c = record {
  writable = c.requires.open;
  going = c.requires.going;
  calm = refl;
  faults = refl;
  closed = refl;
  goes = goes-same c.args.node.now.signer (g.D.Disk.state c.args.disk.now).moments (g.O.Sink.state c.args.out.now).taken _ _ (Ok tt) refl;
  ticked = λ s before r at. ticked-none s before _ r at;
}

pub loop-done-preserved : goal.loop-done-preserved
loop-done-preserved g c =
    let h = c.loop-done.invariant in
    record {
      writable = c.in_ok-tick.ensures.open;
      going = c.in_ok-tick.ensures.going;
      calm = c.in_ok-tick.ensures.no_disk_fault ∙ h.calm;
      faults = c.in_ok-tick.ensures.faults ∙ h.faults;
      closed = c.in_ok-tick.ensures.closed ∙ h.closed;
      goes = goes-trans _ _ _ _ _ _ _ _ _ _ _ _ _ h.goes c.in_ok-tick.ensures.spends;
      ticked = λ s before r at. ticked-on s before _ r c.loop-done._done (c.in_ok-tick.ensures.serves s before (served s (ticks_of c.loop-done._done) r) (h.ticked s before r at));
    }

pub returns-in_err-tick-clause-faults : goal.returns-in_err-tick-clause-faults
returns-in_err-tick-clause-faults g c =
    let e : ServeFault = c.in_err-tick.field-0.0 in
    c.in_err-tick.ensures.faults ∙ ap (counted (is_write_fault {T = Unit {0}} (Err e))) c.loop-done.invariant.faults
    ∙ ap (λ x. counted (is_write_fault x) (g.O.Sink.state c.args.out.now).faults) (sym (thrown c.from_residual.result e c.from_residual.ensures.1))

pub returns-in_err-tick-clause-store : goal.returns-in_err-tick-clause-store
returns-in_err-tick-clause-store g c =
    let e : ServeFault = c.in_err-tick.field-0.0 in
    let rose : e ≡ faults.StoreFault → Rose (g.D.Disk.state c.args.disk.now).faults (g.D.Disk.state c.tick.new.disk).faults = λ is. subst (λ k. Rose k (g.D.Disk.state c.tick.new.disk).faults) c.loop-done.invariant.calm (c.in_err-tick.ensures.store is) in
    subst (λ x. IfErr x (λ y. y ≡ faults.StoreFault → Rose (g.D.Disk.state c.args.disk.now).faults (g.D.Disk.state c.tick.new.disk).faults)) (sym (thrown c.from_residual.result e c.from_residual.ensures.1)) rose

pub returns-in_err-tick-clause-spends : goal.returns-in_err-tick-clause-spends
returns-in_err-tick-clause-spends g c =
    let e : ServeFault = c.in_err-tick.field-0.0 in
    goes-as _ _ _ _ _ _ _ _ c.from_residual.result (Err e) (thrown c.from_residual.result e c.from_residual.ensures.1)
    (goes-trans _ _ _ _ _ _ _ _ _ _ _ _ (Err e) c.loop-done.invariant.goes c.in_err-tick.ensures.spends)

pub returns-in_err-tick-clause-serves : goal.returns-in_err-tick-clause-serves
returns-in_err-tick-clause-serves g c = λ s before r at.
    let e : ServeFault = c.in_err-tick.field-0.0 in
    let w : Standing = standing c.tick.new.node (g.L.Link.state c.tick.new.link).contents (g.O.Sink.state c.tick.new.out).taken (g.D.Disk.state c.tick.new.disk).moments c.tick.new.sent in
    subst (λ x. Serves s before (ticks_of c.args.ticks) r w x) (sym (thrown c.from_residual.result e c.from_residual.ensures.1))
    (tick-ended s before w r c.loop-done._done c.args.ticks e c.loop-done-test.true (c.in_err-tick.ensures.serves s before (served s (ticks_of c.loop-done._done) r) (c.loop-done.invariant.ticked s before r at)))

pub returns-clause-serves : goal.returns-clause-serves
returns-clause-serves g c = λ s before r at.
    let all : c.loop-done._done ≡ c.args.ticks = omega arith in
    let w : Standing = standing c.loop-done.node (g.L.Link.state c.loop-done.link).contents (g.O.Sink.state c.loop-done.out).taken (g.D.Disk.state c.loop-done.disk).moments c.loop-done.sent in
    subst (λ (k : ℕ). Stands s before w (served s (ticks_of k) r)) all (c.loop-done.invariant.ticked s before r at)
