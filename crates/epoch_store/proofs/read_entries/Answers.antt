use Rattle.std.proofs.Common.{◌∙◌, List, Err, subst, rules}
use Rattle.ports.specs.Disk.{Moment}
use Rattle.epoch_store.specs.Asked.{ReadsOneGate}
use Rattle.epoch_store.specs.Followed.{ReadsOneGateFrom}
use Rattle.epoch_store.proofs.GateLemmas.{begins, closed_calls, closed_follows, ends_broken, ends_shut, goes_on, none_read, on_up_to, one_more, placed_next, refused_calls, refused_follows, up_to}
use Rattle.epoch_store.proofs.read_entries.Goals as goal

pub loop-state-init : goal.loop-state-init
loop-state-init g c = record {
  told = search rules;
  faults = search rules;
  so_far = begins c.args.tag.now c.args.first (g.D.Disk.state c.args.disk.now).moments;
  place = c.requires.begins;
  read = none_read (g.D.Disk.state c.args.disk.now).moments c.args.first (g.D.Disk.state c.args.disk.now).calls (g.D.Disk.state c.args.disk.now).model c.requires.head;
}

pub loop-state-preserved : goal.loop-state-preserved
loop-state-preserved g c =
    let moments = (g.D.Disk.state c.args.disk.now).moments in
    let found = rw c.in-Ok-Open.field-0-is at c.in-Ok-Open.ensures.found in
    let reads = rw (c.in-Ok-Open.field-0-is, c.loop-state.invariant.told) at c.in-Ok-Open.ensures.reads in
    record {
      told = c.in-Ok-Open.ensures.same ∙ c.loop-state.invariant.told;
      faults = c.in-Ok-Open.ensures.faults ∙ c.loop-state.invariant.faults;
      so_far = rw c.behind-seat.ensures (goes_on c.args.tag.now c.args.first moments c.loop-state.before c.loop-state.seat c.in-Ok-Open.entry c.loop-state.invariant.so_far reads);
      place = rw c.behind-seat.ensures (placed_next c.loop-state.before c.loop-state.seat c.in-Ok-Open.entry c.loop-state.invariant.place found.0 found.1);
      read =
          rw c.behind-seat.ensures (one_more moments c.args.first c.loop-state.before c.loop-state.seat c.in-Ok-Open.entry _ _ _ _ _ _ c.loop-state.invariant.read
          (rw c.in-Ok-Open.field-0-is at c.in-Ok-Open.ensures.calls)
          (rw c.in-Ok-Open.field-0-is at c.in-Ok-Open.ensures.follows) reads);
    }

pub returns-in-Ok-Shut-clause-reads : goal.returns-in-Ok-Shut-clause-reads
returns-in-Ok-Shut-clause-reads g c =
    ends_shut c.args.tag.now c.args.first (g.D.Disk.state c.args.disk.now).moments c.loop-state.before c.loop-state.seat c.in-Ok-Shut.state c.close.result c.loop-state.invariant.so_far
    (rw (c.in-Ok-Shut.field-0-is, c.loop-state.invariant.told) at c.in-Ok-Shut.ensures.reads) c.close.ensures.not_taken c.close.ensures.answer

pub returns-in-Ok-Shut-clause-calls : goal.returns-in-Ok-Shut-clause-calls
returns-in-Ok-Shut-clause-calls g c =
    let moments = (g.D.Disk.state c.args.disk.now).moments in
    closed_calls c.args.tag.now c.in-Ok-Shut.state c.loop-state.seat moments c.close.result _ _ c.close.ensures.answer
    (up_to moments c.args.first c.loop-state.before c.loop-state.seat c.in-Ok-Shut.state _ _ _ _ _ c.requires.begins.0 c.loop-state.invariant.read
    (rw c.in-Ok-Shut.field-0-is at c.in-Ok-Shut.ensures.calls) (rw (c.in-Ok-Shut.field-0-is, c.loop-state.invariant.told) at c.in-Ok-Shut.ensures.reads))

pub returns-in-Ok-Shut-clause-follows : goal.returns-in-Ok-Shut-clause-follows
returns-in-Ok-Shut-clause-follows g c =
    let moments = (g.D.Disk.state c.args.disk.now).moments in
    closed_follows c.args.tag.now c.in-Ok-Shut.state c.loop-state.seat moments c.close.result _ _ c.close.ensures.answer
    (on_up_to moments c.args.first c.loop-state.before c.loop-state.seat c.in-Ok-Shut.state _ _ _ _ _ c.requires.begins.0 c.loop-state.invariant.read
    (rw c.in-Ok-Shut.field-0-is at c.in-Ok-Shut.ensures.follows) (rw (c.in-Ok-Shut.field-0-is, c.loop-state.invariant.told) at c.in-Ok-Shut.ensures.reads))

pub returns-in-Err-clause-reads : goal.returns-in-Err-clause-reads
returns-in-Err-clause-reads g c =
    ends_broken c.args.tag.now c.args.first (g.D.Disk.state c.args.disk.now).moments c.loop-state.before c.loop-state.seat c.in-Err.error c.loop-state.invariant.so_far (rw c.loop-state.invariant.told at c.in-Err.ensures.reads) c.in-Err.ensures.found

pub returns-in-Err-clause-calls : goal.returns-in-Err-clause-calls
returns-in-Err-clause-calls g c =
    let P : List Moment → Type 0 = λ m. ReadsOneGate c.loop-state.seat m (Err c.in-Err.error) (g.D.Disk.state c.loop-state.disk).calls (g.D.Disk.state c.read_gate.new.disk).calls in
    refused_calls c.in-Err.error (g.D.Disk.state c.args.disk.now).moments c.args.first c.loop-state.before c.loop-state.seat _ _ _ _ _ c.requires.begins.0 c.loop-state.invariant.read (subst P c.loop-state.invariant.told c.in-Err.ensures.calls)

pub returns-in-Err-clause-follows : goal.returns-in-Err-clause-follows
returns-in-Err-clause-follows g c =
    let P : List Moment → Type 0 = λ m. ReadsOneGateFrom c.loop-state.seat m (Err c.in-Err.error) (g.D.Disk.state c.loop-state.disk).model (g.D.Disk.state c.read_gate.new.disk).model in
    refused_follows c.in-Err.error (g.D.Disk.state c.args.disk.now).moments c.args.first c.loop-state.before c.loop-state.seat _ _ _ _ _ c.requires.begins.0 c.loop-state.invariant.read (subst P c.loop-state.invariant.told c.in-Err.ensures.follows)
