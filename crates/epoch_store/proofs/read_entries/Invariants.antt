use Rattle.std.proofs.Common.{◌≡◌}
use Rattle.epoch_store.specs.Calls.{IsPlaced}
use Rattle.epoch_store.proofs.GateLemmas.{Continues, GatesRead, left_of}
use Rattle.epoch_store.proofs.read_entries.Given as goal

abbrev pub invariant-loop-state : goal.invariant-loop-state
invariant-loop-state g l = record {
  told : (g.D.Disk.state l.disk).moments ≡ (g.D.Disk.state l.initial.disk).moments;
  faults : (g.D.Disk.state l.disk).faults ≡ (g.D.Disk.state l.initial.disk).faults;
  so_far : Continues l.tag l.fn.first (g.D.Disk.state l.initial.disk).moments l.before l.seat;
  place : IsPlaced l.before l.seat;
  read : GatesRead (g.D.Disk.state l.initial.disk).moments l.fn.first l.before l.seat (g.D.Disk.state l.initial.disk).calls (g.D.Disk.state l.disk).calls (g.D.Disk.state l.initial.disk).model (g.D.Disk.state l.disk).model;
}

abbrev pub decreases-loop-state : goal.decreases-loop-state
decreases-loop-state g l = left_of l.before
