use Rattle.std.proofs.Common.{false, Ok, Err, subst, sym, ap, ◌∙◌}
use Rattle.ports.specs.MemoryDisk.{DiskState}
use Rattle.epoch_store.specs.Calls.{StoreState}
use Rattle.world_host.specs.Held.{HoldsDisk}
use Rattle.world_host.proofs.DiskReading.{read_as_told}
use Rattle.world_rules.specs.Disks.{after_calls, opening_calls, seat_of, stopped}
use Rattle.world_host.specs.Hosts.{HostState}
use Rattle.world_host.proofs.OpenLemmas.{unopened}
use Rattle.world_host.proofs.host.Host.open_store.Goals as goal

pub returns-in-Ok-clause-opens : goal.returns-in-Ok-clause-opens
returns-in-Ok-clause-opens c = λ indexes e h.
    let inside = c.self.inside in
    let held = subst (λ (x : HostState). HoldsDisk x.tag indexes x.disk e) (sym c.self.view_is) h in
    let came = read_as_told inside.tag _ indexes inside.disk c.open.new.disk e (Ok c.in-Ok.store) held c.in-Ok.ensures.not_taken c.in-Ok.ensures.reads c.in-Ok.ensures.follows in
    let found : HostState → StoreState = λ x. record { state = e.state; seat = seat_of x.tag e; failed = false } in
    (came.0, came.1 ∙ ap found c.self.view_is, subst (λ (x : HostState). HoldsDisk x.tag indexes c.open.new.disk (after_calls (opening_calls e) e)) c.self.view_is came.2)

pub returns-in-Err : goal.returns-in-Err
returns-in-Err c = record {
  runs = tt;
  opens = λ indexes e h.
      let inside = c.self.inside in
      let held = subst (λ (x : HostState). HoldsDisk x.tag indexes x.disk e) (sym c.self.view_is) h in
      let came = unopened inside.tag indexes e c.open.new.disk c.in-Err.field-0 (read_as_told inside.tag _ indexes inside.disk c.open.new.disk e (Err c.in-Err.field-0) held c.in-Err.ensures.not_taken c.in-Err.ensures.reads c.in-Err.ensures.follows) in
      let left = subst (λ (d : DiskState). HoldsDisk inside.tag indexes d (stopped e)) (sym c.crash.ensures.after) came.1 in
      (came.0, subst (λ (x : HostState). HoldsDisk x.tag indexes c.crash.new.self (stopped e)) c.self.view_is left);
  frame = ap (λ (x : HostState). record x { disk = c.crash.new.self }) c.self.view_is;
}
