-- The calls that open a store, and a crash between two calls.
use Rattle.std.proofs.Common.{◌≡◌, ◌≢◌, inl, inr, ℕ, ◌+◌, ◌-◌, ◌*◌, ◌<◌, ◌≤◌, Bool, true, false, List, [], ◌∷◌, ◌++◌, length, Option, None, Some, is_some, refl, sym, ap, ◌∙◌, subst, arith, append_assoc, length-append}
use Rattle.std.specs.List.{AllByRecursion}
use Rattle.std.proofs.lemmas.Bool.{le-leb}
use Rattle.std.proofs.lemmas.Bool.Decides.{nat_tests}
use Rattle.std.specs.Prelude.{nat_le}
use Rattle.ports.specs.Disk.{settled}
use Rattle.ports.specs.declared.memory_disk.Arm.{Arm}
use Rattle.ports.specs.DiskCalls.{DiskCall}
use Rattle.ports.specs.DiskSteps.{Came, runs}
use Rattle.ports.specs.MemoryDisk.{DiskState, is_settled, moment_of, picked, stopped_by}
use Rattle.epoch_store.specs.declared.seat.Seat.{Seat}
use Rattle.epoch_store.specs.declared.Stored.{Stored}
use Rattle.epoch_store.specs.Seat.{entry_for, seat_behind, seat_from, store_length}
use Rattle.epoch_store.specs.Asked.{entry_reads, gate_reads, open_calls}
use Rattle.epoch_store.specs.Store.{IsChain, front, made_wide, put_entries}
use Rattle.world_rules.specs.Disks.{ArmedStop, Disk, after_calls, lets_pass, opening_calls, passed, stopped}
use Rattle.world_host.specs.Held.{ComesAs, HoldsDisk, armed_as, crashed}
use Rattle.world_host.specs.DiskLaws.{OpensAsTold, CrashesAsTold, ArmsAsTold, all_reads}
use Rattle.world_host.proofs.BehindLemmas.{first_of, reads_same}
use Rattle.world_host.proofs.DiskTurns.{Up, Lets, minus, none_behind, stop_on}
use Rattle.world_host.proofs.DiskGarbling.{picked_settled}
use Rattle.world_host.proofs.DiskIdle.{IsIdle, Kin, Passed, Stopped, idle_runs, kin, times_called}

pub up_of : (tag : List ℕ) (n : ℕ) (d : DiskState) (e : Disk) → HoldsDisk tag n d e → Up d (armed_as e.armed)
up_of tag n d e h = record { is = h.armed; sound = h.sound; runs = h.runs }

pub settled_of : (tag : List ℕ) (n : ℕ) (d : DiskState) (e : Disk) → HoldsDisk tag n d e → is_settled (moment_of d) ≡ true
settled_of tag n d e h = ap is_settled h.file

-- ---- what stands behind calls

-- The same file, with this armed.
pub record Stands (d r : DiskState) (armed : Option Arm) : Type 0 where
  pub kin : Kin d r
  pub up : Up r armed

pub held_with : (tag : List ℕ) (n : ℕ) (d r : DiskState) (e : Disk) (armed : Option ArmedStop) → HoldsDisk tag n d e → Stands d r (armed_as armed) → HoldsDisk tag n r (record e { armed = armed })
held_with tag n d r e armed h s = record {
  shut = h.shut;
  rest = h.rest;
  long = h.long;
  chain = h.chain;
  closed = h.closed;
  file = rw (s.kin.start, s.kin.log) h.file;
  few = h.few;
  within = h.within;
  armed = s.up.is;
  sound = s.up.sound;
  runs = s.up.runs;
  room = rw s.kin.room h.room;
  changes = rw (s.kin.log, s.kin.changes) h.changes;
}

pub minus-armed : (k : ℕ) (armed : Option ArmedStop) → minus k (armed_as armed) ≡ armed_as (passed k armed)
minus-armed k None = refl
minus-armed k (Some stop) = refl

held_after : (tag : List ℕ) (n : ℕ) (d : DiskState) (e : Disk) (k : ℕ) → HoldsDisk tag n d e → Up (times_called k d) (minus k (armed_as e.armed)) → HoldsDisk tag n (times_called k d) (after_calls k e)
held_after tag n d e k h up =
    let P : Option Arm → Type 0 = λ a. Up (times_called k d) a in
    held_with tag n d (times_called k d) e (passed k e.armed) h (record { kin = kin k d; up = subst P (minus-armed k e.armed) up })

-- A file that came up, which this moment was.
pub record CameUp (d r : DiskState) (image : List ℕ) : Type 0 where
  pub start : r.start ≡ image
  pub log : r.log ≡ []
  pub room : r.room ≡ d.room
  pub changes : r.changes ≡ d.changes
  pub armed : r.armed ≡ None
  pub sound : r.failing ≡ []
  pub runs : r.stopped ≡ false

-- The bytes of the file up to the gate behind the entries.
abbrev pub front_of : List ℕ → Disk → List ℕ
front_of tag e = front (made_wide e.state e.older) tag (put_entries tag e.state e.older)

-- The file that a stop has left is a store of these entries.
pub record LeftStore (tag image : List ℕ) (e : Disk) : Type 0 where
  pub shut : ℕ
  pub rest : List ℕ
  pub closed : shut ≢ 1
  pub file : image ≡ front_of tag e ++ shut ∷ rest

pub moment_came_up : (d r : DiskState) (image : List ℕ) → CameUp d r image → moment_of r ≡ settled image
moment_came_up d r image c = rw (c.start, c.log) refl

-- Entries that a key with so many indexes allows.
pub record FitsKey (tag : List ℕ) (n : ℕ) (e : Disk) : Type 0 where
  pub long : length tag ≡ 32
  pub chain : IsChain (first_of tag e.state e.older) (put_entries tag e.state e.older)
  pub few : length e.older ≤ e.state.next
  pub within : e.state.next ≤ n

pub fits_key : (tag : List ℕ) (n : ℕ) (d : DiskState) (e : Disk) → HoldsDisk tag n d e → FitsKey tag n e
fits_key tag n d e h = record { long = h.long; chain = h.chain; few = h.few; within = h.within }

-- the store of these entries came up
pub held_fresh : (tag image : List ℕ) (n : ℕ) (d r : DiskState) (e : Disk) → FitsKey tag n e → store_length (n + 1) ≤ d.room → 4 * (n - e.state.next) ≤ d.changes → CameUp d r image → LeftStore tag image e → HoldsDisk tag n r (stopped e)
held_fresh tag image n d r e fit room changes c left = record {
  shut = left.shut;
  rest = left.rest;
  long = fit.long;
  chain = fit.chain;
  closed = left.closed;
  file = moment_came_up d r image c ∙ ap settled left.file;
  few = fit.few;
  within = fit.within;
  armed = c.armed;
  sound = c.sound;
  runs = c.runs;
  room = rw c.room room;
  changes = rw (c.log, c.changes) (omega (arith, changes));
}

-- ---- a stop

abbrev pub stop_in : Arm → DiskState → DiskState
stop_in arm d = stopped_by arm.outcome (stop_on arm.outcome d)

held_stopped : (tag : List ℕ) (n : ℕ) (d : DiskState) (e : Disk) (arm : Arm) → HoldsDisk tag n d e → Up (times_called arm.calls d) (minus arm.calls (Some arm)) → HoldsDisk tag n (crashed 0 (stop_in arm (times_called arm.calls d))) (stopped e)
held_stopped tag n d e arm h up =
    let r = times_called arm.calls d in
    let k = kin arm.calls d in
    let image = front_of tag e ++ h.shut ∷ h.rest in
    let same : moment_of r ≡ settled image = rw (k.start, k.log) h.file in
    held_fresh tag image n d (crashed 0 (stop_in arm r)) e (fits_key tag n d e h) h.room (omega (arith, h.changes))
    (record {
      start = ap (picked arm.outcome) same ∙ picked_settled arm.outcome image;
      log = refl;
      room = k.room;
      changes = k.changes;
      armed = none_behind r arm up;
      sound = up.sound;
      runs = refl;
    })
    (record { shut = h.shut; rest = h.rest; closed = h.closed; file = refl })

pub comes_pass : (tag : List ℕ) (n : ℕ) (came : Came) (r : DiskState) (test : Bool) (behind stop : Disk) → test ≡ true → came ≡ record { disk = r; failed = false } → HoldsDisk tag n r behind → ComesAs tag n came test behind stop
comes_pass tag n came r true behind stop is so h =
    let P : Came → Type 0 = λ c. HoldsDisk tag n c.disk behind in
    (ap (λ (c : Came). c.failed) so, subst P (sym so) h)
comes_pass tag n came r false behind stop is so h = cc

pub comes_stop : (tag : List ℕ) (n : ℕ) (came : Came) (r : DiskState) (test : Bool) (behind stop : Disk) → test ≡ false → came ≡ record { disk = r; failed = true } → HoldsDisk tag n (crashed 0 r) stop → ComesAs tag n came test behind stop
comes_stop tag n came r true behind stop is so h = cc
comes_stop tag n came r false behind stop is so h =
    let P : Came → Type 0 = λ c. HoldsDisk tag n (crashed 0 c.disk) stop in
    (ap (λ (c : Came). c.failed) so, subst P (sym so) h)

-- ---- which test decides

pub lets-test : (armed : Option ArmedStop) (k : ℕ) → Lets (armed_as armed) k → lets_pass armed k ≡ true
lets-test None k lets = refl
lets-test (Some stop) k lets = le-leb k stop.calls lets

above-leb : (k n : ℕ) → n < k → nat_le k n ≡ false
above-leb k n above = grind (arith, nat_tests, above)

pub stops-test : (armed : Option ArmedStop) (k : ℕ) (arm : Arm) → armed_as armed ≡ Some arm → arm.calls < k → lets_pass armed k ≡ false
stops-test None k arm is below = cc
stops-test (Some stop) k arm is below =
    let calls : stop.calls ≡ arm.calls = cc in
    above-leb k stop.calls (omega (arith, below, calls))

-- ---- the calls

idle_gate : (seat : Seat) (moved : Bool) (earlier : List DiskCall) → AllByRecursion IsIdle earlier → AllByRecursion IsIdle (gate_reads seat moved ++ earlier)
idle_gate seat false earlier idle = (tt, idle)
idle_gate seat true earlier idle = (tt, (tt, idle))

idle_entries : (first : Seat) (tag : List ℕ) (state : Stored) (older : List Stored) (earlier : List DiskCall) → AllByRecursion IsIdle earlier → AllByRecursion IsIdle (entry_reads first (put_entries tag state older) ++ earlier)
idle_entries first tag state [] earlier idle = idle_gate first false earlier idle
idle_entries first tag state (before ∷ older) earlier idle =
    let entries = put_entries tag before older in
    let seat : Seat = seat_from first entries in
    let moved : Bool = is_some (entry_for (seat_behind tag before older) state).moved in
    subst (AllByRecursion IsIdle) (sym (append_assoc (gate_reads seat moved) (entry_reads first entries) earlier)) (idle_gate seat moved (entry_reads first entries ++ earlier) (idle_entries first tag before older earlier idle))

length-all : (tag name : List ℕ) (e : Disk) → length (all_reads tag name e) ≡ opening_calls e
length-all tag name e =
    let reads : List DiskCall = entry_reads (first_of tag e.state e.older) (put_entries tag e.state e.older) in
    omega (arith, length-append reads (open_calls name), reads_same tag [] (first_of tag e.state e.older) (first_of [] e.state e.older) e.state e.older)

comes_after : (tag : List ℕ) (n : ℕ) (d : DiskState) (e : Disk) (came : Came) (k count : ℕ) → k ≡ count → HoldsDisk tag n d e → Passed (armed_as e.armed) d k came → ComesAs tag n came (lets_pass e.armed count) (after_calls count e) (stopped e)
comes_after tag n d e came k count same h p =
    let P : ℕ → Type 0 = λ m. ComesAs tag n came (lets_pass e.armed m) (after_calls m e) (stopped e) in
    subst P same (comes_pass tag n came (times_called k d) (lets_pass e.armed k) (after_calls k e) (stopped e) (lets-test e.armed k p.lets) p.came_so (held_after tag n d e k h p.up))

comes_stopped : (tag : List ℕ) (n : ℕ) (d : DiskState) (e : Disk) (came : Came) (k count : ℕ) → k ≡ count → HoldsDisk tag n d e → Stopped (armed_as e.armed) d k came → ComesAs tag n came (lets_pass e.armed count) (after_calls count e) (stopped e)
comes_stopped tag n d e came k count same h s =
    let within : s.arm.calls < count = omega (arith, s.within, same) in
    comes_stop tag n came (stop_in s.arm (times_called s.arm.calls d)) (lets_pass e.armed count) (after_calls count e) (stopped e)
    (stops-test e.armed count s.arm s.is within) s.came_so (held_stopped tag n d e s.arm h s.up)

pub open_as_told : OpensAsTold
open_as_told tag name n d e h =
    let calls = all_reads tag name e in
    let idle = idle_entries (first_of tag e.state e.older) tag e.state e.older (open_calls name) (tt, (tt, (tt, tt))) in
    let count : length calls ≡ opening_calls e = length-all tag name e in
    elim (idle_runs calls (armed_as e.armed) d (tt, idle) (settled_of tag n d e h) (up_of tag n d e h)) [
      | inl p ↦ comes_after tag n d e (runs calls d) (length calls) (opening_calls e) count h p
      | inr s ↦ comes_stopped tag n d e (runs calls d) (length calls) (opening_calls e) count h s
    ]

-- ---- between calls

pub crash_as_told : CrashesAsTold
crash_as_told tag n outcome d e h =
    let image = front_of tag e ++ h.shut ∷ h.rest in
    let start : picked outcome (moment_of d) ≡ image = ap (picked outcome) h.file ∙ picked_settled outcome image in
    record {
      shut = h.shut;
      rest = h.rest;
      long = h.long;
      chain = h.chain;
      closed = h.closed;
      file = ap settled start;
      few = h.few;
      within = h.within;
      armed = h.armed;
      sound = h.sound;
      runs = refl;
      room = h.room;
      changes = omega (arith, h.changes);
    }

pub arm_as_told : ArmsAsTold
arm_as_told tag n d e stop h = record {
  shut = h.shut;
  rest = h.rest;
  long = h.long;
  chain = h.chain;
  closed = h.closed;
  file = h.file;
  few = h.few;
  within = h.within;
  armed = refl;
  sound = h.sound;
  runs = h.runs;
  room = h.room;
  changes = h.changes;
}
