-- Calls that change nothing of a settled file.
use Rattle.std.proofs.Common.{◌≡◌, ◌⊎◌, inl, inr, ℕ, zero, suc, ◌<◌, ◌≤◌, true, false, List, [], ◌∷◌, length, Option, None, Some, refl, sym, ap, ◌∙◌, subst, arith}
use Rattle.std.specs.List.{AllByRecursion}
use Rattle.std.proofs.lemmas.Bool.{cases_lt}
use Rattle.ports.specs.declared.memory_disk.Arm.{Arm}
use Rattle.ports.specs.DiskCalls.{DiskCall, ToOpen, ToMeasure, ToRead, ToWrite, ToSync}
use Rattle.ports.specs.DiskSteps.{Came, makes, runs}
use Rattle.ports.specs.MemoryDisk.{DiskState, is_settled, moment_of, stopped_by}
use Rattle.world_host.proofs.DiskTurns.{Up, Lets, Passing, Stopping, minus, minus_none, pass_on, passes_next, stop_on, stops_next, up_next}

abbrev pub IsIdle : DiskCall → Type 0
IsIdle (ToOpen name) = Unit {0}
IsIdle ToMeasure = Unit {0}
IsIdle (ToRead place count) = Unit {0}
IsIdle (ToWrite place bytes) = ⊥
IsIdle ToSync = Unit {0}

-- So many calls have passed.
abbrev pub times_called : ℕ → DiskState → DiskState
times_called zero d = d
times_called (suc k) d = pass_on (times_called k d)

-- Nothing of the file has changed.
pub record Kin (d r : DiskState) : Type 0 where
  pub start : r.start ≡ d.start
  pub log : r.log ≡ d.log
  pub room : r.room ≡ d.room
  pub changes : r.changes ≡ d.changes

pub kin : (k : ℕ) (d : DiskState) → Kin d (times_called k d)
kin zero d = record { start = refl; log = refl; room = refl; changes = refl }
kin (suc k) d = let before = kin k d in record { start = before.start; log = before.log; room = before.room; changes = before.changes }

-- such a call passes, or the stop comes in it
idle_passes : (call : DiskCall) (d : DiskState) → IsIdle call → Passing d → is_settled (moment_of d) ≡ true → makes call (record { disk = d; failed = false }) ≡ record { disk = pass_on d; failed = false }
idle_passes (ToOpen name) d idle t settled = rw t refl
idle_passes ToMeasure d idle t settled = rw t refl
idle_passes (ToRead place count) d idle t settled = rw t refl
idle_passes (ToWrite place bytes) d idle t settled = absurd idle
idle_passes ToSync d idle t settled = rw (t, settled) refl

idle_stops : (call : DiskCall) (outcome : ℕ) (d : DiskState) → IsIdle call → Stopping outcome d → makes call (record { disk = d; failed = false }) ≡ record { disk = stopped_by outcome (stop_on outcome d); failed = true }
idle_stops (ToOpen name) outcome d idle t = rw t refl
idle_stops ToMeasure outcome d idle t = rw t refl
idle_stops (ToRead place count) outcome d idle t = rw t refl
idle_stops (ToWrite place bytes) outcome d idle t = absurd idle
idle_stops ToSync outcome d idle t = rw t refl

settled_still : (k : ℕ) (d : DiskState) → is_settled (moment_of d) ≡ true → is_settled (moment_of (times_called k d)) ≡ true
settled_still k d settled = let same = kin k d in rw (same.start, same.log) settled

-- The stop came in one of the calls.
pub record Stopped (armed : Option Arm) (d : DiskState) (count : ℕ) (came : Came) : Type 0 where
  pub arm : Arm
  pub is : armed ≡ Some arm
  pub within : arm.calls < count
  pub up : Up (times_called arm.calls d) (minus arm.calls (Some arm))
  pub came_so : came ≡ record { disk = stopped_by arm.outcome (stop_on arm.outcome (times_called arm.calls d)); failed = true }

-- All calls passed.
pub record Passed (armed : Option Arm) (d : DiskState) (count : ℕ) (came : Came) : Type 0 where
  pub lets : Lets armed count
  pub up : Up (times_called count d) (minus count armed)
  pub came_so : came ≡ record { disk = times_called count d; failed = false }

failed_still : (call : DiskCall) (came : Came) → came.failed ≡ true → makes call came ≡ came
failed_still call came failed = rw failed refl

one_more : (call : DiskCall) (armed : Option Arm) (d : DiskState) (k : ℕ) (came : Came) → IsIdle call → is_settled (moment_of d) ≡ true → Passed armed d k came → Passed armed d (suc k) (makes call came) ⊎ Stopped armed d (suc k) (makes call came)
one_more call None d k came idle settled p =
    let r = times_called k d in
    let turn = passes_next r None k p.up tt in
    inl (record {
      lets = tt;
      up = up_next r None k p.up tt;
      came_so = ap (makes call) p.came_so ∙ idle_passes call r idle turn (settled_still k d settled);
    })
one_more call (Some arm) d k came idle settled p =
    let r = times_called k d in
    elim (cases_lt k arm.calls) [
      | inl below ↦
          let lets : suc k ≤ arm.calls = omega (arith, below) in
          let turn = passes_next r (Some arm) k p.up lets in
          inl (record {
            lets = omega (arith, lets);
            up = up_next r (Some arm) k p.up lets;
            came_so = ap (makes call) p.came_so ∙ idle_passes call r idle turn (settled_still k d settled);
          })
      | inr past ↦
          let here : k ≡ arm.calls = omega (arith, past, p.lets) in
          let P : ℕ → Type 0 = λ n. Up (times_called n d) (minus n (Some arm)) in
          let Q : ℕ → Type 0 = λ n. came ≡ record { disk = times_called n d; failed = false } in
          let up = subst P here p.up in
          let so = subst Q here p.came_so in
          let stop = times_called arm.calls d in
          inr (record {
            arm = arm;
            is = refl;
            within = omega (arith, here);
            up = up;
            came_so = ap (makes call) so ∙ idle_stops call arm.outcome stop idle (stops_next stop arm up);
          })
    ]

no_more : (call : DiskCall) (armed : Option Arm) (d : DiskState) (k : ℕ) (came : Came) → Stopped armed d k came → Stopped armed d (suc k) (makes call came)
no_more call armed d k came s = record {
  arm = s.arm;
  is = s.is;
  within = omega (arith, s.within);
  up = s.up;
  came_so = ap (makes call) s.came_so;
}

lets_none : (armed : Option Arm) → Lets armed 0
lets_none None = tt
lets_none (Some arm) = omega arith

-- Such calls pass, or the stop comes in one of them.
pub idle_runs : (calls : List DiskCall) (armed : Option Arm) (d : DiskState) → AllByRecursion IsIdle calls → is_settled (moment_of d) ≡ true → Up d armed → Passed armed d (length calls) (runs calls d) ⊎ Stopped armed d (length calls) (runs calls d)
idle_runs [] armed d idle settled up =
    let P : Option Arm → Type 0 = λ a. Up d a in
    inl (record { lets = lets_none armed; up = subst P (sym (minus_none armed)) up; came_so = refl })
idle_runs (call ∷ earlier) armed d idle settled up =
    elim (idle_runs earlier armed d idle.1 settled up) [
      | inl p ↦ one_more call armed d (length earlier) (runs earlier d) idle.0 settled p
      | inr s ↦ inr (no_more call armed d (length earlier) (runs earlier d) s)
    ]
