-- The calls of a disk in memory on which no call fails but by the stop that is armed.
use Rattle.std.proofs.Common.{◌≡◌, ℕ, suc, ◌≤◌, eqb, ltb, leb, Bool, true, false, not, ◌||◌, Option, None, Some, List, [], ◌∷◌, ◌++◌, length, refl, sym, ap, ◌∙◌, subst, arith, inl, inr, eq-eqb}
use Rattle.std.proofs.lemmas.Bool.{cases_Bool, eqb-true}
use Rattle.std.proofs.lemmas.Bool.Decides.{nat_tests}
use Rattle.std.proofs.lemmas.List.{nil_from_length}
use Rattle.ports.specs.declared.memory_disk.Arm.{Arm}
use Rattle.ports.specs.declared.memory_disk.Turn.{Turn}
use Rattle.ports.specs.declared.memory_disk.Turn.TheVariants.{Passes, Stops}
use Rattle.ports.specs.declared.memory_disk.Change.TheVariants.{Synced}
use Rattle.ports.specs.Disk.{Moment, end_of, settled, wrote}
use Rattle.ports.specs.DiskCalls.{DiskCall, ToWrite, ToSync}
use Rattle.ports.specs.MemoryDisk.{DiskState, turn_of, armed_turn, armed_after, passes, fits, can_sync, is_settled, moment_of, called, with_write, with_sync, stopped_by, picked, after_turn}
use Rattle.ports.specs.DiskSteps.{call_fails, after_call, makes, runs}
use Rattle.ports.specs.Up.{IsUp, IsDown}
use Rattle.ports.proofs.MomentLemmas.{settled_unless_torn}
use Rattle.ports.proofs.RunLemmas.{runs_no_further}

-- the stop doesn't come in the next call
abbrev pub lets_one : Option Arm → Bool
lets_one None = true
lets_one (Some arm) = not (eqb arm.calls 0)

armed_passes : (armed : Option Arm) → lets_one armed ≡ true → armed_turn armed false ≡ Passes
armed_passes None lets = refl
armed_passes (Some arm) lets = let apart : eqb arm.calls 0 ≡ false = grind (arith, lets) in rw apart refl

turn_passes : (armed : Option Arm) (left room : ℕ) (m : Moment) (disk : DiskState) → IsUp armed left room m disk → lets_one armed ≡ true → turn_of disk ≡ Passes
turn_passes armed left room m disk up lets =
    rw (up.running, up.arm, up.never) (armed_passes armed lets)

turn_stops : (arm : Arm) (left room : ℕ) (m : Moment) (disk : DiskState) → IsUp (Some arm) left room m disk → arm.calls ≡ 0 → turn_of disk ≡ Stops arm.outcome
turn_stops arm left room m disk up last =
    let none : eqb arm.calls 0 ≡ true = eq-eqb arm.calls 0 last in
    rw (up.running, up.arm, none) refl

-- what one more call counts
counts : (armed : Option Arm) (left room : ℕ) (m : Moment) (disk : DiskState) (turn : Turn) → IsUp armed left room m disk → IsUp (armed_after armed) left room m (called turn disk)
counts armed left room m disk turn up = record {
  running = up.running;
  never = up.never;
  arm = rw (up.running, up.arm) refl;
  spare = up.spare;
  bytes = up.bytes;
  at = up.at;
}

-- ---- one call

-- the call passes, and leaves the disk so
pub record PassesTo (call : DiskCall) (disk : DiskState) (armed : Option Arm) (left room : ℕ) (moment : Moment) : Type 0 where
  pub answer : call_fails call disk ≡ false
  pub up : IsUp armed left room moment (after_call call disk)

-- the disk stops in the call
pub record StopsIn (call : DiskCall) (disk : DiskState) (outcome room : ℕ) (moment : Moment) : Type 0 where
  pub answer : call_fails call disk ≡ true
  pub down : IsDown outcome room moment (after_call call disk)

fits_so : (armed : Option Arm) (left room : ℕ) (m : Moment) (disk : DiskState) (place : ℕ) (bytes : List ℕ) → IsUp armed (suc left) room m disk → length bytes ≤ 64 → end_of place (length bytes) ≤ room → fits disk place (length bytes) ≡ true
fits_so armed left room m disk place bytes up short within =
    let ends : end_of place (length bytes) ≤ disk.room = subst (λ (r : ℕ). end_of place (length bytes) ≤ r) (sym up.bytes) within in
    let spare = up.spare in
    let one : leb (length bytes) 64 ≡ true = grind (arith, nat_tests, short) in
    let two : leb (end_of place (length bytes)) disk.room ≡ true = grind (arith, nat_tests, ends) in
    let three : ltb (length disk.log) disk.changes ≡ true = grind (arith, nat_tests, spare) in
    rw (one, two, three) refl

pub write_passes : (armed : Option Arm) (left room : ℕ) (m : Moment) (disk : DiskState) (place : ℕ) (bytes : List ℕ) → IsUp armed (suc left) room m disk → lets_one armed ≡ true → length bytes ≤ 64 → end_of place (length bytes) ≤ room
    → PassesTo (ToWrite place bytes) disk (armed_after armed) left room (wrote place bytes m)
write_passes armed left room m disk place bytes up lets short within =
    let turn = turn_passes armed (suc left) room m disk up lets in
    let fit = fits_so armed left room m disk place bytes up short within in
    let c = counts armed (suc left) room m disk Passes up in
    let is : after_call (ToWrite place bytes) disk ≡ with_write place bytes (called Passes disk) = rw (turn, fit) refl in
    record {
      answer = rw (turn, fit) refl;
      up = subst (IsUp (armed_after armed) left room (wrote place bytes m)) (sym is)
          (record { running = c.running; never = c.never; arm = c.arm; spare = omega (arith, c.spare); bytes = c.bytes; at = ap (wrote place bytes) c.at });
    }

none_armed : (arm : Arm) → arm.calls ≡ 0 → armed_after (Some arm) ≡ None
none_armed arm last = let none : eqb arm.calls 0 ≡ true = eq-eqb arm.calls 0 last in rw none refl

pub write_stops : (arm : Arm) (left room : ℕ) (m : Moment) (disk : DiskState) (place : ℕ) (bytes : List ℕ) → IsUp (Some arm) (suc left) room m disk → arm.calls ≡ 0 → length bytes ≤ 64 → end_of place (length bytes) ≤ room
    → StopsIn (ToWrite place bytes) disk arm.outcome room (wrote place bytes m)
write_stops arm left room m disk place bytes up last short within =
    let turn = turn_stops arm (suc left) room m disk up last in
    let fit = fits_so (Some arm) left room m disk place bytes up short within in
    let c = counts (Some arm) (suc left) room m disk (Stops arm.outcome) up in
    let is : after_call (ToWrite place bytes) disk ≡ stopped_by arm.outcome (with_write place bytes (called (Stops arm.outcome) disk)) = rw (turn, fit) refl in
    record {
      answer = rw turn refl;
      down = subst (IsDown arm.outcome room (wrote place bytes m)) (sym is)
          (record { halted = refl; never = c.never; arm = c.arm ∙ none_armed arm last; bytes = c.bytes; at = ap (λ (x : Moment). settled (picked arm.outcome (wrote place bytes x))) c.at });
    }

can_sync_so : (armed : Option Arm) (left room : ℕ) (m : Moment) (disk : DiskState) → IsUp armed (suc left) room m disk → can_sync disk ≡ true
can_sync_so armed left room m disk up =
    let spare = up.spare in
    let roomy : ltb (length disk.log) disk.changes ≡ true = grind (arith, nat_tests, spare) in
    rw roomy (or_true (is_settled (moment_of disk)))
  where
    or_true : (a : Bool) → (a || true) ≡ true
    or_true true = refl
    or_true false = refl

synced_idle : (disk : DiskState) → is_settled (moment_of disk) ≡ true → with_sync disk ≡ disk
synced_idle disk idle = rw idle refl

synced_change : (disk : DiskState) → is_settled (moment_of disk) ≡ false → ltb (length disk.log) disk.changes ≡ true → with_sync disk ≡ record disk { log = Synced ∷ disk.log }
synced_change disk dirty roomy = rw (dirty, roomy) refl

synced_up : (armed : Option Arm) (left room : ℕ) (m : Moment) (disk : DiskState) → IsUp armed (suc left) room m disk → IsUp armed left room (settled m.image) (with_sync disk)
synced_up armed left room m disk up =
    let spare = up.spare in
    let roomy : ltb (length disk.log) disk.changes ≡ true = grind (arith, nat_tests, spare) in
    elim (cases_Bool (is_settled (moment_of disk))) [
      | inl idle ↦
          let same = settled_unless_torn disk.start disk.log (nil_from_length _ (eqb-true _ _ idle)) in
          subst (IsUp armed left room (settled m.image)) (sym (synced_idle disk idle))
          (record { running = up.running; never = up.never; arm = up.arm; spare = omega (arith, spare); bytes = up.bytes; at = same ∙ ap (λ (x : Moment). settled x.image) up.at })
      | inr dirty ↦
          subst (IsUp armed left room (settled m.image)) (sym (synced_change disk dirty roomy))
          (record { running = up.running; never = up.never; arm = up.arm; spare = omega (arith, spare); bytes = up.bytes; at = ap (λ (x : Moment). settled x.image) up.at })
    ]

pub sync_passes : (armed : Option Arm) (left room : ℕ) (m : Moment) (disk : DiskState) → IsUp armed (suc left) room m disk → lets_one armed ≡ true → PassesTo ToSync disk (armed_after armed) left room (settled m.image)
sync_passes armed left room m disk up lets =
    let turn = turn_passes armed (suc left) room m disk up lets in
    let can = can_sync_so armed left room m disk up in
    let is : after_call ToSync disk ≡ with_sync (called Passes disk) = rw turn refl in
    record {
      answer = rw (turn, can) refl;
      up = subst (IsUp (armed_after armed) left room (settled m.image)) (sym is) (synced_up (armed_after armed) left room m (called Passes disk) (counts armed (suc left) room m disk Passes up));
    }

pub sync_stops : (arm : Arm) (left room : ℕ) (m : Moment) (disk : DiskState) → IsUp (Some arm) left room m disk → arm.calls ≡ 0 → StopsIn ToSync disk arm.outcome room m
sync_stops arm left room m disk up last =
    let turn = turn_stops arm left room m disk up last in
    let c = counts (Some arm) left room m disk (Stops arm.outcome) up in
    let is : after_call ToSync disk ≡ stopped_by arm.outcome (called (Stops arm.outcome) disk) = rw turn refl in
    record {
      answer = rw turn refl;
      down = subst (IsDown arm.outcome room m) (sym is)
          (record { halted = refl; never = c.never; arm = c.arm ∙ none_armed arm last; bytes = c.bytes; at = ap (λ (x : Moment). settled (picked arm.outcome x)) c.at });
    }

-- a call that changes nothing of the file
pub idle_passes : (call : DiskCall) (armed : Option Arm) (left room : ℕ) (m : Moment) (disk : DiskState) → call_fails call disk ≡ not (passes (turn_of disk)) → after_call call disk ≡ after_turn (turn_of disk) disk
    → IsUp armed left room m disk → lets_one armed ≡ true → PassesTo call disk (armed_after armed) left room m
idle_passes call armed left room m disk fails after up lets =
    let turn = turn_passes armed left room m disk up lets in
    let is : after_turn (turn_of disk) disk ≡ called Passes disk = rw turn refl in
    record {
      answer = fails ∙ ap (λ (t : Turn). not (passes t)) turn;
      up = subst (IsUp (armed_after armed) left room m) (sym (after ∙ is)) (counts armed left room m disk Passes up);
    }

pub idle_stops : (call : DiskCall) (arm : Arm) (left room : ℕ) (m : Moment) (disk : DiskState) → call_fails call disk ≡ not (passes (turn_of disk)) → after_call call disk ≡ after_turn (turn_of disk) disk
    → IsUp (Some arm) left room m disk → arm.calls ≡ 0 → StopsIn call disk arm.outcome room m
idle_stops call arm left room m disk fails after up last =
    let turn = turn_stops arm left room m disk up last in
    let c = counts (Some arm) left room m disk (Stops arm.outcome) up in
    let is : after_turn (turn_of disk) disk ≡ stopped_by arm.outcome (called (Stops arm.outcome) disk) = rw turn refl in
    record {
      answer = fails ∙ ap (λ (t : Turn). not (passes t)) turn;
      down = subst (IsDown arm.outcome room m) (sym (after ∙ is))
          (record { halted = refl; never = c.never; arm = c.arm ∙ none_armed arm last; bytes = c.bytes; at = ap (λ (x : Moment). settled (picked arm.outcome x)) c.at });
    }

-- ---- calls in turn

-- all of these calls passed
pub record RanUp (calls : List DiskCall) (disk : DiskState) (armed : Option Arm) (left room : ℕ) (moment : Moment) : Type 0 where
  pub behind : DiskState
  pub ran : runs calls disk ≡ record { disk = behind; failed = false }
  pub up : IsUp armed left room moment behind

-- the disk stopped in one of them
pub record RanDown (calls : List DiskCall) (disk : DiskState) (outcome room : ℕ) (moment : Moment) : Type 0 where
  pub behind : DiskState
  pub ran : runs calls disk ≡ record { disk = behind; failed = true }
  pub down : IsDown outcome room moment behind

pub first_up : (call : DiskCall) (disk : DiskState) (armed : Option Arm) (left room : ℕ) (m : Moment) → PassesTo call disk armed left room m → RanUp (call ∷ []) disk armed left room m
first_up call disk armed left room m one = record {
  behind = after_call call disk;
  ran = ap (λ (b : Bool). record { disk = after_call call disk; failed = b }) one.answer;
  up = one.up;
}

pub first_down : (call : DiskCall) (disk : DiskState) (outcome room : ℕ) (m : Moment) → StopsIn call disk outcome room m → RanDown (call ∷ []) disk outcome room m
first_down call disk outcome room m one = record {
  behind = after_call call disk;
  ran = ap (λ (b : Bool). record { disk = after_call call disk; failed = b }) one.answer;
  down = one.down;
}

pub ran_up : (call : DiskCall) (calls : List DiskCall) (disk : DiskState) (armed after : Option Arm) (left fewer room : ℕ) (m next : Moment) (so_far : RanUp calls disk armed left room m) → PassesTo call so_far.behind after fewer room next → RanUp (call ∷ calls) disk after fewer room next
ran_up call calls disk armed after left fewer room m next so_far one = record {
  behind = after_call call so_far.behind;
  ran = ap (makes call) so_far.ran ∙ ap (λ (b : Bool). record { disk = after_call call so_far.behind; failed = b }) one.answer;
  up = one.up;
}

pub ran_down : (call : DiskCall) (calls : List DiskCall) (disk : DiskState) (armed : Option Arm) (left room outcome : ℕ) (m last : Moment) (so_far : RanUp calls disk armed left room m) → StopsIn call so_far.behind outcome room last → RanDown (call ∷ calls) disk outcome room last
ran_down call calls disk armed left room outcome m last so_far one = record {
  behind = after_call call so_far.behind;
  ran = ap (makes call) so_far.ran ∙ ap (λ (b : Bool). record { disk = after_call call so_far.behind; failed = b }) one.answer;
  down = one.down;
}

pub ran_no_further : (later calls : List DiskCall) (disk : DiskState) (outcome room : ℕ) (m : Moment) → RanDown calls disk outcome room m → RanDown (later ++ calls) disk outcome room m
ran_no_further later calls disk outcome room m down = record {
  behind = down.behind;
  ran = runs_no_further later calls disk down.behind down.ran;
  down = down.down;
}
