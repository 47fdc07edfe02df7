-- What becomes of a call of a disk, by the stop that is armed.
use Rattle.std.proofs.Common.{◌≡◌, ℕ, suc, ◌-◌, ◌<◌, ◌≤◌, true, false, eqb, [], Option, None, Some, refl, ◌∙◌, arith}
use Rattle.std.proofs.lemmas.Bool.Decides.{nat_tests}
use Rattle.ports.specs.declared.memory_disk.Arm.{Arm}
use Rattle.ports.specs.MemoryDisk.{DiskState, armed_after, armed_turn, called, turn_of}

-- one call of the disk, which passes, or in which the stop with this outcome comes
abbrev pub pass_on : DiskState → DiskState
pass_on d = called (armed_turn None false) d

abbrev pub stop_on : ℕ → DiskState → DiskState
stop_on outcome d = called (armed_turn (Some (record { calls = 0; outcome = outcome })) false) d

-- The next call passes.
abbrev pub Passing : DiskState → Type 0
Passing d = turn_of d ≡ armed_turn None false

-- The stop with this outcome comes in the next call.
abbrev pub Stopping : ℕ → DiskState → Type 0
Stopping outcome d = turn_of d ≡ armed_turn (Some (record { calls = 0; outcome = outcome })) false

-- The disk is up, this stop is armed, and no call fails by its number.
pub record Up (d : DiskState) (armed : Option Arm) : Type 0 where
  pub is : d.armed ≡ armed
  pub sound : d.failing ≡ []
  pub runs : d.stopped ≡ false

-- So many calls pass.
abbrev pub Lets : Option Arm → ℕ → Type 0
Lets None k = Unit {0}
Lets (Some arm) k = k ≤ arm.calls

-- What is armed behind so many calls.
abbrev pub minus : ℕ → Option Arm → Option Arm
minus k None = None
minus k (Some arm) = Some (record arm { calls = arm.calls - k })

pub turn_is : (d : DiskState) (armed : Option Arm) → Up d armed → turn_of d ≡ armed_turn armed false
turn_is d armed u = rw (u.runs, u.is, u.sound) refl

pub up_called : (d : DiskState) (armed : Option Arm) → Up d armed → Up (pass_on d) (armed_after armed)
up_called d armed u = record { is = rw (u.runs, u.is) refl; sound = u.sound; runs = u.runs }

not_zero : (n : ℕ) → 0 < n → eqb n 0 ≡ false
not_zero n some = grind (arith, nat_tests, some)

is_zero : (n : ℕ) → n ≡ 0 → eqb n 0 ≡ true
is_zero n none = grind (arith, nat_tests, none)

one_less : (k : ℕ) (armed : Option Arm) → Lets armed (suc k) → armed_after (minus k armed) ≡ minus (suc k) armed
one_less k None lets = refl
one_less k (Some arm) lets =
    let some : 0 < arm.calls - k = omega (arith, lets) in
    let apart = not_zero (arm.calls - k) some in
    let less : arm.calls - k - 1 ≡ arm.calls - suc k = omega arith in
    rw (apart, less) refl

-- the next of these calls passes
pub passes_next : (d : DiskState) (armed : Option Arm) (k : ℕ) → Up d (minus k armed) → Lets armed (suc k) → Passing d
passes_next d None k u lets = turn_is d None u
passes_next d (Some arm) k u lets =
    let some : 0 < arm.calls - k = omega (arith, lets) in
    let apart = not_zero (arm.calls - k) some in
    turn_is d (minus k (Some arm)) u ∙ rw apart refl

pub up_next : (d : DiskState) (armed : Option Arm) (k : ℕ) → Up d (minus k armed) → Lets armed (suc k) → Up (pass_on d) (minus (suc k) armed)
up_next d armed k u lets =
    let v = up_called d (minus k armed) u in
    record { is = v.is ∙ one_less k armed lets; sound = v.sound; runs = v.runs }

-- the stop comes in the next
pub stops_next : (d : DiskState) (arm : Arm) → Up d (minus arm.calls (Some arm)) → Stopping arm.outcome d
stops_next d arm u =
    let none : arm.calls - arm.calls ≡ 0 = omega arith in
    let same = is_zero (arm.calls - arm.calls) none in
    turn_is d (minus arm.calls (Some arm)) u ∙ rw same refl

pub none_behind : (d : DiskState) (arm : Arm) → Up d (minus arm.calls (Some arm)) → (stop_on arm.outcome d).armed ≡ None
none_behind d arm u =
    let none : arm.calls - arm.calls ≡ 0 = omega arith in
    let same = is_zero (arm.calls - arm.calls) none in
    rw (u.runs, u.is, same) refl

-- at first nothing has passed
pub minus_none : (armed : Option Arm) → minus 0 armed ≡ armed
minus_none None = refl
minus_none (Some arm) = let same : arm.calls - 0 ≡ arm.calls = omega arith in rw same refl
