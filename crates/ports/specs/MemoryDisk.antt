-- A disk in memory: what came about since it last came up, what an outcome picks at a crash, and the exact
-- answer of each call.
use Rattle.std.specs.Prelude.{◌≡◌, ℕ, ◌+◌, ◌-◌, ◌%◌, ◌≤◌, ◌==◌, ◌&&◌, ◌||◌, nat_le, nat_lt, Bool, true, false, not, if◌then◌else◌, Option, None, Some, List, [], ◌∷◌, length, reverse, Vec}
use Rattle.std.specs.Vec.{vec_capacity}
use Rattle.std.specs.declared.alloc.Global.{Global}
use Rattle.ports.specs.declared.memory_disk.Change.{Change}
use Rattle.ports.specs.declared.memory_disk.Change.TheVariants.{Wrote, Synced, Stopped}
use Rattle.ports.specs.declared.memory_disk.Arm.{Arm}
use Rattle.ports.specs.declared.memory_disk.Turn.{Turn}
use Rattle.ports.specs.declared.memory_disk.Turn.TheVariants.{Passes, Fails, Stops}
use Rattle.ports.specs.declared.Opened as opened
use Rattle.ports.specs.declared.Opened.{Opened}
use Rattle.ports.specs.Count.{next_count, counted}
use Rattle.ports.specs.Memory.{is_failing}
use Rattle.ports.specs.Disk.{Moment, is_torn, end_of, settled, wrote}

-- a write since the last sync touched the byte at this place, or it lies past the length at that sync
abbrev pub is_unstable : List (ℕ × ℕ) → ℕ → ℕ → Bool
is_unstable torn kept place = is_torn torn place || nat_le kept place

-- what becomes of the byte at this place
abbrev pub garbled_byte : ℕ → List (ℕ × ℕ) → ℕ → ℕ → ℕ → ℕ
garbled_byte outcome torn kept place b = if is_unstable torn kept place then (outcome + place) % 256 else b

-- the bytes from this place on, each unstable one made from the outcome and its place
abbrev pub garbled : ℕ → List (ℕ × ℕ) → ℕ → ℕ → List ℕ → List ℕ
garbled outcome torn kept place [] = []
garbled outcome torn kept place (b ∷ bytes) =
    garbled_byte outcome torn kept place b ∷ garbled outcome torn kept (place + 1) bytes

-- what an outcome picks: 0 the file of the last sync, 1 that with all writes since, any other the latter with
-- its unstable bytes garbled
abbrev pub picked : ℕ → Moment → List ℕ
picked outcome moment =
    if outcome == 0 then moment.stable
    else (if outcome == 1 then moment.image
    else garbled outcome moment.torn (length moment.stable) 0 moment.image)

-- the moment after a change
abbrev pub changed : Change → Moment → Moment
changed (Wrote place bytes) moment = wrote place bytes.items moment
changed Synced moment = settled moment.image
changed (Stopped outcome) moment = settled (picked outcome moment)

-- the moment after these changes, the last one first, to a file that came up so
abbrev pub now_of : List ℕ → List Change → Moment
now_of start [] = settled start
now_of start (change ∷ log) = changed change (now_of start log)

-- the moments before it
abbrev pub past_of : List ℕ → List Change → List Moment
past_of start [] = []
past_of start (change ∷ log) = now_of start log ∷ past_of start log

abbrev pub moments_of : List ℕ → List Change → List Moment
moments_of start log = now_of start log ∷ past_of start log

-- the file of a disk in memory at one moment, how many bytes it has room for, and how many writes
pub record FileState : Type 0 where
  pub moment : Moment
  pub room : ℕ
  pub writes : ℕ

-- what a disk in memory holds: the file as it last came up, what came about since (the last change first),
-- how many bytes and how many changes it has room for, the numbers of the calls that fail, how many calls
-- came and how many failed, the stop that is armed, and whether the disk has stopped
pub record DiskState : Type 0 where
  pub start : List ℕ
  pub log : List Change
  pub room : ℕ
  pub changes : ℕ
  pub failing : List ℕ
  pub calls : ℕ
  pub failures : ℕ
  pub armed : Option Arm
  pub stopped : Bool

-- the moment that it is at
abbrev pub moment_of : DiskState → Moment
moment_of disk = now_of disk.start disk.log

-- a call fails where it is one of those that are to fail
abbrev pub numbered_turn : Bool → Turn
numbered_turn failing = if failing then Fails else Passes

-- a stop comes in the first call that it does not let pass
abbrev pub armed_turn : Option Arm → Bool → Turn
armed_turn None failing = numbered_turn failing
armed_turn (Some arm) failing = if arm.calls == 0 then Stops arm.outcome else numbered_turn failing

-- what becomes of the next call: after a stop each fails
abbrev pub turn_of : DiskState → Turn
turn_of disk = if disk.stopped then Fails else armed_turn disk.armed (is_failing disk.failing disk.calls)

-- the stop that is still armed after one more call
abbrev pub armed_after : Option Arm → Option Arm
armed_after None = None
armed_after (Some arm) = if arm.calls == 0 then None else Some (record arm { calls = arm.calls - 1 })

abbrev pub passes : Turn → Bool
passes Passes = true
passes Fails = false
passes (Stops outcome) = false

-- to open a file is done, unless the call fails
abbrev pub open_answer : Turn → Opened
open_answer Passes = opened.TheVariants.Done
open_answer Fails = opened.TheVariants.Failed
open_answer (Stops outcome) = opened.TheVariants.Failed

-- the disk has not stopped, but where the call fails
abbrev pub Runs : Turn → Bool → Type 0
Runs Passes stopped = stopped ≡ false
Runs Fails stopped = Unit {0}
Runs (Stops outcome) stopped = stopped ≡ false

-- one more call of this turn
abbrev pub called : Turn → DiskState → DiskState
called turn disk = record disk {
  calls = next_count disk.calls;
  failures = counted (not (passes turn)) disk.failures;
  armed = if disk.stopped then disk.armed else armed_after disk.armed;
}

-- one more failure
abbrev pub failed : DiskState → DiskState
failed disk = record disk { failures = next_count disk.failures }

-- the disk stops: the file is what the outcome picks
abbrev pub stopped_by : ℕ → DiskState → DiskState
stopped_by outcome disk = record disk { log = Stopped outcome ∷ disk.log; stopped = true }

-- what a call leaves that changes nothing of the file, by its turn
abbrev pub stopped_or_not : Turn → DiskState → DiskState
stopped_or_not Passes disk = disk
stopped_or_not Fails disk = disk
stopped_or_not (Stops outcome) disk = stopped_by outcome disk

abbrev pub after_turn : Turn → DiskState → DiskState
after_turn turn disk = stopped_or_not turn (called turn disk)

-- the write is short enough, and there is room for its bytes and for the change
abbrev pub fits : DiskState → ℕ → ℕ → Bool
fits disk place count =
    nat_le count 64 && nat_le (end_of place count) disk.room && nat_lt (length disk.log) disk.changes

-- the write comes about
abbrev pub with_write : ℕ → List ℕ → DiskState → DiskState
with_write place bytes disk = record disk { log = Wrote place (record { items = bytes }) ∷ disk.log }

-- a write, by its turn and by whether it fits: a stop within it counts the whole of it, if it fits
abbrev pub written_by : Turn → Bool → ℕ → List ℕ → DiskState → DiskState
written_by Passes fitting place bytes disk = if fitting then with_write place bytes disk else failed disk
written_by Fails fitting place bytes disk = disk
written_by (Stops outcome) fitting place bytes disk =
    stopped_by outcome (if fitting then with_write place bytes disk else disk)

abbrev pub after_write : Turn → ℕ → List ℕ → DiskState → DiskState
after_write turn place bytes disk =
    written_by turn (fits disk place (length bytes)) place bytes (called turn disk)

-- no write has come about since the last sync
abbrev pub is_settled : Moment → Bool
is_settled moment = length moment.torn == 0

-- a sync comes about: it is a change where a write has come about since the last one
abbrev pub with_sync : DiskState → DiskState
with_sync disk =
    if is_settled (moment_of disk) then disk
    else (if nat_lt (length disk.log) disk.changes then record disk { log = Synced ∷ disk.log } else failed disk)

-- a sync, by its turn: a stop within it leaves it undone
abbrev pub synced_by : Turn → DiskState → DiskState
synced_by Passes disk = with_sync disk
synced_by Fails disk = disk
synced_by (Stops outcome) disk = stopped_by outcome disk

abbrev pub after_sync : Turn → DiskState → DiskState
after_sync turn disk = synced_by turn (called turn disk)

-- there is room for a sync
abbrev pub can_sync : DiskState → Bool
can_sync disk = is_settled (moment_of disk) || nat_lt (length disk.log) disk.changes

-- what the parts of a disk in memory have to do with one another: the file is the moment after the changes,
-- and there is room for it to come up again, for one more change while the disk runs, and for its ranges
pub record IsCurrent (start : Vec ℕ Global) (file : FileState) (log : Vec Change Global) (stopped : Bool) : Type 0 where
  pub moment : now_of start.items (reverse log.items) ≡ file.moment
  pub start_room : file.room ≤ vec_capacity start
  pub log_room : file.writes + 1 ≤ vec_capacity log
  pub within : stopped ≡ false → length log.items ≤ file.writes
  pub ranges : length file.moment.torn ≤ length log.items
