-- When a disk in memory stands for a node's disk.
use Rattle.std.specs.Prelude.{◌≡◌, ◌≢◌, ℕ, ◌+◌, ◌-◌, ◌*◌, ◌≤◌, Bool, true, false, List, [], ◌∷◌, ◌++◌, Option, Some, None, length}
use Rattle.ports.specs.Disk.{settled}
use Rattle.ports.specs.MemoryDisk.{DiskState, moment_of, picked}
use Rattle.ports.specs.DiskSteps.{Came}
use Rattle.ports.specs.declared.memory_disk.Arm.{Arm}
use Rattle.epoch_store.specs.Seat.{first_seat, store_length}
use Rattle.epoch_store.specs.Store.{IsChain, front, made_wide, put_entries}
use Rattle.world_rules.specs.Disks.{ArmedStop, Disk}

-- the same stop is armed
abbrev pub armed_as : Option ArmedStop → Option Arm
armed_as None = None
armed_as (Some stop) = Some (record { calls = stop.calls; outcome = stop.outcome })

-- The disk is settled, and its file is the store of this tag with the entries that keep these states; the same stop is armed, and nothing else fails; and
-- there is room for each entry and each change that a key with so many indexes still allows.
pub record HoldsDisk (tag : List ℕ) (indexes : ℕ) (d : DiskState) (e : Disk) : Type 0 where
  pub shut : ℕ
  pub rest : List ℕ
  pub long : length tag ≡ 32
  pub chain : IsChain (first_seat (made_wide e.state e.older) tag) (put_entries tag e.state e.older)
  pub closed : shut ≢ 1
  pub file : moment_of d ≡ settled (front (made_wide e.state e.older) tag (put_entries tag e.state e.older) ++ shut ∷ rest)
  pub few : length e.older ≤ e.state.next
  pub within : e.state.next ≤ indexes
  pub armed : d.armed ≡ armed_as e.armed
  pub sound : d.failing ≡ []
  pub runs : d.stopped ≡ false
  pub room : store_length (indexes + 1) ≤ d.room
  pub changes : length d.log + 4 * (indexes - e.state.next) ≤ d.changes

-- what a crash with this outcome makes of a disk
abbrev pub crashed : ℕ → DiskState → DiskState
crashed outcome d = record d { start = picked outcome (moment_of d); log = []; stopped = false }

-- Some calls passed, and the disk stands for the one; or one of them failed, and the disk stands for the other once it has
-- crashed.
abbrev pub ComesAs : List ℕ → ℕ → Came → Bool → Disk → Disk → Type 0
ComesAs tag indexes came true behind stopped = (came.failed ≡ false) × HoldsDisk tag indexes came.disk behind
ComesAs tag indexes came false behind stopped = (came.failed ≡ true) × HoldsDisk tag indexes (crashed 0 came.disk) stopped
