-- A disk in memory that runs, and on which no call fails but by the stop that is armed.
use Rattle.std.specs.Prelude.{◌≡◌, ℕ, ◌+◌, ◌≤◌, false, true, Option, None, [], length}
use Rattle.ports.specs.declared.memory_disk.Arm.{Arm}
use Rattle.ports.specs.Disk.{Moment, settled}
use Rattle.ports.specs.MemoryDisk.{DiskState, moment_of, picked}

-- this stop is armed, there is room for so many changes, and this is the moment
pub record IsUp (armed : Option Arm) (left room : ℕ) (moment : Moment) (disk : DiskState) : Type 0 where
  pub running : disk.stopped ≡ false
  pub never : disk.failing ≡ []
  pub arm : disk.armed ≡ armed
  pub spare : length disk.log + left ≤ disk.changes
  pub bytes : disk.room ≡ room
  pub at : moment_of disk ≡ moment

-- it stopped, and this outcome picked the file of this moment
pub record IsDown (outcome room : ℕ) (moment : Moment) (disk : DiskState) : Type 0 where
  pub halted : disk.stopped ≡ true
  pub never : disk.failing ≡ []
  pub arm : disk.armed ≡ None
  pub bytes : disk.room ≡ room
  pub at : moment_of disk ≡ settled (picked outcome moment)
