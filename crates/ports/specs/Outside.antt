-- What contracts see of the outside: of a source, a sink, a disk, a link and a clock one record each.
use Rattle.std.specs.Prelude.{ℕ, Bool, Option, List}
use Rattle.ports.specs.Disk.{Moment}
use Rattle.ports.specs.DiskCalls.{DiskCall}
use Rattle.ports.specs.Link.{LinkState}
use Rattle.ports.specs.MemoryDisk.{DiskState}

-- The bytes left in a source, where they are modelled; how often a call failed; and that no read came to the end or failed,
-- so that it may be read.
pub record OfSource : Type 0 where
  pub left : Option (List ℕ)
  pub faults : ℕ
  pub is_open : Bool

-- The bytes that a sink took, where they are modelled; how often a call failed; and that no write failed, so that it may be
-- written to.
pub record OfSink : Type 0 where
  pub taken : Option (List ℕ)
  pub faults : ℕ
  pub is_open : Bool

-- Of a disk: how often a call failed; the calls that were made of it, the last one first, whatever they answered, where
-- they are modelled; what the file was at each moment since the disk came up, the present one first, none where nothing is
-- reported; and the state of a disk in memory, where it is modelled: what each call answers and leaves follows from it.
pub record OfDisk : Type 0 where
  pub faults : ℕ
  pub calls : Option (List DiskCall)
  pub moments : List Moment
  pub model : Option DiskState

-- The port bound to a link, the answers to come, the sends that fail, and what was given to send, where these are modelled;
-- and how often a call failed.
pub record OfLink : Type 0 where
  pub contents : Option LinkState
  pub faults : ℕ

-- The last reading of a clock, or a number that no reading is below; and the readings to come, where they are modelled: behind
-- them the last is given again.
pub record OfClock : Type 0 where
  pub reading : ℕ
  pub coming : Option (List ℕ)
