-- A store on a disk whose state is modelled: which puts succeed, and what is behind them.
use Rattle.std.specs.Prelude.{ℕ, ◌+◌, ◌%◌, ◌==◌, Bool, true, false, not, if◌then◌else◌}
use Rattle.ports.specs.MemoryDisk.{DiskState}
use Rattle.ports.specs.DiskSteps.{Came, runs}
use Rattle.epoch_store.specs.declared.Stored.{Stored}
use Rattle.epoch_store.specs.declared.seat.Seat.{Seat}
use Rattle.epoch_store.specs.Seat.{next_seat}
use Rattle.epoch_store.specs.Asked.{put_calls}

-- the disk, and the seat of the store's next entry
pub record PlacedStore : Type 0 where
  pub disk : DiskState
  pub seat : Seat

unfoldable pub put_on : Stored → PlacedStore → Came
put_on e store = runs (put_calls store.seat e) store.disk

abbrev pub put_passes : Stored → PlacedStore → Bool
put_passes e store = not (put_on e store).failed

abbrev pub after_put : Stored → PlacedStore → PlacedStore
after_put e store = record { disk = (put_on e store).disk; seat = if put_passes e store then next_seat store.seat e else store.seat }

-- whether the byte of a gate that was being written is 1 as a stop with this outcome leaves it: 0 leaves the closed gate,
-- 1 what was written, and any other a byte of its own making
abbrev pub leaves_open : ℕ → ℕ → Bool
leaves_open outcome gate = if outcome == 0 then false else (if outcome == 1 then true else (outcome + gate) % 256 == 1)
