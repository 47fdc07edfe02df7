-- Calls of nodes over disks in memory that stand for nodes' disks.
use Rattle.std.specs.Prelude.{◌≡◌, ℕ, true, false, List, Result, Ok, Err}
use Rattle.ports.specs.MemoryDisk.{DiskState}
use Rattle.epoch_store.specs.declared.Stored.{Stored}
use Rattle.epoch_store.specs.declared.StoreError.{StoreError}
use Rattle.epoch_store.specs.declared.StoreError.TheVariants.{Fault, Taken, Broken, OtherKey, OutOfMemory}
use Rattle.epoch_store.specs.Calls.{StoreState}
use Rattle.epoch_store.specs.Placed.{PlacedStore, put_passes, after_put}
use Rattle.node_rules.specs.OnDisks.{Storage, OnDisk}
use Rattle.world_rules.specs.Disks.{Disk, after_calls, lets_pass, opening_calls, seat_of, stopped}
use Rattle.world_rules.specs.Calls as rules
use Rattle.world_host.specs.Held.{HoldsDisk, crashed}

-- ---- a store that is opened

-- The store was opened, and the disk stands for the one behind the calls; or the stop came in one of them, and the disk
-- stands for the one behind it once it has crashed. Memory is never refused.
abbrev pub OpensTo : List ℕ → ℕ → Disk → Result StoreState StoreError → DiskState → Type 0
OpensTo tag indexes e (Ok store) d =
    (lets_pass e.armed (opening_calls e) ≡ true) × (store ≡ record { state = e.state; seat = seat_of tag e; failed = false }) × HoldsDisk tag indexes d (after_calls (opening_calls e) e)
OpensTo tag indexes e (Err Fault) d = (lets_pass e.armed (opening_calls e) ≡ false) × HoldsDisk tag indexes (crashed 0 d) (stopped e)
OpensTo tag indexes e (Err (Taken len)) d = ⊥
OpensTo tag indexes e (Err (Broken place byte)) d = ⊥
OpensTo tag indexes e (Err (OtherKey place byte)) d = ⊥
OpensTo tag indexes e (Err OutOfMemory) d = ⊥

-- ---- calls of a node

-- How a store on a disk in memory takes entries.
abbrev pub placed : Storage PlacedStore
placed = record { takes = put_passes; behind = after_put }

-- The store on this disk keeps this, and the disk stands for the node's.
pub record Keeps (tag : List ℕ) (indexes : ℕ) (kept : Stored) (d : PlacedStore) (e : Disk) : Type 0 where
  pub held : HoldsDisk tag indexes d.disk e
  pub state : e.state ≡ kept
  pub seat : d.seat ≡ seat_of tag e

-- The call over the disk in memory is the one over the node's disk; and behind it the one disk stands for the other, where
-- it stopped once it has crashed.
pub record ComesTo (tag : List ℕ) (indexes : ℕ) (x : OnDisk PlacedStore) (y : rules.OnDisk) : Type 0 where
  pub call : x.call ≡ y.call
  pub going : y.call.ended ≡ false → Keeps tag indexes y.call.node.stored x.disk y.disk
  pub over : y.call.ended ≡ true → HoldsDisk tag indexes (crashed 0 x.disk.disk) y.disk
