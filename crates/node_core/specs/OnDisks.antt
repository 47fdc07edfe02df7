-- A node over a disk whose state is modelled: what its calls make of the disk, and how far each comes.
use Rattle.std.specs.Prelude.{◌≡◌, ℕ, ◌+◌, Bool, true, false, ◌==◌, if◌then◌else◌, Option, Some, List, [], Result, Ok, Err}
use Rattle.ports.specs.DiskCalls.{DiskCall}
use Rattle.ports.specs.MemoryDisk.{DiskState}
use Rattle.ports.specs.DiskSteps.{came_to, runs_on}
use Rattle.epoch_store.specs.declared.Stored.{Stored}
use Rattle.epoch_store.specs.declared.seat.Seat.{Seat}
use Rattle.epoch_store.specs.Seat.{next_seat}
use Rattle.epoch_store.specs.Asked.{put_calls}
use Rattle.epoch_store.specs.Placed.{PlacedStore, put_passes, after_put}
use Rattle.signer.specs.Signing.{SignerState, stored_after, next_note}
use Rattle.journal.specs.declared.event.Event as journal
use Rattle.node_rules.specs.Nodes.{Setting}
use Rattle.node_rules.specs.Calls.{Call}
use Rattle.node_rules.specs.Replies.{first_mask}
use Rattle.node_rules.specs.OnDisks.{Storage, OnDisk}
use Rattle.node_core.specs.declared.NodeFault.{NodeFault}
use Rattle.node_core.specs.declared.NodeFault.TheVariants as faults
use Rattle.node_core.specs.Playing.{Kept, IsAt}
use Rattle.node_core.specs.Answers.{CallerBuffers, Gives}

-- ---- a step

-- It made a signature, and put what the signer keeps behind it; or it made none, and asked nothing of the disk.
abbrev pub asked : SignerState → SignerState → List DiskCall
asked older newer = if newer.state.next == older.state.next then [] else put_calls older.seat newer.state

abbrev pub seat_after : SignerState → SignerState → Seat
seat_after older newer = if newer.state.next == older.state.next then older.seat else next_seat older.seat newer.state

pub record Stores (older newer : SignerState) (disk disk_now : Option DiskState) : Type 0 where
  pub came : came_to disk_now false ≡ runs_on (asked older newer) disk
  pub seat : newer.seat ≡ seat_after older newer

-- The put of what a signature would have left failed.
pub record FailsToStore (kept : Stored) (older newer : SignerState) (disk disk_now : Option DiskState) : Type 0 where
  pub rises : kept.next ≡ older.state.next + 1
  pub came : came_to disk_now true ≡ runs_on (put_calls older.seat kept) disk
  pub seat : newer.seat ≡ older.seat

-- Where the disk failed, it did so in the put of what this whole step leaves.
abbrev pub FailsIn : Call → Kept → Kept → Option DiskState → Option DiskState → Result (Unit {0}) NodeFault → Type 0
FailsIn whole old new disk disk_now (Ok done) = Unit {0}
FailsIn whole old new disk disk_now (Err fault) = new.telling.failed ≡ false → FailsToStore whole.node.stored old.signer new.signer disk disk_now

-- ---- several

-- The store of a node, as the definitions take it.
abbrev pub storage : Storage PlacedStore
storage = record { takes = put_passes; behind = after_put }

abbrev pub on_disk : Call → DiskState → Seat → OnDisk PlacedStore
on_disk c disk seat = record { call = c; disk = record { disk = disk; seat = seat } }

-- The node and its disk are where this call over the disk is.
pub record ComesTo (s : Setting) (es : List journal.Event) (os : List (ℕ × List ℕ)) (v : Kept) (disk_now : Option DiskState) (failed : Bool) (o : OnDisk PlacedStore) : Type 0 where
  pub at : IsAt s es os v o.call
  pub ended : o.call.ended ≡ failed
  pub disk : disk_now ≡ Some o.disk.disk
  pub seat : v.signer.seat ≡ o.disk.seat

-- ---- a call of a node

-- It gave what this call over the disk gives, and the disk is the one behind it.
pub record GivesOn (s : Setting) (v : Kept) (old new : CallerBuffers) (disk_now : Option DiskState) (failed : Bool) (o : OnDisk PlacedStore) : Type 0 where
  pub gives : Gives s v old new o.call
  pub ended : o.call.ended ≡ failed
  pub disk : disk_now ≡ Some o.disk.disk
  pub seat : v.signer.seat ≡ o.disk.seat

-- Unless memory was refused, the call is exactly the one over this disk: it ended where the disk failed, and nowhere else.
abbrev pub FollowsDisk : Setting → Kept → CallerBuffers → CallerBuffers → Option DiskState → OnDisk PlacedStore → Result (Unit {0}) NodeFault → Type 0
FollowsDisk s v old new disk_now o (Ok done) = GivesOn s v old new disk_now false o
FollowsDisk s v old new disk_now o (Err faults.StoreFault) = GivesOn s v old new disk_now true o
FollowsDisk s v old new disk_now o (Err faults.OutOfMemory) = Unit {0}
FollowsDisk s v old new disk_now o (Err (faults.Exhausted next)) = ⊥
FollowsDisk s v old new disk_now o (Err faults.Ended) = ⊥

-- ---- the start of a life

-- What the store is to keep behind the first note.
abbrev pub kept_first : ℕ → ℕ → Stored → Stored
kept_first t me stored = stored_after stored (next_note stored me (record { 0 = first_mask t stored.mask.0 }))

-- It was put, or the put failed; where the key is used up nothing is asked of the disk.
abbrev pub PutsFirst : {T : Type 0} → Stored → Seat → Option DiskState → Option DiskState → Result T NodeFault → Type 0
PutsFirst kept seat disk disk_now (Ok value) = came_to disk_now false ≡ runs_on (put_calls seat kept) disk
PutsFirst kept seat disk disk_now (Err faults.StoreFault) = came_to disk_now true ≡ runs_on (put_calls seat kept) disk
PutsFirst kept seat disk disk_now (Err faults.OutOfMemory) = Unit {0}
PutsFirst kept seat disk disk_now (Err (faults.Exhausted next)) = disk_now ≡ disk
PutsFirst kept seat disk disk_now (Err faults.Ended) = ⊥
