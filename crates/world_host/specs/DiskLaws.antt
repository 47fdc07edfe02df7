-- What holds of disks in memory that stand for disks of nodes.
use Rattle.std.specs.Prelude.{◌≡◌, ℕ, ◌+◌, ◌*◌, ◌^◌, ◌<◌, ◌≤◌, true, false, List, [], ◌++◌, None, Some, Result, length}
use Rattle.ff_ids.specs.declared.TheConstants.{MAX_TOLERANCE, MAX_RINGS}
use Rattle.ports.specs.MemoryDisk.{DiskState, moments_of}
use Rattle.ports.specs.DiskCalls.{DiskCall}
use Rattle.ports.specs.DiskSteps.{runs}
use Rattle.ff_ids.specs.declared.Mask.{Mask}
use Rattle.epoch_store.specs.declared.Stored.{Stored}
use Rattle.epoch_store.specs.declared.StoreError.{StoreError}
use Rattle.epoch_store.specs.Seat.{first_seat, store_length}
use Rattle.epoch_store.specs.Store.{IsEntry, Follows, first_entry, made_wide, put_entries}
use Rattle.epoch_store.specs.Asked.{entry_reads, gate_reads, make_calls, open_calls, put_calls}
use Rattle.epoch_store.specs.Calls.{IsNotTaken, OpensAs, StoreState}
use Rattle.epoch_store.specs.Followed.{ReadsGatesFrom}
use Rattle.epoch_store.specs.Placed.{PlacedStore}
use Rattle.records.specs.declared.Record.{Record}
use Rattle.node_rules.specs.Nodes.{Node, Setting}
use Rattle.node_rules.specs.Lives.{Input}
use Rattle.node_rules.specs.OnDisks.{called_on}
use Rattle.node_rules.specs.Starting.{may_start, started}
use Rattle.world_rules.specs.Calls as rules
use Rattle.world_rules.specs.Disks.{ArmedStop, Disk, after_calls, after_put, lets_pass, made_disk, opening_calls, put_passes, seat_of, stopped, stopped_in_put}
use Rattle.world_host.specs.Held.{ComesAs, HoldsDisk, armed_as, crashed}
use Rattle.world_host.specs.OnDisks.{ComesTo, Keeps, OpensTo, placed}

-- The calls that open a store and read all its gates: those in front of its entries, and the closed one.
abbrev pub all_reads : List ℕ → List ℕ → Disk → List DiskCall
all_reads tag name e = gate_reads (seat_of tag e) false ++ (entry_reads (first_seat (made_wide e.state e.older) tag) (put_entries tag e.state e.older) ++ open_calls name)

-- These calls pass, or the armed stop comes in one of them.
abbrev pub OpensAsTold : Type 0
OpensAsTold = (tag name : List ℕ) (indexes : ℕ) (d : DiskState) (e : Disk) → HoldsDisk tag indexes d e
    → ComesAs tag indexes (runs (all_reads tag name e) d) (lets_pass e.armed (opening_calls e)) (after_calls (opening_calls e) e) (stopped e)

-- Whatever opens the store by these calls, and reads the file, has the node's store.
abbrev pub ReadsAsTold : Type 0
ReadsAsTold = (tag name : List ℕ) (indexes : ℕ) (d r : DiskState) (e : Disk) (result : Result StoreState StoreError) → HoldsDisk tag indexes d e
    → IsNotTaken result → OpensAs tag (moments_of d.start d.log) result → ReadsGatesFrom (open_calls name) (moments_of d.start d.log) result (Some d) (Some r)
    → OpensTo tag indexes e result r

-- The calls that put an entry with the next index.
abbrev pub PutsAsTold : Type 0
PutsAsTold = (tag : List ℕ) (indexes : ℕ) (d : DiskState) (e : Disk) (kept : Stored) → HoldsDisk tag indexes d e
    → IsEntry kept → Follows e.state kept → kept.next ≡ e.state.next + 1 → kept.next ≤ indexes
    → ComesAs tag indexes (runs (put_calls (seat_of tag e) kept) d) (put_passes e) (after_put kept e) (stopped_in_put kept e)

abbrev pub CrashesAsTold : Type 0
CrashesAsTold = (tag : List ℕ) (indexes outcome : ℕ) (d : DiskState) (e : Disk) → HoldsDisk tag indexes d e → HoldsDisk tag indexes (crashed outcome d) e

abbrev pub ArmsAsTold : Type 0
ArmsAsTold = (tag : List ℕ) (indexes : ℕ) (d : DiskState) (e : Disk) (stop : ArmedStop) → HoldsDisk tag indexes d e
    → HoldsDisk tag indexes (record d { armed = armed_as (Some stop) }) (record e { armed = Some stop })

-- A disk in memory that was just made, with room for all that a key with so many indexes allows.
pub record IsNew (indexes : ℕ) (d : DiskState) : Type 0 where
  pub start : d.start ≡ []
  pub log : d.log ≡ []
  pub armed : d.armed ≡ None
  pub sound : d.failing ≡ []
  pub runs : d.stopped ≡ false
  pub room : store_length (indexes + 1) ≤ d.room
  pub changes : 2 + 4 * indexes ≤ d.changes

-- The calls that make a store on it pass.
abbrev pub MakesAsTold : Type 0
MakesAsTold = (tag name : List ℕ) (indexes : ℕ) (d : DiskState) (mask : Mask) → IsNew indexes d → length tag ≡ 32 → mask.0 < 2 ^ MAX_RINGS
    → let came = runs (make_calls name tag (first_entry mask)) d in
    (came.failed ≡ false) × HoldsDisk tag indexes came.disk (made_disk mask)

-- A call of a node, whose key has no more indexes than any has, over a disk in memory is the call over the disk of the
-- rules for which it stands.
abbrev pub CallsAsTold : Type 0
CallsAsTold = (tag : List ℕ) (s : Setting) (n : Node) (i : Input) (d : PlacedStore) (e : Disk) → s.group.t ≤ MAX_TOLERANCE → s.indexes ≤ 32768 → Keeps tag s.indexes n.stored d e
    → ComesTo tag s.indexes (called_on placed s n i d) (rules.called_on s n i e)

-- The calls that put what the store is to keep behind the first note of a life.
abbrev pub StartsAsTold : Type 0
StartsAsTold = (tag : List ℕ) (nonces : ℕ → ℕ) (certificates : List Record) (s : Setting) (d : DiskState) (e : Disk) → s.group.t ≤ MAX_TOLERANCE → s.indexes ≤ 32768 → HoldsDisk tag s.indexes d e → may_start s e.state ≡ true
    → let kept = (started s nonces certificates e.state).node.stored in
    ComesAs tag s.indexes (runs (put_calls (seat_of tag e) kept) d) (put_passes e) (after_put kept e) (stopped_in_put kept e)
