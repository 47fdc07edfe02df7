-- A store that is made or opened on a node's disk.
use Rattle.std.proofs.Common.{◌≡◌, ℕ, ◌^◌, ◌<◌, true, false, List, [], length, Some, Result, Ok, Err, refl, ap, sym, ◌∙◌, subst}
use Rattle.std.specs.Prelude.{is_err}
use Rattle.ff_ids.specs.declared.TheConstants.{MAX_RINGS}
use Rattle.ff_ids.specs.declared.Mask.{Mask}
use Rattle.ports.specs.DiskSteps.{Came, runs}
use Rattle.ports.specs.MemoryDisk.{DiskState, moments_of}
use Rattle.epoch_store.specs.declared.StoreError.{StoreError}
use Rattle.epoch_store.specs.declared.StoreError.TheVariants.{Fault, Taken, Broken, OtherKey, OutOfMemory}
use Rattle.epoch_store.specs.Asked.{make_calls}
use Rattle.epoch_store.specs.Calls.{HasLength, MakesWhereEmpty}
use Rattle.epoch_store.specs.Followed.{MakesFrom}
use Rattle.epoch_store.specs.Store.{first_entry}
use Rattle.world_host.specs.Held.{HoldsDisk, crashed}
use Rattle.world_host.specs.DiskLaws.{IsNew}
use Rattle.world_host.specs.OnDisks.{OpensTo}
use Rattle.world_host.proofs.DiskMaking.{make_as_told}
use Rattle.world_rules.specs.Disks.{Disk, lets_pass, made_disk, opening_calls, stopped}

-- The store was made, and the disk is new.
pub made-so : (tag name : List ℕ) (indexes : ℕ) (d r : DiskState) (mask : Mask) (result : Result (Unit {0}) StoreError) → IsNew indexes d → length tag ≡ 32 → mask.0 < 2 ^ MAX_RINGS → is_err result ≡ false
    → MakesFrom name tag (first_entry mask) result (Some d) (Some r) → HoldsDisk tag indexes r (made_disk mask)
made-so tag name indexes d r mask (Err error) new long small going makes = cc
made-so tag name indexes d r mask (Ok done) new long small going makes =
    let came : record { disk = r; failed = false } ≡ runs (make_calls name tag (first_entry mask)) d = some-same _ _ makes in
    subst (λ (x : Came). HoldsDisk tag indexes x.disk (made_disk mask)) (sym came) (make_as_told tag name indexes d mask new long small).1
  where
    some-same : (x y : Came) → Some x ≡ Some y → x ≡ y
    some-same x y is = cc

-- A store is made on a new disk.
pub always-made : (tag name : List ℕ) (indexes : ℕ) (d r : DiskState) (mask : Mask) (result : Result (Unit {0}) StoreError) → IsNew indexes d → length tag ≡ 32 → mask.0 < 2 ^ MAX_RINGS → MakesWhereEmpty (moments_of d.start d.log) result
    → MakesFrom name tag (first_entry mask) result (Some d) (Some r) → is_err result ≡ false
always-made tag name indexes d r mask (Ok done) new long small empty makes = refl
always-made tag name indexes d r mask (Err Fault) new long small empty makes =
    let came : record { disk = r; failed = true } ≡ runs (make_calls name tag (first_entry mask)) d = some-same _ _ makes in
    sym (ap (λ (x : Came). x.failed) (sym came)) ∙ (make_as_told tag name indexes d mask new long small).0
  where
    some-same : (x y : Came) → Some x ≡ Some y → x ≡ y
    some-same x y is = cc
always-made tag name indexes d r mask (Err (Taken len)) new long small empty makes =
    let long_so : HasLength (moments_of [] []) len = subst (λ (xs : List ℕ). HasLength (moments_of xs []) len) new.start (subst (λ xs. HasLength (moments_of d.start xs) len) new.log empty.0) in
    absurd (empty.1 (sym long_so))
always-made tag name indexes d r mask (Err (Broken place byte)) new long small empty makes = absurd empty
always-made tag name indexes d r mask (Err (OtherKey place byte)) new long small empty makes = absurd empty
always-made tag name indexes d r mask (Err OutOfMemory) new long small empty makes = cc

-- The store was not opened: the stop came.
pub unopened : (tag : List ℕ) (indexes : ℕ) (e : Disk) (d : DiskState) (error : StoreError) → OpensTo tag indexes e (Err error) d → (lets_pass e.armed (opening_calls e) ≡ false) × HoldsDisk tag indexes (crashed 0 d) (stopped e)
unopened tag indexes e d Fault h = h
unopened tag indexes e d (Taken len) h = absurd h
unopened tag indexes e d (Broken place byte) h = absurd h
unopened tag indexes e d (OtherKey place byte) h = absurd h
unopened tag indexes e d OutOfMemory h = absurd h
