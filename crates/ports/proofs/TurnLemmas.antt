-- What a call of a disk in memory does to its moments, by its turn.
use Rattle.std.proofs.Common.{◌≡◌, ℕ, ◌&&◌, ◌||◌, if◌then◌else◌, inl, inr, Bool, true, false, not, List, [], ◌∷◌, length, Result, Ok, Err, OnOk, OnErr, refl, sym, subst}
use Rattle.std.specs.Result.{is_err}
use Rattle.std.proofs.lemmas.List.{nil_from_length}
use Rattle.std.proofs.lemmas.Bool.{eqb-true}
use Rattle.ports.specs.Disk.{Moment, Fails, Settles, Since, IsAmong, stays, torn_at, wrote, settled}
use Rattle.ports.specs.declared.memory_disk.Change.TheVariants.{Synced}
use Rattle.ports.specs.declared.memory_disk.Turn.{Turn}
use Rattle.ports.specs.declared.memory_disk.Turn.TheVariants.{Passes, Fails as FailsNow, Stops}
use Rattle.ports.specs.MemoryDisk.{DiskState, moment_of, moments_of, picked, passes, called, stopped_by, stopped_or_not, written_by, with_sync, synced_by, can_sync, failed}
use Rattle.ports.specs.DiskLaws.{now_leaves, wrote_leaves}
use Rattle.ports.proofs.MomentLemmas.{picked_among, before_torn_among, wrote_among, settled_unless_torn}

-- the moments of a disk in memory
abbrev pub told : DiskState → List Moment
told disk = moments_of disk.start disk.log

-- a stop adds one moment, which leaves no more than the last one
stop_stays : (outcome : ℕ) (disk : DiskState) → Since (IsAmong (moment_of disk)) (told disk) (told (stopped_by outcome disk))
stop_stays outcome disk = record {
  more = settled (picked outcome (moment_of disk)) ∷ [];
  grew = refl;
  each = (picked_among outcome (moment_of disk) (now_leaves disk.start disk.log), tt);
}

nothing_new : (P : Moment → Type 0) (moments : List Moment) → Since P moments moments
nothing_new P moments = record { more = []; grew = refl; each = tt }

-- a call that changes nothing of the file
idle_stays : (turn : Turn) (disk : DiskState) → Fails stays (told disk) (told (stopped_or_not turn disk))
idle_stays Passes disk = nothing_new _ _
idle_stays FailsNow disk = nothing_new _ _
idle_stays (Stops outcome) disk = stop_stays outcome disk

-- a write that may not have come about, or not whole
write_torn : (turn : Turn) (fitting : Bool) (place : ℕ) (bytes : List ℕ) (disk : DiskState) → true ≡ not (passes turn && fitting) → Fails (torn_at place (length bytes)) (told disk) (told (written_by turn fitting place bytes disk))
write_torn Passes true place bytes disk failed = cc
write_torn Passes false place bytes disk failed = nothing_new _ _
write_torn FailsNow fitting place bytes disk failed = nothing_new _ _
write_torn (Stops outcome) true place bytes disk failed =
    let now = moment_of disk in
    let left = wrote_leaves place bytes now (now_leaves disk.start disk.log) in
    record {
      more = settled (picked outcome (wrote place bytes now)) ∷ wrote place bytes now ∷ [];
      grew = refl;
      each = (λ c leaves. wrote_among place bytes now c (picked_among outcome (wrote place bytes now) left c leaves), (wrote_among place bytes now, tt));
    }
write_torn (Stops outcome) false place bytes disk failed =
    let now = moment_of disk in
    record {
      more = settled (picked outcome now) ∷ [];
      grew = refl;
      each = (λ c leaves. before_torn_among place (length bytes) now c (picked_among outcome now (now_leaves disk.start disk.log) c leaves), tt);
    }

abbrev synced_if : Bool → Bool → DiskState → DiskState
synced_if settled roomy disk = if settled then disk else (if roomy then record disk { log = Synced ∷ disk.log } else failed disk)

sync_settles_by : (is_so roomy : Bool) (disk : DiskState) → (is_so ≡ true → moment_of disk ≡ settled (moment_of disk).image) → false ≡ not (is_so || roomy) → Settles (told disk) (told (synced_if is_so roomy disk))
sync_settles_by true roomy disk so ok = inr (so refl, refl)
sync_settles_by false true disk so ok = inl refl
sync_settles_by false false disk so ok = cc

sync_settles : (disk : DiskState) → false ≡ not (can_sync disk) → Settles (told disk) (told (with_sync disk))
sync_settles disk ok =
    sync_settles_by _ _ disk (λ none. settled_unless_torn disk.start disk.log (nil_from_length _ (eqb-true _ _ none))) ok

unsynced_by : (is_so roomy : Bool) (disk : DiskState) → true ≡ not (is_so || roomy) → Fails stays (told disk) (told (synced_if is_so roomy disk))
unsynced_by true roomy disk failed = cc
unsynced_by false true disk failed = cc
unsynced_by false false disk failed = nothing_new _ _

unsynced_stays : (disk : DiskState) → true ≡ not (can_sync disk) → Fails stays (told disk) (told (with_sync disk))
unsynced_stays disk failed = unsynced_by _ _ disk failed

-- a sync that comes about
sync_done : (turn : Turn) (disk : DiskState) → false ≡ not (passes turn && can_sync disk) → Settles (told disk) (told (synced_by turn disk))
sync_done Passes disk ok = sync_settles disk ok
sync_done FailsNow disk ok = cc
sync_done (Stops outcome) disk ok = cc

sync_stays : (turn : Turn) (disk : DiskState) → true ≡ not (passes turn && can_sync disk) → Fails stays (told disk) (told (synced_by turn disk))
sync_stays Passes disk failed = unsynced_stays disk failed
sync_stays FailsNow disk failed = nothing_new _ _
sync_stays (Stops outcome) disk failed = stop_stays outcome disk

on_err_if : {T E : Type 0} → (result : Result T E) (failing : Bool) (P : Type 0) → is_err result ≡ failing → (true ≡ failing → P) → OnErr result P
on_err_if (Ok value) failing P is p = tt
on_err_if (Err error) failing P is p = p is

on_ok_if : {T E : Type 0} → (result : Result T E) (failing : Bool) (P : Type 0) → is_err result ≡ failing → (false ≡ failing → P) → OnOk result P
on_ok_if (Ok value) failing P is p = p is
on_ok_if (Err error) failing P is p = tt

-- what a call did, from the state before it and after it
pub idle_failed : (old new : DiskState) (turn : Turn) → new ≡ stopped_or_not turn (called turn old) → Fails stays (told old) (told new)
idle_failed old new turn is = rw is (idle_stays turn (called turn old))

pub idle_stays_on_err : {T E : Type 0} → (result : Result T E) (old new : DiskState) (turn : Turn) → new ≡ stopped_or_not turn (called turn old) → OnErr result (Fails stays (told old) (told new))
idle_stays_on_err (Ok value) old new turn is = tt
idle_stays_on_err (Err error) old new turn is = idle_failed old new turn is

pub write_tears : {T E : Type 0} → (result : Result T E) (old new : DiskState) (turn : Turn) (fitting : Bool) (place : ℕ) (bytes : List ℕ) → is_err result ≡ not (passes turn && fitting) → new ≡ written_by turn fitting place bytes (called turn old) → OnErr result (Fails (torn_at place (length bytes)) (told old) (told new))
write_tears result old new turn fitting place bytes answer is =
    on_err_if result _ _ answer (λ failed. rw is (write_torn turn fitting place bytes (called turn old) failed))

pub sync_settles_on_ok : {T E : Type 0} → (result : Result T E) (old between new : DiskState) (turn : Turn) → between ≡ called turn old → is_err result ≡ not (passes turn && can_sync between) → new ≡ synced_by turn between → OnOk result (Settles (told old) (told new))
sync_settles_on_ok result old between new turn counted_is answer is =
    let P : DiskState → Type 0 = λ disk. is_err result ≡ not (passes turn && can_sync disk) → new ≡ synced_by turn disk → OnOk result (Settles (told old) (told new)) in
    subst P (sym counted_is) (λ failing after. on_ok_if result _ _ failing (λ ok. rw after (sync_done turn (called turn old) ok))) answer is

pub sync_stays_on_err : {T E : Type 0} → (result : Result T E) (old between new : DiskState) (turn : Turn) → between ≡ called turn old → is_err result ≡ not (passes turn && can_sync between) → new ≡ synced_by turn between → OnErr result (Fails stays (told old) (told new))
sync_stays_on_err result old between new turn counted_is answer is =
    let P : DiskState → Type 0 = λ disk. is_err result ≡ not (passes turn && can_sync disk) → new ≡ synced_by turn disk → OnErr result (Fails stays (told old) (told new)) in
    subst P (sym counted_is) (λ failing after. on_err_if result _ _ failing (λ failed. rw after (sync_stays turn (called turn old) failed))) answer is
