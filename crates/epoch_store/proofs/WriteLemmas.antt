-- A write and a sync, one after the other.
use Rattle.std.proofs.Common.{◌≡◌, ℕ, List, length, Result, Ok, Err, OnOk, OnErr}
use Rattle.ports.specs.Disk.{Moment, LeavesImage, Fails, Settles, next, stays, torn_at, wrote}
use Rattle.ports.proofs.SinceLemmas.{Fails-after_write, Settles-fails}

pub synced_or_not : {T E : Type 0} → (result : Result T E) (a b : List Moment) → LeavesImage a → OnOk result (Settles a b) → OnErr result (Fails stays a b) → Fails stays a b
synced_or_not (Ok value) a b left settles fails = Settles-fails a b left settles
synced_or_not (Err error) a b left settles fails = fails

pub write_then_sync : {T E : Type 0} → (result : Result T E) (place : ℕ) (bytes : List ℕ) (a b c : List Moment) → b ≡ next (wrote place bytes) a → LeavesImage b → OnOk result (Settles b c) → OnErr result (Fails stays b c) → Fails (torn_at place (length bytes)) a c
write_then_sync result place bytes a b c is left settles fails =
    Fails-after_write place bytes a b c is (synced_or_not result b c left settles fails)
