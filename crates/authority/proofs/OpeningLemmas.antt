-- A store that is opened, or isn't.
use Rattle.std.proofs.Common.{◌≡◌, ℕ, List, [], ◌∷◌, Result, Err, refl, subst}
use Rattle.epoch_store.specs.declared.seat.Seat.{Seat}
use Rattle.epoch_store.specs.declared.StoreError.{StoreError}
use Rattle.epoch_store.specs.declared.StoreError.TheVariants as store
use Rattle.epoch_store.specs.declared.Stored.{Stored}
use Rattle.epoch_store.specs.Asked.{AsksToOpen, ReadsUpTo, open_calls}
use Rattle.epoch_store.specs.Calls.{HoldsStore, IsNotTaken, OnRead, OpensAs, SettlesAs, StoreState, is_fault, same}
use Rattle.epoch_store.specs.Store.{IsSettled, StoreAt}
use Rattle.ports.specs.Count.{counted}
use Rattle.ports.specs.Disk.{Fails, Moment, stays}
use Rattle.ports.proofs.SinceLemmas.{Fails-same}
use Rattle.authority.specs.declared.setting.Setting.{Setting}
use Rattle.authority.specs.Halts.{halt_for}
use Rattle.ports.specs.Outside.{OfDisk}
use Rattle.authority.specs.Settings.{tag_of}
use Rattle.authority.specs.Enrolling.{IsOpened, IsUnopened, OpensStore}

-- the store that the opened file is was found
held : (tag : List ℕ) (st : Stored) (seat : Seat) (old new : List Moment) → SettlesAs same old new → IsSettled tag st seat new → HoldsStore tag st seat old
held tag st seat [] new settles is = tt
held tag st seat (was ∷ older) [] settles is = absurd settles
held tag st seat (was ∷ older) (now ∷ past) settles is = subst (λ (m : Moment). StoreAt tag m.image st seat) settles is.1

pub opened : (name : List ℕ) (s : Setting) (tag : List ℕ) (st : StoreState) (old new : OfDisk) → tag ≡ tag_of s → new.faults ≡ old.faults → ReadsUpTo (open_calls name) old.moments st.seat old.calls new.calls → SettlesAs same old.moments new.moments → IsSettled tag st.state st.seat new.moments → Fails stays old.moments new.moments
    → IsOpened name s st.state st.seat old new
opened name s tag st old new tag_is faults calls settles is moments = record {
  faults = faults;
  calls = calls;
  found = subst (λ t. HoldsStore t st.state st.seat old.moments) tag_is (held tag st.state st.seat old.moments new.moments settles is);
  settled = subst (λ t. IsSettled t st.state st.seat new.moments) tag_is is;
  kept = moments;
}

abbrev failed : StoreError → Result StoreState StoreError
failed e = Err e

pub not-opened : (name : List ℕ) (s : Setting) (tag : List ℕ) (old new : OfDisk) (e : StoreError) → tag ≡ tag_of s → new.faults ≡ counted (is_fault (failed e)) old.faults → AsksToOpen name old.moments (failed e) old.calls new.calls → OpensAs tag old.moments (failed e) → IsNotTaken (failed e)
    → OnRead (failed e) (SettlesAs same old.moments new.moments) → Fails stays old.moments new.moments → OpensStore name s old new (Err (halt_for e))
not-opened name s tag old new store.Fault tag_is faults calls reads taken settles moments = record { faults = faults; calls = calls; moments = moments }
not-opened name s tag old new (store.Taken len) tag_is faults calls reads taken settles moments = absurd taken
not-opened name s tag old new (store.Broken place byte) tag_is faults calls reads taken settles moments =
    record { faults = faults; error = store.Broken place byte; is = refl; calls = calls; reads = subst (λ t. OpensAs t old.moments (failed (store.Broken place byte))) tag_is reads; settles = settles; kept = moments }
not-opened name s tag old new (store.OtherKey place byte) tag_is faults calls reads taken settles moments =
    record { faults = faults; error = store.OtherKey place byte; is = refl; calls = calls; reads = subst (λ t. OpensAs t old.moments (failed (store.OtherKey place byte))) tag_is reads; settles = settles; kept = moments }
not-opened name s tag old new store.OutOfMemory tag_is faults calls reads taken settles moments = record { faults = faults; calls = record { left_out = 0; made = calls }; moments = moments }

-- nothing was opened
pub unopened : (name : List ℕ) (disk : OfDisk) → IsUnopened name disk disk
unopened name disk = record { faults = refl; calls = record { left_out = 1; made = refl }; moments = Fails-same disk.moments disk.moments refl }
