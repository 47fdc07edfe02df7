-- What comes of the making of a store, by its answer.
use Rattle.std.proofs.Common.{◌≡◌, ℕ, true, List, length, Result, Ok, Err, refl, subst, inl, inr}
use Rattle.ff_ids.specs.declared.Mask.{Mask}
use Rattle.ff_ids.specs.Masks.{all_rings}
use Rattle.line_text.specs.declared.bad_word.BadWord.{BadWord}
use Rattle.epoch_store.specs.declared.Stored.{Stored}
use Rattle.epoch_store.specs.declared.StoreError.{StoreError}
use Rattle.epoch_store.specs.declared.StoreError.TheVariants as store
use Rattle.epoch_store.specs.Asked.{MakesStore, make_calls}
use Rattle.epoch_store.specs.Calls.{MakesWhereEmpty, OnRefusal, SettlesAs, is_fault}
use Rattle.epoch_store.specs.Seat.{made_seat}
use Rattle.epoch_store.specs.Store.{IsSettled, first_entry, made}
use Rattle.play.specs.Plays.{IoState}
use Rattle.play.specs.declared.stop.Stop.{Stop}
use Rattle.play.specs.declared.stop.Stop.TheVariants as stop
use Rattle.ports.specs.Count.{counted}
use Rattle.ports.specs.Disk.{Fails, torn_at}
use Rattle.ports.specs.DiskCalls.{AsFarAs, with_calls}
use Rattle.schedule_texts.specs.declared.secret.SecretText.TheVariants as secret
use Rattle.whole_text.specs.Gathered.{IsUnfinished, nothing}
use Rattle.whole_text.proofs.WholeLemmas.{never-unwritten}
use Rattle.authority.specs.declared.halt.Halt.{Halt}
use Rattle.authority.specs.declared.halt.Halt.TheVariants as halt
use Rattle.authority.specs.declared.setting.Setting.{Setting}
use Rattle.authority.specs.Halts.{halt_for, halt_of}
use Rattle.ports.specs.Outside.{OfDisk}
use Rattle.authority.specs.Settings.{secret_judging, tag_of}
use Rattle.authority.specs.Telling.{is_writable}
use Rattle.authority.specs.Texts.{IsSecret}
use Rattle.authority.specs.Making.{IsMade, Makes, MakesBehind, first_of}

-- what is said of a tag and a mask is said of the setting's own
own : (P : List ℕ → Stored → Type 0) (tag : List ℕ) (mask : Mask) (s : Setting) → tag ≡ tag_of s → mask ≡ record { 0 = all_rings s.group.t } → P tag (first_entry mask) → P (tag_of s) (first_of s)
own P tag mask s tag_is mask_is h = subst (λ m. P (tag_of s) (first_entry m)) mask_is (subst (λ t. P t (first_entry mask)) tag_is h)

pub is-made : (name tag : List ℕ) (mask : Mask) (s : Setting) (old new : OfDisk) → tag ≡ tag_of s → mask ≡ record { 0 = all_rings s.group.t } → new.faults ≡ old.faults
    → new.calls ≡ with_calls (make_calls name tag (first_entry mask)) old.calls → MakesWhereEmpty old.moments (Ok tt)
    → SettlesAs (λ _. made tag (first_entry mask)) old.moments new.moments → IsSettled tag (first_entry mask) (made_seat tag (first_entry mask)) new.moments → IsMade name s old new
is-made name tag mask s old new tag_is mask_is faults calls empty image settled = record {
  faults = faults;
  calls = own (λ t f. new.calls ≡ with_calls (make_calls name t f) old.calls) tag mask s tag_is mask_is calls;
  empty = empty;
  image = own (λ t f. SettlesAs (λ _. made t f) old.moments new.moments) tag mask s tag_is mask_is image;
  store = own (λ t f. IsSettled t f (made_seat t f) new.moments) tag mask s tag_is mask_is settled;
}

abbrev failed : StoreError → Result (Unit {0}) StoreError
failed e = Err e

pub not-made : (name tag : List ℕ) (mask : Mask) (s : Setting) (between : IoState) (old new : OfDisk) (e : StoreError) → tag ≡ tag_of s → mask ≡ record { 0 = all_rings s.group.t } → new.faults ≡ counted (is_fault (failed e)) old.faults
    → MakesStore name tag (first_entry mask) (failed e) old.calls new.calls → MakesWhereEmpty old.moments (failed e)
    → OnRefusal (failed e) (new.moments ≡ old.moments) → Fails (torn_at 0 (length (made tag (first_entry mask)))) old.moments new.moments → MakesBehind name s between between old new (Err (halt_for e))
not-made name tag mask s between old new store.Fault tag_is mask_is faults calls taken refused moments = (
  refl,
  record {
    faults = faults;
    calls = own (λ t f. AsFarAs (make_calls name t f) old.calls new.calls) tag mask s tag_is mask_is calls;
    moments = own (λ t f. Fails (torn_at 0 (length (made t f))) old.moments new.moments) tag mask s tag_is mask_is moments;
  },
)
not-made name tag mask s between old new (store.Taken len) tag_is mask_is faults calls taken refused moments =
    (refl, record { faults = faults; calls = calls; has = taken.0; some = taken.1; same = refused })
not-made name tag mask s between old new (store.Broken place byte) tag_is mask_is faults calls taken refused moments = absurd taken
not-made name tag mask s between old new (store.OtherKey place byte) tag_is mask_is faults calls taken refused moments = absurd taken
not-made name tag mask s between old new store.OutOfMemory tag_is mask_is faults calls taken refused moments =
    (refl, record { faults = faults; calls = record { left_out = 0; made = calls }; same = refused })

-- a text that was read whole, and what came behind that
pub went : (name : List ℕ) (s : Setting) (was between now : IoState) (old new : OfDisk) (r : Result (Unit {0}) Halt) → IsSecret was between s → MakesBehind name s between now old new r → Makes name was now old new r
went name s was between now old new (Ok _) read h = record { setting = s; between = between; read = read; rest = h }
went name s was between now old new (Err (halt.Refused line w)) read h = absurd h
went name s was between now old new (Err halt.ReadFault) read h = absurd h
went name s was between now old new (Err halt.WriteFault) read h = record { setting = s; between = between; read = read; rest = h }
went name s was between now old new (Err halt.StoreFault) read h = record { setting = s; between = between; read = read; rest = h }
went name s was between now old new (Err (halt.StoreBroken place byte)) read h = absurd h
went name s was between now old new (Err (halt.StoreTaken len)) read h = record { setting = s; between = between; read = read; rest = h }
went name s was between now old new (Err (halt.Exhausted next)) read h = absurd h
went name s was between now old new (Err halt.OutOfMemory) read h = inr (record { setting = s; between = between; read = read; rest = h })

-- a text that wasn't read to its end
pub unread : (name : List ℕ) (was now : IoState) (disk : OfDisk) (s : Stop BadWord) → IsUnfinished secret_judging secret.Start was now s → Makes name was now disk disk (Err (halt_of s))
unread name was now disk (stop.Refused line w) h = (h, refl)
unread name was now disk stop.ReadFault h = (h, refl)
unread name was now disk stop.WriteFault h = absurd (never-unwritten secret_judging secret.Start was now (h nothing))
unread name was now disk stop.OutOfMemory h = inl (h, refl)

pub unread-writable : (was now : IoState) (s : Stop BadWord) → IsUnfinished secret_judging secret.Start was now s → is_writable (Err (halt_of s)) ≡ true
unread-writable was now (stop.Refused line w) h = refl
unread-writable was now stop.ReadFault h = refl
unread-writable was now stop.WriteFault h = absurd (never-unwritten secret_judging secret.Start was now (h nothing))
unread-writable was now stop.OutOfMemory h = refl
