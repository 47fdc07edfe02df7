-- The calls that make a store on a new disk.
use Rattle.std.proofs.Common.{◌≡◌, inl, inr, ℕ, ◌+◌, ◌^◌, ◌<◌, ◌≤◌, Bool, true, false, List, [], ◌∷◌, ◌++◌, length, drop, None, Some, refl, sym, ap, ◌∙◌, subst, arith, length-append, append-nil}
use Rattle.std.proofs.lemmas.List.{drop_all}
use Rattle.ff_ids.specs.declared.TheConstants.{MAX_RINGS}
use Rattle.ff_ids.specs.declared.Mask.{Mask}
use Rattle.ports.specs.Disk.{Moment, settled, written, wrote}
use Rattle.ports.specs.declared.memory_disk.Arm.{Arm}
use Rattle.ports.specs.DiskCalls.{ToOpen, ToMeasure, ToWrite, ToSync}
use Rattle.ports.specs.DiskSteps.{Came, makes, runs}
use Rattle.ports.specs.MemoryDisk.{DiskState, is_settled, moment_of, with_write}
use Rattle.epoch_store.specs.declared.Stored.{Stored}
use Rattle.epoch_store.specs.Store.{IsEntry, first_entry, front, made, made_wide, put_entries, spelled_by}
use Rattle.epoch_store.proofs.FileLemmas.{front-length, written_within}
use Rattle.world_rules.specs.Disks.{made_disk}
use Rattle.world_host.specs.Held.{HoldsDisk}
use Rattle.world_host.specs.DiskLaws.{IsNew, MakesAsTold}
use Rattle.world_host.proofs.BehindLemmas.{chain_made}
use Rattle.world_host.proofs.DiskTurns.{Up, pass_on, passes_next, up_next}
use Rattle.world_host.proofs.DiskIdle.{idle_runs, times_called}
use Rattle.world_host.proofs.DiskPuts.{fits_is, not_one, sync_passes, with_synced, write_passes}

-- what is written to an empty file is the file
written_new : (bytes : List ℕ) → 0 < length bytes → written 0 bytes [] ≡ bytes
written_new bytes some =
    let none : drop (0 + length bytes) [] ≡ [] = drop_all (0 + length bytes) [] (omega arith) in
    written_within 0 bytes [] some (omega arith) ∙ ap (λ (b : List ℕ). bytes ++ b) none ∙ append-nil bytes

length-first : (wide : Bool) (e : Stored) → length (spelled_by wide None e) ≤ 20
length-first true e = omega arith
length-first false e = omega arith

-- it is no longer than one write may be
length-made : (tag : List ℕ) (mask : Mask) → length tag ≡ 32 → let count = length (made tag (first_entry mask)) in (0 < count) × (count ≤ 62)
length-made tag mask long =
    let first : Stored = first_entry mask in
    let wide : Bool = made_wide first [] in
    let head = front-length wide tag [] long tt in
    let size = length-append (front wide tag []) (1 ∷ spelled_by wide None first) in
    let whole = length-append (front wide tag (put_entries tag first [])) (0 ∷ []) in
    let few = length-first wide first in
    (omega (arith, head, size, whole), omega (arith, head, size, whole, few))

entry-first : (mask : Mask) → mask.0 < 2 ^ MAX_RINGS → IsEntry (first_entry mask)
entry-first mask small = record { next_small = omega arith; epoch_small = omega arith; mask_small = small }

up_new : (n : ℕ) (d : DiskState) → IsNew n d → Up d None
up_new n d new = record { is = new.armed; sound = new.sound; runs = new.runs }

settled_new : (n : ℕ) (d : DiskState) → IsNew n d → moment_of d ≡ settled []
settled_new n d new = rw (new.start, new.log) refl

abbrev two : DiskState → DiskState
two d = times_called 2 d

abbrev three : List ℕ → Mask → DiskState → DiskState
three tag mask d = with_write 0 (made tag (first_entry mask)) (pass_on (two d))

abbrev four : List ℕ → Mask → DiskState → DiskState
four tag mask d = with_synced (pass_on (three tag mask d))

up_two : (n : ℕ) (d : DiskState) → IsNew n d → Up (two d) None
up_two n d new =
    let calls = ToMeasure ∷ ToOpen [] ∷ [] in
    elim (idle_runs calls None d (tt, (tt, tt)) (ap is_settled (settled_new n d new)) (up_new n d new)) [
      | inl p ↦ p.up
      | inr s ↦ absurd (none_armed s.arm s.is)
    ]
  where
    none_armed : (arm : Arm) → None ≡ Some arm → ⊥
    none_armed arm is = cc

measured : (name : List ℕ) (n : ℕ) (d : DiskState) → IsNew n d → runs (ToMeasure ∷ ToOpen name ∷ []) d ≡ record { disk = two d; failed = false }
measured name n d new =
    let calls = ToMeasure ∷ ToOpen name ∷ [] in
    elim (idle_runs calls None d (tt, (tt, tt)) (ap is_settled (settled_new n d new)) (up_new n d new)) [
      | inl p ↦ p.came_so
      | inr s ↦ absurd (none_armed s.arm s.is)
    ]
  where
    none_armed : (arm : Arm) → None ≡ Some arm → ⊥
    none_armed arm is = cc

written_three : (tag : List ℕ) (mask : Mask) (n : ℕ) (d : DiskState) → IsNew n d → moment_of (three tag mask d) ≡ wrote 0 (made tag (first_entry mask)) (settled [])
written_three tag mask n d new = ap (wrote 0 (made tag (first_entry mask))) (settled_new n d new)

pub make_as_told : MakesAsTold
make_as_told tag name n d mask new long small =
    let bytes = made tag (first_entry mask) in
    let size = length-made tag mask long in
    let up = up_two n d new in
    let log : length d.log ≡ 0 = ap length new.log in
    let fitting = fits_is (two d) 0 (length bytes) size.0 (omega (arith, size.1)) (omega (arith, size.1, new.room)) (omega (arith, log, new.changes)) in
    let wrote_so = ap (makes (ToWrite 0 bytes)) (measured name n d new) ∙ write_passes (two d) 0 bytes (passes_next (two d) None 0 up tt) fitting in
    let now = three tag mask d in
    let up_three : Up now None = let u = up_next (two d) None 0 up tt in record { is = u.is; sound = u.sound; runs = u.runs } in
    let last = up_next now None 0 up_three tt in
    let torn : is_settled (moment_of now) ≡ false = ap is_settled (written_three tag mask n d new) in
    let so = ap (makes ToSync) wrote_so ∙ sync_passes now (passes_next now None 0 up_three tt) torn (omega (arith, log, new.changes)) in
    let file : moment_of (four tag mask d) ≡ settled bytes =
    ap settled (ap (λ (m : Moment). m.image) (written_three tag mask n d new) ∙ written_new bytes size.0) in
    let P : Came → Type 0 = λ c. HoldsDisk tag n c.disk (made_disk mask) in
    let held : HoldsDisk tag n (four tag mask d) (made_disk mask) = record {
      shut = 0;
      rest = [];
      long = long;
      chain = chain_made tag (first_entry mask) (entry-first mask small);
      closed = not_one;
      file = file;
      few = omega arith;
      within = omega arith;
      armed = last.is;
      sound = last.sound;
      runs = last.runs;
      room = new.room;
      changes = omega (arith, log, new.changes);
    } in
    (ap (λ (c : Came). c.failed) so, subst P (sym so) held)
