-- What a stop within a put leaves of the store, by the outcome that picks the file.
use Rattle.std.proofs.Common.{◌≡◌, ◌≢◌, ℕ, ◌+◌, ◌<◌, ◌≤◌, ◌%◌, inl, inr, eqb, true, false, List, [], ◌∷◌, ◌++◌, length, take, drop, get_or, refl, sym, ap, ◌∙◌, subst, arith, append_assoc, length-append, length-take, eq-eqb}
use Rattle.std.proofs.lemmas.Bool.{cases_Bool, eqb-true, false≢true}
use Rattle.std.proofs.lemmas.Bool.Decides.{nat_tests}
use Rattle.ports.specs.Disk.{Moment, Leaves, LeavesItself, settled, torn_at, written, wrote}
use Rattle.ports.specs.MemoryDisk.{picked, garbled, is_unstable}
use Rattle.ports.specs.DiskLaws.{length-written, settled_leaves, wrote_leaves}
use Rattle.ports.proofs.MomentLemmas.{get_or-garbled_unstable, picked_leaves, wrote_among}
use Rattle.epoch_store.specs.declared.Stored.{Stored}
use Rattle.epoch_store.specs.declared.entry.Entry.{Entry}
use Rattle.epoch_store.specs.declared.seat.Seat.{Seat}
use Rattle.epoch_store.specs.Seat.{behind, entry_for, next_seat}
use Rattle.epoch_store.specs.Store.{spelled, IsEntry, IsEntryOf, Follows, StoreAt}
use Rattle.epoch_store.specs.Placed.{leaves_open}
use Rattle.epoch_store.proofs.FileLemmas.{behind_gate, front_of, gate_open, store_gate, store_tag, opened, shut_still, torn_entry, with_entry, written_within}
use Rattle.epoch_store.proofs.PutLemmas.{put_entry_of, put_tag}
use Rattle.epoch_store.proofs.PlacedLemmas.{entry_of, entry_written, gate_synced, gate_written}

-- in the write of the entry or in its sync: the gate wasn't touched
pub stopped_at_entry : (tag image : List ℕ) (state : Stored) (seat : Seat) (e : Entry) (outcome : ℕ) → StoreAt tag image state seat → StoreAt tag (picked outcome (entry_written seat e (settled image))) state seat
stopped_at_entry tag image state seat e outcome store =
    let now : Moment = settled image in
    let m : Moment = wrote (seat.gate + 1) (entry_of seat.wide e) now in
    let left : LeavesItself m = wrote_leaves (seat.gate + 1) (entry_of seat.wide e) now (settled_leaves image) in
    behind_gate tag image (picked outcome m) state seat (length (entry_of seat.wide e)) store (wrote_among (seat.gate + 1) (entry_of seat.wide e) now (picked outcome m) (picked_leaves outcome m left))

-- ---- the byte of the gate

byte_behind : (before rest : List ℕ) (x : ℕ) → get_or (before ++ x ∷ rest) (length before) 0 ≡ x
byte_behind [] rest x = refl
byte_behind (b ∷ before) rest x = byte_behind before rest x

byte_at : (before rest : List ℕ) (x gate : ℕ) → gate ≡ length before → get_or (before ++ x ∷ rest) gate 0 ≡ x
byte_at before rest x gate place = ap (λ (i : ℕ). get_or (before ++ x ∷ rest) i 0) place ∙ byte_behind before rest x

byte_written : (full : List ℕ) (gate : ℕ) → gate < length full → get_or (written gate (1 ∷ []) full) gate 0 ≡ 1
byte_written full gate within =
    let some : 0 < 1 = omega arith in
    let inside : gate ≤ length full = omega arith in
    let size : gate ≡ length (take gate full) = simp length-take (omega arith) in
    let bytes : List ℕ = 1 ∷ [] in
    let rest : List ℕ = drop (gate + length bytes) full in
    let last : get_or (take gate full ++ 1 ∷ rest) gate 0 ≡ 1 = byte_at (take gate full) rest 1 gate size in
    rw (written_within gate (1 ∷ []) full some inside, append_assoc (take gate full) (1 ∷ []) rest) last

byte_unstable : (full : List ℕ) (gate : ℕ) → is_unstable ((gate, 1) ∷ []) (length full) (0 + gate) ≡ true
byte_unstable full gate = grind (arith, nat_tests)

long_written : (full : List ℕ) (gate : ℕ) → gate < length full → gate < length (written gate (1 ∷ []) full)
long_written full gate within = omega (arith, length-written gate (1 ∷ []) full)

-- the gate is open exactly where the outcome leaves it so
byte_picked : (full : List ℕ) (gate outcome : ℕ) → gate < length full → get_or full gate 0 ≢ 1 → eqb (get_or (picked outcome (wrote gate (1 ∷ []) (settled full))) gate 0) 1 ≡ leaves_open outcome gate
byte_picked full gate outcome within closed =
    let shut : eqb (get_or full gate 0) 1 ≡ false = grind (arith, nat_tests, closed) in
    let made : get_or (garbled outcome ((gate, 1) ∷ []) (length full) 0 (written gate (1 ∷ []) full)) gate 0 ≡ (outcome + (0 + gate)) % 256 =
    get_or-garbled_unstable outcome ((gate, 1) ∷ []) (length full) 0 gate (written gate (1 ∷ []) full) (long_written full gate within) (byte_unstable full gate) in
    let zero_more : 0 + gate ≡ gate = omega arith in
    elim (cases_Bool (eqb outcome 0)) [
      | inl none ↦ rw none shut
      | inr some ↦ elim (cases_Bool (eqb outcome 1)) [
        | inl one ↦ rw (some, one) (ap (λ (b : ℕ). eqb b 1) (byte_written full gate within))
        | inr more ↦ rw (some, more) (ap (λ (b : ℕ). eqb b 1) (made ∙ ap (λ (i : ℕ). (outcome + i) % 256) zero_more))
      ]
    ]

-- ---- in the write of the gate or in its sync

-- the store has the entry, or not
record IsDecided (tag c : List ℕ) (state : Stored) (seat : Seat) (e : Entry) : Type 0 where
  has : get_or c seat.gate 0 ≡ 1 → StoreAt (behind seat e).tag c e.kept (behind seat e)
  hasnt : get_or c seat.gate 0 ≢ 1 → StoreAt tag c state seat

decided : (tag image full c rest : List ℕ) (state : Stored) (seat : Seat) (e : Entry) (store : StoreAt tag image state seat) → IsEntryOf seat.wide e → Follows state e.kept
    → full ≡ front_of store ++ store.shut ∷ (spelled seat.wide e ++ 0 ∷ rest) → Leaves (torn_at seat.gate 1 (settled full)) c → IsDecided tag c state seat e
decided tag image full c rest state seat e store entry follows is leaves =
    let gate = store_gate tag image state seat store in
    let torn = torn_entry (front_of store) (spelled seat.wide e) rest full c seat.gate store.shut gate is leaves in
    let byte : get_or c seat.gate 0 ≡ torn.0 = ap (λ (b : List ℕ). get_or b seat.gate 0) torn.2 ∙ byte_at (front_of store) (spelled seat.wide e ++ 0 ∷ torn.1) torn.0 seat.gate gate in
    record {
      has = λ one. opened tag image c torn.1 state seat e store entry follows (torn.2 ∙ ap (λ (x : ℕ). front_of store ++ x ∷ (spelled seat.wide e ++ 0 ∷ torn.1)) (sym byte ∙ one));
      hasnt = λ other. shut_still tag image c (spelled seat.wide e ++ 0 ∷ torn.1) state seat torn.0 store (λ one. other (byte ∙ one)) torn.2;
    }

-- as the outcome leaves the gate
pub record LeavesGate (tag c : List ℕ) (state : Stored) (seat : Seat) (e : Entry) (outcome : ℕ) : Type 0 where
  pub open_ : leaves_open outcome seat.gate ≡ true → StoreAt (behind seat e).tag c e.kept (behind seat e)
  pub shut : leaves_open outcome seat.gate ≡ false → StoreAt tag c state seat

pub stopped_at_gate : (tag image : List ℕ) (state : Stored) (seat : Seat) (e : Entry) (outcome : ℕ) → StoreAt tag image state seat → IsEntryOf seat.wide e → Follows state e.kept → LeavesGate tag (picked outcome (gate_written seat e (settled image))) state seat e outcome
stopped_at_gate tag image state seat e outcome store entry follows =
    let full : List ℕ = written (seat.gate + 1) (entry_of seat.wide e) image in
    let m : Moment = wrote seat.gate (1 ∷ []) (settled full) in
    let c : List ℕ = picked outcome m in
    let before = front_of store in
    let shape = with_entry tag image (entry_of seat.wide e) state seat e store refl in
    let left : LeavesItself m = wrote_leaves seat.gate (1 ∷ []) (settled full) (settled_leaves full) in
    let leaves : Leaves (torn_at seat.gate 1 (settled full)) c = wrote_among seat.gate (1 ∷ []) (settled full) c (picked_leaves outcome m left) in
    let by = decided tag image full c shape.0 state seat e store entry follows shape.1 leaves in
    let within : seat.gate < length full = omega (arith, (store_gate tag image state seat store), ap length shape.1, length-append before (store.shut ∷ (spelled seat.wide e ++ 0 ∷ shape.0))) in
    let was : get_or full seat.gate 0 ≡ store.shut = ap (λ (b : List ℕ). get_or b seat.gate 0) shape.1 ∙ byte_at before (spelled seat.wide e ++ 0 ∷ shape.0) store.shut seat.gate (store_gate tag image state seat store) in
    let byte = byte_picked full seat.gate outcome within (λ one. store.closed (sym was ∙ one)) in
    record {
      open_ = λ opens. by.has (eqb-true _ _ (byte ∙ opens));
      shut = λ none. by.hasnt (λ one. false≢true (sym none ∙ sym byte ∙ eq-eqb (get_or c seat.gate 0) 1 one));
    }

-- ---- a put of a state

-- the store behind it has the tag of the store before
put_store : (tag image c : List ℕ) (state next : Stored) (seat : Seat) → StoreAt tag image state seat → StoreAt (next_seat seat next).tag c next (next_seat seat next) → StoreAt tag c next (next_seat seat next)
put_store tag image c state next seat store after =
    subst (λ (t : List ℕ). StoreAt t c next (next_seat seat next)) (put_tag seat next ∙ store.in_force) after

-- when all of its calls were made
pub put_whole : (tag image : List ℕ) (state next : Stored) (seat : Seat) → StoreAt tag image state seat → IsEntry next → Follows state next → StoreAt tag (gate_synced seat (entry_for seat next) (settled image)).image next (next_seat seat next)
put_whole tag image state next seat store entry follows =
    let e : Entry = entry_for seat next in
    let c : List ℕ = (gate_synced seat e (settled image)).image in
    let shape = with_entry tag image (entry_of seat.wide e) state seat e store refl in
    put_store tag image c state next seat store
    (gate_open tag image (written (seat.gate + 1) (entry_of seat.wide e) image) shape.0 state seat e store (put_entry_of seat next (store_tag tag image state seat store) entry) follows shape.1)

-- in the write of the gate or in its sync: as the outcome leaves the gate
pub record LeavesPut (tag c : List ℕ) (state next : Stored) (seat : Seat) (outcome : ℕ) : Type 0 where
  pub open_ : leaves_open outcome seat.gate ≡ true → StoreAt tag c next (next_seat seat next)
  pub shut : leaves_open outcome seat.gate ≡ false → StoreAt tag c state seat

pub put_at_gate : (tag image : List ℕ) (state next : Stored) (seat : Seat) (outcome : ℕ) → StoreAt tag image state seat → IsEntry next → Follows state next
    → LeavesPut tag (picked outcome (gate_written seat (entry_for seat next) (settled image))) state next seat outcome
put_at_gate tag image state next seat outcome store entry follows =
    let e : Entry = entry_for seat next in
    let c : List ℕ = picked outcome (gate_written seat e (settled image)) in
    let leaves = stopped_at_gate tag image state seat e outcome store (put_entry_of seat next (store_tag tag image state seat store) entry) follows in record {
      open_ = λ opens. put_store tag image c state next seat store (leaves.open_ opens);
      shut = leaves.shut;
    }
