-- The slots, and the map that they stand for.
use Rattle.std.proofs.Common.{◌≡◌, ◌≢◌, ℕ, zero, suc, ◌+◌, ◌-◌, ◌*◌, ◌/◌, ◌%◌, ◌<◌, ◌≤◌, Bool, true, false, cond, eqb, List, [], ◌∷◌, ◌++◌, length, map, get_or, Some, None, IsSome, refl, ap, sym, subst, ◌∙◌, arith, get_or-set_same, get_or-set_other, length-set, ◌⊎◌, inl, inr}
use Rattle.std.specs.Prelude.{slice_set}
use Rattle.std.specs.Option.{option_map}
use Rattle.std.specs.FinMap.{get, insert, remove, find, same_map, get-insert, get-remove, get-from_entries}
use Rattle.std.proofs.lemmas.Bool.{cases_lt, true≢false}
use Rattle.std.proofs.lemmas.Bool.Decides.{nat_tests}
use Rattle.ff_ids.specs.declared.TheConstants.{MAX_RINGS, MEMBERS}
use Rattle.ff_ids.specs.declared.summary.RecordKey.{RecordKey}
use Rattle.ff_ids.specs.declared.summary.RecordKey.TheVariants as keys
use Rattle.record_slots.specs.declared.layout.TheConstants.{SLOTS, SLOTS_EACH}
use Rattle.record_slots.specs.Held.{changed, key_cmp}
use Rattle.record_slots.specs.Slots.{Slot, slot_of, member_of, HasSlot, key_of_part, key_at, taken_from, held_in}
use Rattle.record_slots.proofs.KeyLemmas.{key_cmp_total, key_cmp-IsAntisymmetric, is_key, is_key-true, is_key-same, is_key-other, held-changed}

-- ---- keys and slots

part_0 : (m part : ℕ) → part ≡ 0 → key_of_part m part ≡ keys.Certificate m
part_0 m part e = ap (key_of_part m) e

part_1 : (m part : ℕ) → part ≡ 1 → key_of_part m part ≡ keys.Note m
part_1 m part e = ap (key_of_part m) e

part_ring : (m part r : ℕ) → part ≡ 2 + r → r < MAX_RINGS → key_of_part m part ≡ keys.Accusation m (record { 0 = r })
part_ring m part r e h =
    let not_0 : eqb (2 + r) 0 ≡ false = grind (arith, nat_tests) in
    let not_1 : eqb (2 + r) 1 ≡ false = grind (arith, nat_tests) in
    let not_last : eqb (2 + r) (2 + MAX_RINGS) ≡ false = grind (arith, nat_tests, h) in
    let left : 2 + r - 2 ≡ r = omega arith in
    let ring : RecordKey = keys.Accusation m (record { 0 = 2 + r - 2 }) in
    ap (key_of_part m) e
    ∙ ap (λ b. cond b (keys.Certificate m) (cond (eqb (2 + r) 1) (keys.Note m) (cond (eqb (2 + r) (2 + MAX_RINGS)) (keys.Removal m) ring))) not_0
    ∙ ap (λ b. cond b (keys.Note m) (cond (eqb (2 + r) (2 + MAX_RINGS)) (keys.Removal m) ring)) not_1
    ∙ ap (λ b. cond b (keys.Removal m) ring) not_last
    ∙ ap (λ (s : ℕ). keys.Accusation m (record { 0 = s })) left

part_last : (m part : ℕ) → part ≡ 2 + MAX_RINGS → key_of_part m part ≡ keys.Removal m
part_last m part e = ap (key_of_part m) e

pub key_at-slot_of : (k : RecordKey) → HasSlot k → key_at (slot_of k) ≡ k
key_at-slot_of (keys.Certificate m) h =
    let whole : SLOTS_EACH * m / SLOTS_EACH ≡ m = omega arith in
    let part : SLOTS_EACH * m % SLOTS_EACH ≡ 0 = omega arith in
    part_0 (SLOTS_EACH * m / SLOTS_EACH) (SLOTS_EACH * m % SLOTS_EACH) part ∙ ap keys.Certificate whole
key_at-slot_of (keys.Note m) h =
    let whole : (SLOTS_EACH * m + 1) / SLOTS_EACH ≡ m = omega arith in
    let part : (SLOTS_EACH * m + 1) % SLOTS_EACH ≡ 1 = omega arith in
    part_1 ((SLOTS_EACH * m + 1) / SLOTS_EACH) ((SLOTS_EACH * m + 1) % SLOTS_EACH) part ∙ ap keys.Note whole
key_at-slot_of (keys.Accusation m ring) h =
    let whole : (SLOTS_EACH * m + 2 + ring.0) / SLOTS_EACH ≡ m = omega (arith, h) in
    let part : (SLOTS_EACH * m + 2 + ring.0) % SLOTS_EACH ≡ 2 + ring.0 = omega (arith, h) in
    part_ring ((SLOTS_EACH * m + 2 + ring.0) / SLOTS_EACH) ((SLOTS_EACH * m + 2 + ring.0) % SLOTS_EACH) ring.0 part h ∙ ap (λ k. keys.Accusation k ring) whole
key_at-slot_of (keys.Removal m) h =
    let whole : (SLOTS_EACH * m + 2 + MAX_RINGS) / SLOTS_EACH ≡ m = omega arith in
    let part : (SLOTS_EACH * m + 2 + MAX_RINGS) % SLOTS_EACH ≡ 2 + MAX_RINGS = omega arith in
    part_last ((SLOTS_EACH * m + 2 + MAX_RINGS) / SLOTS_EACH) ((SLOTS_EACH * m + 2 + MAX_RINGS) % SLOTS_EACH) part ∙ ap keys.Removal whole

-- what is known of the key of a part
record IsPart (m part : ℕ) (k : RecordKey) : Type 0 where
  slot : slot_of k ≡ SLOTS_EACH * m + part
  member : member_of k ≡ m
  has_slot : HasSlot k

is_part : (m part : ℕ) → part < SLOTS_EACH → IsPart m part (key_of_part m part)
is_part m zero h = record { slot = omega arith; member = refl; has_slot = tt }
is_part m (suc zero) h = record { slot = omega arith; member = refl; has_slot = tt }
is_part m (suc (suc r)) h = by_ring (cases_lt r MAX_RINGS)
  where
    by_ring : (r < MAX_RINGS) ⊎ (MAX_RINGS ≤ r) → IsPart m (suc (suc r)) (key_of_part m (suc (suc r)))
    by_ring (inl below) =
        let more : suc (suc r) ≡ 2 + r = omega arith in
        subst (IsPart m (suc (suc r))) (sym (part_ring m (suc (suc r)) r more below)) (record { slot = omega arith; member = refl; has_slot = below })
    by_ring (inr above) =
        let last : suc (suc r) ≡ 2 + MAX_RINGS = omega (arith, h, above) in
        subst (IsPart m (suc (suc r))) (sym (part_last m (suc (suc r)) last)) (record { slot = omega (arith, last); member = refl; has_slot = tt })

at_part : (slot : ℕ) → IsPart (slot / SLOTS_EACH) (slot % SLOTS_EACH) (key_at slot)
at_part slot = is_part (slot / SLOTS_EACH) (slot % SLOTS_EACH) (omega arith)

pub slot_of-key_at : (slot : ℕ) → slot_of (key_at slot) ≡ slot
slot_of-key_at slot = omega (arith, (at_part slot).slot)

-- There is a slot for the key.
pub record IsSlotted (k : RecordKey) : Type 0 where
  pub member : member_of k < MEMBERS
  pub slot : HasSlot k

pub slotted_at : (slot : ℕ) → slot < SLOTS → IsSlotted (key_at slot)
slotted_at slot h = record { member = omega (arith, (at_part slot).member); slot = (at_part slot).has_slot }

pub slot_below : (k : RecordKey) → IsSlotted k → slot_of k < SLOTS
slot_below (keys.Certificate m) h = omega (arith, h.member)
slot_below (keys.Note m) h = omega (arith, h.member)
slot_below (keys.Accusation m ring) h = omega (arith, h.member, h.slot)
slot_below (keys.Removal m) h = omega (arith, h.member)

-- ---- the map of the slots

-- no slot from this one on is the key's
not_found : {X : Type 0} (k : RecordKey) (slot : ℕ) (slots : List (Slot X)) → ((a : ℕ) → slot ≤ a → a < slot + length slots → k ≢ key_at a) → find key_cmp k (taken_from slot slots) ≡ None
not_found k slot [] none = refl
not_found k slot (None ∷ slots) none = not_found k (slot + 1) slots (λ a low high. none a (omega (arith, low)) (omega (arith, high)))
not_found k slot (Some c ∷ slots) none =
    ap (λ b. cond b (Some c) (find key_cmp k (taken_from (slot + 1) slots))) (is_key-other k (key_at slot) (none slot (omega arith) (omega arith)))
    ∙ not_found k (slot + 1) slots (λ a low high. none a (omega (arith, low)) (omega (arith, high)))

not_at : (k : RecordKey) (a : ℕ) → slot_of k ≢ a → k ≢ key_at a
not_at k a apart e = apart (ap slot_of e ∙ slot_of-key_at a)

found_at : {X : Type 0} (k : RecordKey) (slot j : ℕ) (slots : List (Slot X)) → HasSlot k → slot_of k ≡ slot + j → find key_cmp k (taken_from slot slots) ≡ get_or slots j None
found_at k slot j [] h at = refl
found_at k slot zero (None ∷ slots) h at = not_found k (slot + 1) slots (λ a low high. not_at k a (λ e. absurd (omega (arith, e, low, at))))
found_at k slot zero (Some c ∷ slots) h at =
    let here : slot_of k ≡ slot = omega arith in
    let same : k ≡ key_at slot = sym (key_at-slot_of k h) ∙ ap key_at here in
    ap (λ b. cond b (Some c) (find key_cmp k (taken_from (slot + 1) slots))) (ap (is_key k) (sym same) ∙ is_key-same k)
found_at k slot (suc j) (None ∷ slots) h at = found_at k (slot + 1) j slots h (omega arith)
found_at k slot (suc j) (Some c ∷ slots) h at =
    ap (λ b. cond b (Some c) (find key_cmp k (taken_from (slot + 1) slots))) (is_key-other k (key_at slot) (not_at k slot (λ e. absurd (omega (arith, e, at)))))
    ∙ found_at k (slot + 1) j slots h (omega arith)

-- what is held under a key that has a slot
pub get-held_in : {X : Type 0} (slots : List (Slot X)) (k : RecordKey) → HasSlot k → get (held_in slots) k ≡ get_or slots (slot_of k) None
get-held_in slots k h = get-from_entries key_cmp_total (taken_from 0 slots) k ∙ found_at k 0 (slot_of k) slots h (omega arith)

-- nothing is held under any other
pub get-unslotted : {X : Type 0} (slots : List (Slot X)) (k : RecordKey) → length slots ≤ SLOTS → (IsSlotted k → ⊥) → get (held_in slots) k ≡ None
get-unslotted slots k long never =
    get-from_entries key_cmp_total (taken_from 0 slots) k ∙ not_found k 0 slots (λ a low high e. never (subst IsSlotted (sym e) (slotted_at a (omega (arith, high, long)))))

with_member : (k : RecordKey) → HasSlot k → IsSlotted k ⊎ (IsSlotted k → ⊥)
with_member k h = by_number (cases_lt (member_of k) MEMBERS)
  where
    by_number : (member_of k < MEMBERS) ⊎ (MEMBERS ≤ member_of k) → IsSlotted k ⊎ (IsSlotted k → ⊥)
    by_number (inl below) = inl (record { member = below; slot = h })
    by_number (inr above) = inr (λ s. absurd (omega (arith, s.member, above)))

pub is_slotted : (k : RecordKey) → IsSlotted k ⊎ (IsSlotted k → ⊥)
is_slotted (keys.Certificate m) = with_member (keys.Certificate m) tt
is_slotted (keys.Note m) = with_member (keys.Note m) tt
is_slotted (keys.Removal m) = with_member (keys.Removal m) tt
is_slotted (keys.Accusation m ring) = by_ring (cases_lt ring.0 MAX_RINGS)
  where
    by_ring : (ring.0 < MAX_RINGS) ⊎ (MAX_RINGS ≤ ring.0) → IsSlotted (keys.Accusation m ring) ⊎ (IsSlotted (keys.Accusation m ring) → ⊥)
    by_ring (inl below) = with_member (keys.Accusation m ring) below
    by_ring (inr above) = inr (λ s. absurd (omega (arith, s.slot, above)))

-- who holds something has a slot
pub held-slotted : {X : Type 0} (slots : List (Slot X)) (k : RecordKey) → length slots ≤ SLOTS → IsSome (get (held_in slots) k) → IsSlotted k
held-slotted slots k long some = by_slot (is_slotted k)
  where
    by_slot : IsSlotted k ⊎ (IsSlotted k → ⊥) → IsSlotted k
    by_slot (inl s) = s
    by_slot (inr never) = let none = subst IsSome (get-unslotted slots k long never) some in absurd (true≢false (sym none))

-- ---- the same slots

-- slots that hold the same, one by one, hold the same records
pub held_in-same : {X : Type 0} (slots others : List (Slot X)) → length slots ≤ SLOTS → length others ≤ SLOTS → ((j : ℕ) → get_or slots j None ≡ get_or others j None) → held_in slots ≡ held_in others
held_in-same slots others few few_others same =
    same_map key_cmp_total key_cmp-IsAntisymmetric _ _ (λ q. by_slot q (is_slotted q))
  where
    by_slot : (q : RecordKey) → IsSlotted q ⊎ (IsSlotted q → ⊥) → get (held_in slots) q ≡ get (held_in others) q
    by_slot q (inl s) = get-held_in slots q s.slot ∙ same (slot_of q) ∙ sym (get-held_in others q s.slot)
    by_slot q (inr never) = get-unslotted slots q few never ∙ sym (get-unslotted others q few_others never)

-- ---- writing a slot

-- what is written is there
abbrev pub IsWritten : {X : Type 0} → List (Slot X) → ℕ → Slot X → Type 0
IsWritten slots slot o = get_or (slice_set slots slot o) slot None ≡ o

pub written : {X : Type 0} (slots : List (Slot X)) (slot : ℕ) (o : Slot X) → slot < length slots → IsWritten slots slot o
written slots slot o below = get_or-set_same slots slot o None below

pub cleared : {X : Type 0} (slots : List (Slot X)) (slot : ℕ) → IsWritten slots slot None
cleared [] slot = refl
cleared (o ∷ slots) zero = refl
cleared (o ∷ slots) (suc slot) = cleared slots slot

-- nothing changes where there is no such slot
pub unreached : {X : Type 0} (slots : List (Slot X)) (slot : ℕ) → length slots ≤ slot → slice_set slots slot None ≡ slots
unreached [] slot h = refl
unreached (o ∷ slots) zero h = absurd (omega arith)
unreached {X} (o ∷ slots) (suc slot) h = ap (λ (os : List (Slot X)). o ∷ os) (unreached slots slot (omega (arith, h)))

set_slotted : {X : Type 0} (slots : List (Slot X)) (k q : RecordKey) (o : Slot X) → IsWritten slots (slot_of k) o → IsSlotted k → IsSlotted q → (b : Bool) → is_key q k ≡ b → get_or (slice_set slots (slot_of k) o) (slot_of q) None ≡ cond b o (get_or slots (slot_of q) None)
set_slotted slots k q o there at s true same =
    ap (λ (i : ℕ). get_or (slice_set slots (slot_of k) o) i None) (ap slot_of (is_key-true q k same)) ∙ there
set_slotted slots k q o there at s false off =
    let apart : slot_of q ≢ slot_of k = λ e. true≢false (sym (is_key-same k) ∙ ap (λ x. is_key x k) (sym (key_at-slot_of k at.slot) ∙ ap key_at (sym e) ∙ key_at-slot_of q s.slot) ∙ off) in
    get_or-set_other slots (slot_of k) (slot_of q) o None apart

set_at : {X : Type 0} (slots : List (Slot X)) (k q : RecordKey) (o : Slot X) → length slots ≤ SLOTS → IsWritten slots (slot_of k) o → IsSlotted k → get (held_in (slice_set slots (slot_of k) o)) q ≡ cond (is_key q k) o (get (held_in slots) q)
set_at slots k q o few there at = by_slot (is_slotted q)
  where
    still : length (slice_set slots (slot_of k) o) ≤ SLOTS
    still = omega (arith, length-set slots (slot_of k) o, few)

    by_slot : IsSlotted q ⊎ (IsSlotted q → ⊥) → get (held_in (slice_set slots (slot_of k) o)) q ≡ cond (is_key q k) o (get (held_in slots) q)
    by_slot (inl s) =
        get-held_in (slice_set slots (slot_of k) o) q s.slot ∙ set_slotted slots k q o there at s (is_key q k) refl ∙ ap (cond (is_key q k) o) (sym (get-held_in slots q s.slot))
    by_slot (inr never) =
        let apart : is_key q k ≡ false = is_key-other q k (λ e. never (subst IsSlotted (sym e) at)) in
        get-unslotted (slice_set slots (slot_of k) o) q still never ∙ sym (ap (λ b. cond b o (get (held_in slots) q)) apart ∙ get-unslotted slots q few never)

pub held_in-put : {X : Type 0} (slots : List (Slot X)) (k : RecordKey) (c : X) → length slots ≤ SLOTS → slot_of k < length slots → IsSlotted k → held_in (slice_set slots (slot_of k) (Some c)) ≡ insert (held_in slots) k c
held_in-put slots k c few below at =
    same_map key_cmp_total key_cmp-IsAntisymmetric _ _ (λ q. set_at slots k q (Some c) few (written slots (slot_of k) (Some c) below) at ∙ sym (get-insert key_cmp_total (held_in slots) k c q))

pub held_in-drop : {X : Type 0} (slots : List (Slot X)) (k : RecordKey) → length slots ≤ SLOTS → IsSlotted k → held_in (slice_set slots (slot_of k) None) ≡ remove (held_in slots) k
held_in-drop slots k few at =
    same_map key_cmp_total key_cmp-IsAntisymmetric _ _ (λ q. set_at slots k q None few (cleared slots (slot_of k)) at ∙ sym (get-remove key_cmp_total (held_in slots) k q))

-- nothing is dropped where there is no slot
pub held_in-no_drop : {X : Type 0} (slots : List (Slot X)) (k : RecordKey) → length slots ≤ SLOTS → (IsSlotted k → ⊥) → held_in slots ≡ remove (held_in slots) k
held_in-no_drop slots k few never =
    same_map key_cmp_total key_cmp-IsAntisymmetric _ _ (λ q. by_key q (is_key q k) refl ∙ sym (get-remove key_cmp_total (held_in slots) k q))
  where
    by_key : (q : RecordKey) (b : Bool) → is_key q k ≡ b → get (held_in slots) q ≡ cond b None (get (held_in slots) q)
    by_key q true same = ap (get (held_in slots)) (is_key-true q k same) ∙ get-unslotted slots k few never
    by_key q false off = refl

-- a push of an empty slot
pub push-none : {X : Type 0} (slots : List (Slot X)) (k : ℕ) → get_or (slots ++ None ∷ []) k None ≡ get_or slots k None
push-none [] zero = refl
push-none [] (suc k) = refl
push-none (o ∷ slots) zero = refl
push-none (o ∷ slots) (suc k) = push-none slots k

-- ---- each of them is changed

pub get-mapped : {X : Type 0} (f : X → X) (slots : List (Slot X)) (k : ℕ) → get_or (map (option_map f) slots) k None ≡ option_map f (get_or slots k None)
get-mapped f [] k = refl
get-mapped f (o ∷ slots) zero = refl
get-mapped f (o ∷ slots) (suc k) = get-mapped f slots k

pub held_in-changed : {X : Type 0} (f : X → X) (slots : List (Slot X)) → length slots ≤ SLOTS → length (map (option_map f) slots) ≤ SLOTS → held_in (map (option_map f) slots) ≡ changed f (held_in slots)
held_in-changed {X} f slots few few_after =
    same_map key_cmp_total key_cmp-IsAntisymmetric _ _ (λ q. by_slot q (is_slotted q) ∙ sym (held-changed f (held_in slots) q))
  where
    by_slot : (q : RecordKey) → IsSlotted q ⊎ (IsSlotted q → ⊥) → get (held_in (map (option_map f) slots)) q ≡ option_map f (get (held_in slots) q)
    by_slot q (inl s) = get-held_in (map (option_map f) slots) q s.slot ∙ get-mapped f slots (slot_of q) ∙ ap (option_map f) (sym (get-held_in slots q s.slot))
    by_slot q (inr never) = get-unslotted (map (option_map f) slots) q few_after never ∙ ap (option_map f) (sym (get-unslotted slots q few never))
