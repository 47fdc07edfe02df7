-- The entries that are kept ready are those that what is held makes.
use Rattle.std.proofs.Common.{◌≡◌, ◌≢◌, ℕ, zero, suc, ◌+◌, ◌*◌, ◌<◌, ◌≤◌, Bool, true, false, cond, List, [], ◌∷◌, ◌++◌, length, get_or, Some, None, is_some, map, filter, refl, ap, sym, subst, ◌∙◌, arith, get_or-set_same, get_or-set_other, length-set, add-one, append_assoc, lit<, ◌⊎◌, inl, inr}
use Rattle.std.specs.Prelude.{slice_set}
use Rattle.std.specs.List.{range_with_len}
use Rattle.std.specs.Option.{option_map}
use Rattle.std.specs.FinMap.{contains_key}
use Rattle.std.proofs.lemmas.Bool.{cases_eq}
use Rattle.std.proofs.lemmas.List.{map-append}
use Rattle.std.proofs.lemmas.List.Elements.{filter-append}
use Rattle.ff_ids.specs.declared.TheConstants.{MAX_RINGS, MEMBERS, PAGES, PAGE_MEMBERS}
use Rattle.ff_ids.specs.Masks.{bits_where}
use Rattle.ff_ids.proofs.MaskLemmas.{range_with_len-push}
use Rattle.ff_ids.specs.declared.summary.SummaryEntry.{SummaryEntry}
use Rattle.ff_ids.specs.declared.summary.Summary.{Summary}
use Rattle.ff_ids.specs.declared.summary.RecordKey.{RecordKey}
use Rattle.ff_ids.specs.declared.summary.RecordKey.TheVariants as keys
use Rattle.records.specs.declared.Body.{Body}
use Rattle.record_slots.specs.declared.layout.TheConstants.{SLOTS, SLOTS_EACH}
use Rattle.record_slots.specs.Held.{held_under}
use Rattle.record_slots.specs.Pages.{note_of_body, note_in, entry_with, rings_of, entry_of, certified_of, summary_of}
use Rattle.record_slots.specs.Slots.{Slot, slot_of, member_of, HasSlot, held_in, entry_in, no_entry, ready_entries, IsReady}
use Rattle.record_slots.proofs.SlotLemmas.{IsSlotted, get-held_in, get-unslotted, get-mapped}
use Rattle.ff_ids.proofs.BitLemmas.{bits_same, bits-no}

abbrev accused_in : {X : Type 0} → List (Slot X) → ℕ → ℕ → Bool
accused_in slots m r = is_some (get_or slots (SLOTS_EACH * m + 2 + r) None)

-- ---- an entry

pub entry-held : {X : Type 0} (body : X → Body) (slots : List (Slot X)) (m : ℕ) → entry_in body slots m ≡ entry_of body (held_in slots) m
unfolding rings_of
entry-held body slots m =
    ap (λ o. entry_with m (note_in body o) (bits_where (accused_in slots m) MAX_RINGS)) (sym (get-held_in slots (keys.Note m) tt))
    ∙ ap (entry_with m (note_in body (held_under (held_in slots) (keys.Note m))))
    (bits_same (accused_in slots m) (λ r. contains_key (held_in slots) (keys.Accusation m (record { 0 = r }))) MAX_RINGS (λ r h. ap is_some (sym (get-held_in slots (keys.Accusation m (record { 0 = r })) h))))

slot_within : (k : RecordKey) → HasSlot k → (SLOTS_EACH * member_of k ≤ slot_of k) × (slot_of k < SLOTS_EACH * member_of k + SLOTS_EACH)
slot_within (keys.Certificate m) h = (omega arith, omega arith)
slot_within (keys.Note m) h = (omega arith, omega arith)
slot_within (keys.Accusation m ring) h = (omega arith, omega (arith, h))
slot_within (keys.Removal m) h = (omega arith, omega arith)

-- another member's entry stays
entry_apart : {X : Type 0} (body : X → Body) (slots : List (Slot X)) (k : RecordKey) (o : Slot X) (m : ℕ) → HasSlot k → m ≢ member_of k → entry_in body (slice_set slots (slot_of k) o) m ≡ entry_in body slots m
entry_apart body slots k o m h apart =
    let at = slot_within k h in
    let after = slice_set slots (slot_of k) o in
    let off : (i : ℕ) → i < SLOTS_EACH → SLOTS_EACH * m + i ≢ slot_of k = λ i low e. apart (omega (arith, at.0, at.1, low, e)) in
    ap (λ s. entry_with m (note_in body s) (bits_where (accused_in after m) MAX_RINGS)) (get_or-set_other slots (slot_of k) (SLOTS_EACH * m + 1) o None (off 1 (lit< tt)))
    ∙ ap (entry_with m (note_in body (get_or slots (SLOTS_EACH * m + 1) None)))
    (bits_same (accused_in after m) (accused_in slots m) MAX_RINGS (λ r low. ap is_some (get_or-set_other slots (slot_of k) (SLOTS_EACH * m + 2 + r) o None (λ e. off (2 + r) (omega (arith, low)) (omega (arith, e))))))

-- ---- all of them

-- a slot is written, and the entry of its member made anew
pub ready-set : {X : Type 0} (body : X → Body) (slots : List (Slot X)) (entries : List SummaryEntry) (k : RecordKey) (o : Slot X) (e : SummaryEntry) → IsReady body slots entries → IsSlotted k → e ≡ entry_in body (slice_set slots (slot_of k) o) (member_of k) → IsReady body (slice_set slots (slot_of k) o) (slice_set entries (member_of k) e)
ready-set body slots entries k o e r at made =
    record {
      slots_few = omega (arith, length-set slots (slot_of k) o, r.slots_few);
      entries_all = length-set entries (member_of k) e ∙ r.entries_all;
      ready = λ m h. by_member m h (cases_eq m (member_of k));
    }
  where
    by_member : (m : ℕ) → m < MEMBERS → (m ≡ member_of k) ⊎ (m ≢ member_of k) → get_or (slice_set entries (member_of k) e) m (no_entry m) ≡ entry_in body (slice_set slots (slot_of k) o) m
    by_member m h (inl same) =
        let below : member_of k < length entries = omega (arith, at.member, r.entries_all) in
        ap (λ (i : ℕ). get_or (slice_set entries (member_of k) e) i (no_entry m)) same ∙ get_or-set_same entries (member_of k) e (no_entry m) below
        ∙ made ∙ ap (entry_in body (slice_set slots (slot_of k) o)) (sym same)
    by_member m h (inr apart) = get_or-set_other entries (member_of k) m e (no_entry m) apart ∙ r.ready m h ∙ sym (entry_apart body slots k o m at.slot apart)

-- the same, by the numbers of the slot and the member
pub ready-put : {X : Type 0} (body : X → Body) (slots : List (Slot X)) (entries : List SummaryEntry) (k : RecordKey) (o : Slot X) (slot number : ℕ) (e : SummaryEntry) → IsReady body slots entries → IsSlotted k → slot ≡ slot_of k → number ≡ member_of k → e ≡ entry_in body (slice_set slots slot o) number → IsReady body (slice_set slots slot o) (slice_set entries number e)
ready-put body slots entries k o slot number e r at same_slot same_number made =
    let P : ℕ → Type 0 = λ s. e ≡ entry_in body (slice_set slots s o) number → IsReady body (slice_set slots s o) (slice_set entries number e) in
    let Q : ℕ → Type 0 = λ n. e ≡ entry_in body (slice_set slots (slot_of k) o) n → IsReady body (slice_set slots (slot_of k) o) (slice_set entries n e) in
    subst P (sym same_slot) (subst Q (sym same_number) (λ m. ready-set body slots entries k o e r at m)) made

-- the slots reach further
pub ready-reached : {X : Type 0} (body : X → Body) (slots reached : List (Slot X)) (entries : List SummaryEntry) → length reached ≤ SLOTS → ((k : ℕ) → get_or reached k None ≡ get_or slots k None) → IsReady body slots entries → IsReady body reached entries
ready-reached body slots reached entries few same r =
    record {
      slots_few = few;
      entries_all = r.entries_all;
      ready = λ m h. r.ready m h
          ∙ sym (ap (λ s. entry_with m (note_in body s) (bits_where (accused_in reached m) MAX_RINGS)) (same (SLOTS_EACH * m + 1))
          ∙ ap (entry_with m (note_in body (get_or slots (SLOTS_EACH * m + 1) None))) (bits_same (accused_in reached m) (accused_in slots m) MAX_RINGS (λ r low. ap is_some (same (SLOTS_EACH * m + 2 + r)))));
    }

-- each that is held is changed, and says the same
note-changed : {X : Type 0} (body : X → Body) (f : X → X) → ((x : X) → body (f x) ≡ body x) → (o : Slot X) → note_in body (option_map f o) ≡ note_in body o
note-changed body f same None = refl
note-changed body f same (Some x) = ap note_of_body (same x)

some-changed : {X : Type 0} (f : X → X) (o : Slot X) → is_some (option_map f o) ≡ is_some o
some-changed f None = refl
some-changed f (Some x) = refl

pub ready-changed : {X : Type 0} (body : X → Body) (f : X → X) (slots : List (Slot X)) (entries : List SummaryEntry) → ((x : X) → body (f x) ≡ body x) → length (map (option_map f) slots) ≤ SLOTS → IsReady body slots entries → IsReady body (map (option_map f) slots) entries
ready-changed body f slots entries same few r =
    let after = map (option_map f) slots in
    record {
      slots_few = few;
      entries_all = r.entries_all;
      ready = λ m h. r.ready m h
          ∙ sym (ap (λ n. entry_with m n (bits_where (accused_in after m) MAX_RINGS)) (ap (note_in body) (get-mapped f slots (SLOTS_EACH * m + 1)) ∙ note-changed body f same (get_or slots (SLOTS_EACH * m + 1) None))
          ∙ ap (entry_with m (note_in body (get_or slots (SLOTS_EACH * m + 1) None))) (bits_same (accused_in after m) (accused_in slots m) MAX_RINGS (λ r low. ap is_some (get-mapped f slots (SLOTS_EACH * m + 2 + r)) ∙ some-changed f (get_or slots (SLOTS_EACH * m + 2 + r) None))));
    }

-- nothing is held
pub ready-none : {X : Type 0} (body : X → Body) (entries : List SummaryEntry) → length entries ≡ MEMBERS → ((k : ℕ) → k < MEMBERS → get_or entries k (no_entry k) ≡ no_entry k) → IsReady body [] entries
ready-none {X} body entries each fresh =
    let none : List (Slot X) = [] in
    record {
      slots_few = omega arith;
      entries_all = each;
      ready = λ m h. fresh m h ∙ sym (ap (entry_with m None) (bits-no (accused_in none m) MAX_RINGS (λ r. refl)));
    }

-- ---- a page

abbrev pub summary_with : ℕ → List SummaryEntry → Summary
summary_with page listed = record { page = page; listed = listed }

range_agree : {A : Type 0} (f g : ℕ → A) (p q : ℕ → Bool) (a n : ℕ) → ((m : ℕ) → a ≤ m → m < a + n → p m ≡ q m) → ((m : ℕ) → a ≤ m → m < a + n → f m ≡ g m) → map f (filter p (range_with_len a n)) ≡ map g (filter q (range_with_len a n))
range_agree f g p q a zero tests values = refl
range_agree f g p q a (suc n) tests values =
    let others = range_agree f g p q (a + 1) n (λ m low high. tests m (omega (arith, low)) (omega (arith, high))) (λ m low high. values m (omega (arith, low)) (omega (arith, high))) in
    ap (λ b. map f (cond b (a ∷ filter p (range_with_len (a + 1) n)) (filter p (range_with_len (a + 1) n)))) (tests a (omega arith) (omega arith))
    ∙ one (q a) (filter p (range_with_len (a + 1) n)) (filter q (range_with_len (a + 1) n)) others (values a (omega arith) (omega arith))
  where
    one : (b : Bool) (ps qs : List ℕ) → map f ps ≡ map g qs → f a ≡ g a → map f (cond b (a ∷ ps) ps) ≡ map g (cond b (a ∷ qs) qs)
    one true ps qs same here = λ i. here i ∷ same i
    one false ps qs same here = same

range_nobody : (q : ℕ → Bool) (a n : ℕ) → ((m : ℕ) → a ≤ m → q m ≡ false) → filter q (range_with_len a n) ≡ []
range_nobody q a zero nobody = refl
range_nobody q a (suc n) nobody =
    ap (λ b. cond b (a ∷ filter q (range_with_len (a + 1) n)) (filter q (range_with_len (a + 1) n))) (nobody a (omega arith))
    ∙ range_nobody q (a + 1) n (λ m low. nobody m (omega (arith, low)))

-- the ready entries of a page are its summary's
pub ready-summary : {X : Type 0} (body : X → Body) (slots : List (Slot X)) (entries : List SummaryEntry) (page : ℕ) → IsReady body slots entries → page < PAGES → ready_entries slots entries (PAGE_MEMBERS * page) PAGE_MEMBERS ≡ (summary_of body (held_in slots) page).listed
unfolding ready_entries certified_of
ready-summary body slots entries page r below =
    range_agree (λ m. get_or entries m (no_entry m)) (entry_of body (held_in slots)) (λ m. is_some (get_or slots (SLOTS_EACH * m) None)) (λ m. contains_key (held_in slots) (keys.Certificate m)) (PAGE_MEMBERS * page) PAGE_MEMBERS
    (λ m low high. ap is_some (sym (get-held_in slots (keys.Certificate m) tt)))
    (λ m low high. r.ready m (omega (arith, high, below)) ∙ entry-held body slots m)

pub same_summary : (page number : ℕ) (listed others : List SummaryEntry) → page ≡ number → listed ≡ others → summary_with page listed ≡ summary_with number others
same_summary page number listed others same each = λ i. summary_with (same i) (each i)

-- nobody is certified behind the last page
pub no-summary : {X : Type 0} (body : X → Body) (slots : List (Slot X)) (page : ℕ) → length slots ≤ SLOTS → PAGES ≤ page → (summary_of body (held_in slots) page).listed ≡ []
unfolding certified_of
no-summary body slots page long above =
    ap (map (entry_of body (held_in slots)))
    (range_nobody (λ m. contains_key (held_in slots) (keys.Certificate m)) (PAGE_MEMBERS * page) PAGE_MEMBERS (λ m low. ap is_some (get-unslotted slots (keys.Certificate m) long (λ s. absurd (omega (arith, s.member, low, above))))))

-- no entry of no members
pub ready_entries-none : {X : Type 0} (slots : List (Slot X)) (entries : List SummaryEntry) (first : ℕ) → ready_entries slots entries first 0 ≡ []
unfolding ready_entries
ready_entries-none slots entries first = refl

-- one more member, which is certified or isn't
pub entry_pushed : {X : Type 0} (slots : List (Slot X)) (entries held before after : List SummaryEntry) (first n : ℕ) (b : Bool) → is_some (get_or slots (SLOTS_EACH * (first + n)) None) ≡ b → before ≡ held ++ ready_entries slots entries first n → after ≡ before ++ cond b (get_or entries (first + n) (no_entry (first + n)) ∷ []) [] → after ≡ held ++ ready_entries slots entries first (n + 1)
unfolding ready_entries
entry_pushed slots entries held before after first n b is so_far grown =
    let f : ℕ → SummaryEntry = λ m. get_or entries m (no_entry m) in
    let p : ℕ → Bool = λ m. is_some (get_or slots (SLOTS_EACH * m) None) in
    let more : range_with_len first (n + 1) ≡ range_with_len first n ++ (first + n) ∷ [] = ap (range_with_len first) (add-one n) ∙ range_with_len-push first n in
    let all : map f (filter p (range_with_len first (n + 1))) ≡ map f (filter p (range_with_len first n)) ++ cond b (f (first + n) ∷ []) [] =
    ap (λ (ms : List ℕ). map f (filter p ms)) more ∙ ap (map f) (filter-append p (range_with_len first n) ((first + n) ∷ []))
    ∙ map-append f (filter p (range_with_len first n)) (filter p ((first + n) ∷ []))
    ∙ ap (λ (t : List SummaryEntry). map f (filter p (range_with_len first n)) ++ t) (ap (λ c. map f (cond c ((first + n) ∷ []) [])) is ∙ one b) in
    grown ∙ ap (λ (t : List SummaryEntry). t ++ cond b (f (first + n) ∷ []) []) so_far ∙ append_assoc held (map f (filter p (range_with_len first n))) (cond b (f (first + n) ∷ []) []) ∙ ap (λ (t : List SummaryEntry). held ++ t) (sym all)
  where
    one : (c : Bool) → map (λ m. get_or entries m (no_entry m)) (cond c ((first + n) ∷ []) []) ≡ cond c (get_or entries (first + n) (no_entry (first + n)) ∷ []) []
    one true = refl
    one false = refl
