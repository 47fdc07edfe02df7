-- What the summary of a page says of what is held.
use Rattle.std.proofs.Common.{◌≡◌, ℕ, zero, suc, ◌+◌, ◌*◌, ◌<◌, ◌≤◌, Bool, true, false, cond, List, [], ◌∷◌, Option, Some, None, is_some, IfSome, map, filter, All, refl, ap, sym, subst, ◌∙◌, arith, ◌⊎◌, inl, inr}
use Rattle.std.specs.List.{range_with_len}
use Rattle.std.specs.List.Sorted.{IsStrictlyIncreasing}
use Rattle.std.specs.FinMap.{contains_key}
use Rattle.std.proofs.lemmas.Bool.{cases_lt, true≢false}
use Rattle.std.proofs.lemmas.List.FromFn.{get_or-range_with_len, length-range_with_len}
use Rattle.std.proofs.lemmas.List.Kept.{IsStrictlyIncreasing-filter}
use Rattle.ff_ids.specs.declared.TheConstants.{MAX_RINGS, PAGES, PAGE_MEMBERS}
use Rattle.ff_ids.specs.Masks.{bits_where, enables}
use Rattle.ff_ids.specs.Summaries.{IsEntryOf, IsSummary, members_of}
use Rattle.ff_ids.specs.declared.NoteBody.{NoteBody}
use Rattle.ff_ids.specs.declared.summary.RecordKey.TheVariants as keys
use Rattle.records.specs.declared.Body.{Body}
use Rattle.record_slots.specs.Held.{HeldOf, held_under}
use Rattle.record_slots.specs.Pages.{note_in, entry_with, rings_of, entry_of, certified_of, summary_of, IsHeldEntry, AreNoted}
use Rattle.ff_ids.proofs.BitLemmas.{bits-tell, bits-above, bits-no}

abbrev accused : {X : Type 0} → HeldOf X → ℕ → ℕ → Bool
accused held m r = contains_key held (keys.Accusation m (record { 0 = r }))

noted : {X : Type 0} (body : X → Body) (o : Option X) (m rings : ℕ) → 0 < (entry_with m (note_in body o) rings).epoch → is_some o ≡ true
noted body None m rings h = absurd (omega arith)
noted body (Some c) m rings h = refl

pub held_entry : {X : Type 0} (body : X → Body) (held : HeldOf X) (m : ℕ) → contains_key held (keys.Certificate m) ≡ true → IsHeldEntry held (entry_of body held m)
unfolding rings_of
held_entry body held m certified =
    record {
      certificate = certified;
      note = λ h. noted body (held_under held (keys.Note m)) m (rings_of held m) h;
      accusation = λ r on. by_ring r on (cases_lt r MAX_RINGS);
    }
  where
    by_ring : (r : ℕ) → enables (bits_where (accused held m) MAX_RINGS) r ≡ true → (r < MAX_RINGS) ⊎ (MAX_RINGS ≤ r) → accused held m r ≡ true
    by_ring r on (inl below) = sym (bits-tell (accused held m) MAX_RINGS r below) ∙ on
    by_ring r on (inr above) = absurd (true≢false (sym on ∙ bits-above (accused held m) MAX_RINGS r above))

-- ---- every listed entry

All-first : {A : Type 0} (P : A → Type 0) (x : A) (xs : List A) → P x → All P xs → All P (x ∷ xs)
All-first P x xs here rest zero d h = here
All-first P x xs here rest (suc k) d h = rest k d (omega arith)

-- each entry that is made of a number which passes
All-made : {A : Type 0} (P : A → Type 0) (f : ℕ → A) (q : ℕ → Bool) (a n : ℕ) → ((m : ℕ) → a ≤ m → m < a + n → q m ≡ true → P (f m)) → All P (map f (filter q (range_with_len a n)))
All-made P f q a zero each = λ k d h. absurd (omega arith)
All-made P f q a (suc n) each =
    by_test (q a) refl (All-made P f q (a + 1) n (λ m low high. each m (omega (arith, low)) (omega (arith, high))))
  where
    by_test : (b : Bool) → q a ≡ b → All P (map f (filter q (range_with_len (a + 1) n))) → All P (map f (cond b (a ∷ filter q (range_with_len (a + 1) n)) (filter q (range_with_len (a + 1) n))))
    by_test false is rest = rest
    by_test true is rest = All-first P (f a) (map f (filter q (range_with_len (a + 1) n))) (each a (omega arith) (omega arith) is) rest

-- what the summary of a page names is held
pub All-listed_held : {X : Type 0} (body : X → Body) (held : HeldOf X) (page : ℕ) → All (IsHeldEntry held) (summary_of body held page).listed
unfolding certified_of
All-listed_held body held page = All-made (IsHeldEntry held) (entry_of body held) (λ m. contains_key held (keys.Certificate m)) (PAGE_MEMBERS * page) PAGE_MEMBERS (λ m low high certified. held_entry body held m certified)

-- ---- it is a summary

range_rises : (a n : ℕ) → IsStrictlyIncreasing (range_with_len a n)
range_rises a n k h =
    let long = length-range_with_len a n in
    omega (arith, get_or-range_with_len a n k 0 (omega (arith, h, long)), get_or-range_with_len a n (k + 1) 0 (omega (arith, h, long)))

members_made : {X : Type 0} (body : X → Body) (held : HeldOf X) (ms : List ℕ) → members_of (map (entry_of body held) ms) ≡ ms
members_made body held [] = refl
members_made body held (m ∷ ms) = ap (λ (t : List ℕ). m ∷ t) (members_made body held ms)

no_bits : {X : Type 0} (body : X → Body) (held : HeldOf X) (m : ℕ) → AreNoted body held → note_in body (held_under held (keys.Note m)) ≡ None → rings_of held m ≡ 0
unfolding rings_of
no_bits body held m known none = bits-no (accused held m) MAX_RINGS (λ r. unless (accused held m r) r refl)
  where
    unless : (b : Bool) (r : ℕ) → accused held m r ≡ b → b ≡ false
    unless false r is = refl
    unless true r is = absurd (true≢false (sym (known.accused m r is) ∙ ap is_some none))

unnoted : {X : Type 0} (body : X → Body) (held : HeldOf X) (m : ℕ) → AreNoted body held → (o : Option NoteBody) → note_in body (held_under held (keys.Note m)) ≡ o → (entry_with m o (rings_of held m)).epoch ≡ 0 → ((entry_with m o (rings_of held m)).mask.0 ≡ 0) × (rings_of held m ≡ 0)
unnoted body held m known None is e = (refl, no_bits body held m known is)
unnoted body held m known (Some n) is e =
    let P : Option NoteBody → Type 0 = λ o. IfSome o (λ x. 0 < x.epoch) in
    let some : 0 < n.epoch = subst P is (known.epoch m) in
    absurd (omega (arith, some, e))

entry_of_page : {X : Type 0} (body : X → Body) (held : HeldOf X) (page m : ℕ) → AreNoted body held → PAGE_MEMBERS * page ≤ m → m < PAGE_MEMBERS * page + PAGE_MEMBERS → IsEntryOf page (entry_of body held m)
entry_of_page body held page m known low high = record { in_page = omega arith; unnoted = λ e. unnoted body held m known (note_in body (held_under held (keys.Note m))) refl e }

-- The summary of a page keeps to its page, in order of number.
pub IsSummary-of : {X : Type 0} (body : X → Body) (held : HeldOf X) (page : ℕ) → AreNoted body held → page < PAGES → IsSummary (summary_of body held page)
unfolding certified_of
IsSummary-of body held page known below =
    let certified : ℕ → Bool = λ m. contains_key held (keys.Certificate m) in
    record {
      page = below;
      listed = All-made (IsEntryOf page) (entry_of body held) certified (PAGE_MEMBERS * page) PAGE_MEMBERS (λ m low high is. entry_of_page body held page m known low high);
      rising = subst IsStrictlyIncreasing (sym (members_made body held (filter certified (range_with_len (PAGE_MEMBERS * page) PAGE_MEMBERS)))) (IsStrictlyIncreasing-filter certified (range_with_len (PAGE_MEMBERS * page) PAGE_MEMBERS) (range_rises (PAGE_MEMBERS * page) PAGE_MEMBERS));
    }
