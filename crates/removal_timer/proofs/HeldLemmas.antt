-- The queue of the filled slots: when one is emptied, when one is filled, and which is due first.
use Rattle.std.proofs.Common.{◌≡◌, ℕ, zero, suc, ◌+◌, ◌-◌, ◌<◌, ◌≤◌, Bool, true, false, cond, not, ◌&&◌, ◌||◌, eqb, List, [], ◌∷◌, ◌++◌, Option, Some, None, IfSome, is_some, length, get_or, set, filter, map, refl, sym, ap, ◌∙◌, subst, arith, get_or-set_same, get_or-set_other}
use Rattle.std.proofs.Math.ListN.{length-set}
use Rattle.std.specs.Prelude.{nat_le}
use Rattle.std.specs.Bool.{OnTrue}
use Rattle.std.specs.List.{AllByRecursion, list_any}
use Rattle.std.specs.Option.{option_map_or}
use Rattle.std.proofs.lemmas.Bool.{and_right, or_right, eqb-true, eqb-false, true≢false}
use Rattle.std.proofs.Math.Bool.{and-true, or-false}
use Rattle.std.proofs.lemmas.List.Filters.{length-filter_both}
use Rattle.std.proofs.lemmas.Bool.Decides.{nat_tests}
use Rattle.std.proofs.lemmas.List.Folds.{list_any-append}
use Rattle.ff_ids.specs.declared.TheConstants.{MAX_RINGS}
use Rattle.ff_ids.specs.declared.AccBody.{AccBody}
use Rattle.std.specs.List.Sorted.{IsPermutation}
use Rattle.std.proofs.lemmas.List.{append-nil, append_assoc}
use Rattle.std.proofs.lemmas.List.Sorted.{length_permutation, IsPermutation-refl, IsPermutation-map, IsPermutation-pop_more}
use Rattle.ff_ids.specs.Steps.{is_due, with_kept}
use Rattle.removal_timer.specs.declared.queue.TheConstants.{END}
use Rattle.removal_timer.specs.Queue.{first_number, is_queued, without}
use Rattle.removal_timer.specs.declared.tally.Tallies.{Tallies}
use Rattle.removal_timer.specs.Kept.{Kept, entry_at, entries_in, since_at, slot_number, HasGained, IsOwn, AreInTime, AreQueued, AreUntil, IsHeld}
use Rattle.removal_timer.proofs.QueueLemmas.{Apart, Apart-absent, All-without, All-more}
use Rattle.removal_timer.proofs.SlotLemmas.{Entry, Slots, slots_all, all_slots, none_filled, some_filled, none_due, entry_at-slot, entries_in-filled, due_taken, due_left, all_left}

-- ---- who is queued

queued_without : (n m : ℕ) (order : List ℕ) → is_queued (without n order) m ≡ (is_queued order m && not (eqb m n))
queued_without n m [] = refl
queued_without n m (k ∷ order) = by_first (eqb k n) (eqb k m) refl refl (queued_without n m order)
  where
    same_m : (b c : Bool) → eqb k n ≡ b → eqb k m ≡ true → eqb m n ≡ b
    same_m b c here there = subst (λ j. eqb j n ≡ b) (eqb-true k m there) here

    by_first : (b c : Bool) → eqb k n ≡ b → eqb k m ≡ c → is_queued (without n order) m ≡ (is_queued order m && not (eqb m n)) → is_queued (cond (not b) (k ∷ without n order) (without n order)) m ≡ ((c || is_queued order m) && not (eqb m n))
    by_first true true here there rest =
        let at : eqb m n ≡ true = same_m true true here there in
        rest ∙ and_right (is_queued order m) (not (eqb m n)) (ap not at) ∙ sym (ap not at)
    by_first true false here there rest = rest
    by_first false true here there rest =
        let off : eqb m n ≡ false = same_m false true here there in
        ap (λ c. c || is_queued (without n order) m) there ∙ sym (ap not off)
    by_first false false here there rest = ap (λ c. c || is_queued (without n order) m) there ∙ rest

queued_more : (n m : ℕ) (order : List ℕ) → is_queued (order ++ n ∷ []) m ≡ (is_queued order m || eqb n m)
queued_more n m order = list_any-append (λ k. eqb k m) order (n ∷ []) ∙ ap (λ b. is_queued order m || b) (or-false (eqb n m))

Apart-without : (n : ℕ) (order : List ℕ) → Apart n (without n order)
Apart-without n [] = tt
Apart-without n (m ∷ order) = by_first (eqb m n) refl (Apart-without n order)
  where
    by_first : (b : Bool) → eqb m n ≡ b → Apart n (without n order) → Apart n (cond (not b) (m ∷ without n order) (without n order))
    by_first true same rest = rest
    by_first false other rest = (other, rest)

pub length-left : (n : ℕ) (order : List ℕ) → is_queued order n ≡ true → length (without n order) < length order
length-left n [] there = absurd (true≢false (sym there))
length-left n (m ∷ order) there = by_first (eqb m n) there (fewer n order) (length-left n order)
  where
    fewer : (n : ℕ) (order : List ℕ) → length (without n order) ≤ length order
    fewer n order = omega (arith, length-filter_both (λ m. eqb m n) (λ m. not (eqb m n)) (λ m. refl) order)

    by_first : (b : Bool) → (b || list_any (λ k. eqb k n) order) ≡ true → length (without n order) ≤ length order → (is_queued order n ≡ true → length (without n order) < length order) → length (cond (not b) (m ∷ without n order) (without n order)) < length (m ∷ order)
    by_first true e few rest = omega arith
    by_first false e few rest = omega (arith, rest e)

-- ---- since when

since_other : (slots : Slots) (n m : ℕ) (x : Option Entry) → eqb m n ≡ false → since_at (set slots n x) m ≡ since_at slots m
since_other slots n m x other = ap (λ (o : Option Entry). option_map_or (λ p. p.1) o 0) (get_or-set_other slots n m x None (eqb-false m n other))

All-since : (slots : Slots) (n k : ℕ) (x : Option Entry) (order : List ℕ) → eqb k n ≡ false → Apart n order → AllByRecursion (λ m. since_at slots k ≤ since_at slots m) order → AllByRecursion (λ m. since_at (set slots n x) k ≤ since_at (set slots n x) m) order
All-since slots n k x [] other apart h = tt
All-since slots n k x (m ∷ order) other apart h =
    (omega (arith, since_other slots n k x other, since_other slots n m x apart.0, h.0), All-since slots n k x order other apart.1 h.1)

AreInTime-set : (slots : Slots) (n : ℕ) (x : Option Entry) (order : List ℕ) → Apart n order → AreInTime slots order → AreInTime (set slots n x) order
AreInTime-set slots n x [] apart h = tt
AreInTime-set slots n x (k ∷ order) apart h = (All-since slots n k x order apart.0 apart.1 h.0, AreInTime-set slots n x order apart.1 h.1)

AreInTime-without : (slots : Slots) (n : ℕ) (order : List ℕ) → AreInTime slots order → AreInTime slots (without n order)
AreInTime-without slots n [] h = tt
AreInTime-without slots n (k ∷ order) h =
    elim (eqb k n) as (λ b. AreInTime slots (cond (not b) (k ∷ without n order) (without n order))) [
      | true ↦ AreInTime-without slots n order h.1
      | false ↦ (All-without (λ m. since_at slots k ≤ since_at slots m) n order h.0, AreInTime-without slots n order h.1)
    ]

AreInTime-more : (slots : Slots) (n : ℕ) (order : List ℕ) → AllByRecursion (λ m. since_at slots m ≤ since_at slots n) order → AreInTime slots order → AreInTime slots (order ++ n ∷ [])
AreInTime-more slots n [] last h = (tt, tt)
AreInTime-more slots n (k ∷ order) last h =
    (All-more (λ m. since_at slots k ≤ since_at slots m) n order last.0 h.0, AreInTime-more slots n order last.1 h.1)

since_until : (now : ℕ) (o : Option Entry) → IfSome o (λ p. p.1 ≤ now) → option_map_or (λ (p : Entry). p.1) o 0 ≤ now
since_until now None h = omega arith
since_until now (Some p) h = h

-- none stands since later than an entry that comes now
All-until : (slots : Slots) (n : ℕ) (p : Entry) (order : List ℕ) → n < length slots → Apart n order → AreUntil p.1 (entries_in slots) → AllByRecursion (λ m. since_at (set slots n (Some p)) m ≤ since_at (set slots n (Some p)) n) order
All-until slots n p [] lt apart until = tt
All-until slots n p (m ∷ order) lt apart until =
    let own : since_at (set slots n (Some p)) n ≡ p.1 = ap (λ (o : Option Entry). option_map_or (λ p. p.1) o 0) (get_or-set_same slots n (Some p) None lt) in
    let low = since_until p.1 (get_or slots m None) (slots_all (λ q. q.1 ≤ p.1) slots until m) in
    (omega (arith, own, since_other slots n m (Some p) apart.0, low), All-until slots n p order lt apart.1 until)

-- ---- a slot is emptied, or filled

pub AreQueued-emptied : (rings : ℕ) (slots : Slots) (order : List ℕ) (n : ℕ) → AreQueued rings slots order → n < length slots → AreQueued rings (set slots n None) (without n order)
AreQueued-emptied rings slots order n h lt =
    record {
      few = omega (arith, length-set slots n None, h.few);
      own = λ m. own_by lt m (eqb m n) refl;
      filled = λ m. queued_without n m order ∙ filled_by lt m (eqb m n) refl;
      in_time = AreInTime-set slots n None (without n order) (Apart-without n order) (AreInTime-without slots n order h.in_time);
    }
  where
    own_by : n < length slots → (m : ℕ) (b : Bool) → eqb m n ≡ b → IfSome (get_or (set slots n None) m None) (IsOwn rings m)
    own_by lt m true same =
        let e : get_or (set slots n None) m None ≡ None = subst (λ k. get_or (set slots n None) k None ≡ None) (sym (eqb-true m n same)) (get_or-set_same slots n None None lt) in
        rw e tt
    own_by lt m false other = rw (get_or-set_other slots n m None None (eqb-false m n other)) (h.own m)

    filled_by : n < length slots → (m : ℕ) (b : Bool) → eqb m n ≡ b → (is_queued order m && not (eqb m n)) ≡ is_some (get_or (set slots n None) m None)
    filled_by lt m true same =
        let e : get_or (set slots n None) m None ≡ None = subst (λ k. get_or (set slots n None) k None ≡ None) (sym (eqb-true m n same)) (get_or-set_same slots n None None lt) in
        and_right (is_queued order m) (not (eqb m n)) (ap not same) ∙ sym (ap is_some e)
    filled_by lt m false other =
        ap (λ b. is_queued order m && not b) other ∙ and-true (is_queued order m) ∙ h.filled m ∙ sym (ap is_some (get_or-set_other slots n m None None (eqb-false m n other)))

pub AreQueued-filled : (rings : ℕ) (slots : Slots) (order : List ℕ) (n : ℕ) (p : Entry) → AreQueued rings slots order → n < length slots → get_or slots n None ≡ None → IsOwn rings n p → AreUntil p.1 (entries_in slots) → AreQueued rings (set slots n (Some p)) (order ++ n ∷ [])
AreQueued-filled rings slots order n p h lt free own until =
    let away : Apart n order = Apart-absent n order (h.filled n ∙ ap is_some free) in
    record {
      few = omega (arith, length-set slots n (Some p), h.few);
      own = λ m. own_by lt m (eqb m n) refl;
      filled = λ m. queued_more n m order ∙ filled_by lt m (eqb m n) refl;
      in_time = AreInTime-more (set slots n (Some p)) n order (All-until slots n p order lt away until) (AreInTime-set slots n (Some p) order away h.in_time);
    }
  where
    at : n < length slots → (m : ℕ) → eqb m n ≡ true → get_or (set slots n (Some p)) m None ≡ Some p
    at lt m same = subst (λ k. get_or (set slots n (Some p)) k None ≡ Some p) (sym (eqb-true m n same)) (get_or-set_same slots n (Some p) None lt)

    own_by : n < length slots → (m : ℕ) (b : Bool) → eqb m n ≡ b → IfSome (get_or (set slots n (Some p)) m None) (IsOwn rings m)
    own_by lt m true same = rw (at lt m same) (subst (λ k. IsOwn rings k p) (sym (eqb-true m n same)) own)
    own_by lt m false other = rw (get_or-set_other slots n m (Some p) None (eqb-false m n other)) (h.own m)

    filled_by : n < length slots → (m : ℕ) (b : Bool) → eqb m n ≡ b → (is_queued order m || eqb n m) ≡ is_some (get_or (set slots n (Some p)) m None)
    filled_by lt m true same =
        let e : eqb n m ≡ true = grind (arith, nat_tests) in
        or_right (is_queued order m) (eqb n m) e ∙ sym (ap is_some (at lt m same))
    filled_by lt m false other =
        let e : eqb n m ≡ false = grind (arith, nat_tests) in
        ap (λ b. is_queued order m || b) e ∙ or-false (is_queued order m) ∙ h.filled m ∙ sym (ap is_some (get_or-set_other slots n m (Some p) None (eqb-false m n other)))

pub AreQueued-none : (rings : ℕ) → AreQueued rings [] []
AreQueued-none rings = record { few = omega arith; own = λ n. tt; filled = λ n. refl; in_time = tt }

-- ---- the slots reach further

entries_in-same : (slots after : Slots) → ((n : ℕ) → get_or after n None ≡ get_or slots n None) → entries_in after ≡ entries_in slots
entries_in-same [] [] h = refl
entries_in-same [] (None ∷ after) h = entries_in-same [] after (λ n. h (suc n))
entries_in-same [] (Some q ∷ after) h = absurd (true≢false (ap is_some (h 0)))
entries_in-same (None ∷ slots) [] h = entries_in-same slots [] (λ n. h (suc n))
entries_in-same (Some p ∷ slots) [] h = absurd (true≢false (sym (ap is_some (h 0))))
entries_in-same (None ∷ slots) (None ∷ after) h = entries_in-same slots after (λ n. h (suc n))
entries_in-same (None ∷ slots) (Some q ∷ after) h = absurd (true≢false (ap is_some (h 0)))
entries_in-same (Some p ∷ slots) (None ∷ after) h = absurd (true≢false (sym (ap is_some (h 0))))
entries_in-same (Some p ∷ slots) (Some q ∷ after) h =
    let first : Some q ≡ Some p = h 0 in
    let same : q ≡ p = cc in
    ap (λ x. x ∷ entries_in after) same ∙ ap (λ xs. p ∷ xs) (entries_in-same slots after (λ n. h (suc n)))

All-since_same : (slots after : Slots) (k : ℕ) (order : List ℕ) → ((n : ℕ) → get_or after n None ≡ get_or slots n None) → AllByRecursion (λ m. since_at slots k ≤ since_at slots m) order → AllByRecursion (λ m. since_at after k ≤ since_at after m) order
All-since_same slots after k [] same h = tt
All-since_same slots after k (m ∷ order) same h =
    let since : (n : ℕ) → since_at after n ≡ since_at slots n = λ n. ap (λ (o : Option Entry). option_map_or (λ p. p.1) o 0) (same n) in
    (omega (arith, since k, since m, h.0), All-since_same slots after k order same h.1)

AreInTime-same : (slots after : Slots) (order : List ℕ) → ((n : ℕ) → get_or after n None ≡ get_or slots n None) → AreInTime slots order → AreInTime after order
AreInTime-same slots after [] same h = tt
AreInTime-same slots after (k ∷ order) same h = (All-since_same slots after k order same h.0, AreInTime-same slots after order same h.1)

pub push-none : (slots : Slots) (n : ℕ) → get_or (slots ++ None ∷ []) n None ≡ get_or slots n None
push-none [] zero = refl
push-none [] (suc n) = refl
push-none (x ∷ slots) zero = refl
push-none (x ∷ slots) (suc n) = push-none slots n

-- what the slots hold that reach further
pub record IsReached (rings : ℕ) (slots after : Slots) (order : List ℕ) : Type 0 where
  pub queued : AreQueued rings after order
  pub entries : entries_in after ≡ entries_in slots

pub IsReached-of : (rings : ℕ) (slots after : Slots) (order : List ℕ) → AreQueued rings slots order → length after ≤ END → ((n : ℕ) → get_or after n None ≡ get_or slots n None) → IsReached rings slots after order
IsReached-of rings slots after order h few same =
    record {
      queued = record {
        few = few;
        own = λ n. subst (λ (o : Option Entry). IfSome o (IsOwn rings n)) (sym (same n)) (h.own n);
        filled = λ n. h.filled n ∙ ap is_some (sym (same n));
        in_time = AreInTime-same slots after order same h.in_time;
      };
      entries = entries_in-same slots after same;
    }

-- ---- the first of them

nobody : (order : List ℕ) → first_number order ≡ None → order ≡ []
nobody [] h = refl
nobody (n ∷ order) h = cc

pub nothing_filled : (rings : ℕ) (slots : Slots) (order : List ℕ) → AreQueued rings slots order → first_number order ≡ None → entries_in slots ≡ []
nothing_filled rings slots order h first = none_filled slots (λ n. sym (h.filled n) ∙ ap (λ (q : List ℕ). is_queued q n) (nobody order first))

pub first_queued : (order : List ℕ) (n : ℕ) → first_number order ≡ Some n → is_queued order n ≡ true
first_queued [] n e = cc
first_queued (m ∷ order) n e =
    let same : m ≡ n = cc in
    let here : eqb m n ≡ true = grind (arith, nat_tests) in
    ap (λ b. b || is_queued order n) here

-- whether nothing is filled shows at the first of the queue
pub empty_value : (rings : ℕ) (slots : Slots) (order : List ℕ) (first : Option ℕ) (b : Bool) → AreQueued rings slots order → first ≡ first_number order → is_some first ≡ not b → b ≡ eqb (length (entries_in slots)) 0
empty_value rings slots [] first b h e is = by_answer b (ap is_some (sym e) ∙ is)
  where
    none : entries_in slots ≡ []
    none = nothing_filled rings slots [] h refl

    by_answer : (b : Bool) → false ≡ not b → b ≡ eqb (length (entries_in slots)) 0
    by_answer true same = rw none refl
    by_answer false same = absurd (true≢false (sym same))
empty_value rings slots (n ∷ order) first b h e is = by_answer b (ap is_some (sym e) ∙ is)
  where
    some : 0 < length (entries_in slots)
    some = some_filled slots n (sym (h.filled n) ∙ first_queued (n ∷ order) n refl)

    by_answer : (b : Bool) → true ≡ not b → b ≡ eqb (length (entries_in slots)) 0
    by_answer true same = absurd (true≢false same)
    by_answer false same = grind (arith, nat_tests, some)

pub empty_from : (b : Bool) (xs : List Entry) → b ≡ eqb (length xs) 0 → OnTrue b (xs ≡ [])
empty_from false xs h = tt
empty_from true [] h = refl
empty_from true (x ∷ xs) h = absurd (grind arith)

first_since : (slots : Slots) (n m : ℕ) (order : List ℕ) → AllByRecursion (λ m. since_at slots n ≤ since_at slots m) order → is_queued order m ≡ true → since_at slots n ≤ since_at slots m
first_since slots n m [] h there = absurd (true≢false (sym there))
first_since slots n m (k ∷ order) h there = by_first (eqb k m) refl there (first_since slots n m order h.1)
  where
    by_first : (b : Bool) → eqb k m ≡ b → (b || list_any (λ j. eqb j m) order) ≡ true → (is_queued order m ≡ true → since_at slots n ≤ since_at slots m) → since_at slots n ≤ since_at slots m
    by_first true same e rest = subst (λ j. since_at slots n ≤ since_at slots j) (eqb-true k m same) h.0
    by_first false other e rest = rest e

pub in_time_first : (slots : Slots) (n m : ℕ) (order : List ℕ) → AreInTime slots order → first_number order ≡ Some n → is_queued order m ≡ true → since_at slots n ≤ since_at slots m
in_time_first slots n m [] h first there = cc
in_time_first slots n m (k ∷ order) h first there = by_first (eqb k m) refl there
  where
    same : k ≡ n
    same = cc

    by_first : (b : Bool) → eqb k m ≡ b → (b || list_any (λ j. eqb j m) order) ≡ true → since_at slots n ≤ since_at slots m
    by_first true here e =
        let at : n ≡ m = sym same ∙ eqb-true k m here in
        omega (arith, ap (since_at slots) at)
    by_first false other e = subst (λ j. since_at slots j ≤ since_at slots m) same (first_since slots k m order h.0 e)

pub not_due : (timeout now first : ℕ) (p : Entry) → first ≤ p.1 → nat_le timeout (now - first) ≡ false → is_due timeout now p ≡ false
not_due timeout now first p le h = grind (arith, nat_tests)

-- where the first isn't due, none is
pub nothing_due : (rings : ℕ) (timeout now : ℕ) (slots : Slots) (order : List ℕ) (n : ℕ) (p : Entry) → AreQueued rings slots order → first_number order ≡ Some n → get_or slots n None ≡ Some p → is_due timeout now p ≡ false → filter (is_due timeout now) (entries_in slots) ≡ []
nothing_due rings timeout now slots order n p h first there late =
    none_due (is_due timeout now) (entries_in slots) (all_slots (λ q. is_due timeout now q ≡ false) slots (λ m. each m (get_or slots m None) refl))
  where
    each : (m : ℕ) (o : Option Entry) → get_or slots m None ≡ o → IfSome o (λ q. is_due timeout now q ≡ false)
    each m None e = tt
    each m (Some q) e =
        let filled : is_queued order m ≡ true = h.filled m ∙ ap is_some e in
        let le = in_time_first slots n m order h.in_time first filled in
        let mine : since_at slots n ≡ p.1 = ap (λ (o : Option Entry). option_map_or (λ p. p.1) o 0) there in
        let its : since_at slots m ≡ q.1 = ap (λ (o : Option Entry). option_map_or (λ p. p.1) o 0) e in
        not_due timeout now p.1 q (omega (arith, le, mine, its)) late

-- ---- what one call does

-- an entry was set that wasn't there
pub record IsSet (rings : ℕ) (slots : Slots) (order : List ℕ) (n : ℕ) (p : Entry) : Type 0 where
  pub free : get_or slots n None ≡ None
  pub absent : is_queued order n ≡ false
  pub queued : AreQueued rings (set slots n (Some p)) (order ++ n ∷ [])
  pub entries : entries_in (set slots n (Some p)) ≡ with_kept p (entries_in slots)

pub IsSet-free : (rings : ℕ) (slots : Slots) (order : List ℕ) (n : ℕ) (p : Entry) → AreQueued rings slots order → n ≡ slot_number rings p.0.accused p.0.ring.0 → n < length slots → rings ≤ MAX_RINGS → p.0.ring.0 < rings → entry_at p.0.accused p.0.ring.0 (entries_in slots) ≡ None → AreUntil p.1 (entries_in slots) → IsSet rings slots order n p
IsSet-free rings slots order n p h number low few ring free until =
    let at = entry_at-slot rings p.0.accused p.0.ring.0 slots h.own ring in
    let empty : get_or slots n None ≡ None = ap (λ k. get_or slots k None) number ∙ sym at ∙ free in
    let own : IsOwn rings n p = record { few = few; ring = ring; number = sym number } in
    record {
      free = empty;
      absent = h.filled n ∙ ap is_some empty;
      queued = AreQueued-filled rings slots order n p h low empty own until;
      entries = entries_in-filled rings slots n p h.own empty low own;
    }

-- the same, where the timers are seen whole, and the slots were made to reach the number
pub IsSet-of : (rings timeout room : ℕ) (slots after : Slots) (order : List ℕ) (tallies : Tallies) (k : Kept) (n : ℕ) (p : Entry) → IsHeld rings slots order tallies room → record { rings = rings; timeout = timeout; entries = entries_in slots } ≡ k → length after ≤ END → ((n : ℕ) → get_or after n None ≡ get_or slots n None) → n ≡ slot_number rings p.0.accused p.0.ring.0 → n < length after → entry_at p.0.accused p.0.ring.0 k.entries ≡ None → p.0.ring.0 < k.rings → AreUntil p.1 k.entries → IsSet rings after order n p × (entries_in after ≡ k.entries)
IsSet-of rings timeout room slots after order tallies k n p held view few alike number low free within until =
    let ring : p.0.ring.0 < rings = omega (arith, within, ap (λ (k : Kept). k.rings) view) in
    let reached = IsReached-of rings slots after order held.queued few alike in
    let same : entries_in after ≡ k.entries = reached.entries ∙ ap (λ (k : Kept). k.entries) view in
    (IsSet-free rings after order n p reached.queued number low held.few ring (ap (entry_at p.0.accused p.0.ring.0) same ∙ free) (subst (λ (es : List Entry). AreUntil p.1 es) (sym same) until), same)

-- the entries that were due are taken one after another
pub record IsTaking (rings : ℕ) (timeout now : ℕ) (start slots : Slots) (order : List ℕ) (before after : List AccBody) : Type 0 where
  pub queued : AreQueued rings slots order
  pub left : filter (λ p. not (is_due timeout now p)) (entries_in slots) ≡ filter (λ p. not (is_due timeout now p)) (entries_in start)
  pub added : List AccBody
  pub behind : after ≡ before ++ added
  pub moved : IsPermutation (map (λ p. p.0) (filter (is_due timeout now) (entries_in start))) (added ++ map (λ p. p.0) (filter (is_due timeout now) (entries_in slots)))

pub IsTaking-start : (rings : ℕ) (timeout now : ℕ) (slots : Slots) (order : List ℕ) (before : List AccBody) → AreQueued rings slots order → IsTaking rings timeout now slots slots order before before
IsTaking-start rings timeout now slots order before h =
    record { queued = h; left = refl; added = []; behind = sym (append-nil before); moved = IsPermutation-refl (map (λ p. p.0) (filter (is_due timeout now) (entries_in slots))) }

pub IsTaking-more : (rings : ℕ) (timeout now : ℕ) (start slots : Slots) (order : List ℕ) (before after : List AccBody) (n : ℕ) (p : Entry) → IsTaking rings timeout now start slots order before after → get_or slots n None ≡ Some p → is_due timeout now p ≡ true → AreQueued rings (set slots n None) (without n order) → IsTaking rings timeout now start (set slots n None) (without n order) before (after ++ p.0 ∷ [])
IsTaking-more rings timeout now start slots order before after n p h there due queued =
    let taken = due_taken (is_due timeout now) slots n p there due in
    let accs = IsPermutation-map (λ (q : Entry). q.0) _ _ taken in
    record {
      queued = queued;
      left = due_left (is_due timeout now) slots n p there due ∙ h.left;
      added = h.added ++ p.0 ∷ [];
      behind = ap (λ xs. xs ++ p.0 ∷ []) h.behind ∙ append_assoc before h.added (p.0 ∷ []);
      moved = IsPermutation-pop_more _ h.added _ _ p.0 h.moved accs;
    }

pub fewer_due : (timeout now : ℕ) (slots : Slots) (n : ℕ) (p : Entry) → get_or slots n None ≡ Some p → is_due timeout now p ≡ true → length (filter (is_due timeout now) (entries_in slots)) ≡ length (filter (is_due timeout now) (entries_in (set slots n None))) + 1
fewer_due timeout now slots n p there due =
    omega (arith, length_permutation _ _ (due_taken (is_due timeout now) slots n p there due))

pub IsTaking-end : (rings : ℕ) (timeout now : ℕ) (start slots : Slots) (order : List ℕ) (before after : List AccBody) → IsTaking rings timeout now start slots order before after → filter (is_due timeout now) (entries_in slots) ≡ [] → HasGained before after (map (λ p. p.0) (filter (is_due timeout now) (entries_in start))) × (entries_in slots ≡ filter (λ p. not (is_due timeout now p)) (entries_in start))
IsTaking-end rings timeout now start slots order before after h none =
    let all : IsPermutation (map (λ p. p.0) (filter (is_due timeout now) (entries_in start))) (h.added ++ []) =
    subst (λ (xs : List Entry). IsPermutation (map (λ p. p.0) (filter (is_due timeout now) (entries_in start))) (h.added ++ map (λ p. p.0) xs)) none h.moved in (
      record { added = h.added; behind = h.behind; moved = subst (IsPermutation (map (λ p. p.0) (filter (is_due timeout now) (entries_in start)))) (append-nil h.added) all },
      sym (all_left (is_due timeout now) (entries_in slots) none) ∙ h.left,
    )

-- the first is due, and in its slot
pub record IsDueAt (timeout now : ℕ) (slots : Slots) (n : ℕ) (p : Entry) : Type 0 where
  pub there : get_or slots n None ≡ Some p
  pub due : is_due timeout now p ≡ true

pub IsDueAt-taken : (timeout now : ℕ) (slots : Slots) (n : ℕ) (p : Entry) (taken : Option Entry) → taken ≡ Some p → taken ≡ get_or slots n None → IfSome (get_or slots n None) (λ p. is_due timeout now p ≡ true) → IsDueAt timeout now slots n p
IsDueAt-taken timeout now slots n p taken e value due =
    let there : get_or slots n None ≡ Some p = sym value ∙ e in
    record { there = there; due = subst (λ (o : Option Entry). IfSome o (λ p. is_due timeout now p ≡ true)) there due }

pub not_some : {X : Type 0} (o : Option X) → is_some o ≡ false → o ≡ None
not_some None h = refl
not_some (Some x) h = absurd (true≢false h)
