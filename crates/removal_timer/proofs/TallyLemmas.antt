-- The counts of entries in slots: once a slot is filled, or emptied.
use Rattle.std.proofs.Common.{◌≡◌, ◌≢◌, ℕ, zero, suc, ◌+◌, ◌-◌, ◌^◌, ◌<◌, ◌≤◌, Bool, true, false, cond, ◌||◌, ◌&&◌, eqb, inl, inr, List, [], ◌∷◌, Some, None, length, get_or, set, filter, refl, sym, ap, ◌∙◌, arith, get_or-set_same, get_or-set_other}
use Rattle.std.proofs.Math.ListN.{length-set}
use Rattle.std.specs.Prelude.{nat_lt}
use Rattle.std.specs.List.{list_any}
use Rattle.std.proofs.lemmas.Bool.{cases_eq, true≢false}
use Rattle.std.proofs.lemmas.Bool.Decides.{nat_tests}
use Rattle.ff_ids.specs.declared.TheConstants.{MEMBERS}
use Rattle.removal_timer.specs.Kept.{entries_in, entry_at, IsOwn}
use Rattle.removal_timer.specs.Tally.{AreTallied, is_against, is_by, one_more, one_less}
use Rattle.removal_timer.specs.declared.tally.Tallies.{Tallies}
use Rattle.removal_timer.proofs.SlotLemmas.{Entry, Slots}
use Rattle.removal_timer.proofs.MarkLemmas.{AreOwn, marks-more, marks-less}

abbrev one : Bool → ℕ
one b = cond b 1 0

abbrev count_in : (Entry → Bool) → Slots → ℕ
count_in f slots = length (filter f (entries_in slots))

counted : (b : Bool) (p : Entry) (ps : List Entry) → length (cond b (p ∷ ps) ps) ≡ one b + length ps
counted true p ps = omega arith
counted false p ps = omega arith

pub count-few : (f : Entry → Bool) (slots : Slots) → count_in f slots ≤ length slots
count-few f [] = omega arith
count-few f (None ∷ slots) = omega (arith, count-few f slots)
count-few f (Some p ∷ slots) = by_test (f p) (count-few f slots)
  where
    by_test : (b : Bool) → count_in f slots ≤ length slots → length (cond b (p ∷ filter f (entries_in slots)) (filter f (entries_in slots))) ≤ suc (length slots)
    by_test true few = omega (arith, few)
    by_test false few = omega (arith, few)

pub count-emptied : (f : Entry → Bool) (slots : Slots) (n : ℕ) (p : Entry) → get_or slots n None ≡ Some p → count_in f (set slots n None) + one (f p) ≡ count_in f slots
count-emptied f [] n p there = cc
count-emptied f (None ∷ slots) zero p there = cc
count-emptied f (Some q ∷ slots) zero p there =
    let same : q ≡ p = cc in
    let own = counted (f q) q (filter f (entries_in slots)) in
    let test : f q ≡ f p = ap f same in
    omega (arith, own, ap one test)
count-emptied f (None ∷ slots) (suc n) p there = count-emptied f slots n p there
count-emptied f (Some q ∷ slots) (suc n) p there =
    omega (arith, counted (f q) q (filter f (entries_in (set slots n None))), counted (f q) q (filter f (entries_in slots)), count-emptied f slots n p there)

pub count-filled : (f : Entry → Bool) (slots : Slots) (n : ℕ) (p : Entry) → get_or slots n None ≡ None → n < length slots → count_in f (set slots n (Some p)) ≡ count_in f slots + one (f p)
count-filled f [] n p free lt = absurd (omega arith)
count-filled f (None ∷ slots) zero p free lt = omega (arith, counted (f p) p (filter f (entries_in slots)))
count-filled f (Some q ∷ slots) zero p free lt = cc
count-filled f (None ∷ slots) (suc n) p free lt = count-filled f slots n p free (omega arith)
count-filled f (Some q ∷ slots) (suc n) p free lt =
    omega (arith, counted (f q) q (filter f (entries_in (set slots n (Some p)))), counted (f q) q (filter f (entries_in slots)), count-filled f slots n p free (omega arith))

own_test : (m : ℕ) → eqb m m ≡ true
own_test m = grind (arith, nat_tests)

other_test : (a m : ℕ) → m ≢ a → eqb a m ≡ false
other_test a m apart = grind (arith, nat_tests, apart)

-- counts that one entry less, or one more, has changed
counts_less : (counts : List ℕ) (test : ℕ → Entry → Bool) (of : Entry → ℕ) → ((m : ℕ) (q : Entry) → test m q ≡ eqb (of q) m) → (slots : Slots) (n : ℕ) (p : Entry) → get_or slots n None ≡ Some p → length counts ≡ MEMBERS → of p < MEMBERS → ((m : ℕ) → m < MEMBERS → get_or counts m 0 ≡ count_in (test m) slots) → (m : ℕ) → m < MEMBERS → get_or (set counts (of p) (get_or counts (of p) 0 - 1)) m 0 ≡ count_in (test m) (set slots n None)
counts_less counts test of is slots n p there long number same m lt =
    elim (cases_eq m (of p)) [
      | inl own ↦
          let at : test m p ≡ true = is m p ∙ ap (λ k. eqb (of p) k) own ∙ own_test (of p) in
          let left = count-emptied (test m) slots n p there in
          let written : get_or (set counts (of p) (get_or counts (of p) 0 - 1)) m 0 ≡ get_or counts (of p) 0 - 1 = ap (λ k. get_or (set counts (of p) (get_or counts (of p) 0 - 1)) k 0) own ∙ get_or-set_same counts (of p) (get_or counts (of p) 0 - 1) 0 (omega arith) in
          let read : get_or counts (of p) 0 ≡ count_in (test m) slots = ap (λ k. get_or counts k 0) (sym own) ∙ same m lt in
          omega (arith, written, read, left, ap one at)
      | inr apart ↦
          let off : test m p ≡ false = is m p ∙ other_test (of p) m apart in
          let left = count-emptied (test m) slots n p there in
          omega (arith, get_or-set_other counts (of p) m (get_or counts (of p) 0 - 1) 0 apart, same m lt, left, ap one off)
    ]

counts_more : (counts : List ℕ) (test : ℕ → Entry → Bool) (of : Entry → ℕ) → ((m : ℕ) (q : Entry) → test m q ≡ eqb (of q) m) → (slots : Slots) (n : ℕ) (p : Entry) → get_or slots n None ≡ None → n < length slots → length counts ≡ MEMBERS → of p < MEMBERS → ((m : ℕ) → m < MEMBERS → get_or counts m 0 ≡ count_in (test m) slots) → (m : ℕ) → m < MEMBERS → get_or (set counts (of p) (get_or counts (of p) 0 + 1)) m 0 ≡ count_in (test m) (set slots n (Some p))
counts_more counts test of is slots n p free within long number same m lt =
    elim (cases_eq m (of p)) [
      | inl own ↦
          let at : test m p ≡ true = is m p ∙ ap (λ k. eqb (of p) k) own ∙ own_test (of p) in
          let more = count-filled (test m) slots n p free within in
          let written : get_or (set counts (of p) (get_or counts (of p) 0 + 1)) m 0 ≡ get_or counts (of p) 0 + 1 = ap (λ k. get_or (set counts (of p) (get_or counts (of p) 0 + 1)) k 0) own ∙ get_or-set_same counts (of p) (get_or counts (of p) 0 + 1) 0 (omega arith) in
          let read : get_or counts (of p) 0 ≡ count_in (test m) slots = ap (λ k. get_or counts k 0) (sym own) ∙ same m lt in
          omega (arith, written, read, more, ap one at)
      | inr apart ↦
          let off : test m p ≡ false = is m p ∙ other_test (of p) m apart in
          let more = count-filled (test m) slots n p free within in
          omega (arith, get_or-set_other counts (of p) m (get_or counts (of p) 0 + 1) 0 apart, same m lt, more, ap one off)
    ]

pub AreTallied-less : (rings : ℕ) (slots : Slots) (n : ℕ) (p : Entry) (t : Tallies) → AreTallied (entries_in slots) t → AreOwn rings slots → AreOwn rings (set slots n None) → IsOwn rings n p → get_or slots n None ≡ Some p → n < length slots → p.0.accused < MEMBERS → p.0.accuser < MEMBERS → AreTallied (entries_in (set slots n None)) (one_less p.0 t)
AreTallied-less rings slots n p t h before after own there within accused accuser =
    record {
      against_long = length-set t.against p.0.accused (get_or t.against p.0.accused 0 - 1) ∙ h.against_long;
      by_long = length-set t.by p.0.accuser (get_or t.by p.0.accuser 0 - 1) ∙ h.by_long;
      against = counts_less t.against is_against (λ q. q.0.accused) (λ m q. refl) slots n p there h.against_long accused h.against;
      by = counts_less t.by is_by (λ q. q.0.accuser) (λ m q. refl) slots n p there h.by_long accuser h.by;
      marks_long = length-set t.marks p.0.accused (get_or t.marks p.0.accused 0 - 2 ^ p.0.ring.0) ∙ h.marks_long;
      marks = marks-less rings slots n p t.marks h.marks before after own there within h.marks_long accused;
    }

pub AreTallied-more : (rings : ℕ) (slots : Slots) (n : ℕ) (p : Entry) (t : Tallies) → AreTallied (entries_in slots) t → AreOwn rings slots → AreOwn rings (set slots n (Some p)) → IsOwn rings n p → get_or slots n None ≡ None → n < length slots → p.0.accused < MEMBERS → p.0.accuser < MEMBERS → AreTallied (entries_in (set slots n (Some p))) (one_more p.0 t)
AreTallied-more rings slots n p t h before after own free within accused accuser =
    record {
      against_long = length-set t.against p.0.accused (get_or t.against p.0.accused 0 + 1) ∙ h.against_long;
      by_long = length-set t.by p.0.accuser (get_or t.by p.0.accuser 0 + 1) ∙ h.by_long;
      against = counts_more t.against is_against (λ q. q.0.accused) (λ m q. refl) slots n p free within h.against_long accused h.against;
      by = counts_more t.by is_by (λ q. q.0.accuser) (λ m q. refl) slots n p free within h.by_long accuser h.by;
      marks_long = length-set t.marks p.0.accused (get_or t.marks p.0.accused 0 + 2 ^ p.0.ring.0) ∙ h.marks_long;
      marks = marks-more rings slots n p t.marks h.marks before after own free within h.marks_long accused;
    }

-- a count is positive where there is one
pub list_any-counted : (f : Entry → Bool) (entries : List Entry) → nat_lt 0 (length (filter f entries)) ≡ list_any f entries
list_any-counted f [] = refl
list_any-counted f (p ∷ entries) = by_test (f p) (list_any-counted f entries)
  where
    by_test : (b : Bool) → nat_lt 0 (length (filter f entries)) ≡ list_any f entries → nat_lt 0 (length (cond b (p ∷ filter f entries) (filter f entries))) ≡ (b || list_any f entries)
    by_test true rest = some (length (filter f entries))
      where
        some : (n : ℕ) → nat_lt 0 (suc n) ≡ true
        some n = grind (arith, nat_tests)
    by_test false rest = rest

-- so who has none has none in any place
pub some-counted : (f : Entry → Bool) (slots : Slots) (n : ℕ) (p : Entry) → get_or slots n None ≡ Some p → f p ≡ true → 0 < count_in f slots
some-counted f slots n p there picked = omega (arith, count-emptied f slots n p there, ap one picked)

-- against whom nothing is counted, there is no entry
pub none_against : (m ring : ℕ) (entries : List Entry) → list_any (is_against m) entries ≡ false → entry_at m ring entries ≡ None
none_against m ring [] none = refl
none_against m ring (p ∷ entries) none = by_test (eqb p.0.accused m) (eqb p.0.ring.0 ring) none (none_against m ring entries)
  where
    by_test : (b c : Bool) → (b || list_any (is_against m) entries) ≡ false → (list_any (is_against m) entries ≡ false → entry_at m ring entries ≡ None) → cond (b && c) (Some p) (entry_at m ring entries) ≡ None
    by_test true c none rest = absurd (true≢false none)
    by_test false c none rest = rest none
