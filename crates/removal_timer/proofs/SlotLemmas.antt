-- The entries in slots, each in the slot of its member and ring: what filling a slot makes of them, what emptying one, and
-- what is due.
use Rattle.std.proofs.Common.{◌≡◌, ℕ, zero, suc, ◌+◌, ◌*◌, ◌<◌, ◌≤◌, Bool, true, false, cond, not, inl, inr, ◌⊎◌, List, [], ◌∷◌, Option, Some, None, IfSome, is_some, length, get_or, set, filter, map, refl, sym, ap, ◌∙◌, subst, arith}
use Rattle.std.specs.List.{AllByRecursion}
use Rattle.std.specs.List.Sorted.{IsPermutation}
use Rattle.std.proofs.lemmas.Bool.{true≢false, cases_lt}
use Rattle.std.proofs.lemmas.Nat.{row_fits, same_from_place}
use Rattle.std.proofs.lemmas.Bool.Decides.{nat_tests}
use Rattle.std.proofs.lemmas.List.Sorted.{IsPermutation-refl, IsPermutation-cons, IsPermutation-trans, IsPermutation-middle}
use Rattle.ff_ids.specs.declared.AccBody.{AccBody}
use Rattle.ff_ids.specs.Steps.{precedes, with_kept}
use Rattle.removal_timer.specs.Kept.{is_at, entry_at, entries_in, pair_number, slot_number, IsOwn, AreRising}
use Rattle.removal_timer.proofs.KeptLemmas.{All-weaker, All-filter}

abbrev pub Entry : Type 0
Entry = AccBody × ℕ

abbrev pub Slots : Type 0
Slots = List (Option Entry)

-- the first member and ring come before the second
abbrev IsBefore : ℕ → ℕ → ℕ → ℕ → Type 0
IsBefore a r b s = (a < b) ⊎ ((a ≡ b) × (r < s))

-- slots are in the order of members, then of rings
before_by_slot : (rings a r b s : ℕ) → s < rings → slot_number rings a r < slot_number rings b s → IsBefore a r b s
before_by_slot rings a r b s on lt = by_member (cases_lt a b) (cases_lt b a)
  where
    by_member : (a < b) ⊎ (b ≤ a) → (b < a) ⊎ (a ≤ b) → IsBefore a r b s
    by_member (inl less) more = inl less
    by_member (inr up) (inl more) = absurd (omega (arith, lt, on, row_fits b rings a rings more (omega arith)))
    by_member (inr up) (inr down) =
        let same : a ≡ b = omega (arith, up, down) in
        inr (same, omega (arith, lt, ap (λ k. k * rings) same))

-- each entry is in its own slot, where the first slot has the number
abbrev OwnFrom : ℕ → ℕ → Slots → Type 0
OwnFrom rings low slots = (n : ℕ) → IfSome (get_or slots n None) (IsOwn rings (low + n))

next_number : (low n : ℕ) → low + suc n ≡ low + 1 + n
next_number low n = omega arith

later : (rings low : ℕ) (x : Option Entry) (slots : Slots) → OwnFrom rings low (x ∷ slots) → OwnFrom rings (low + 1) slots
later rings low x slots h n = subst (λ k. IfSome (get_or slots n None) (IsOwn rings k)) (next_number low n) (h (suc n))

first_own : (rings low : ℕ) (p : Entry) (slots : Slots) → OwnFrom rings low (Some p ∷ slots) → IsOwn rings low p
first_own rings low p slots h = subst (λ k. IsOwn rings k p) (omega arith) (h 0)

-- it is in no earlier slot
record IsFrom (rings low : ℕ) (p : Entry) : Type 0 where
  ring : p.0.ring.0 < rings
  number : low ≤ slot_number rings p.0.accused p.0.ring.0

All-from : (rings low : ℕ) (slots : Slots) → OwnFrom rings low slots → AllByRecursion (IsFrom rings low) (entries_in slots)
All-from rings low [] h = tt
All-from rings low (None ∷ slots) h =
    All-weaker (IsFrom rings (low + 1)) (IsFrom rings low) (λ p g. record { ring = g.ring; number = omega (arith, g.number) }) (entries_in slots) (All-from rings (low + 1) slots (later rings low None slots h))
All-from rings low (Some p ∷ slots) h =
    let own = first_own rings low p slots h in (
      record { ring = own.ring; number = omega (arith, own.number) },
      All-weaker (IsFrom rings (low + 1)) (IsFrom rings low) (λ q g. record { ring = g.ring; number = omega (arith, g.number) }) (entries_in slots) (All-from rings (low + 1) slots (later rings low (Some p) slots h)),
    )

-- ---- a slot is filled

kept_first : (p : Entry) (xs : List Entry) → AllByRecursion (λ q. precedes q.0 p.0 ≡ false) xs → with_kept p xs ≡ p ∷ xs
kept_first p [] h = refl
kept_first p (q ∷ xs) h = rw h.0 refl

after_own : (rings low : ℕ) (p q : Entry) → IsOwn rings low p → IsFrom rings (low + 1) q → precedes q.0 p.0 ≡ false
after_own rings low p q own from = by_order (before_by_slot rings p.0.accused p.0.ring.0 q.0.accused q.0.ring.0 from.ring (omega (arith, own.number, from.number)))
  where
    by_order : IsBefore p.0.accused p.0.ring.0 q.0.accused q.0.ring.0 → precedes q.0 p.0 ≡ false
    by_order (inl less) = grind (arith, nat_tests, less)
    by_order (inr same) = grind (arith, nat_tests, same.0, same.1)

before_own : (rings low n : ℕ) (p q : Entry) → IsOwn rings low q → IsOwn rings (low + suc n) p → precedes q.0 p.0 ≡ true
before_own rings low n p q first own = by_order (before_by_slot rings q.0.accused q.0.ring.0 p.0.accused p.0.ring.0 own.ring (omega (arith, own.number, first.number)))
  where
    by_order : IsBefore q.0.accused q.0.ring.0 p.0.accused p.0.ring.0 → precedes q.0 p.0 ≡ true
    by_order (inl less) = grind (arith, nat_tests, less)
    by_order (inr same) = grind (arith, nat_tests, same.0, same.1)

filled_from : (rings low : ℕ) (slots : Slots) (n : ℕ) (p : Entry) → OwnFrom rings low slots → get_or slots n None ≡ None → n < length slots → IsOwn rings (low + n) p → entries_in (set slots n (Some p)) ≡ with_kept p (entries_in slots)
filled_from rings low [] n p h free lt own = absurd (omega arith)
filled_from rings low (None ∷ slots) zero p h free lt own =
    let here : IsOwn rings low p = subst (λ k. IsOwn rings k p) (omega arith) own in
    let rest = All-from rings (low + 1) slots (later rings low None slots h) in
    sym (kept_first p (entries_in slots) (All-weaker (IsFrom rings (low + 1)) (λ q. precedes q.0 p.0 ≡ false) (λ q from. after_own rings low p q here from) (entries_in slots) rest))
filled_from rings low (Some q ∷ slots) zero p h free lt own = cc
filled_from rings low (None ∷ slots) (suc n) p h free lt own =
    filled_from rings (low + 1) slots n p (later rings low None slots h) free (omega arith) (subst (λ k. IsOwn rings k p) (next_number low n) own)
filled_from rings low (Some q ∷ slots) (suc n) p h free lt own =
    let first = before_own rings low n p q (first_own rings low q slots h) own in
    rw first (ap (λ xs. q ∷ xs) (filled_from rings (low + 1) slots n p (later rings low (Some q) slots h) free (omega arith) (subst (λ k. IsOwn rings k p) (next_number low n) own)))

zero_own : (rings n : ℕ) (p : Entry) → IsOwn rings n p → IsOwn rings (0 + n) p
zero_own rings n p h = subst (λ k. IsOwn rings k p) (omega arith) h

from_zero : (rings : ℕ) (slots : Slots) → ((n : ℕ) → IfSome (get_or slots n None) (IsOwn rings n)) → OwnFrom rings 0 slots
from_zero rings slots h n = subst (λ k. IfSome (get_or slots n None) (IsOwn rings k)) (omega arith) (h n)

pub entries_in-filled : (rings : ℕ) (slots : Slots) (n : ℕ) (p : Entry) → ((n : ℕ) → IfSome (get_or slots n None) (IsOwn rings n)) → get_or slots n None ≡ None → n < length slots → IsOwn rings n p → entries_in (set slots n (Some p)) ≡ with_kept p (entries_in slots)
entries_in-filled rings slots n p h free lt own = filled_from rings 0 slots n p (from_zero rings slots h) free lt (zero_own rings n p own)

-- ---- the slot of a member and a ring

not_there : (a r : ℕ) (xs : List Entry) → AllByRecursion (λ p. is_at a r p ≡ false) xs → (entry_at a r xs ≡ None) × (filter (λ p. not (is_at a r p)) xs ≡ xs)
not_there a r [] h = (refl, refl)
not_there a r (p ∷ xs) h =
    let rest = not_there a r xs h.1 in
    (rw h.0 rest.0, rw h.0 (ap (λ ys. p ∷ ys) rest.1))

other_own : (rings low n a r : ℕ) (p : Entry) → r < rings → slot_number rings a r ≡ low + suc n → IsOwn rings low p → is_at a r p ≡ false
other_own rings low n a r p ring number own = by_order (before_by_slot rings p.0.accused p.0.ring.0 a r ring (omega (arith, number, own.number)))
  where
    by_order : IsBefore p.0.accused p.0.ring.0 a r → is_at a r p ≡ false
    by_order (inl less) = grind (arith, nat_tests, less)
    by_order (inr same) = grind (arith, nat_tests, same.0, same.1)

other_from : (rings low a r : ℕ) (p : Entry) → r < rings → slot_number rings a r ≡ low + 0 → IsFrom rings (low + 1) p → is_at a r p ≡ false
other_from rings low a r p ring number from = by_order (before_by_slot rings a r p.0.accused p.0.ring.0 from.ring (omega (arith, number, from.number)))
  where
    by_order : IsBefore a r p.0.accused p.0.ring.0 → is_at a r p ≡ false
    by_order (inl less) = grind (arith, nat_tests, less)
    by_order (inr same) = grind (arith, nat_tests, same.0, same.1)

same_own : (rings low a r : ℕ) (p : Entry) → r < rings → slot_number rings a r ≡ low + 0 → IsOwn rings low p → is_at a r p ≡ true
same_own rings low a r p ring number own =
    let same : (p.0.accused ≡ a) × (p.0.ring.0 ≡ r) = same_from_place p.0.accused p.0.ring.0 a r rings own.ring ring (omega (arith, own.number, number)) in
    grind (arith, nat_tests, same.0, same.1)

-- what stands there is in its slot, and without it the slot is empty
record IsSlot (a r n : ℕ) (slots : Slots) : Type 0 where
  found : entry_at a r (entries_in slots) ≡ get_or slots n None
  emptied : entries_in (set slots n None) ≡ filter (λ p. not (is_at a r p)) (entries_in slots)

slot_from : (rings low a r : ℕ) (slots : Slots) (n : ℕ) → OwnFrom rings low slots → r < rings → slot_number rings a r ≡ low + n → IsSlot a r n slots
slot_from rings low a r [] n h ring number = record { found = refl; emptied = refl }
slot_from rings low a r (None ∷ slots) zero h ring number =
    let rest = All-from rings (low + 1) slots (later rings low None slots h) in
    let none = not_there a r (entries_in slots) (All-weaker (IsFrom rings (low + 1)) (λ p. is_at a r p ≡ false) (λ p from. other_from rings low a r p ring number from) (entries_in slots) rest) in
    record { found = none.0; emptied = sym none.1 }
slot_from rings low a r (Some q ∷ slots) zero h ring number =
    let here = same_own rings low a r q ring number (first_own rings low q slots h) in
    let rest = All-from rings (low + 1) slots (later rings low (Some q) slots h) in
    let none = not_there a r (entries_in slots) (All-weaker (IsFrom rings (low + 1)) (λ p. is_at a r p ≡ false) (λ p from. other_from rings low a r p ring number from) (entries_in slots) rest) in
    record { found = rw here refl; emptied = rw here (sym none.1) }
slot_from rings low a r (None ∷ slots) (suc n) h ring number =
    let rest = slot_from rings (low + 1) a r slots n (later rings low None slots h) ring (number ∙ next_number low n) in
    record { found = rest.found; emptied = rest.emptied }
slot_from rings low a r (Some q ∷ slots) (suc n) h ring number =
    let other = other_own rings low n a r q ring number (first_own rings low q slots h) in
    let rest = slot_from rings (low + 1) a r slots n (later rings low (Some q) slots h) ring (number ∙ next_number low n) in
    record { found = rw other rest.found; emptied = rw other (ap (λ xs. q ∷ xs) rest.emptied) }

slot_of : (rings a r : ℕ) (slots : Slots) → ((n : ℕ) → IfSome (get_or slots n None) (IsOwn rings n)) → r < rings → IsSlot a r (slot_number rings a r) slots
slot_of rings a r slots h ring = slot_from rings 0 a r slots (slot_number rings a r) (from_zero rings slots h) ring (omega arith)

pub entry_at-slot : (rings a r : ℕ) (slots : Slots) → ((n : ℕ) → IfSome (get_or slots n None) (IsOwn rings n)) → r < rings → entry_at a r (entries_in slots) ≡ get_or slots (slot_number rings a r) None
entry_at-slot rings a r slots h ring = (slot_of rings a r slots h ring).found

pub entries_in-emptied : (rings a r : ℕ) (slots : Slots) → ((n : ℕ) → IfSome (get_or slots n None) (IsOwn rings n)) → r < rings → entries_in (set slots (slot_number rings a r) None) ≡ filter (λ p. not (is_at a r p)) (entries_in slots)
entries_in-emptied rings a r slots h ring = (slot_of rings a r slots h ring).emptied

no_ring : (rings a r : ℕ) (p : Entry) → rings ≤ r → IsFrom rings 0 p → is_at a r p ≡ false
no_ring rings a r p past from = grind (arith, nat_tests, from.ring)

-- on a ring that the group doesn't have nothing stands
pub nothing_at : (rings a r : ℕ) (slots : Slots) → ((n : ℕ) → IfSome (get_or slots n None) (IsOwn rings n)) → rings ≤ r → (entry_at a r (entries_in slots) ≡ None) × (filter (λ p. not (is_at a r p)) (entries_in slots) ≡ entries_in slots)
nothing_at rings a r slots h past =
    not_there a r (entries_in slots) (All-weaker (IsFrom rings 0) (λ p. is_at a r p ≡ false) (λ p from. no_ring rings a r p past from) (entries_in slots) (All-from rings 0 slots (from_zero rings slots h)))

-- ---- all of them

pub slots_all : (P : Entry → Type 0) (slots : Slots) → AllByRecursion P (entries_in slots) → (n : ℕ) → IfSome (get_or slots n None) P
slots_all P [] h n = tt
slots_all P (None ∷ slots) h zero = tt
slots_all P (None ∷ slots) h (suc n) = slots_all P slots h n
slots_all P (Some p ∷ slots) h zero = h.0
slots_all P (Some p ∷ slots) h (suc n) = slots_all P slots h.1 n

pub all_slots : (P : Entry → Type 0) (slots : Slots) → ((n : ℕ) → IfSome (get_or slots n None) P) → AllByRecursion P (entries_in slots)
all_slots P [] h = tt
all_slots P (None ∷ slots) h = all_slots P slots (λ n. h (suc n))
all_slots P (Some p ∷ slots) h = (h 0, all_slots P slots (λ n. h (suc n)))

pub none_filled : (slots : Slots) → ((n : ℕ) → is_some (get_or slots n None) ≡ false) → entries_in slots ≡ []
none_filled [] h = refl
none_filled (None ∷ slots) h = none_filled slots (λ n. h (suc n))
none_filled (Some p ∷ slots) h = absurd (true≢false (h 0))

pub some_filled : (slots : Slots) (n : ℕ) → is_some (get_or slots n None) ≡ true → 0 < length (entries_in slots)
some_filled [] n h = absurd (true≢false (sym h))
some_filled (None ∷ slots) zero h = absurd (true≢false (sym h))
some_filled (None ∷ slots) (suc n) h = some_filled slots n h
some_filled (Some p ∷ slots) n h = omega arith

pub emptied_same : (slots : Slots) (n : ℕ) → get_or slots n None ≡ None → set slots n None ≡ slots
emptied_same [] n h = refl
emptied_same (None ∷ slots) zero h = refl
emptied_same (Some p ∷ slots) zero h = cc
emptied_same (x ∷ slots) (suc n) h = ap (λ xs. x ∷ xs) (emptied_same slots n h)

-- ---- what is due

pub due_taken : (due : Entry → Bool) (slots : Slots) (n : ℕ) (p : Entry) → get_or slots n None ≡ Some p → due p ≡ true → IsPermutation (filter due (entries_in slots)) (p ∷ filter due (entries_in (set slots n None)))
due_taken due [] n p there h = cc
due_taken due (None ∷ slots) zero p there h = cc
due_taken due (None ∷ slots) (suc n) p there h = due_taken due slots n p there h
due_taken due (Some q ∷ slots) zero p there h =
    let same : q ≡ p = cc in
    let is : due q ≡ true = ap due same ∙ h in
    rw is (subst (λ x. IsPermutation (q ∷ filter due (entries_in slots)) (x ∷ filter due (entries_in slots))) same (IsPermutation-refl (q ∷ filter due (entries_in slots))))
due_taken due (Some q ∷ slots) (suc n) p there h = by_first (due q) (due_taken due slots n p there h)
  where
    by_first : (b : Bool) → IsPermutation (filter due (entries_in slots)) (p ∷ filter due (entries_in (set slots n None))) → IsPermutation (cond b (q ∷ filter due (entries_in slots)) (filter due (entries_in slots))) (p ∷ cond b (q ∷ filter due (entries_in (set slots n None))) (filter due (entries_in (set slots n None))))
    by_first true rest =
        let left = filter due (entries_in (set slots n None)) in
        IsPermutation-trans _ (q ∷ p ∷ left) _ (IsPermutation-cons q _ _ rest) (IsPermutation-middle (q ∷ []) p left)
    by_first false rest = rest

pub due_left : (due : Entry → Bool) (slots : Slots) (n : ℕ) (p : Entry) → get_or slots n None ≡ Some p → due p ≡ true → filter (λ q. not (due q)) (entries_in (set slots n None)) ≡ filter (λ q. not (due q)) (entries_in slots)
due_left due [] n p there h = refl
due_left due (None ∷ slots) zero p there h = refl
due_left due (None ∷ slots) (suc n) p there h = due_left due slots n p there h
due_left due (Some q ∷ slots) zero p there h =
    let same : q ≡ p = cc in
    let is : due q ≡ true = ap due same ∙ h in
    rw is refl
due_left due (Some q ∷ slots) (suc n) p there h =
    ap (λ xs. cond (not (due q)) (q ∷ xs) xs) (due_left due slots n p there h)

pub none_due : (due : Entry → Bool) (xs : List Entry) → AllByRecursion (λ p. due p ≡ false) xs → filter due xs ≡ []
none_due due [] h = refl
none_due due (p ∷ xs) h = rw h.0 (none_due due xs h.1)

pub all_left : (due : Entry → Bool) (xs : List Entry) → filter due xs ≡ [] → filter (λ p. not (due p)) xs ≡ xs
all_left due [] h = refl
all_left due (p ∷ xs) h = by_first (due p) h (all_left due xs)
  where
    by_first : (b : Bool) → cond b (p ∷ filter due xs) (filter due xs) ≡ [] → (filter due xs ≡ [] → filter (λ p. not (due p)) xs ≡ xs) → cond (not b) (p ∷ filter (λ p. not (due p)) xs) (filter (λ p. not (due p)) xs) ≡ p ∷ xs
    by_first true e rest = cc
    by_first false e rest = ap (λ ys. p ∷ ys) (rest e)

-- ---- their order by number

All-map : (P : AccBody → Type 0) (xs : List Entry) → AllByRecursion (λ p. P p.0) xs → AllByRecursion P (map (λ p. p.0) xs)
All-map P [] h = tt
All-map P (p ∷ xs) h = (h.0, All-map P xs h.1)

in_pairs : (rings low : ℕ) (p q : Entry) → IsOwn rings low p → IsFrom rings (low + 1) q → pair_number p.0.accused p.0.ring.0 < pair_number q.0.accused q.0.ring.0
in_pairs rings low p q own from = by_order (before_by_slot rings p.0.accused p.0.ring.0 q.0.accused q.0.ring.0 from.ring (omega (arith, own.number, from.number)))
  where
    by_order : IsBefore p.0.accused p.0.ring.0 q.0.accused q.0.ring.0 → pair_number p.0.accused p.0.ring.0 < pair_number q.0.accused q.0.ring.0
    by_order (inl less) = omega (arith, own.ring, own.few, less)
    by_order (inr same) = omega (arith, same.0, same.1)

rising_from : (rings low : ℕ) (slots : Slots) (due : Entry → Bool) → OwnFrom rings low slots → AreRising (map (λ p. p.0) (filter due (entries_in slots)))
rising_from rings low [] due h = tt
rising_from rings low (None ∷ slots) due h = rising_from rings (low + 1) slots due (later rings low None slots h)
rising_from rings low (Some p ∷ slots) due h =
    let own = first_own rings low p slots h in
    let rest = All-from rings (low + 1) slots (later rings low (Some p) slots h) in
    let above = All-weaker (IsFrom rings (low + 1)) (λ q. pair_number p.0.accused p.0.ring.0 < pair_number q.0.accused q.0.ring.0) (λ q from. in_pairs rings low p q own from) (entries_in slots) rest in
    let first = All-map (λ b. pair_number p.0.accused p.0.ring.0 < pair_number b.accused b.ring.0) (filter due (entries_in slots)) (All-filter _ due (entries_in slots) above) in
    let more = rising_from rings (low + 1) slots due (later rings low (Some p) slots h) in
    elim (due p) as (λ b. AreRising (map (λ p. p.0) (cond b (p ∷ filter due (entries_in slots)) (filter due (entries_in slots))))) [
      | true ↦ (first, more)
      | false ↦ more
    ]

pub AreRising-due : (rings : ℕ) (slots : Slots) (due : Entry → Bool) → ((n : ℕ) → IfSome (get_or slots n None) (IsOwn rings n)) → AreRising (map (λ p. p.0) (filter due (entries_in slots)))
AreRising-due rings slots due h = rising_from rings 0 slots due (from_zero rings slots h)
