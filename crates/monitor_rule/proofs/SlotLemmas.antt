-- The members whose places are in slots by number.
use Rattle.std.proofs.Common.{◌≡◌, ℕ, zero, suc, ◌+◌, ◌<◌, ◌≤◌, Bool, true, false, cond, eqb, List, [], ◌∷◌, Option, Some, None, length, get_or, set, refl, sym, ap, ◌∙◌, subst, arith}
use Rattle.std.specs.Prelude.{nat_le, is_some}
use Rattle.std.specs.List.{All, Contains}
use Rattle.std.proofs.lemmas.Bool.{ne_eqb, or_from, le-leb, lt-leb}
use Rattle.std.proofs.lemmas.List.Elements.{All-nil, All-cons, Contains-append_right}
use Rattle.ff_ids.specs.Rings.{Key}
use Rattle.ff_ids.specs.Views.{Member, key_at}
use Rattle.monitor_rule.specs.Joined.{with_member, without_member, is_joined, keys_on}
use Rattle.monitor_rule.specs.Sorted.{members_from}

abbrev pub Slots : Type 0
Slots = List (Option (List (List ℕ)))

-- the number of the slot behind
next_number : (low i : ℕ) → low + suc i ≡ low + 1 + i
next_number low i = omega arith

-- what holds of the key of each filled slot holds of each key
pub All-keys : (ring low : ℕ) (slots : Slots) (P : Key → Type 0) → ((i : ℕ) (places : List (List ℕ)) → get_or slots i None ≡ Some places → P (key_at ring places (low + i))) → All P (keys_on ring (members_from low slots))
All-keys ring low [] P h = All-nil P
All-keys ring low (None ∷ slots) P h =
    All-keys ring (low + 1) slots P (λ i places there. subst (λ (n : ℕ). P (key_at ring places n)) (next_number low i) (h (suc i) places there))
All-keys ring low (Some own ∷ slots) P h =
    let first : P (key_at ring own low) = subst (λ (n : ℕ). P (key_at ring own n)) (omega arith) (h 0 own refl) in
    All-cons P (key_at ring own low) (keys_on ring (members_from (low + 1) slots)) first
    (All-keys ring (low + 1) slots P (λ i places there. subst (λ (n : ℕ). P (key_at ring places n)) (next_number low i) (h (suc i) places there)))

-- the key of a filled slot is among them
pub Contains-key : (ring low : ℕ) (slots : Slots) (i : ℕ) (places : List (List ℕ)) → get_or slots i None ≡ Some places → Contains (keys_on ring (members_from low slots)) (key_at ring places (low + i))
Contains-key ring low [] i places h = cc
Contains-key ring low (None ∷ slots) zero places h = cc
Contains-key ring low (Some own ∷ slots) zero places h =
    let same : own ≡ places = cc in
    let e : low ≡ low + 0 = omega arith in
    (0, omega arith, ap (λ p. key_at ring p low) same ∙ ap (λ n. key_at ring places n) e)
Contains-key ring low (None ∷ slots) (suc i) places h =
    subst (λ (n : ℕ). Contains (keys_on ring (members_from (low + 1) slots)) (key_at ring places n)) (sym (next_number low i)) (Contains-key ring (low + 1) slots i places h)
Contains-key ring low (Some own ∷ slots) (suc i) places h =
    let rest = Contains-key ring (low + 1) slots i places h in
    let moved = subst (λ (n : ℕ). Contains (keys_on ring (members_from (low + 1) slots)) (key_at ring places n)) (sym (next_number low i)) rest in
    Contains-append_right (key_at ring own low ∷ []) (keys_on ring (members_from (low + 1) slots)) (key_at ring places (low + suc i)) moved

-- a member whose places are in a slot is among them
pub Contains-member : (low : ℕ) (slots : Slots) (i : ℕ) (places : List (List ℕ)) → get_or slots i None ≡ Some places → Contains (members_from low slots) (record { number = low + i; places = places })
Contains-member low [] i places h = cc
Contains-member low (None ∷ slots) zero places h = cc
Contains-member low (Some own ∷ slots) zero places h =
    let same : own ≡ places = cc in
    let e : low ≡ low + 0 = omega arith in
    (0, omega arith, ap (λ p. record { number = low; places = p }) same ∙ ap (λ n. record { number = n; places = places }) e)
Contains-member low (None ∷ slots) (suc i) places h =
    subst (λ (n : ℕ). Contains (members_from (low + 1) slots) (record { number = n; places = places })) (sym (next_number low i)) (Contains-member (low + 1) slots i places h)
Contains-member low (Some own ∷ slots) (suc i) places h =
    let rest = Contains-member (low + 1) slots i places h in
    let moved = subst (λ (n : ℕ). Contains (members_from (low + 1) slots) (record { number = n; places = places })) (sym (next_number low i)) rest in
    Contains-append_right (record { number = low; places = own } ∷ []) (members_from (low + 1) slots) (record { number = low + suc i; places = places }) moved

-- a number below all of them comes first
with_first : (m : Member) (low : ℕ) (slots : Slots) → m.number < low → with_member m (members_from low slots) ≡ m ∷ members_from low slots
with_first m low [] h = refl
with_first m low (None ∷ slots) h = with_first m (low + 1) slots (omega arith)
with_first m low (Some own ∷ slots) h =
    let le : nat_le m.number low ≡ true = le-leb m.number low (omega arith) in
    rw le refl

-- a slot that is filled
pub members_from-filled : (low : ℕ) (slots : Slots) (i : ℕ) (places : List (List ℕ)) → get_or slots i None ≡ None → i < length slots → members_from low (set slots i (Some places)) ≡ with_member (record { number = low + i; places = places }) (members_from low slots)
members_from-filled low [] i places free lt = absurd (omega arith)
members_from-filled low (None ∷ slots) zero places free lt =
    let e : low ≡ low + 0 = omega arith in
    let first = with_first (record { number = low + 0; places = places }) (low + 1) slots (omega arith) in
    ap (λ n. record { number = n; places = places } ∷ members_from (low + 1) slots) e ∙ sym first
members_from-filled low (Some own ∷ slots) zero places free lt = cc
members_from-filled low (None ∷ slots) (suc i) places free lt =
    members_from-filled (low + 1) slots i places free (omega arith) ∙ ap (λ n. with_member (record { number = n; places = places }) (members_from (low + 1) slots)) (sym (next_number low i))
members_from-filled low (Some own ∷ slots) (suc i) places free lt =
    let later : nat_le (low + suc i) low ≡ false = lt-leb (low + suc i) low (omega arith) in
    rw later (ap (λ ms. record { number = low; places = own } ∷ ms)
    (members_from-filled (low + 1) slots i places free (omega arith) ∙ ap (λ n. with_member (record { number = n; places = places }) (members_from (low + 1) slots)) (sym (next_number low i))))

-- a slot that is emptied
pub members_from-emptied : (low : ℕ) (slots : Slots) (i : ℕ) (places : List (List ℕ)) → get_or slots i None ≡ Some places → members_from low (set slots i None) ≡ without_member (low + i) (members_from low slots)
members_from-emptied low [] i places there = cc
members_from-emptied low (None ∷ slots) zero places there = cc
members_from-emptied low (Some own ∷ slots) zero places there =
    let here : eqb low (low + 0) ≡ true = grind (arith) in
    rw here refl
members_from-emptied low (None ∷ slots) (suc i) places there =
    members_from-emptied (low + 1) slots i places there ∙ ap (λ n. without_member n (members_from (low + 1) slots)) (sym (next_number low i))
members_from-emptied low (Some own ∷ slots) (suc i) places there =
    let apart : eqb low (low + suc i) ≡ false = ne_eqb low (low + suc i) (λ e. absurd (omega arith)) in
    rw apart (ap (λ ms. record { number = low; places = own } ∷ ms)
    (members_from-emptied (low + 1) slots i places there ∙ ap (λ n. without_member n (members_from (low + 1) slots)) (sym (next_number low i))))

absent_below : (low m : ℕ) (slots : Slots) → m < low → is_joined (members_from low slots) m ≡ false
absent_below low m [] h = refl
absent_below low m (None ∷ slots) h = absent_below (low + 1) m slots (omega arith)
absent_below low m (Some own ∷ slots) h =
    or_from (eqb low m) (is_joined (members_from (low + 1) slots) m) (ne_eqb low m (λ e. absurd (omega arith))) (absent_below (low + 1) m slots (omega arith))

-- who has joined
pub is_joined-slot : (low : ℕ) (slots : Slots) (i : ℕ) → is_joined (members_from low slots) (low + i) ≡ is_some (get_or slots i None)
is_joined-slot low [] i = refl
is_joined-slot low (None ∷ slots) zero = absent_below (low + 1) (low + 0) slots (omega arith)
is_joined-slot low (Some own ∷ slots) zero =
    let here : eqb low (low + 0) ≡ true = grind (arith) in
    rw here refl
is_joined-slot low (None ∷ slots) (suc i) = ap (is_joined (members_from (low + 1) slots)) (next_number low i) ∙ is_joined-slot (low + 1) slots i
is_joined-slot low (Some own ∷ slots) (suc i) =
    let apart : eqb low (low + suc i) ≡ false = ne_eqb low (low + suc i) (λ e. absurd (omega arith)) in
    rw apart (ap (is_joined (members_from (low + 1) slots)) (next_number low i) ∙ is_joined-slot (low + 1) slots i)

-- there are no more members than slots
pub length-members_from : (low : ℕ) (slots : Slots) → length (members_from low slots) ≤ length slots
length-members_from low [] = omega arith
length-members_from low (None ∷ slots) = omega (arith, length-members_from (low + 1) slots)
length-members_from low (Some own ∷ slots) = omega (arith, length-members_from (low + 1) slots)

-- no slot is filled
pub members_from-none : (low : ℕ) (slots : Slots) → ((i : ℕ) → get_or slots i None ≡ None) → members_from low slots ≡ []
members_from-none low [] h = refl
members_from-none low (None ∷ slots) h = members_from-none (low + 1) slots (λ i. h (suc i))
members_from-none low (Some own ∷ slots) h = let wrong = h 0 in cc

length-with_either : (b : Bool) (x y : Member) (ms ns : List Member) → length ns ≡ length ms + 1 → length (cond b (x ∷ y ∷ ms) (y ∷ ns)) ≡ length (y ∷ ms) + 1
length-with_either true x y ms ns h = omega arith
length-with_either false x y ms ns h = omega arith

pub length-with_member : (x : Member) (ms : List Member) → length (with_member x ms) ≡ length ms + 1
length-with_member x [] = omega arith
length-with_member x (y ∷ ms) = length-with_either (nat_le x.number y.number) x y ms (with_member x ms) (length-with_member x ms)

-- how many there are once a slot is emptied
pub length-emptied : (low : ℕ) (slots : Slots) (i : ℕ) (places : List (List ℕ)) → get_or slots i None ≡ Some places → length (members_from low (set slots i None)) + 1 ≡ length (members_from low slots)
length-emptied low [] i places there = cc
length-emptied low (None ∷ slots) zero places there = cc
length-emptied low (Some own ∷ slots) zero places there = omega arith
length-emptied low (None ∷ slots) (suc i) places there = length-emptied (low + 1) slots i places there
length-emptied low (Some own ∷ slots) (suc i) places there = omega (arith, length-emptied (low + 1) slots i places there)

-- there is room for one more where a slot is free
pub length-members_below : (low : ℕ) (slots : Slots) (i : ℕ) → get_or slots i None ≡ None → i < length slots → length (members_from low slots) < length slots
length-members_below low [] i free lt = absurd (omega arith)
length-members_below low (None ∷ slots) zero free lt = omega (arith, length-members_from (low + 1) slots)
length-members_below low (Some own ∷ slots) zero free lt = cc
length-members_below low (None ∷ slots) (suc i) free lt = omega (arith, length-members_from (low + 1) slots)
length-members_below low (Some own ∷ slots) (suc i) free lt = omega (arith, length-members_below (low + 1) slots i free (omega arith))
