-- The marks of the rings on which entries in slots are against a member: once a slot is filled, or emptied.
use Rattle.std.proofs.Common.{◌≡◌, ◌≢◌, ℕ, zero, suc, ◌+◌, ◌-◌, ◌%◌, ◌^◌, ◌<◌, ◌≤◌, Bool, true, false, cond, eqb, ◌&&◌, ◌||◌, inl, inr, ◌⊎◌, List, [], ◌∷◌, Option, Some, None, IfSome, is_some, find, get_or, length, set, refl, sym, ap, ◌∙◌, arith, get_or-set_same, get_or-set_other}
use Rattle.std.specs.List.{list_any}
use Rattle.std.proofs.Math.Nat.{div-eq_of_lt, pow-le-pow_right}
use Rattle.std.proofs.lemmas.Bool.{cases_eq, cases_lt}
use Rattle.std.proofs.lemmas.Bool.Decides.{nat_tests}
use Rattle.std.proofs.lemmas.Nat.{same_from_place}
use Rattle.std.specs.Prelude.{nat_lt}
use Rattle.ff_ids.specs.declared.TheConstants.{MEMBERS, MAX_RINGS}
use Rattle.ff_ids.specs.Masks.{bits_where, enables}
use Rattle.ff_ids.proofs.BitLemmas.{bits-below, bits_same, bits-tell}
use Rattle.removal_timer.specs.Kept.{is_at, entry_at, entries_in, slot_number, IsOwn}
use Rattle.removal_timer.specs.Tally.{rings_against}
use Rattle.removal_timer.proofs.SlotLemmas.{Entry, Slots, entry_at-slot, nothing_at}

-- a mask below a power of two enables no ring from that power on
pub enables-past : (mask n ring : ℕ) → mask < 2 ^ n → n ≤ ring → enables mask ring ≡ false
enables-past mask n ring low past =
    let more : 2 ^ n ≤ 2 ^ ring = pow-le-pow_right {n = 2} (omega arith) {i = n} {j = ring} past in
    ap (λ (k : ℕ). eqb (k % 2) 1) (div-eq_of_lt {n = mask} {m = 2 ^ ring} (omega (arith, low, more)))

-- each entry is in its own slot
abbrev pub AreOwn : ℕ → Slots → Type 0
AreOwn rings slots = (n : ℕ) → IfSome (get_or slots n None) (IsOwn rings n)

-- whether the ring is the group's, and the slot of the member and the ring is filled
abbrev is_filled : ℕ → Slots → ℕ → ℕ → Bool
is_filled rings slots m r = nat_lt r rings && is_some (get_or slots (slot_number rings m r) None)

any_found : (f : Entry → Bool) (xs : List Entry) → list_any f xs ≡ is_some (find f xs)
any_found f [] = refl
any_found f (p ∷ xs) = by_first (f p) (any_found f xs)
  where
    by_first : (b : Bool) → list_any f xs ≡ is_some (find f xs) → (b || list_any f xs) ≡ is_some (cond b (Some p) (find f xs))
    by_first true rest = refl
    by_first false rest = rest

is_marked : (rings m : ℕ) (slots : Slots) → AreOwn rings slots → rings_against m (entries_in slots) ≡ bits_where (is_filled rings slots m) MAX_RINGS
is_marked rings m slots own =
    bits_same (λ r. list_any (is_at m r) (entries_in slots)) (is_filled rings slots m) MAX_RINGS (λ r lt. any_found (is_at m r) (entries_in slots) ∙ on_ring r (cases_lt r rings))
  where
    on_ring : (r : ℕ) → (r < rings) ⊎ (rings ≤ r) → is_some (entry_at m r (entries_in slots)) ≡ is_filled rings slots m r
    on_ring r (inl on) =
        let is : nat_lt r rings ≡ true = grind (arith, nat_tests, on) in
        ap is_some (entry_at-slot rings m r slots own on) ∙ sym (ap (λ b. b && is_some (get_or slots (slot_number rings m r) None)) is)
    on_ring r (inr past) =
        let isnt : nat_lt r rings ≡ false = grind (arith, nat_tests, past) in
        ap is_some (nothing_at rings m r slots own past).0 ∙ sym (ap (λ b. b && is_some (get_or slots (slot_number rings m r) None)) isnt)

-- tests that differ at one number alone
bits_with : (f g : ℕ → Bool) (n r : ℕ) → r < n → f r ≡ false → g r ≡ true → ((k : ℕ) → k ≢ r → f k ≡ g k) → bits_where g n ≡ bits_where f n + 2 ^ r
unfolding bits_where
bits_with f g zero r lt off on same = absurd (omega (arith, lt))
bits_with f g (suc n) r lt off on same = by_place (cases_lt r n) (λ below. bits_with f g n r below off on same)
  where
    by_place : (r < n) ⊎ (n ≤ r) → (r < n → bits_where g n ≡ bits_where f n + 2 ^ r) → bits_where g n + cond (g n) (2 ^ n) 0 ≡ bits_where f n + cond (f n) (2 ^ n) 0 + 2 ^ r
    by_place (inl below) rest =
        let before = rest below in
        let top : cond (f n) (2 ^ n) 0 ≡ cond (g n) (2 ^ n) 0 = ap (λ b. cond b (2 ^ n) 0) (same n (λ e. absurd (omega (arith, e, below)))) in
        omega (arith, before, top)
    by_place (inr above) rest =
        let here : r ≡ n = omega (arith, lt, above) in
        let before : bits_where f n ≡ bits_where g n = bits_same f g n (λ k low. same k (λ e. absurd (omega (arith, e, low, above)))) in
        let off_top : cond (f n) (2 ^ n) 0 ≡ 0 = ap (λ b. cond b (2 ^ n) 0) (ap f (sym here) ∙ off) in
        let on_top : cond (g n) (2 ^ n) 0 ≡ 2 ^ n = ap (λ b. cond b (2 ^ n) 0) (ap g (sym here) ∙ on) in
        let power : 2 ^ r ≡ 2 ^ n = ap (λ k. 2 ^ k) here in
        omega (arith, before, off_top, on_top, power)

-- no change in the slot of another ring or member tells of this one
filled_same : (rings m r : ℕ) (slots after : Slots) → (r < rings → get_or after (slot_number rings m r) None ≡ get_or slots (slot_number rings m r) None) → is_filled rings after m r ≡ is_filled rings slots m r
filled_same rings m r slots after same = on_ring (cases_lt r rings)
  where
    on_ring : (r < rings) ⊎ (rings ≤ r) → is_filled rings after m r ≡ is_filled rings slots m r
    on_ring (inl on) = ap (λ (o : Option Entry). nat_lt r rings && is_some o) (same on)
    on_ring (inr past) =
        let isnt : nat_lt r rings ≡ false = grind (arith, nat_tests, past) in
        ap (λ b. b && is_some (get_or after (slot_number rings m r) None)) isnt ∙ sym (ap (λ b. b && is_some (get_or slots (slot_number rings m r) None)) isnt)

-- on a ring of the group the slot tells
filled_on : (rings n : ℕ) (p : Entry) (slots : Slots) → IsOwn rings n p → is_filled rings slots p.0.accused p.0.ring.0 ≡ is_some (get_or slots n None)
filled_on rings n p slots own =
    let is : nat_lt p.0.ring.0 rings ≡ true = grind (arith, nat_tests, own.ring) in
    ap (λ b. b && is_some (get_or slots (slot_number rings p.0.accused p.0.ring.0) None)) is ∙ ap (λ k. is_some (get_or slots k None)) own.number

apart_pairs : (rings m r n : ℕ) (p : Entry) → r < rings → IsOwn rings n p → m ≢ p.0.accused → slot_number rings m r ≢ n
apart_pairs rings m r n p lt own other e = other (same_from_place m r p.0.accused p.0.ring.0 rings lt own.ring (omega (arith, own.number, e))).0

apart_rings : (rings r n : ℕ) (p : Entry) → IsOwn rings n p → r ≢ p.0.ring.0 → slot_number rings p.0.accused r ≢ n
apart_rings rings r n p own other e = other (omega (arith, own.number, e))

-- a slot of another member changes no mark
same_marks : (rings : ℕ) (slots : Slots) (m n : ℕ) (p : Entry) (o : Option Entry) → IsOwn rings n p → m ≢ p.0.accused → bits_where (is_filled rings (set slots n o) m) MAX_RINGS ≡ bits_where (is_filled rings slots m) MAX_RINGS
same_marks rings slots m n p o own other =
    bits_same (is_filled rings (set slots n o) m) (is_filled rings slots m) MAX_RINGS
    (λ r lt. filled_same rings m r slots (set slots n o) (λ on. get_or-set_other slots n (slot_number rings m r) o None (apart_pairs rings m r n p on own other)))

-- a slot that is filled marks its ring
more_marks : (rings : ℕ) (slots : Slots) (n : ℕ) (p : Entry) → get_or slots n None ≡ None → n < length slots → IsOwn rings n p → bits_where (is_filled rings (set slots n (Some p)) p.0.accused) MAX_RINGS ≡ bits_where (is_filled rings slots p.0.accused) MAX_RINGS + 2 ^ p.0.ring.0
more_marks rings slots n p free within own =
    let after = set slots n (Some p) in
    bits_with (is_filled rings slots p.0.accused) (is_filled rings after p.0.accused) MAX_RINGS p.0.ring.0 (omega (arith, own.ring, own.few))
    (filled_on rings n p slots own ∙ ap is_some free)
    (filled_on rings n p after own ∙ ap is_some (get_or-set_same slots n (Some p) None within))
    (λ r other. sym (filled_same rings p.0.accused r slots after (λ on. get_or-set_other slots n (slot_number rings p.0.accused r) (Some p) None (apart_rings rings r n p own other))))

-- a slot that is emptied marks it no more
less_marks : (rings : ℕ) (slots : Slots) (n : ℕ) (p : Entry) → get_or slots n None ≡ Some p → n < length slots → IsOwn rings n p → bits_where (is_filled rings slots p.0.accused) MAX_RINGS ≡ bits_where (is_filled rings (set slots n None) p.0.accused) MAX_RINGS + 2 ^ p.0.ring.0
less_marks rings slots n p there within own =
    let after = set slots n None in
    bits_with (is_filled rings after p.0.accused) (is_filled rings slots p.0.accused) MAX_RINGS p.0.ring.0 (omega (arith, own.ring, own.few))
    (filled_on rings n p after own ∙ ap is_some (get_or-set_same slots n None None within))
    (filled_on rings n p slots own ∙ ap is_some there)
    (λ r other. filled_same rings p.0.accused r slots after (λ on. get_or-set_other slots n (slot_number rings p.0.accused r) None None (apart_rings rings r n p own other)))

-- the marks are those of the entries in the slots
abbrev pub AreMarked : Slots → List ℕ → Type 0
AreMarked slots marks = (m : ℕ) → m < MEMBERS → get_or marks m 0 ≡ rings_against m (entries_in slots)

pub marks-more : (rings : ℕ) (slots : Slots) (n : ℕ) (p : Entry) (marks : List ℕ) → AreMarked slots marks → AreOwn rings slots → AreOwn rings (set slots n (Some p)) → IsOwn rings n p → get_or slots n None ≡ None → n < length slots → length marks ≡ MEMBERS → p.0.accused < MEMBERS → AreMarked (set slots n (Some p)) (set marks p.0.accused (get_or marks p.0.accused 0 + 2 ^ p.0.ring.0))
marks-more rings slots n p marks h before after own free within long number m lt =
    let a = p.0.accused in
    let more = get_or marks a 0 + 2 ^ p.0.ring.0 in
    elim (cases_eq m a) [
      | inl here ↦
          let written : get_or (set marks a more) m 0 ≡ more = ap (λ k. get_or (set marks a more) k 0) here ∙ get_or-set_same marks a more 0 (omega (arith, long, number)) in
          let told : rings_against m (entries_in (set slots n (Some p))) ≡ rings_against a (entries_in (set slots n (Some p))) = ap (λ k. rings_against k (entries_in (set slots n (Some p)))) here in
          omega (arith, written, told, is_marked rings a (set slots n (Some p)) after, more_marks rings slots n p free within own, is_marked rings a slots before, h a number)
      | inr other ↦
          get_or-set_other marks a m more 0 other ∙ h m lt ∙ is_marked rings m slots before ∙ sym (same_marks rings slots m n p (Some p) own other) ∙ sym (is_marked rings m (set slots n (Some p)) after)
    ]

pub marks-less : (rings : ℕ) (slots : Slots) (n : ℕ) (p : Entry) (marks : List ℕ) → AreMarked slots marks → AreOwn rings slots → AreOwn rings (set slots n None) → IsOwn rings n p → get_or slots n None ≡ Some p → n < length slots → length marks ≡ MEMBERS → p.0.accused < MEMBERS → AreMarked (set slots n None) (set marks p.0.accused (get_or marks p.0.accused 0 - 2 ^ p.0.ring.0))
marks-less rings slots n p marks h before after own there within long number m lt =
    let a = p.0.accused in
    let less = get_or marks a 0 - 2 ^ p.0.ring.0 in
    elim (cases_eq m a) [
      | inl here ↦
          let written : get_or (set marks a less) m 0 ≡ less = ap (λ k. get_or (set marks a less) k 0) here ∙ get_or-set_same marks a less 0 (omega (arith, long, number)) in
          let told : rings_against m (entries_in (set slots n None)) ≡ rings_against a (entries_in (set slots n None)) = ap (λ k. rings_against k (entries_in (set slots n None))) here in
          omega (arith, written, told, is_marked rings a (set slots n None) after, less_marks rings slots n p there within own, is_marked rings a slots before, h a number)
      | inr other ↦
          get_or-set_other marks a m less 0 other ∙ h m lt ∙ is_marked rings m slots before ∙ sym (same_marks rings slots m n p None own other) ∙ sym (is_marked rings m (set slots n None) after)
    ]

-- one more mark has room
pub marks-room : (rings : ℕ) (slots : Slots) (n : ℕ) (p : Entry) (marks : List ℕ) → AreMarked slots marks → AreOwn rings slots → IsOwn rings n p → get_or slots n None ≡ None → n < length slots → p.0.accused < MEMBERS → get_or marks p.0.accused 0 + 2 ^ p.0.ring.0 < 2 ^ 64
marks-room rings slots n p marks h before own free within number =
    omega (arith, h p.0.accused number, is_marked rings p.0.accused slots before, more_marks rings slots n p free within own, bits-below (is_filled rings (set slots n (Some p)) p.0.accused) MAX_RINGS)

-- and one less was set
pub marks-set : (rings : ℕ) (slots : Slots) (n : ℕ) (p : Entry) (marks : List ℕ) → AreMarked slots marks → AreOwn rings slots → IsOwn rings n p → get_or slots n None ≡ Some p → n < length slots → p.0.accused < MEMBERS → 2 ^ p.0.ring.0 ≤ get_or marks p.0.accused 0
marks-set rings slots n p marks h before own there within number =
    omega (arith, h p.0.accused number, is_marked rings p.0.accused slots before, less_marks rings slots n p there within own)

-- what a mark says
pub mark-tells : (a r : ℕ) (slots : Slots) → r < MAX_RINGS → enables (rings_against a (entries_in slots)) r ≡ is_some (entry_at a r (entries_in slots))
mark-tells a r slots lt = bits-tell (λ k. list_any (is_at a k) (entries_in slots)) MAX_RINGS r lt ∙ any_found (is_at a r) (entries_in slots)
