-- A ring in order once a member is put in at its place, or taken out.
use Rattle.std.proofs.Common.{◌≡◌, ◌≢◌, ℕ, ◌+◌, ◌-◌, ◌^◌, ◌<◌, ◌≤◌, Bool, true, false, not, ◌&&◌, ◌⊎◌, inl, inr, List, [], Option, Some, None, length, get_or, set, refl, sym, ap, ◌∙◌, subst, arith, get_or-set_other, get_or-set_same}
use Rattle.std.specs.Prelude.{is_some, nat_lt}
use Rattle.std.specs.List.{Contains, insert, remove}
use Rattle.std.specs.Option.{unwrap_or, IsSomeAnd, IfSome}
use Rattle.std.proofs.lemmas.Bool.{cases_lt, cases_eq, true≢false}
use Rattle.std.proofs.lemmas.Bool.Decides.{nat_tests}
use Rattle.std.proofs.lemmas.List.{get_or_default}
use Rattle.std.proofs.lemmas.List.Edits.{length-insert, get_or-insert_below, get_or-insert_at, get_or-insert_above, length-remove, get_or-remove_below, get_or-remove_above}
use Rattle.ff_ids.specs.Rings.{Key, is_below}
use Rattle.ff_ids.specs.Views.{key_at}
use Rattle.ring_order.specs.Ranks.{Ranked}
use Rattle.ring_order.proofs.KeyOrder.{is_below_back}
use Rattle.monitor_rule.specs.Sorted.{RingOrder, places_at, members_from, key_in, key_of_index, hint_on, IsRow, IsBetween}
use Rattle.monitor_rule.proofs.OrderLemmas.{is_below-itself, key_here, rank_within}
use Rattle.monitor_rule.proofs.SlotLemmas.{Slots, members_from-filled, length-with_member, length-emptied}
use Rattle.monitor_rule.proofs.NeighbourLemmas.{Placed-index, Indexed-joined, apart_indexes}

below_same : (a a' b b' : Key) → a ≡ a' → b ≡ b' → is_below a' b' ≡ true → is_below a b ≡ true
below_same a a' b b' e f h = ap (λ k. is_below k b) e ∙ ap (is_below a') f ∙ h

-- a slot of another number doesn't change the key
key_beside : (slots : Slots) (ring m n : ℕ) (o : Option (List (List ℕ))) → n ≢ m → key_in (set slots m o) ring n ≡ key_in slots ring n
key_beside slots ring m n o apart = ap (λ p. key_at ring (unwrap_or p []) n) (get_or-set_other slots m n o None apart)

-- a number on the ring has places
some_index : (slots : Slots) (row : RingOrder) (i : ℕ) → IsRow slots row → i < length row.order → is_some (places_at slots (get_or row.order i 0)) ≡ true
some_index slots row i h lt = let placed = Placed-index slots row i h lt in ap is_some placed.there

joined_beside : (slots : Slots) (row : RingOrder) (m i : ℕ) (o : Option (List (List ℕ))) → IsRow slots row → i < length row.order → get_or row.order i 0 ≢ m → IsSomeAnd (places_at (set slots m o) (get_or row.order i 0)) (λ places. row.ring < length places)
joined_beside slots row m i o h lt apart =
    let P : Option (List (List ℕ)) → Type 0 = λ p. IsSomeAnd p (λ places. row.ring < length places) in
    subst P (sym (get_or-set_other slots m (get_or row.order i 0) o None apart)) (h.joined i lt)

-- ---- put in

abbrev with_number : RingOrder → ℕ → ℕ → RingOrder
with_number row place m = record row { order = insert row.order place m }

-- what stands at an index of the new ring
abbrev Inserted : Slots → Slots → RingOrder → Key → ℕ → ℕ → ℕ → Type 0
Inserted slots after row q place m i =
    ((i < place) × (get_or (insert row.order place m) i 0 ≡ get_or row.order i 0) × (key_of_index after (with_number row place m) i ≡ key_of_index slots row i))
    ⊎ (((i ≡ place) × (get_or (insert row.order place m) i 0 ≡ m) × (key_of_index after (with_number row place m) i ≡ q))
    ⊎ ((place < i) × (get_or (insert row.order place m) i 0 ≡ get_or row.order (i - 1) 0) × (key_of_index after (with_number row place m) i ≡ key_of_index slots row (i - 1))))

-- a number that hasn't joined isn't on the ring
pub not_on : (slots : Slots) (row : RingOrder) (m i : ℕ) → IsRow slots row → places_at slots m ≡ None → i < length row.order → get_or row.order i 0 ≢ m
not_on slots row m i h free lt = λ e. true≢false (sym (some_index slots row i h lt) ∙ ap (λ n. is_some (places_at slots n)) e ∙ ap is_some free)

inserted : (slots : Slots) (row : RingOrder) (places : List (List ℕ)) (place m i : ℕ) → IsRow slots row → places_at slots m ≡ None → m < length slots → place ≤ length row.order → i < length row.order + 1 → Inserted slots (set slots m (Some places)) row (key_at row.ring places m) place m i
inserted slots row places place m i h free in' le lt =
    let after = set slots m (Some places) in
    let key_beside_index : (k : ℕ) → k < length row.order → key_in after row.ring (get_or row.order k 0) ≡ key_of_index slots row k = λ k within. key_beside slots row.ring m (get_or row.order k 0) (Some places) (not_on slots row m k h free within) in
    elim (cases_lt i place) [
      | inl before ↦
          let number = get_or-insert_below row.order place m 0 i before le in
          inl (before, number, ap (key_in after row.ring) number ∙ key_beside_index i (omega arith))
      | inr from ↦
          elim (cases_eq i place) [
            | inl here ↦
                let number : get_or (insert row.order place m) i 0 ≡ m = ap (λ x. get_or (insert row.order place m) x 0) here ∙ get_or-insert_at row.order place m 0 le in
                inr (inl (here, number, ap (key_in after row.ring) number ∙ key_here after row.ring m places (get_or-set_same slots m (Some places) None in')))
            | inr apart ↦
                let later : place < i = omega arith in
                let e : i ≡ i - 1 + 1 = omega arith in
                let number : get_or (insert row.order place m) i 0 ≡ get_or row.order (i - 1) 0 = ap (λ x. get_or (insert row.order place m) x 0) e ∙ get_or-insert_above row.order place m 0 (i - 1) (omega arith) le in
                inr (inr (later, number, ap (key_in after row.ring) number ∙ key_beside_index (i - 1) (omega arith)))
          ]
    ]

inserted_rise : (slots : Slots) (row : RingOrder) (places : List (List ℕ)) (place m i j : ℕ) → IsRow slots row → IsBetween slots row (key_at row.ring places m) place place → places_at slots m ≡ None → i < j → j < length row.order + 1 → Inserted slots (set slots m (Some places)) row (key_at row.ring places m) place m i → Inserted slots (set slots m (Some places)) row (key_at row.ring places m) place m j → is_below (key_of_index (set slots m (Some places)) (with_number row place m) i) (key_of_index (set slots m (Some places)) (with_number row place m) j) ≡ true
inserted_rise slots row places place m i j h between free lt in' (inl a) (inl b) = below_same _ _ _ _ a.2 b.2 (h.rising i j lt (omega (arith, a.0, b.0, between.within)))
inserted_rise slots row places place m i j h between free lt in' (inl a) (inr (inl b)) = below_same _ _ _ _ a.2 b.2 (between.below i a.0)
inserted_rise slots row places place m i j h between free lt in' (inl a) (inr (inr b)) = below_same _ _ _ _ a.2 b.2 (h.rising i (j - 1) (omega (arith, a.0, b.0)) (omega (arith, b.0)))
inserted_rise slots row places place m i j h between free lt in' (inr (inl a)) (inl b) = absurd (omega (arith, a.0, b.0))
inserted_rise slots row places place m i j h between free lt in' (inr (inl a)) (inr (inl b)) = absurd (omega (arith, a.0, b.0))
inserted_rise slots row places place m i j h between free lt in' (inr (inl a)) (inr (inr b)) =
    let within : j - 1 < length row.order = omega (arith, b.0) in
    let above = between.above (j - 1) (omega (arith, b.0)) within in
    below_same _ _ _ _ a.2 b.2 (is_below_back (key_of_index slots row (j - 1)) (key_at row.ring places m) (not_on slots row m (j - 1) h free within) ∙ ap not above)
inserted_rise slots row places place m i j h between free lt in' (inr (inr a)) (inl b) = absurd (omega (arith, a.0, b.0))
inserted_rise slots row places place m i j h between free lt in' (inr (inr a)) (inr (inl b)) = absurd (omega (arith, a.0, b.0))
inserted_rise slots row places place m i j h between free lt in' (inr (inr a)) (inr (inr b)) = below_same _ _ _ _ a.2 b.2 (h.rising (i - 1) (j - 1) (omega (arith, a.0)) (omega (arith, b.0)))

inserted_joined : (slots : Slots) (row : RingOrder) (places : List (List ℕ)) (place m i : ℕ) → IsRow slots row → places_at slots m ≡ None → m < length slots → row.ring < length places → place ≤ length row.order → i < length row.order + 1 → Inserted slots (set slots m (Some places)) row (key_at row.ring places m) place m i → IsSomeAnd (places_at (set slots m (Some places)) (get_or (insert row.order place m) i 0)) (λ p. row.ring < length p)
inserted_joined slots row places place m i h free in' long le lt (inl a) =
    let P : ℕ → Type 0 = λ n. IsSomeAnd (places_at (set slots m (Some places)) n) (λ p. row.ring < length p) in
    let within : i < length row.order = omega (arith, a.0) in
    subst P (sym a.1) (joined_beside slots row m i (Some places) h within (not_on slots row m i h free within))
inserted_joined slots row places place m i h free in' long le lt (inr (inl a)) =
    let P : ℕ → Type 0 = λ n. IsSomeAnd (places_at (set slots m (Some places)) n) (λ p. row.ring < length p) in
    let Q : Option (List (List ℕ)) → Type 0 = λ p. IsSomeAnd p (λ p. row.ring < length p) in
    subst P (sym a.1) (subst Q (sym (get_or-set_same slots m (Some places) None in')) long)
inserted_joined slots row places place m i h free in' long le lt (inr (inr a)) =
    let P : ℕ → Type 0 = λ n. IsSomeAnd (places_at (set slots m (Some places)) n) (λ p. row.ring < length p) in
    let within : i - 1 < length row.order = omega (arith, a.0) in
    subst P (sym a.1) (joined_beside slots row m (i - 1) (Some places) h within (not_on slots row m (i - 1) h free within))

inserted_listed : (slots : Slots) (row : RingOrder) (places : List (List ℕ)) (place m n : ℕ) → IsRow slots row → place ≤ length row.order → is_some (places_at (set slots m (Some places)) n) ≡ true → Contains (insert row.order place m) n
inserted_listed slots row places place m n h le some =
    let more = length-insert row.order place m le in
    elim (cases_eq n m) [
      | inl own ↦ (place, omega (arith, more), get_or-insert_at row.order place m n le ∙ sym own)
      | inr apart ↦
          let found = h.listed n (sym (ap is_some (get_or-set_other slots m n (Some places) None apart)) ∙ some) in
          elim (cases_lt found.0 place) [
            | inl before ↦ (found.0, omega (arith, more, found.1), get_or-insert_below row.order place m n found.0 before le ∙ found.2)
            | inr from ↦ (found.0 + 1, omega (arith, more, found.1), get_or-insert_above row.order place m n found.0 from le ∙ found.2)
          ]
    ]

-- the ranks once a member has joined: its own, and those before
pub record AreRanks (row : RingOrder) (places : List (List ℕ)) (m : ℕ) (after : List Ranked) : Type 0 where
  pub own : (d : Ranked) → get_or after m d ≡ record { hint = hint_on row.ring places; number = m }
  pub others : (n : ℕ) (d : Ranked) → n ≢ m → n < length row.ranks → get_or after n d ≡ get_or row.ranks n d

ranked_joined : (slots : Slots) (row : RingOrder) (places : List (List ℕ)) (after : List Ranked) (m n : ℕ) (d : Ranked) → IsRow slots row → AreRanks row places m after → m < length slots → IfSome (places_at (set slots m (Some places)) n) (λ p. get_or after n d ≡ record { hint = hint_on row.ring p; number = n })
ranked_joined slots row places after m n d h are in' =
    let P : Option (List (List ℕ)) → Type 0 = λ o. IfSome o (λ p. get_or after n d ≡ record { hint = hint_on row.ring p; number = n }) in
    elim (cases_eq n m) [
      | inl own ↦
          let at : places_at (set slots m (Some places)) n ≡ Some places = ap (λ k. get_or (set slots m (Some places)) k None) own ∙ get_or-set_same slots m (Some places) None in' in
          subst P (sym at) (ap (λ k. get_or after k d) own ∙ are.own d ∙ ap (λ (k : ℕ). record { hint = hint_on row.ring places; number = k }) (sym own))
      | inr apart ↦
          subst P (sym (get_or-set_other slots m n (Some places) None apart)) (as_before (places_at slots n) refl apart)
    ]
  where
    as_before : (o : Option (List (List ℕ))) → places_at slots n ≡ o → n ≢ m → IfSome o (λ p. get_or after n d ≡ record { hint = hint_on row.ring p; number = n })
    as_before None there apart = tt
    as_before (Some p) there apart =
        are.others n d apart (rank_within slots row p n h there) ∙ subst (λ (o : Option (List (List ℕ))). IfSome o (λ p. get_or row.ranks n d ≡ record { hint = hint_on row.ring p; number = n })) there (h.ranked n d)

ranked_left : (slots : Slots) (row : RingOrder) (m n : ℕ) (d : Ranked) → IsRow slots row → m < length slots → IfSome (places_at (set slots m None) n) (λ p. get_or row.ranks n d ≡ record { hint = hint_on row.ring p; number = n })
ranked_left slots row m n d h in' =
    let P : Option (List (List ℕ)) → Type 0 = λ o. IfSome o (λ p. get_or row.ranks n d ≡ record { hint = hint_on row.ring p; number = n }) in
    elim (cases_eq n m) [
      | inl own ↦
          let at : places_at (set slots m None) n ≡ None = ap (λ k. get_or (set slots m None) k None) own ∙ get_or-set_same slots m None None in' in
          subst P (sym at) tt
      | inr apart ↦ subst P (sym (get_or-set_other slots m n None None apart)) (h.ranked n d)
    ]

both_true : (b c : Bool) → b && c ≡ true → (b ≡ true) × (c ≡ true)
both_true b c h = grind (arith, nat_tests, h)

telling_joined : (slots : Slots) (row : RingOrder) (places : List (List ℕ)) (m n : ℕ) → IsRow slots row → m < length slots → row.told && nat_lt (hint_on row.ring places) (2 ^ 32 - 1) ≡ true → IfSome (places_at (set slots m (Some places)) n) (λ p. hint_on row.ring p < 2 ^ 32 - 1)
telling_joined slots row places m n h in' all =
    let both = both_true row.told (nat_lt (hint_on row.ring places) (2 ^ 32 - 1)) all in
    let P : Option (List (List ℕ)) → Type 0 = λ o. IfSome o (λ p. hint_on row.ring p < 2 ^ 32 - 1) in
    elim (cases_eq n m) [
      | inl own ↦
          let at : places_at (set slots m (Some places)) n ≡ Some places = ap (λ k. get_or (set slots m (Some places)) k None) own ∙ get_or-set_same slots m (Some places) None in' in
          subst P (sym at) (grind (arith, nat_tests, both.1))
      | inr apart ↦ subst P (sym (get_or-set_other slots m n (Some places) None apart)) (h.telling n both.0)
    ]

telling_left : (slots : Slots) (row : RingOrder) (m n : ℕ) → IsRow slots row → m < length slots → row.told ≡ true → IfSome (places_at (set slots m None) n) (λ p. hint_on row.ring p < 2 ^ 32 - 1)
telling_left slots row m n h in' all =
    let P : Option (List (List ℕ)) → Type 0 = λ o. IfSome o (λ p. hint_on row.ring p < 2 ^ 32 - 1) in
    elim (cases_eq n m) [
      | inl own ↦
          let at : places_at (set slots m None) n ≡ None = ap (λ k. get_or (set slots m None) k None) own ∙ get_or-set_same slots m None None in' in
          subst P (sym at) tt
      | inr apart ↦ subst P (sym (get_or-set_other slots m n None None apart)) (h.telling n all)
    ]

pub IsRow-joined : (slots : Slots) (row : RingOrder) (places : List (List ℕ)) (ranks : List Ranked) (place m : ℕ) → AreRanks row places m ranks → IsRow slots row → IsBetween slots row (key_at row.ring places m) place place → places_at slots m ≡ None → m < length slots → row.ring < length places → IsRow (set slots m (Some places)) (record row { order = insert row.order place m; ranks = ranks; told = row.told && nat_lt (hint_on row.ring places) (2 ^ 32 - 1) })
IsRow-joined slots row places ranks place m are h between free in' long =
    let le = between.within in
    let more = length-insert row.order place m le in
    let at : (i : ℕ) → i < length (insert row.order place m) → Inserted slots (set slots m (Some places)) row (key_at row.ring places m) place m i = λ i lt. inserted slots row places place m i h free in' le (omega (arith, more, lt)) in
    record {
      rising = λ i j lt within. inserted_rise slots row places place m i j h between free lt (omega (arith, more, within)) (at i (omega arith)) (at j within);
      joined = λ i lt. inserted_joined slots row places place m i h free in' long le (omega (arith, more, lt)) (at i lt);
      listed = λ n some. inserted_listed slots row places place m n h le some;
      count = more ∙ ap (λ x. x + 1) h.count ∙ sym (ap length (members_from-filled 0 slots m places free in') ∙ length-with_member (record { number = 0 + m; places = places }) (members_from 0 slots));
      ranked = λ n d. ranked_joined slots row places ranks m n d h are in';
      telling = λ n all. telling_joined slots row places m n h in' all;
    }

-- ---- taken out

-- the place of a member that has joined is its index
record IsAt (slots : Slots) (row : RingOrder) (m place : ℕ) : Type 0 where
  within : place < length row.order
  number : get_or row.order place 0 ≡ m

at_place : (slots : Slots) (row : RingOrder) (places : List (List ℕ)) (place m : ℕ) → IsRow slots row → IsBetween slots row (key_at row.ring places m) place place → places_at slots m ≡ Some places → IsAt slots row m place
at_place slots row places place m h between there =
    let q = key_at row.ring places m in
    let at = Indexed-joined slots row m places h there in
    let not_below : is_below (key_of_index slots row at.index) q ≡ false = ap (λ k. is_below k q) at.key ∙ is_below-itself q in
    let from : place ≤ at.index = elim (cases_lt at.index place) [
      | inl lt ↦ absurd (true≢false (sym (between.below at.index lt) ∙ not_below))
      | inr le ↦ le
    ] in
    let upto : at.index ≤ place = elim (cases_lt place at.index) [
      | inl lt ↦
          let within : place < length row.order = omega (arith, at.within) in
          absurd (true≢false (sym (h.rising place at.index lt at.within) ∙ ap (is_below (key_of_index slots row place)) at.key ∙ between.above place (omega arith) within))
      | inr le ↦ le
    ] in
    let e : at.index ≡ place = omega arith in
    record { within = omega (arith, at.within); number = ap (λ i. get_or row.order i 0) (sym e) ∙ at.number }

abbrev without_number : RingOrder → ℕ → RingOrder
without_number row place = record row { order = remove row.order place }

-- what stands at an index of the new ring: what stood at the same, or at the next
abbrev Removed : Slots → Slots → RingOrder → ℕ → ℕ → Type 0
Removed slots after row place i =
    ((i < place) × (get_or (remove row.order place) i 0 ≡ get_or row.order i 0) × (key_of_index after (without_number row place) i ≡ key_of_index slots row i))
    ⊎ ((place ≤ i) × (get_or (remove row.order place) i 0 ≡ get_or row.order (i + 1) 0) × (key_of_index after (without_number row place) i ≡ key_of_index slots row (i + 1)))

-- at other indexes stand other numbers
other_at : (slots : Slots) (row : RingOrder) (m place i : ℕ) → IsRow slots row → IsAt slots row m place → i < length row.order → i ≢ place → get_or row.order i 0 ≢ m
other_at slots row m place i h at lt apart = λ e. apart (apart_indexes slots row i place h lt at.within (e ∙ sym at.number))

removed : (slots : Slots) (row : RingOrder) (m place i : ℕ) → IsRow slots row → IsAt slots row m place → i + 1 < length row.order → Removed slots (set slots m None) row place i
removed slots row m place i h at lt =
    let after = set slots m None in
    elim (cases_lt i place) [
      | inl before ↦
          let number = get_or-remove_below row.order place 0 i before at.within in
          inl (before, number, ap (key_in after row.ring) number ∙ key_beside slots row.ring m (get_or row.order i 0) None (other_at slots row m place i h at (omega arith) (λ e. absurd (omega arith))))
      | inr from ↦
          let number = get_or-remove_above row.order place 0 i from at.within in
          inr (from, number, ap (key_in after row.ring) number ∙ key_beside slots row.ring m (get_or row.order (i + 1) 0) None (other_at slots row m place (i + 1) h at lt (λ e. absurd (omega arith))))
    ]

removed_rise : (slots : Slots) (row : RingOrder) (m place i j : ℕ) → IsRow slots row → IsAt slots row m place → i < j → j + 1 < length row.order → Removed slots (set slots m None) row place i → Removed slots (set slots m None) row place j → is_below (key_of_index (set slots m None) (without_number row place) i) (key_of_index (set slots m None) (without_number row place) j) ≡ true
removed_rise slots row m place i j h at lt in' (inl a) (inl b) = below_same _ _ _ _ a.2 b.2 (h.rising i j lt (omega arith))
removed_rise slots row m place i j h at lt in' (inl a) (inr b) = below_same _ _ _ _ a.2 b.2 (h.rising i (j + 1) (omega arith) in')
removed_rise slots row m place i j h at lt in' (inr a) (inl b) = absurd (omega (arith, a.0, b.0))
removed_rise slots row m place i j h at lt in' (inr a) (inr b) = below_same _ _ _ _ a.2 b.2 (h.rising (i + 1) (j + 1) (omega arith) in')

removed_joined : (slots : Slots) (row : RingOrder) (m place i : ℕ) → IsRow slots row → IsAt slots row m place → i + 1 < length row.order → Removed slots (set slots m None) row place i → IsSomeAnd (places_at (set slots m None) (get_or (remove row.order place) i 0)) (λ p. row.ring < length p)
removed_joined slots row m place i h at lt (inl a) =
    let P : ℕ → Type 0 = λ n. IsSomeAnd (places_at (set slots m None) n) (λ p. row.ring < length p) in
    subst P (sym a.1) (joined_beside slots row m i None h (omega arith) (other_at slots row m place i h at (omega arith) (λ e. absurd (omega (arith, a.0)))))
removed_joined slots row m place i h at lt (inr a) =
    let P : ℕ → Type 0 = λ n. IsSomeAnd (places_at (set slots m None) n) (λ p. row.ring < length p) in
    subst P (sym a.1) (joined_beside slots row m (i + 1) None h lt (other_at slots row m place (i + 1) h at lt (λ e. absurd (omega (arith, a.0)))))

removed_listed : (slots : Slots) (row : RingOrder) (m place n : ℕ) → IsRow slots row → IsAt slots row m place → n ≢ m → is_some (places_at (set slots m None) n) ≡ true → Contains (remove row.order place) n
removed_listed slots row m place n h at apart some =
    let fewer = length-remove row.order place at.within in
    let found = h.listed n (sym (ap is_some (get_or-set_other slots m n None None apart)) ∙ some) in
    let elsewhere : found.0 ≢ place = λ e. apart (sym found.2 ∙ get_or_default row.order found.0 n 0 found.1 ∙ ap (λ i. get_or row.order i 0) e ∙ at.number) in
    elim (cases_lt found.0 place) [
      | inl before ↦ (found.0, omega (arith, fewer, found.1, at.within), get_or-remove_below row.order place n found.0 before at.within ∙ found.2)
      | inr from ↦
          let later : place < found.0 = omega (arith, elsewhere) in
          let e : found.0 - 1 + 1 ≡ found.0 = omega arith in
          (found.0 - 1, omega (arith, fewer, found.1), get_or-remove_above row.order place n (found.0 - 1) (omega arith) at.within ∙ ap (λ i. get_or row.order i n) e ∙ found.2)
    ]

pub IsRow-left : (slots : Slots) (row : RingOrder) (places : List (List ℕ)) (place m : ℕ) → IsRow slots row → IsBetween slots row (key_at row.ring places m) place place → places_at slots m ≡ Some places → m < length slots → (place < length row.order) × IsRow (set slots m None) (record row { order = remove row.order place })
IsRow-left slots row places place m h between there in' =
    let at = at_place slots row places place m h between there in
    let fewer = length-remove row.order place at.within in
    let is : (i : ℕ) → i < length (remove row.order place) → Removed slots (set slots m None) row place i = λ i lt. removed slots row m place i h at (omega (arith, fewer, lt)) in
    let gone : is_some (places_at (set slots m None) m) ≡ false = ap is_some (get_or-set_same slots m None None in') in (
      at.within,
      record {
        rising = λ i j lt within. removed_rise slots row m place i j h at lt (omega (arith, fewer, within)) (is i (omega arith)) (is j within);
        joined = λ i lt. removed_joined slots row m place i h at (omega (arith, fewer, lt)) (is i lt);
        listed = λ n some. removed_listed slots row m place n h at (λ e. true≢false (sym some ∙ ap (λ k. is_some (places_at (set slots m None) k)) e ∙ gone)) some;
        count = omega (arith, fewer, h.count, length-emptied 0 slots m places there);
        ranked = λ n d. ranked_left slots row m n d h in';
        telling = λ n all. telling_left slots row m n h in' all;
      },
    )

-- nobody is left
pub IsRow-empty : (slots : Slots) (row : RingOrder) → ((n : ℕ) → places_at slots n ≡ None) → members_from 0 slots ≡ [] → IsRow slots (record row { order = [] })
IsRow-empty slots row none nobody =
    record {
      rising = λ i j lt within. absurd (omega arith);
      joined = λ i lt. absurd (omega arith);
      listed = λ n some. absurd (true≢false (sym some ∙ ap is_some (none n)));
      count = sym (ap length nobody);
      ranked = λ n d. subst (λ (o : Option (List (List ℕ))). IfSome o (λ p. get_or row.ranks n d ≡ record { hint = hint_on row.ring p; number = n })) (sym (none n)) tt;
      telling = λ n all. subst (λ (o : Option (List (List ℕ))). IfSome o (λ p. hint_on row.ring p < 2 ^ 32 - 1)) (sym (none n)) tt;
    }
