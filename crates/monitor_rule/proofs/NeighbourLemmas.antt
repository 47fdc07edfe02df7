-- Who is nearest among those on a ring in order: at the place of a key, or one further.
use Rattle.std.proofs.Common.{◌≡◌, ◌≢◌, ℕ, ◌+◌, ◌-◌, ◌<◌, ◌≤◌, Bool, true, false, cond, eqb, ◌&&◌, ◌||◌, ◌⊎◌, inl, inr, List, Option, Some, None, length, get_or, refl, sym, ap, ◌∙◌, subst, arith}
use Rattle.std.specs.Prelude.{is_some}
use Rattle.std.specs.List.{All, Contains}
use Rattle.std.specs.Option.{option_map, IsSomeAnd}
use Rattle.std.proofs.lemmas.Bool.{cases_Bool, cases_lt, cases_eq, eqb-true, eqb-false, true≢false}
use Rattle.std.proofs.lemmas.List.{get_or_default}
use Rattle.ff_ids.specs.Rings.{Key, is_below, is_between, nearest_before, nearest_after}
use Rattle.ff_ids.specs.Views.{key_at}
use Rattle.ring_order.proofs.KeyOrder.{IsRanked, before_ranked, after_ranked}
use Rattle.ring_order.proofs.Top.{find_top, find_top-is, find_top-nobody}
use Rattle.monitor_rule.specs.Joined.{keys_on}
use Rattle.monitor_rule.specs.Sorted.{RingOrder, places_at, members_from, key_in, key_of_index, IsRow, IsBetween}
use Rattle.monitor_rule.proofs.OrderLemmas.{is_below-itself, is_below-one_way, not_true, key_here}
use Rattle.monitor_rule.proofs.SlotLemmas.{Slots, All-keys, Contains-key}

-- the places of a number at an index
pub record Placed (slots : Slots) (row : RingOrder) (i : ℕ) : Type 0 where
  pub places : List (List ℕ)
  pub there : places_at slots (get_or row.order i 0) ≡ Some places
  pub long : row.ring < length places

placed_from : (slots : Slots) (row : RingOrder) (i : ℕ) (o : Option (List (List ℕ))) → places_at slots (get_or row.order i 0) ≡ o → IsSomeAnd o (λ places. row.ring < length places) → Placed slots row i
placed_from slots row i None e h = absurd h
placed_from slots row i (Some places) e h = record { places = places; there = e; long = h }

pub Placed-index : (slots : Slots) (row : RingOrder) (i : ℕ) → IsRow slots row → i < length row.order → Placed slots row i
Placed-index slots row i h lt = placed_from slots row i (places_at slots (get_or row.order i 0)) refl (h.joined i lt)

-- the index of a number that has joined
pub record Indexed (slots : Slots) (row : RingOrder) (n : ℕ) (places : List (List ℕ)) : Type 0 where
  pub index : ℕ
  pub within : index < length row.order
  pub number : get_or row.order index 0 ≡ n
  pub key : key_of_index slots row index ≡ key_at row.ring places n

pub Indexed-joined : (slots : Slots) (row : RingOrder) (n : ℕ) (places : List (List ℕ)) → IsRow slots row → places_at slots n ≡ Some places → Indexed slots row n places
Indexed-joined slots row n places h there =
    let found = h.listed n (ap is_some there) in
    let number : get_or row.order found.0 0 ≡ n = get_or_default row.order found.0 0 n found.1 ∙ found.2 in
    record {
      index = found.0;
      within = found.1;
      number = number;
      key = ap (key_in slots row.ring) number ∙ key_here slots row.ring n places there;
    }

-- ---- indexes by comparisons

pub index_below : (slots : Slots) (row : RingOrder) (q : Key) (place i : ℕ) → IsBetween slots row q place place → i < length row.order → is_below (key_of_index slots row i) q ≡ true → i < place
index_below slots row q place i between within h =
    elim (cases_lt i place) [
      | inl lt ↦ lt
      | inr le ↦ absurd (true≢false (sym h ∙ between.above i le within))
    ]

pub index_above : (slots : Slots) (row : RingOrder) (q : Key) (place i : ℕ) → IsBetween slots row q place place → is_below q (key_of_index slots row i) ≡ true → place ≤ i
index_above slots row q place i between h =
    elim (cases_lt i place) [
      | inl lt ↦ absurd (is_below-one_way q (key_of_index slots row i) h (between.below i lt))
      | inr le ↦ le
    ]

pub index_rises : (slots : Slots) (row : RingOrder) (i j : ℕ) → IsRow slots row → i < length row.order → is_below (key_of_index slots row i) (key_of_index slots row j) ≡ true → i < j
index_rises slots row i j h within below =
    elim (cases_lt i j) [
      | inl lt ↦ lt
      | inr le ↦
          elim (cases_eq j i) [
            | inl e ↦ absurd (true≢false (sym below ∙ ap (λ k. is_below (key_of_index slots row i) (key_of_index slots row k)) e ∙ is_below-itself (key_of_index slots row i)))
            | inr apart ↦
                let lt : j < i = omega arith in
                absurd (is_below-one_way (key_of_index slots row i) (key_of_index slots row j) below (h.rising j i lt within))
          ]
    ]

two_of_three : (x y z : Bool) → ((x && y) || (y && z) || (z && x)) ≡ true → ((x ≡ true) × (y ≡ true)) ⊎ (((y ≡ true) × (z ≡ true)) ⊎ ((z ≡ true) × (x ≡ true)))
two_of_three true true z h = inl (refl, refl)
two_of_three true false true h = inr (inr (refl, refl))
two_of_three true false false h = cc
two_of_three false true true h = inr (inl (refl, refl))
two_of_three false true false h = cc
two_of_three false false true h = cc
two_of_three false false false h = cc

-- the second index comes strictly between the first and the place, going round
abbrev pub IndexBefore : ℕ → ℕ → ℕ → Type 0
IndexBefore place i j = ((i < j) × (j < place)) ⊎ (((j < place) × (place ≤ i)) ⊎ ((place ≤ i) × (i < j)))

before_indexes : (slots : Slots) (row : RingOrder) (q : Key) (place i j : ℕ) → IsRow slots row → IsBetween slots row q place place → i < length row.order → j < length row.order → is_between (key_of_index slots row i) (key_of_index slots row j) q ≡ true → IndexBefore place i j
before_indexes slots row q place i j h between i_in j_in round =
    elim (two_of_three (is_below (key_of_index slots row i) (key_of_index slots row j)) (is_below (key_of_index slots row j) q) (is_below q (key_of_index slots row i)) round) [
      | inl both ↦ inl (index_rises slots row i j h i_in both.0, index_below slots row q place j between j_in both.1)
      | inr (inl both) ↦ inr (inl (index_below slots row q place j between j_in both.0, index_above slots row q place i between both.1))
      | inr (inr both) ↦ inr (inr (index_above slots row q place i between both.0, index_rises slots row i j h i_in both.1))
    ]

-- the second index comes strictly between the place and the first, going round
abbrev pub IndexAfter : ℕ → ℕ → ℕ → Type 0
IndexAfter place i j = ((place ≤ j) × (j < i)) ⊎ (((j < i) × (i < place)) ⊎ ((i < place) × (place ≤ j)))

after_indexes : (slots : Slots) (row : RingOrder) (q : Key) (place i j : ℕ) → IsRow slots row → IsBetween slots row q place place → i < length row.order → j < length row.order → is_between q (key_of_index slots row j) (key_of_index slots row i) ≡ true → IndexAfter place i j
after_indexes slots row q place i j h between i_in j_in round =
    elim (two_of_three (is_below q (key_of_index slots row j)) (is_below (key_of_index slots row j) (key_of_index slots row i)) (is_below (key_of_index slots row i) q) round) [
      | inl both ↦ inl (index_above slots row q place j between both.0, index_rises slots row j i h j_in both.1)
      | inr (inl both) ↦ inr (inl (index_rises slots row j i h j_in both.0, index_below slots row q place i between i_in both.1))
      | inr (inr both) ↦ inr (inr (index_below slots row q place i between i_in both.0, index_above slots row q place j between both.1))
    ]

-- ---- the nearest, under any relation that ranks

-- no other at an index is nearer
abbrev NoneNearer : (Key → Key → Bool) → Slots → RingOrder → ℕ → ℕ → Type 0
NoneNearer near slots row m i = (j : ℕ) → j < length row.order → get_or row.order j 0 ≢ m → near (key_of_index slots row i) (key_of_index slots row j) ≡ false

found_at : (near : Key → Key → Bool) (slots : Slots) (row : RingOrder) (m i : ℕ) → IsRanked near m → IsRow slots row → i < length row.order → get_or row.order i 0 ≢ m → NoneNearer near slots row m i → option_map (λ (v : Key). v.number) (find_top near m (keys_on row.ring (members_from 0 slots))) ≡ Some (get_or row.order i 0)
found_at near slots row m i ranked h within other none =
    let keys = keys_on row.ring (members_from 0 slots) in
    let placed = Placed-index slots row i h within in
    let n = get_or row.order i 0 in
    let zero_on : 0 + n ≡ n = omega arith in
    let here : key_of_index slots row i ≡ key_at row.ring placed.places n = key_here slots row.ring n placed.places placed.there in
    let listed : Contains keys (key_at row.ring placed.places n) = subst (λ (k : ℕ). Contains keys (key_at row.ring placed.places k)) zero_on (Contains-key row.ring 0 slots n placed.places placed.there) in
    let top : All (λ w. w.number ≢ m → near (key_of_index slots row i) w ≡ false) keys =
    All-keys row.ring 0 slots (λ w. w.number ≢ m → near (key_of_index slots row i) w ≡ false) (λ k places there apart.
    let at = Indexed-joined slots row k places h there in
    let zero_more : 0 + k ≡ k = omega arith in
    let numbered : get_or row.order at.index 0 ≢ m = λ e. apart (zero_more ∙ sym at.number ∙ e) in
    ap (near (key_of_index slots row i)) (ap (λ x. key_at row.ring places x) zero_more ∙ sym at.key) ∙ none at.index at.within numbered)
    in
    find_top-is near m ranked keys (key_of_index slots row i) (record { listed = subst (Contains keys) (sym here) listed; other = other; top = top })

none_found : (near : Key → Key → Bool) (slots : Slots) (row : RingOrder) (m : ℕ) → IsRow slots row → ((j : ℕ) → j < length row.order → get_or row.order j 0 ≡ m) → option_map (λ (v : Key). v.number) (find_top near m (keys_on row.ring (members_from 0 slots))) ≡ None
none_found near slots row m h own =
    let keys = keys_on row.ring (members_from 0 slots) in
    ap (option_map (λ (v : Key). v.number)) (find_top-nobody near m keys (All-keys row.ring 0 slots (λ (k : Key). k.number ≡ m) (λ k places there.
    let at = Indexed-joined slots row k places h there in
    let zero_more : 0 + k ≡ k = omega arith in
    zero_more ∙ sym at.number ∙ own at.index at.within)))

-- one number stands at one index
pub apart_indexes : (slots : Slots) (row : RingOrder) (i j : ℕ) → IsRow slots row → i < length row.order → j < length row.order → get_or row.order i 0 ≡ get_or row.order j 0 → i ≡ j
apart_indexes slots row i j h i_in j_in same =
    let key : key_of_index slots row i ≡ key_of_index slots row j = ap (key_in slots row.ring) same in
    elim (cases_lt i j) [
      | inl lt ↦ absurd (true≢false (sym (h.rising i j lt j_in) ∙ ap (λ k. is_below k (key_of_index slots row j)) key ∙ is_below-itself (key_of_index slots row j)))
      | inr le ↦
          elim (cases_lt j i) [
            | inl gt ↦ absurd (true≢false (sym (h.rising j i gt i_in) ∙ ap (is_below (key_of_index slots row j)) key ∙ is_below-itself (key_of_index slots row j)))
            | inr ge ↦ omega arith
          ]
    ]

-- the first of two indexes whose number isn't m
abbrev pub first_other : List ℕ → ℕ → ℕ → ℕ → Option ℕ
first_other order first second m = cond (eqb (get_or order first 0) m) (cond (eqb (get_or order second 0) m) None (Some (get_or order second 0))) (Some (get_or order first 0))

-- what makes two indexes the nearest and the one behind
record IsPair (near : Key → Key → Bool) (slots : Slots) (row : RingOrder) (first second : ℕ) : Type 0 where
  first_in : first < length row.order
  second_in : second < length row.order
  nearest : (j : ℕ) → j < length row.order → near (key_of_index slots row first) (key_of_index slots row j) ≡ false
  next : (j : ℕ) → j < length row.order → j ≢ first → near (key_of_index slots row second) (key_of_index slots row j) ≡ false
  alone : first ≡ second → length row.order ≡ 1

first_other-is : (near : Key → Key → Bool) (slots : Slots) (row : RingOrder) (m first second : ℕ) → IsRanked near m → IsRow slots row → IsPair near slots row first second → first_other row.order first second m ≡ option_map (λ (v : Key). v.number) (find_top near m (keys_on row.ring (members_from 0 slots)))
first_other-is near slots row m first second ranked h pair =
    elim (cases_Bool (eqb (get_or row.order first 0) m)) [
      | inr other ↦ rw other (sym (found_at near slots row m first ranked h pair.first_in (eqb-false _ _ other) (λ j within _. pair.nearest j within)))
      | inl own ↦
          let is_m : get_or row.order first 0 ≡ m = eqb-true _ _ own in
          elim (cases_Bool (eqb (get_or row.order second 0) m)) [
            | inr other ↦
                rw (own, other) (sym (found_at near slots row m second ranked h pair.second_in (eqb-false _ _ other) (λ j within apart.
                pair.next j within (λ e. apart (ap (λ i. get_or row.order i 0) e ∙ is_m)))))
            | inl own_too ↦
                let same = apart_indexes slots row first second h pair.first_in pair.second_in (is_m ∙ sym (eqb-true _ _ own_too)) in
                let one = pair.alone same in
                rw (own, own_too) (sym (none_found near slots row m h (λ j within.
                let e : first ≡ j = omega (arith, pair.first_in) in
                subst (λ (i : ℕ). get_or row.order i 0 ≡ m) e is_m)))
          ]
    ]

-- ---- before and after

-- the index before another, going round
abbrev pub back : ℕ → ℕ → ℕ
back n i = cond (eqb i 0) (n - 1) (i - 1)

back_cases : (n i : ℕ) → ((i ≡ 0) × (back n i ≡ n - 1)) ⊎ ((0 < i) × (back n i ≡ i - 1))
back_cases n i =
    elim (cases_Bool (eqb i 0)) [
      | inl none ↦ let e = eqb-true i 0 none in inl (e, rw none refl)
      | inr some ↦ let apart = eqb-false i 0 some in inr (omega arith, rw some refl)
    ]

abbrev IsBack : ℕ → ℕ → ℕ → Type 0
IsBack n i j = ((i ≡ 0) × (j ≡ n - 1)) ⊎ ((0 < i) × (j ≡ i - 1))

no_first_before : (n place first j : ℕ) → IsBack n place first → place ≤ n → j < n → IndexBefore place first j → ⊥
no_first_before n place first j back le lt b = grind arith

no_next_before : (n place first second j : ℕ) → IsBack n place first → IsBack n first second → place ≤ n → j < n → (j ≡ first → ⊥) → IndexBefore place second j → ⊥
no_next_before n place first second j back next le lt apart b = grind arith

alone_before : (n place first second : ℕ) → IsBack n place first → IsBack n first second → place ≤ n → 0 < n → first ≡ second → n ≡ 1
alone_before n place first second back next le some same = grind arith

pub nearest_before-found : (slots : Slots) (row : RingOrder) (q : Key) (place : ℕ) → IsRow slots row → IsBetween slots row q place place → 0 < length row.order → first_other row.order (back (length row.order) place) (back (length row.order) (back (length row.order) place)) q.number ≡ nearest_before (keys_on row.ring (members_from 0 slots)) q
nearest_before-found slots row q place h between some =
    let n = length row.order in
    let first = back n place in
    let second = back n first in
    let near : Key → Key → Bool = λ v w. is_between v w q in
    let one = back_cases n place in
    let two = back_cases n first in
    let first_in : first < n = grind arith in
    let second_in : second < n = grind arith in
    let at : IsPair near slots row first second = record {
      first_in = first_in;
      second_in = second_in;
      nearest = λ j within. not_true (near (key_of_index slots row first) (key_of_index slots row j)) (λ round. no_first_before n place first j one between.within within (before_indexes slots row q place first j h between first_in within round));
      next = λ j within apart. not_true (near (key_of_index slots row second) (key_of_index slots row j)) (λ round. no_next_before n place first second j one two between.within within apart (before_indexes slots row q place second j h between second_in within round));
      alone = alone_before n place first second one two between.within some;
    } in
    first_other-is near slots row q.number first second (before_ranked q) h at

-- an index, or the first where it is behind the last
abbrev pub wrapped : ℕ → ℕ → ℕ
wrapped n i = cond (eqb i n) 0 i

wrapped_cases : (n i : ℕ) → ((i ≡ n) × (wrapped n i ≡ 0)) ⊎ ((i ≢ n) × (wrapped n i ≡ i))
wrapped_cases n i =
    elim (cases_Bool (eqb i n)) [
      | inl last ↦ let e = eqb-true i n last in inl (e, rw last refl)
      | inr within ↦ let apart = eqb-false i n within in inr (apart, rw within refl)
    ]

abbrev IsOn : ℕ → ℕ → ℕ → Type 0
IsOn n i j = ((i ≡ n) × (j ≡ 0)) ⊎ ((i ≢ n) × (j ≡ i))

no_first_after : (n place first j : ℕ) → IsOn n place first → place ≤ n → j < n → IndexAfter place first j → ⊥
no_first_after n place first j on le lt b = grind arith

no_next_after : (n place first second j : ℕ) → IsOn n place first → IsOn n (first + 1) second → place ≤ n → j < n → (j ≡ first → ⊥) → IndexAfter place second j → ⊥
no_next_after n place first second j on next le lt apart b = grind arith

alone_after : (n place first second : ℕ) → IsOn n place first → IsOn n (first + 1) second → place ≤ n → 0 < n → first ≡ second → n ≡ 1
alone_after n place first second on next le some same = grind arith

pub nearest_after-found : (slots : Slots) (row : RingOrder) (q : Key) (place : ℕ) → IsRow slots row → IsBetween slots row q place place → 0 < length row.order → first_other row.order (wrapped (length row.order) place) (wrapped (length row.order) (wrapped (length row.order) place + 1)) q.number ≡ nearest_after (keys_on row.ring (members_from 0 slots)) q
nearest_after-found slots row q place h between some =
    let n = length row.order in
    let first = wrapped n place in
    let second = wrapped n (first + 1) in
    let near : Key → Key → Bool = λ v w. is_between q w v in
    let one = wrapped_cases n place in
    let two = wrapped_cases n (first + 1) in
    let first_in : first < n = grind arith in
    let second_in : second < n = grind arith in
    let at : IsPair near slots row first second = record {
      first_in = first_in;
      second_in = second_in;
      nearest = λ j within. not_true (near (key_of_index slots row first) (key_of_index slots row j)) (λ round. no_first_after n place first j one between.within within (after_indexes slots row q place first j h between first_in within round));
      next = λ j within apart. not_true (near (key_of_index slots row second) (key_of_index slots row j)) (λ round. no_next_after n place first second j one two between.within within apart (after_indexes slots row q place second j h between second_in within round));
      alone = alone_after n place first second one two between.within some;
    } in
    first_other-is near slots row q.number first second (after_ranked q) h at

-- nobody is on the ring
pub nearest_before-nobody : (slots : Slots) (row : RingOrder) (q : Key) → IsRow slots row → length row.order ≡ 0 → None ≡ nearest_before (keys_on row.ring (members_from 0 slots)) q
nearest_before-nobody slots row q h none = sym (none_found (λ v w. is_between v w q) slots row q.number h (λ j within. absurd (omega arith)))

pub nearest_after-nobody : (slots : Slots) (row : RingOrder) (q : Key) → IsRow slots row → length row.order ≡ 0 → None ≡ nearest_after (keys_on row.ring (members_from 0 slots)) q
nearest_after-nobody slots row q h none = sym (none_found (λ v w. is_between q w v) slots row q.number h (λ j within. absurd (omega arith)))
