-- What is kept of the joined members once one joins or leaves, or all leave.
use Rattle.std.proofs.Common.{◌≡◌, ◌≢◌, ℕ, suc, ◌+◌, ◌-◌, ◌^◌, ◌<◌, ◌≤◌, Bool, true, false, ◌&&◌, cond, inl, inr, List, [], ◌∷◌, ◌++◌, Option, Some, None, length, map, take, drop, get_or, set, refl, sym, ap, ◌∙◌, subst, arith, length-set, get_or-set_other, get_or-set_same}
use Rattle.std.specs.Prelude.{is_some, nat_lt}
use Rattle.std.specs.List.{All, AllWithin, insert, remove, range_with_len}
use Rattle.std.specs.Option.{IfSome}
use Rattle.std.proofs.Math.Seq.{take-append_seam, map-set_same}
use Rattle.std.proofs.lemmas.Bool.{cases_eq}
use Rattle.std.proofs.lemmas.List.{length-map, get_or-map, map-append}
use Rattle.std.proofs.lemmas.List.Elements.{All-map, All-push, All-same}
use Rattle.std.proofs.lemmas.List.FromFn.{get_or-range_with_len}
use Rattle.ff_ids.specs.declared.TheConstants.{MAX_RINGS, MEMBERS}
use Rattle.ff_ids.specs.Views.{Member, key_at}
use Rattle.ff_ids.proofs.MaskLemmas.{range_with_len-push}
use Rattle.monitor_rule.specs.Joined.{Joined, is_joined, with_member, without_member}
use Rattle.monitor_rule.specs.Listed.{is_listed, with_number, without_number}
use Rattle.monitor_rule.specs.Sorted.{RingOrder, places_at, members_from, numbers_in, emptied, hint_on, AreFound, IsRow, IsBetween, IsKept}
use Rattle.monitor_rule.proofs.NumberLemmas.{numbers_with, numbers_without, is_listed-joined}
use Rattle.monitor_rule.proofs.SlotLemmas.{Slots, length-members_below, members_from-none, members_from-filled, members_from-emptied, is_joined-slot, Contains-member}
use Rattle.ring_order.specs.Ranks.{Ranked}
use Rattle.monitor_rule.proofs.RowLemmas.{AreRanks, IsRow-joined, IsRow-left, IsRow-empty}

-- what is written over all of a list
pub written : {X : Type 0} (n : ℕ) (xs ys : List X) → length ys ≡ length xs → n ≡ length xs → take n (ys ++ drop (length ys) xs) ≡ ys
written n xs ys same long =
    let e : n ≡ length ys = omega arith in
    ap (λ k. take k (ys ++ drop (length ys) xs)) e ∙ take-append_seam ys (drop (length ys) xs)

-- the numbers of nobody
pub numbers-none : (slots : Slots) (numbers : List ℕ) → ((n : ℕ) → places_at slots n ≡ None) → numbers ≡ [] → numbers ≡ numbers_in slots
numbers-none slots numbers none is = is ∙ sym (ap (map (λ (x : Member). x.number)) (members_from-none 0 slots none))

-- where a slot is free fewer numbers than all are listed
pub numbers-few : (slots : Slots) (numbers : List ℕ) (m : ℕ) → numbers ≡ numbers_in slots → places_at slots m ≡ None → m < MEMBERS → length slots ≡ MEMBERS → length numbers < MEMBERS
numbers-few slots numbers m same free number long =
    omega (arith, ap length same, length-map (members_from 0 slots) (λ (x : Member). x.number), length-members_below 0 slots m free (omega arith), long)

-- ---- one row

pub joined_row : (slots : Slots) (ring : ℕ) (order after : List ℕ) (ranks reached : List Ranked) (told : Bool) (row : RingOrder) (places : List (List ℕ)) (place m capacity : ℕ) (done : Bool) → record { ring = ring; order = order; ranks = ranks; told = told } ≡ row → IsRow slots row → IsBetween slots row (key_at row.ring places m) place place → places_at slots m ≡ None → m < MEMBERS → length slots ≡ MEMBERS → row.ring < length places → after ≡ cond done (insert order place m) order → MEMBERS ≤ capacity → (length order < capacity → done ≡ true)
    → m < length reached → ((n : ℕ) (d : Ranked) → n < length ranks → get_or reached n d ≡ get_or ranks n d)
    → IsRow (set slots m (Some places)) (record { ring = ring; order = after; ranks = set reached m (record { hint = hint_on ring places; number = m }); told = told && nat_lt (hint_on ring places) (2 ^ 32 - 1) })
joined_row slots ring order after ranks reached told row places place m capacity done view h between free number long placed is room succeeds in_reached kept =
    let same : length order ≡ length row.order = ap (λ (r : RingOrder). length r.order) view in
    let in' : m < length slots = omega arith in
    let below = length-members_below 0 slots m free in' in
    let yes : done ≡ true = succeeds (omega (arith, h.count, below)) in
    let put : after ≡ insert order place m = is ∙ ap (λ b. cond b (insert order place m) order) yes in
    let ranks_same : ranks ≡ row.ranks = ap (λ (r : RingOrder). r.ranks) view in
    let own : ℕ → Ranked = λ ring. record { hint = hint_on ring places; number = m } in
    let are : AreRanks row places m (set reached m (own row.ring)) = record {
      own = λ d. get_or-set_same reached m (own row.ring) d in_reached;
      others = λ n d apart lt. get_or-set_other reached m n (own row.ring) d apart ∙ kept n d (omega (arith, lt, ap length ranks_same)) ∙ ap (λ (xs : List Ranked). get_or xs n d) ranks_same;
    } in
    let joined = IsRow-joined slots row places (set reached m (own row.ring)) place m are h between free in' placed in
    let P : RingOrder → Type 0 = λ r. IsRow (set slots m (Some places)) r in
    subst P (ap (λ (r : RingOrder). record r { order = insert r.order place m; ranks = set reached m (own r.ring); told = r.told && nat_lt (hint_on r.ring places) (2 ^ 32 - 1) }) (sym view) ∙ ap (λ (o : List ℕ). record { ring = ring; order = o; ranks = set reached m (own ring); told = told && nat_lt (hint_on ring places) (2 ^ 32 - 1) }) (sym put)) joined

pub left_row : (slots : Slots) (ring : ℕ) (order after : List ℕ) (ranks : List Ranked) (told : Bool) (row : RingOrder) (places : List (List ℕ)) (place m : ℕ) → record { ring = ring; order = order; ranks = ranks; told = told } ≡ row → IsRow slots row → IsBetween slots row (key_at row.ring places m) place place → places_at slots m ≡ Some places → m < MEMBERS → length slots ≡ MEMBERS → after ≡ remove order place → IsRow (set slots m None) (record { ring = ring; order = after; ranks = ranks; told = told })
left_row slots ring order after ranks told row places place m view h between there number long is =
    let in' : m < length slots = omega arith in
    let left = (IsRow-left slots row places place m h between there in').1 in
    let P : RingOrder → Type 0 = λ r. IsRow (set slots m None) r in
    subst P (ap (λ (r : RingOrder). record r { order = remove r.order place }) (sym view) ∙ ap (λ (o : List ℕ). record { ring = ring; order = o; ranks = ranks; told = told }) (sym is)) left

pub left_within : (slots : Slots) (row : RingOrder) (places : List (List ℕ)) (place m : ℕ) → IsRow slots row → IsBetween slots row (key_at row.ring places m) place place → places_at slots m ≡ Some places → m < MEMBERS → length slots ≡ MEMBERS → place < length row.order
left_within slots row places place m h between there number long = (IsRow-left slots row places place m h between there (omega arith)).0

-- ---- a loop over the rows

pub left_more : (P : RingOrder → Type 0) (rows : List RingOrder) (i : ℕ) (after : RingOrder) → AllWithin P rows i (length rows) → AllWithin P (set rows i after) (i + 1) (length (set rows i after))
left_more P rows i after h = λ k d from lt.
    let apart : k ≢ i = λ e. absurd (omega arith) in
    let within : k < length rows = omega (arith, length-set rows i after) in
    subst P (sym (get_or-set_other rows i k after d apart)) (h k d (omega arith) within)

pub rings_more : (rows initial : List RingOrder) (i : ℕ) (after d : RingOrder) → after.ring ≡ (get_or rows i d).ring → map (λ r. r.ring) rows ≡ map (λ r. r.ring) initial → map (λ r. r.ring) (set rows i after) ≡ map (λ r. r.ring) initial
rings_more rows initial i after d same h = map-set_same (λ (r : RingOrder). r.ring) rows i after d same ∙ h

-- one place more is found
pub found_more : (slots : Slots) (places : List (List ℕ)) (m : ℕ) (found : List ℕ) (rows : List RingOrder) (i place : ℕ) (row : RingOrder)
    → ((k : ℕ) (d : RingOrder) → k < i → IsBetween slots (get_or rows k d) (key_at (get_or rows k d).ring places m) (get_or found k 0) (get_or found k 0))
    → ((d : RingOrder) → get_or rows i d ≡ row) → i < length found → IsBetween slots row (key_at row.ring places m) place place
    → (k : ℕ) (d : RingOrder) → k < i + 1 → IsBetween slots (get_or rows k d) (key_at (get_or rows k d).ring places m) (get_or (set found i place) k 0) (get_or (set found i place) k 0)
found_more slots places m found rows i place row before same within here = λ k d lt.
    elim (cases_eq k i) [
      | inl own ↦ rw (own, same d, get_or-set_same found i place 0 within) here
      | inr apart ↦ rw (get_or-set_other found i k place 0 apart) (before k d (omega arith))
    ]

-- and what was found on the rings behind one that changes stays so
pub found_left : (slots : Slots) (places : List (List ℕ)) (m : ℕ) (found : List ℕ) (rows : List RingOrder) (i : ℕ) (after : RingOrder) → AreFound slots places m found rows i → AreFound slots places m found (set rows i after) (i + 1)
found_left slots places m found rows i after h = λ k d from lt.
    let apart : k ≢ i = λ e. absurd (omega arith) in
    let within : k < length rows = omega (arith, length-set rows i after) in
    rw (get_or-set_other rows i k after d apart) (h k d (omega arith) within)

-- ---- all of them

pub length-same_rings : (rows after : List RingOrder) → map (λ r. r.ring) after ≡ map (λ r. r.ring) rows → length after ≡ length rows
length-same_rings rows after same = sym (length-map after (λ (r : RingOrder). r.ring)) ∙ ap length same ∙ length-map rows (λ (r : RingOrder). r.ring)

-- the row at an index is that of the ring
pub ring_at : (rows : List RingOrder) (k : ℕ) (row : RingOrder) → map (λ r. r.ring) rows ≡ range_with_len 0 (length rows) → k < length rows → row ≡ get_or rows k row → row.ring ≡ k
ring_at rows k row numbered lt is =
    ap (λ (r : RingOrder). r.ring) is ∙ sym (get_or-map (λ (r : RingOrder). r.ring) rows k row 0 lt) ∙ ap (λ (ns : List ℕ). get_or ns k 0) numbered ∙ get_or-range_with_len 0 (length rows) k 0 lt ∙ omega arith

pub All-rings_below : (rows : List RingOrder) (n : ℕ) → map (λ r. r.ring) rows ≡ range_with_len 0 (length rows) → length rows ≡ n → All (λ r. r.ring < n) rows
All-rings_below rows n numbered long = λ k d lt.
    let at = sym (get_or-map (λ (r : RingOrder). r.ring) rows k d 0 lt) ∙ ap (λ (ns : List ℕ). get_or ns k 0) numbered ∙ get_or-range_with_len 0 (length rows) k 0 lt in
    omega (arith, at)

numbered_on : (rows after : List RingOrder) → map (λ r. r.ring) after ≡ map (λ r. r.ring) rows → map (λ r. r.ring) rows ≡ range_with_len 0 (length rows) → map (λ r. r.ring) after ≡ range_with_len 0 (length after)
numbered_on rows after same numbered = same ∙ numbered ∙ ap (range_with_len 0) (sym (length-same_rings rows after same))

pub IsKept-joined : (slots : Slots) (rows after : List RingOrder) (m : ℕ) (places : List (List ℕ)) → IsKept slots rows → m < MEMBERS → length places ≡ length rows → All (IsRow (set slots m (Some places))) after → map (λ r. r.ring) after ≡ map (λ r. r.ring) rows → IsKept (set slots m (Some places)) after
IsKept-joined slots rows after m places h number placed in_order same =
    let long = length-same_rings rows after same in
    let P : Option (List (List ℕ)) → Type 0 = λ o. IfSome o (λ p. length p ≡ length after) in
    record {
      few = omega (arith, long, h.few);
      long = length-set slots m (Some places) ∙ h.long;
      placed = λ n. elim (cases_eq n m) [
        | inl own ↦
            let at : places_at (set slots m (Some places)) n ≡ Some places = ap (λ k. get_or (set slots m (Some places)) k None) own ∙ get_or-set_same slots m (Some places) None (omega (arith, h.long)) in
            subst P (sym at) (placed ∙ sym long)
        | inr apart ↦
            let at = get_or-set_other slots m n (Some places) None apart in
            subst P (sym at) (subst (λ (k : ℕ). IfSome (places_at slots n) (λ p. length p ≡ k)) (sym long) (h.placed n))
      ];
      numbered = numbered_on rows after same h.numbered;
      in_order = in_order;
    }

pub IsKept-left : (slots : Slots) (rows after : List RingOrder) (m : ℕ) → IsKept slots rows → m < MEMBERS → All (IsRow (set slots m None)) after → map (λ r. r.ring) after ≡ map (λ r. r.ring) rows → IsKept (set slots m None) after
IsKept-left slots rows after m h number in_order same =
    let long = length-same_rings rows after same in
    let P : Option (List (List ℕ)) → Type 0 = λ o. IfSome o (λ p. length p ≡ length after) in
    record {
      few = omega (arith, long, h.few);
      long = length-set slots m None ∙ h.long;
      placed = λ n. elim (cases_eq n m) [
        | inl own ↦
            let at : places_at (set slots m None) n ≡ None = ap (λ k. get_or (set slots m None) k None) own ∙ get_or-set_same slots m None None (omega (arith, h.long)) in
            subst P (sym at) tt
        | inr apart ↦
            let at = get_or-set_other slots m n None None apart in
            subst P (sym at) (subst (λ (k : ℕ). IfSome (places_at slots n) (λ p. length p ≡ k)) (sym long) (h.placed n))
      ];
      numbered = numbered_on rows after same h.numbered;
      in_order = in_order;
    }

-- rows with nobody on them, and no slot filled
pub IsKept-nobody : (slots : Slots) (rows : List RingOrder) → length rows ≤ MAX_RINGS → length slots ≡ MEMBERS → ((n : ℕ) → places_at slots n ≡ None) → map (λ r. r.ring) rows ≡ range_with_len 0 (length rows) → All (λ r. r.order ≡ []) rows → IsKept slots rows
IsKept-nobody slots rows few long none numbered nobody =
    let P : Option (List (List ℕ)) → Type 0 = λ o. IfSome o (λ p. length p ≡ length rows) in
    record {
      few = few;
      long = long;
      placed = λ n. subst P (sym (none n)) tt;
      numbered = numbered;
      in_order = λ k d lt.
          let row = get_or rows k d in
          subst (IsRow slots) (ap (λ (o : List ℕ). record row { order = o }) (sym (nobody k d lt))) (IsRow-empty slots row none (members_from-none 0 slots none));
    }

rings-emptied : (rows : List RingOrder) → map (λ r. r.ring) (map emptied rows) ≡ map (λ r. r.ring) rows
rings-emptied [] = refl
rings-emptied (row ∷ rows) = ap (λ ns. row.ring ∷ ns) (rings-emptied rows)

pub IsKept-cleared : (slots after : Slots) (rows : List RingOrder) → IsKept slots rows → length after ≡ length slots → ((n : ℕ) → places_at after n ≡ None) → IsKept after (map emptied rows)
IsKept-cleared slots after rows h same none =
    let long : length (map emptied rows) ≡ length rows = length-map rows emptied in
    IsKept-nobody after (map emptied rows) (omega (arith, long, h.few)) (same ∙ h.long) none (numbered_on rows (map emptied rows) (rings-emptied rows) h.numbered)
    (All-map (λ (r : RingOrder). r.order ≡ []) emptied rows (λ k d lt. refl))

-- a row more, with nobody on it
pub rings_pushed : (rows after : List RingOrder) (n : ℕ) (row : RingOrder) → after ≡ rows ++ row ∷ [] → row.ring ≡ n → map (λ r. r.ring) rows ≡ range_with_len 0 n → map (λ r. r.ring) after ≡ range_with_len 0 (n + 1)
rings_pushed rows after n row is opened numbered =
    let e : n + 1 ≡ suc n = omega arith in
    let zero_more : n ≡ 0 + n = omega arith in
    ap (map (λ (r : RingOrder). r.ring)) is ∙ map-append (λ (r : RingOrder). r.ring) rows (row ∷ []) ∙ ap (λ ns. ns ++ row.ring ∷ []) numbered
    ∙ ap (λ x. range_with_len 0 n ++ x ∷ []) (opened ∙ zero_more) ∙ sym (ap (range_with_len 0) e ∙ range_with_len-push 0 n)

pub empty_pushed : (rows after : List RingOrder) (row : RingOrder) → after ≡ rows ++ row ∷ [] → row.order ≡ [] → All (λ r. r.order ≡ []) rows → All (λ r. r.order ≡ []) after
empty_pushed rows after row is opened h =
    All-same (λ (r : RingOrder). r.order ≡ []) after (rows ++ row ∷ []) is (All-push (λ (r : RingOrder). r.order ≡ []) rows row h opened)

-- ---- by who has joined

none_from : (o : Option (List (List ℕ))) → is_some o ≡ false → o ≡ None
none_from None h = refl
none_from (Some places) h = cc

slot_of : (slots : Slots) (rings m : ℕ) (joined : Joined) → record { rings = rings; members = members_from 0 slots } ≡ joined → is_some (places_at slots m) ≡ is_joined joined.members m
slot_of slots rings m joined view =
    let zero_more : 0 + m ≡ m = omega arith in
    sym (sym (ap (is_joined (members_from 0 slots)) zero_more) ∙ is_joined-slot 0 slots m) ∙ ap (λ (j : Joined). is_joined j.members m) view

pub free_slot : (slots : Slots) (rings m : ℕ) (joined : Joined) → record { rings = rings; members = members_from 0 slots } ≡ joined → is_joined joined.members m ≡ false → places_at slots m ≡ None
free_slot slots rings m joined view absent = none_from (places_at slots m) (slot_of slots rings m joined view ∙ absent)

pub filled_slot : (slots : Slots) (rings m : ℕ) (joined : Joined) → record { rings = rings; members = members_from 0 slots } ≡ joined → is_joined joined.members m ≡ true → is_some (places_at slots m) ≡ true
filled_slot slots rings m joined view present = slot_of slots rings m joined view ∙ present

some_slot : (o : Option (List (List ℕ))) → is_some o ≡ true → (places : List (List ℕ)) × (o ≡ Some places)
some_slot None h = cc
some_slot (Some places) h = (places, refl)

own_here : (slots : Slots) (m : ℕ) (places own : List (List ℕ)) → places_at slots m ≡ Some own → All (λ x. x.number ≡ m → x.places ≡ places) (members_from 0 slots) → own ≡ places
own_here slots m places own there each =
    let found = Contains-member 0 slots m own there in
    let member = get_or (members_from 0 slots) found.0 (record { number = 0 + m; places = own }) in
    let number : member.number ≡ m = ap (λ (x : Member). x.number) found.2 ∙ omega arith in
    sym (ap (λ (x : Member). x.places) found.2) ∙ each found.0 (record { number = 0 + m; places = own }) found.1 number

-- the places of a member that has joined are those in its slot
pub own_places : (slots : Slots) (rings m : ℕ) (joined : Joined) (places : List (List ℕ)) → record { rings = rings; members = members_from 0 slots } ≡ joined → is_joined joined.members m ≡ true → All (λ x. x.number ≡ m → x.places ≡ places) joined.members → places_at slots m ≡ Some places
own_places slots rings m joined places view present each =
    let there = some_slot (places_at slots m) (filled_slot slots rings m joined view present) in
    let here : All (λ x. x.number ≡ m → x.places ≡ places) (members_from 0 slots) = subst (λ (j : Joined). All (λ x. x.number ≡ m → x.places ≡ places) j.members) (sym view) each in
    there.1 ∙ ap Some (own_here slots m places there.0 there.1 here)

pub record Rekept (slots : Slots) (rows : List RingOrder) (numbers : List ℕ) (joined : Joined) : Type 0 where
  pub kept : IsKept slots rows
  pub numbers_same : numbers ≡ numbers_in slots
  pub view : record { rings = length rows; members = members_from 0 slots } ≡ joined

pub Rekept-joined : (slots : Slots) (rows after : List RingOrder) (numbers : List ℕ) (joined : Joined) (m : ℕ) (places : List (List ℕ)) → Rekept slots rows numbers joined → is_joined joined.members m ≡ false → m < MEMBERS → length places ≡ joined.rings → All (IsRow (set slots m (Some places))) after → map (λ r. r.ring) after ≡ map (λ r. r.ring) rows → Rekept (set slots m (Some places)) after (with_number m numbers) (record joined { members = with_member (record { number = m; places = places }) joined.members })
Rekept-joined slots rows after numbers joined m places h absent number placed in_order same =
    let free = free_slot slots (length rows) m joined h.view absent in
    let zero_more : 0 + m ≡ m = omega arith in
    record {
      kept = IsKept-joined slots rows after m places h.kept number (placed ∙ sym (ap (λ (j : Joined). j.rings) h.view)) in_order same;
      numbers_same =
          ap (with_number m) h.numbers_same ∙ sym (numbers_with (record { number = m; places = places }) (members_from 0 slots))
          ∙ sym (ap (map (λ (x : Member). x.number)) (members_from-filled 0 slots m places free (omega (arith, h.kept.long)) ∙ ap (λ n. with_member (record { number = n; places = places }) (members_from 0 slots)) zero_more));
      view =
          ap (λ n. record { rings = n; members = members_from 0 (set slots m (Some places)) }) (length-same_rings rows after same)
          ∙ ap (λ ms. record { rings = length rows; members = ms }) (members_from-filled 0 slots m places free (omega (arith, h.kept.long)) ∙ ap (λ n. with_member (record { number = n; places = places }) (members_from 0 slots)) zero_more)
          ∙ ap (λ (j : Joined). record j { members = with_member (record { number = m; places = places }) j.members }) h.view;
    }

pub Rekept-left : (slots : Slots) (rows after : List RingOrder) (numbers : List ℕ) (joined : Joined) (m : ℕ) → Rekept slots rows numbers joined → is_joined joined.members m ≡ true → m < MEMBERS → All (IsRow (set slots m None)) after → map (λ r. r.ring) after ≡ map (λ r. r.ring) rows → Rekept (set slots m None) after (without_number m numbers) (record joined { members = without_member m joined.members })
Rekept-left slots rows after numbers joined m h present number in_order same =
    let there = some_slot (places_at slots m) (filled_slot slots (length rows) m joined h.view present) in
    let zero_more : 0 + m ≡ m = omega arith in
    record {
      kept = IsKept-left slots rows after m h.kept number in_order same;
      numbers_same =
          ap (without_number m) h.numbers_same ∙ sym (numbers_without m (members_from 0 slots))
          ∙ sym (ap (map (λ (x : Member). x.number)) (members_from-emptied 0 slots m there.0 there.1 ∙ ap (λ n. without_member n (members_from 0 slots)) zero_more));
      view =
          ap (λ n. record { rings = n; members = members_from 0 (set slots m None) }) (length-same_rings rows after same)
          ∙ ap (λ ms. record { rings = length rows; members = ms }) (members_from-emptied 0 slots m there.0 there.1 ∙ ap (λ n. without_member n (members_from 0 slots)) zero_more)
          ∙ ap (λ (j : Joined). record j { members = without_member m j.members }) h.view;
    }

pub Rekept-cleared : (slots after : Slots) (rows : List RingOrder) (numbers : List ℕ) (joined : Joined) → Rekept slots rows numbers joined → length after ≡ length slots → ((n : ℕ) → places_at after n ≡ None) → Rekept after (map emptied rows) [] (record joined { members = [] })
Rekept-cleared slots after rows numbers joined h same none =
    record {
      kept = IsKept-cleared slots after rows h.kept same none;
      numbers_same = sym (ap (map (λ (x : Member). x.number)) (members_from-none 0 after none));
      view =
          ap (λ n. record { rings = n; members = members_from 0 after }) (length-map rows emptied)
          ∙ ap (λ ms. record { rings = length rows; members = ms }) (members_from-none 0 after none)
          ∙ ap (λ (j : Joined). record j { members = [] }) h.view;
    }

-- a member that has joined is listed
pub listed_number : (slots : Slots) (rings m : ℕ) (numbers : List ℕ) (joined : Joined) → record { rings = rings; members = members_from 0 slots } ≡ joined → numbers ≡ numbers_in slots → is_joined joined.members m ≡ true → is_listed numbers m ≡ true
listed_number slots rings m numbers joined view same present =
    ap (λ (l : List ℕ). is_listed l m) same ∙ is_listed-joined (members_from 0 slots) m ∙ ap (λ (j : Joined). is_joined j.members m) view ∙ present
