-- The order of keys on a ring, and what a search among keys in order has come to.
use Rattle.std.proofs.Common.{◌≡◌, ℕ, zero, suc, nat_eq, ◌+◌, ◌-◌, ◌*◌, ◌/◌, ◌^◌, ◌<◌, ◌≤◌, Bool, cond, true, false, List, Option, Some, None, [], length, get_or, inl, inr, refl, sym, ap, ◌∙◌, subst, arith}
use Rattle.std.specs.Ordering.{is_lt}
use Rattle.std.specs.Option.{unwrap_or, IfSome, IsSomeAnd}
use Rattle.std.specs.declared.cmp.Ordering.{Ordering}
use Rattle.std.specs.declared.cmp.Ordering.TheVariants.{Less, Equal, Greater}
use Rattle.std.proofs.lemmas.Bool.{cases_lt, true≢false}
use Rattle.std.proofs.lemmas.List.{get_or_default, get_or_past}
use Rattle.std.proofs.lemmas.Cmp.{tied_itself}
use Rattle.ff_ids.specs.Rings.{Key, key_cmp, is_below}
use Rattle.ff_ids.specs.Views.{key_at}
use Rattle.ring_order.specs.Ranks.{Ranked}
use Rattle.ring_order.proofs.KeyOrder.{key_cmp_total}
use Rattle.monitor_rule.specs.Sorted.{RingOrder, places_at, key_in, key_of_index, hint_on, IsRow, IsBetween}

less_from : (o : Ordering) → is_lt o ≡ true → o ≡ Less
less_from Less h = refl
less_from Equal h = cc
less_from Greater h = cc

pub is_below-trans : (a b c : Key) → is_below a b ≡ true → is_below b c ≡ true → is_below a c ≡ true
is_below-trans a b c h g = ap is_lt (key_cmp_total.trans a b c (less_from (key_cmp a b) h) (less_from (key_cmp b c) g))

pub is_below-itself : (a : Key) → is_below a a ≡ false
is_below-itself a = ap is_lt (tied_itself key_cmp_total a)

pub is_below-one_way : (a b : Key) → is_below a b ≡ true → is_below b a ≡ true → ⊥
is_below-one_way a b h g = true≢false (sym (is_below-trans a b a h g) ∙ is_below-itself a)

pub not_true : (b : Bool) → (b ≡ true → ⊥) → b ≡ false
not_true true h = absurd (h refl)
not_true false h = refl

-- the key of a number whose places are known
pub key_here : (slots : List (Option (List (List ℕ)))) (ring n : ℕ) (places : List (List ℕ)) → places_at slots n ≡ Some places → key_in slots ring n ≡ key_at ring places n
key_here slots ring n places h = ap (λ o. key_at ring (unwrap_or o []) n) h

-- the key in the middle is below: those up to it are too
pub IsBetween-above : (slots : List (Option (List (List ℕ)))) (row : RingOrder) (q : Key) (low middle high : ℕ) → IsRow slots row → IsBetween slots row q low high → middle < high → is_below (key_of_index slots row middle) q ≡ true → IsBetween slots row q (middle + 1) high
IsBetween-above slots row q low middle high h between lt below =
    record {
      ordered = omega arith;
      within = between.within;
      below = λ i up.
          elim (cases_lt i middle) [
            | inl earlier ↦ is_below-trans (key_of_index slots row i) (key_of_index slots row middle) q (h.rising i middle earlier (omega (arith, between.within))) below
            | inr later ↦
                let e : middle ≡ i = omega arith in
                subst (λ (j : ℕ). is_below (key_of_index slots row j) q ≡ true) e below
          ];
      above = between.above;
    }

-- the key in the middle isn't below: those from it on aren't either
pub IsBetween-below : (slots : List (Option (List (List ℕ)))) (row : RingOrder) (q : Key) (low middle high : ℕ) → IsRow slots row → IsBetween slots row q low high → low ≤ middle → middle < high → is_below (key_of_index slots row middle) q ≡ false → IsBetween slots row q low middle
IsBetween-below slots row q low middle high h between le lt above =
    record {
      ordered = le;
      within = omega (arith, between.within);
      below = between.below;
      above = λ i from in'.
          elim (cases_lt middle i) [
            | inl later ↦
                not_true (is_below (key_of_index slots row i) q) (λ g.
                true≢false (sym (is_below-trans (key_of_index slots row middle) (key_of_index slots row i) q (h.rising middle i later in') g) ∙ above))
            | inr earlier ↦
                let e : middle ≡ i = omega arith in
                subst (λ (j : ℕ). is_below (key_of_index slots row j) q ≡ false) e above
          ];
    }

-- what holds of those between two indexes holds up to a later one
pub IsBetween-wider : (slots : List (Option (List (List ℕ)))) (row : RingOrder) (q : Key) (low high from upto : ℕ) → IsBetween slots row q low high → from ≡ low → high ≤ upto → upto ≤ length row.order → IsBetween slots row q from upto
IsBetween-wider slots row q low high from upto between same le within =
    record {
      ordered = omega (arith, between.ordered);
      within = within;
      below = λ i up. between.below i (omega arith);
      above = λ i behind in'. between.above i (omega arith) in';
    }

-- the number that was read at an index of a ring
pub number_here : (order : List ℕ) (row : RingOrder) (middle other : ℕ) → order ≡ row.order → middle < length row.order → other ≡ get_or order middle other → get_or row.order middle 0 ≡ other
number_here order row middle other view lt read =
    get_or_default row.order middle 0 other lt ∙ ap (λ (o : List ℕ). get_or o middle other) (sym view) ∙ sym read

-- what a comparison with the number at an index of a ring says
pub key_behind : (slots : List (Option (List (List ℕ)))) (order : List ℕ) (row : RingOrder) (q : Key) (other index : ℕ) (answer : Bool) → order ≡ row.order → index < length row.order → other ≡ get_or order index other → answer ≡ is_below (key_in slots row.ring other) q → answer ≡ is_below (key_of_index slots row index) q
key_behind slots order row q other index answer view lt read says =
    says ∙ ap (λ n. is_below (key_in slots row.ring n) q) (sym (number_here order row index other view lt read))

rank_in : (ring other : ℕ) (x : Ranked) (o : Option (List (List ℕ))) → IfSome o (λ places. x ≡ record { hint = hint_on ring places; number = other }) → IsSomeAnd o (λ places. ring < length places) → x ≡ record { hint = hint_on ring (unwrap_or o []); number = other }
rank_in ring other x None h some = absurd some
rank_in ring other x (Some places) h some = h

-- the rank that was read of a member that has joined
pub rank_here : (slots : List (Option (List (List ℕ)))) (ranks : List Ranked) (row : RingOrder) (index other : ℕ) (x : Ranked) → ranks ≡ row.ranks → index ≡ other → x ≡ get_or ranks index x → IsRow slots row → IsSomeAnd (places_at slots other) (λ places. row.ring < length places) → x ≡ record { hint = hint_on row.ring (unwrap_or (places_at slots other) []); number = other }
rank_here slots ranks row index other x view same read h some =
    read ∙ ap (λ i. get_or ranks i x) same ∙ ap (λ (l : List Ranked). get_or l other x) view ∙ rank_in row.ring other (get_or row.ranks other x) (places_at slots other) (h.ranked other x) some

-- a rank that is kept stands in the list
pub rank_within : (slots : List (Option (List (List ℕ)))) (row : RingOrder) (places : List (List ℕ)) (n : ℕ) → IsRow slots row → places_at slots n ≡ Some places → n < length row.ranks
rank_within slots row places n h there =
    let at : (d : Ranked) → get_or row.ranks n d ≡ record { hint = hint_on row.ring places; number = n } =
    λ d. subst (λ (o : Option (List (List ℕ))). IfSome o (λ p. get_or row.ranks n d ≡ record { hint = hint_on row.ring p; number = n })) there (h.ranked n d) in
    elim (cases_lt n (length row.ranks)) [
      | inl lt ↦ lt
      | inr past ↦
          let other : Ranked = record { hint = 0; number = n + 1 } in
          let same : n + 1 ≡ n = ap (λ (r : Ranked). r.number) (sym (get_or_past row.ranks n other past) ∙ at other) in
          absurd (omega (arith, same))
    ]

some_places : (o : Option (List (List ℕ))) (ring : ℕ) → IsSomeAnd o (λ places. ring < length places) → (places : List (List ℕ)) × (o ≡ Some places)
some_places None ring some = absurd some
some_places (Some places) ring some = (places, refl)

-- its rank stands in the list
pub rank_there : (slots : List (Option (List (List ℕ)))) (ranks : List Ranked) (row : RingOrder) (index other : ℕ) → ranks ≡ row.ranks → index ≡ other → IsRow slots row → IsSomeAnd (places_at slots other) (λ places. row.ring < length places) → index < length ranks
rank_there slots ranks row index other view same h some =
    let there = some_places (places_at slots other) row.ring some in
    omega (arith, same, ap length view, rank_within slots row there.0 other h there.1)

tells_in : (ring x : ℕ) (o : Option (List (List ℕ))) → IfSome o (λ places. hint_on ring places < 2 ^ 32 - 1) → x ≡ hint_on ring (unwrap_or o []) → IsSomeAnd o (λ places. ring < length places) → x < 2 ^ 32 - 1
tells_in ring x None h is some = absurd some
tells_in ring x (Some places) h is some = omega (arith, is, h)

-- the hint of a member that has joined, where all tell
pub tells_here : (slots : List (Option (List (List ℕ)))) (row : RingOrder) (other x : ℕ) → IsRow slots row → row.told ≡ true → x ≡ hint_on row.ring (unwrap_or (places_at slots other) []) → IsSomeAnd (places_at slots other) (λ places. row.ring < length places) → x < 2 ^ 32 - 1
tells_here slots row other x h told is some = tells_in row.ring x (places_at slots other) (h.telling other told) is some

pub times_one : (n : ℕ) (b : Bool) → n * cond b 1 0 ≡ cond b n 0
times_one n true = omega arith
times_one n false = omega arith

-- a search goes on behind the middle one of those that are left, or nowhere
pub IsBetween-halved : (slots : List (Option (List (List ℕ)))) (row : RingOrder) (q : Key) (low left more : ℕ) (b : Bool) → IsRow slots row → IsBetween slots row q low (low + left) → 0 < left → is_below (key_of_index slots row (low + (left - left / 2) - 1)) q ≡ b → more ≡ cond b (left - left / 2) 0 → IsBetween slots row q (low + more) (low + more + left / 2)
IsBetween-halved slots row q low left more true h between some is goes =
    let middle = low + (left - left / 2) - 1 in
    let lt : middle < low + left = omega arith in
    IsBetween-wider slots row q (middle + 1) (low + left) (low + more) (low + more + left / 2) (IsBetween-above slots row q low middle (low + left) h between lt is) (omega (arith, goes)) (omega (arith, goes)) (omega (arith, goes, between.within))
IsBetween-halved slots row q low left more false h between some is goes =
    let middle = low + (left - left / 2) - 1 in
    let le : low ≤ middle = omega arith in
    let lt : middle < low + left = omega arith in
    IsBetween-wider slots row q low middle (low + more) (low + more + left / 2) (IsBetween-below slots row q low middle (low + left) h between le lt is) (omega (arith, goes)) (omega (arith, goes)) (omega (arith, goes, between.within))

-- Of the two numbers in the middles of what may be left, the one that is chosen is in the middle of what is left.
pub middle_of_rest : (order : List ℕ) (low half step behind other near far : ℕ) → behind ≤ 1 → near ≡ get_or order (low + step - 1) 0 → far ≡ get_or order (low + half + step - 1) 0 → other ≡ cond (nat_eq behind 1) far near → other ≡ get_or order (low + half * behind + step - 1) 0
middle_of_rest order low half step zero other near far le n f o = o ∙ n ∙ ap (λ i. get_or order i 0) (omega arith)
middle_of_rest order low half step (suc zero) other near far le n f o = o ∙ f ∙ ap (λ i. get_or order i 0) (omega arith)
middle_of_rest order low half step (suc (suc more)) other near far le n f o = absurd (omega arith)
