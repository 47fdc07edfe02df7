-- Which ring an accusation is on, and who a node's neighbours are.
use Rattle.std.proofs.Common.{◌≡◌, ℕ, zero, suc, ◌+◌, ◌<◌, ◌≤◌, Bool, true, false, cond, not, eqb, List, [], ◌∷◌, Option, Some, None, filter, map, inl, inr, ◌⊎◌, refl, ap, sym, ◌∙◌, subst, arith}
use Rattle.std.specs.Prelude.{◌&&◌, find}
use Rattle.std.specs.List.{list_any, range_with_len, slice_get, Contains}
use Rattle.std.specs.Option.{option_and_then}
use Rattle.std.proofs.lemmas.Bool.{cond_both, cases_Bool, eqb-true, eq-eqb, and_parts, and_from, false≢true}
use Rattle.std.proofs.lemmas.Bool.Decides.{nat_tests}
use Rattle.ff_ids.specs.declared.TheConstants.{MEMBERS}
use Rattle.ff_ids.specs.declared.NoteBody.{NoteBody}
use Rattle.ff_ids.specs.Masks.{ring_count, enables}
use Rattle.ff_ids.specs.Notes.{newest}
use Rattle.ff_ids.specs.Rings.{Key, others, none_between}
use Rattle.ff_ids.specs.Views.{State, all_numbers, in_view, view, key_of, monitor, successor, is_number}
use Rattle.membership.proofs.NumberLemmas.{all_length, filter-filter}
use Rattle.life_laws.proofs.Lists.{In, In-from_Contains, Contains-from_In, In-filter, In-from_filter, In-from_map, some_passes, any_from_In}
use Rattle.node_rules.specs.Nodes.{Setting, in_order, rings_of, successors, neighbours, neighbours_and}
use Rattle.node_rules.specs.Ticking.{monitored_rings, ring_for}
use Rattle.node_rules.specs.OnRings.{Monitors, MonitorsFirst, Rises, Succeeds}
use Rattle.node_rules.proofs.Accusations.{In-range, range-below, In-from_filter_map, In-filter_map, found, found-number, is-monitor}

-- ---- the first of a range that passes

-- It passes, is in the range, and none before it passes.
record IsFirst (p : ℕ → Bool) (a n x : ℕ) : Type 0 where
  low : a ≤ x
  high : x < a + n
  fits : p x ≡ true
  before : (k : ℕ) → a ≤ k → k < x → p k ≡ false

first-of_range : (p : ℕ → Bool) (a n x : ℕ) → slice_get (filter p (range_with_len a n)) 0 ≡ Some x → IsFirst p a n x
first-of_range p a zero x h = cc
first-of_range p a (suc n) x h =
    elim (cases_Bool (p a)) [
      | inl fits ↦ at_front (sym (ap (λ (b : Bool). slice_get (cond b (a ∷ filter p (range_with_len (a + 1) n)) (filter p (range_with_len (a + 1) n))) 0) fits) ∙ h) fits
      | inr fails ↦
          let later : slice_get (filter p (range_with_len (a + 1) n)) 0 ≡ Some x =
          sym (ap (λ (b : Bool). slice_get (cond b (a ∷ filter p (range_with_len (a + 1) n)) (filter p (range_with_len (a + 1) n))) 0) fails) ∙ h in
          let r = first-of_range p (a + 1) n x later in
          record {
            low = omega (arith, r.low);
            high = omega (arith, r.high);
            fits = r.fits;
            before = λ k low high. elim (cases_Bool (eqb a k)) [
              | inl same ↦ ap p (sym (eqb-true a k same)) ∙ fails
              | inr apart ↦ r.before k (above k low apart) high
            ];
          }
    ]
  where
    injective : Some a ≡ Some x → a ≡ x
    injective e = cc

    at_front : Some a ≡ Some x → p a ≡ true → IsFirst p a (suc n) x
    at_front e fits =
        let same : a ≡ x = injective e in
        record { low = omega (arith, same); high = omega (arith, same); fits = sym (ap p same) ∙ fits; before = λ k low high. absurd (omega (arith, same, low, high)) }

    above : (k : ℕ) → a ≤ k → eqb a k ≡ false → a + 1 ≤ k
    above k low apart = grind (arith, nat_tests, low, apart)

none-of_range : (p : ℕ → Bool) (xs : List ℕ) → slice_get (filter p xs) 0 ≡ None → (x : ℕ) → In xs x → p x ≡ false
none-of_range p xs h x i =
    elim (cases_Bool (p x)) [
      | inl fits ↦ absurd (empty_none (filter p xs) x h (In-filter p xs x i fits))
      | inr fails ↦ fails
    ]
  where
    empty_none : (ys : List ℕ) (y : ℕ) → slice_get ys 0 ≡ None → In ys y → ⊥
    empty_none [] y e j = j
    empty_none (z ∷ ys) y e j = cc

-- ---- the ring of an accusation

abbrev on_both : Setting → State → ℕ → NoteBody → ℕ → Bool
on_both s st m note ring = enables note.mask.0 ring && is_number (monitor st ring m) s.me

rings-are : (s : Setting) (st : State) (m : ℕ) (note : NoteBody) → monitored_rings s st m note ≡ filter (on_both s st m note) (range_with_len 0 (ring_count s.group.t))
rings-are s st m note = filter-filter (λ ring. is_number (monitor st ring m) s.me) (enables note.mask.0) (range_with_len 0 (ring_count s.group.t))

number-of : (o : Option ℕ) (v : ℕ) → o ≡ Some v → is_number o v ≡ true
number-of o v h = ap (λ x. is_number x v) h ∙ eq-eqb v v refl

passes-there : (s : Setting) (st : State) (m : ℕ) (note : NoteBody) (ring : ℕ) → Monitors s st m note ring → on_both s st m note ring ≡ true
passes-there s st m note ring h = and_from _ _ h.enabled (number-of (monitor st ring m) s.me h.monitors)

lowest-by : (s : Setting) (st : State) (m ring : ℕ) (o : Option NoteBody) → newest st.notes m ≡ o → option_and_then (λ note. slice_get (monitored_rings s st m note) 0) o ≡ Some ring → MonitorsFirst s st m ring
lowest-by s st m ring None e h = cc
lowest-by s st m ring (Some note) e h =
    let rings : ℕ = ring_count s.group.t in
    let f = first-of_range (on_both s st m note) 0 rings ring (sym (ap (λ xs. slice_get xs 0) (rings-are s st m note)) ∙ h) in
    let parts = and_parts _ _ f.fits in
    record {
      note = note;
      is_newest = e;
      here = record { of_group = omega (arith, f.high); enabled = parts.0; monitors = is-monitor (monitor st ring m) s.me parts.1 };
      first = λ lower below h. absurd (false≢true (sym (f.before lower (omega arith) below) ∙ passes-there s st m note lower h));
    }

pub ring-lowest : (s : Setting) (st : State) (m ring : ℕ) → ring_for s st m ≡ Some ring → MonitorsFirst s st m ring
ring-lowest s st m ring h = lowest-by s st m ring (newest st.notes m) refl h

pub ring-none : (s : Setting) (st : State) (m : ℕ) → ring_for s st m ≡ None → (note : NoteBody) (ring : ℕ) → newest st.notes m ≡ Some note → Monitors s st m note ring → ⊥
ring-none s st m h note ring e here =
    let rings : ℕ = ring_count s.group.t in
    let none : slice_get (filter (on_both s st m note) (range_with_len 0 rings)) 0 ≡ None =
    sym (ap (λ xs. slice_get xs 0) (rings-are s st m note)) ∙ sym (ap (λ o. option_and_then (λ n. slice_get (monitored_rings s st m n) 0) o) e) ∙ h in
    let i : In (range_with_len 0 rings) ring = In-range 0 rings ring (omega arith) (omega (arith, here.of_group)) in
    false≢true (sym (none-of_range (on_both s st m note) (range_with_len 0 rings) none ring i) ∙ passes-there s st m note ring here)

-- ---- in order

pub rises-lower : (low lower : ℕ) (xs : List ℕ) → lower ≤ low → Rises low xs → Rises lower xs
rises-lower low lower [] l h = tt
rises-lower low lower (x ∷ xs) l h = (omega (arith, l, h.0), h.1)

rises-range : (p : ℕ → Bool) (a n : ℕ) → Rises a (filter p (range_with_len a n))
rises-range p a zero = tt
rises-range p a (suc n) =
    let rest : List ℕ = filter p (range_with_len (a + 1) n) in
    cond_both (p a) (a ∷ rest) rest (Rises a) (λ yes. (omega arith, rises-range p (a + 1) n)) (λ no. rises-lower (a + 1) a rest (omega arith) (rises-range p (a + 1) n))

rises-in_order : (listed : List ℕ) → Rises 0 (in_order listed)
rises-in_order listed =
    let p : ℕ → Bool = λ m. list_any (λ x. eqb x m) listed in
    subst (λ xs. Rises 0 (filter p xs)) (sym all_length.1.are) (rises-range p 0 all_length.0)

listed-in_order : (listed : List ℕ) (m : ℕ) → In (in_order listed) m → In listed m
listed-in_order listed m i =
    let f = In-from_filter (λ m. list_any (λ x. eqb x m) listed) all_numbers m i in
    let r = some_passes (λ x. eqb x m) listed f.1 in
    subst (In listed) (eqb-true r.0 m r.1.1) r.1.0

in_order-listed : (listed : List ℕ) (m : ℕ) → In all_numbers m → In listed m → In (in_order listed) m
in_order-listed listed m number i = In-filter (λ m. list_any (λ x. eqb x m) listed) all_numbers m number (any_from_In (λ x. eqb x m) listed m i (eq-eqb m m refl))

-- ---- successors

-- who is found on the rings has a number
successor-number : (st : State) (ring m v : ℕ) → successor st ring m ≡ Some v → In all_numbers v
successor-number st ring m v h =
    let keys : List Key = map (key_of st ring) (view st) in
    let nearest : Key → Bool = λ k. none_between (others m keys) (key_of st ring m) k in
    let r = found-number (find nearest (others m keys)) v h in
    let f = found nearest (others m keys) r.0 r.1.0 in
    numbered r.0 (In-from_filter (λ k. not (eqb k.number m)) keys r.0 f.0).0 r.1.1
  where
    numbered : (k : Key) → In (map (key_of st ring) (view st)) k → k.number ≡ v → In all_numbers v
    numbered k i is =
        let who = In-from_map (key_of st ring) (view st) k i in
        subst (In all_numbers) (ap (λ (x : Key). x.number) who.1.1 ∙ is) (In-from_filter (in_view st) all_numbers who.0 who.1.0).0

succeeds-listed : (s : Setting) (st : State) (m : ℕ) → In (successors s st) m → Succeeds s st m
succeeds-listed s st m i =
    let r = In-from_filter_map (λ ring. successor st ring s.me) (rings_of s) m i in
    record { ring = r.0; of_group = omega (arith, range-below 0 (ring_count s.group.t) r.0 r.1.0); follows = r.1.1 }

listed-succeeds : (s : Setting) (st : State) (m : ℕ) → Succeeds s st m → In (successors s st) m
listed-succeeds s st m h = In-filter_map (λ ring. successor st ring s.me) (rings_of s) h.ring m (In-range 0 (ring_count s.group.t) h.ring (omega arith) (omega (arith, h.of_group))) h.follows

pub neighbours-are : (s : Setting) (st : State) → Rises 0 (neighbours s st) × ((m : ℕ) → Contains (neighbours s st) m → Succeeds s st m) × ((m : ℕ) → Succeeds s st m → Contains (neighbours s st) m)
unfolding neighbours
neighbours-are s st =
    let listed : List ℕ = successors s st in (
      rises-in_order listed,
      λ m c. succeeds-listed s st m (listed-in_order listed m (In-from_Contains (in_order listed) m c)),
      λ m h. Contains-from_In (in_order listed) m (in_order-listed listed m (successor-number st h.ring s.me m h.follows) (listed-succeeds s st m h)),
    )

small-number : (m : ℕ) → m < MEMBERS → In all_numbers m
small-number m low = subst (λ xs. In xs m) (sym all_length.1.are) (In-range 0 all_length.0 m (omega arith) (omega (arith, low, all_length.1.long)))

pub accused-addressed : (s : Setting) (st : State) (m : ℕ) → Rises 0 (neighbours_and s m st) × ((to : ℕ) → Contains (neighbours_and s m st) to → (to ≡ m) ⊎ Succeeds s st to)
    × (m < MEMBERS → Contains (neighbours_and s m st) m) × ((to : ℕ) → Succeeds s st to → Contains (neighbours_and s m st) to)
unfolding neighbours_and
accused-addressed s st m =
    let listed : List ℕ = m ∷ successors s st in (
      rises-in_order listed,
      λ to c. elim (listed-in_order listed to (In-from_Contains (in_order listed) to c)) [ inl e ↦ inl (sym e) | inr i ↦ inr (succeeds-listed s st to i) ],
      λ low. Contains-from_In (in_order listed) m (in_order-listed listed m (small-number m low) (inl refl)),
      λ to h. Contains-from_In (in_order listed) to (in_order-listed listed to (successor-number st h.ring s.me to h.follows) (inr (listed-succeeds s st to h))),
    )
