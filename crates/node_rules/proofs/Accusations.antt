-- A node's own accusations have no fault, and are kept.
use Rattle.std.proofs.Common.{◌≡◌, ℕ, ◌+◌, ◌<◌, ◌≤◌, zero, suc, Bool, true, false, cond, not, eqb, List, [], ◌∷◌, ◌++◌, length, Option, Some, None, refl, ap, sym, ◌∙◌, subst, map, filter, inl, inr, arith, ◌⊎◌}
use Rattle.std.specs.Prelude.{◌&&◌, nat_le, option_map, find, filter_map}
use Rattle.std.specs.List.{list_any, range_with_len, slice_get, cons_option}
use Rattle.std.specs.Option.{option_map_or, option_and_then}
use Rattle.std.proofs.lemmas.Bool.{cond_both, cases_Bool, eqb-true, eq-eqb, false≢true, and_parts, and_from, not-true}
use Rattle.std.proofs.lemmas.Bool.Decides.{nat_tests}
use Rattle.std.proofs.lemmas.List.{take_all}
use Rattle.ff_ids.specs.declared.Group.{Group}
use Rattle.ff_ids.specs.declared.AccBody.{AccBody}
use Rattle.ff_ids.specs.declared.NoteBody.{NoteBody}
use Rattle.ff_ids.specs.declared.Fault.{Fault}
use Rattle.ff_ids.specs.Masks.{ring_count, enables, enabled}
use Rattle.ff_ids.specs.Notes.{newest}
use Rattle.ff_ids.specs.Rings.{Key, others, none_between}
use Rattle.ff_ids.specs.Views.{State, all_numbers, in_view, view, key_of, monitor, is_number, stands}
use Rattle.ff_ids.specs.Faults.{Facts, facts_of, accusation_fault_by, accusation_fault, same_accusation, is_kept}
use Rattle.ff_ids.specs.Steps.{Accuses, with_kept, precedes, after_accusation, unless_fault, unchanged, step}
use Rattle.ff_ids.specs.Lives.{opening, after, state_at}
use Rattle.ff_ids.proofs.FaultLemmas.{passes}
use Rattle.membership.specs.Reports.{kept_against}
use Rattle.life_laws.proofs.Lists.{In, In-from_Contains, Contains-from_In, In-filter, In-from_filter, In-from_map, some_passes, any_from_In, In-append_right}
use Rattle.life_laws.proofs.ViewLemmas.{AllJoined, joined-viewed, IsStanding-from}
use Rattle.life_laws.proofs.StepLemmas.{AllStand}
use Rattle.life_laws.proofs.JustifiedLemmas.{sound}
use Rattle.detector.specs.Watching.{monitors_by, is_watched, newest_epoch, as_watched}
use Rattle.detector.specs.declared.watch.Watched.{Watched}
use Rattle.detector.specs.Silence.{is_silent}
use Rattle.records.specs.declared.Body.{Body}
use Rattle.records.specs.declared.Body.TheVariants.{Accusation}
use Rattle.journal.specs.declared.event.What.TheVariants as told
use Rattle.node_rules.specs.Nodes.{Setting, Node, state_of, neighbours_and}
use Rattle.node_rules.specs.Calls.{Call, tells, signs, signs_and_sends, wants, is_used_up, own_record}
use Rattle.node_rules.specs.Ticking.{monitored_rings, ring_for, is_by, has_accused, wants_accusation, accuses, accuses_all, is_due, watched_by, passed, probed_at, spread_at, silent_at}
use Rattle.node_rules.specs.Accusing.{KeepsOwnAgainst, MayAccuse}
use Rattle.node_rules.proofs.Small.{node-sends_to_all, state-signs, state-spreads}
use Rattle.datagram.specs.declared.Datagram.TheVariants as kinds

-- ---- what holds of the state of every life

-- Notes are of those who have joined, and what is kept stands, on a ring of the group.
pub record Lively (g : Group) (st : State) : Type 0 where
  pub joined : AllJoined st
  pub upheld : AllStand st
  pub on_rings : (q : AccBody × ℕ) → In st.kept q → q.0.ring.0 < ring_count g.t

below_count : (rings ring : ℕ) → nat_le rings ring ≡ false → ring < rings
below_count rings ring h = grind (arith, nat_tests, h)

pub lively : (s : Setting) (n : Node) → Lively s.group (state_of s n)
unfolding state_of
lively s n =
    let all : ℕ = length n.lived in
    let so = sound s.group [] n.lived all (omega arith) in
    let whole : state_at s.group (opening []) n.lived all ≡ after s.group (opening []) n.lived = ap (after s.group (opening [])) (take_all all n.lived (omega arith)) in
    let here : Lively s.group (state_at s.group (opening []) n.lived all) =
    record {
      joined = so.all_joined;
      upheld = λ q i. let u = so.upheld q i in u.stood all u.earlier (omega arith);
      on_rings = λ q i. let u = so.upheld q i in below_count (ring_count s.group.t) q.0.ring.0 (passes s.group.t (facts_of (state_at s.group (opening []) n.lived u.place) q.0) q.0 u.accepted_there.no_fault).ring;
    } in
    subst (Lively s.group) whole here

-- ---- what is kept against a member

-- It is against this member, on this ring.
abbrev pub is_at : ℕ → ℕ → AccBody × ℕ → Bool
is_at m ring p = eqb p.0.accused m && eqb p.0.ring.0 ring

abbrev entry_at : ℕ → ℕ → List (AccBody × ℕ) → Option (AccBody × ℕ)
entry_at m ring kept = find (is_at m ring) kept

pub found : {X : Type 0} (p : X → Bool) (xs : List X) (x : X) → find p xs ≡ Some x → In xs x × (p x ≡ true)
found p [] x h = cc
found {X} p (y ∷ ys) x h =
    elim (cases_Bool (p y)) [
      | inl fits ↦
          let here : y ≡ x = some-is y x (sym (ap (λ (b : Bool). cond b (Some y) (find p ys)) fits) ∙ h) in
          (inl here, sym (ap p here) ∙ fits)
      | inr other ↦
          let r = found p ys x (sym (ap (λ (b : Bool). cond b (Some y) (find p ys)) other) ∙ h) in
          (inr r.0, r.1)
    ]
  where
    some-is : (a b : X) → Some a ≡ Some b → a ≡ b
    some-is a b e = cc

finds : {X : Type 0} (p : X → Bool) (xs : List X) (x : X) → In xs x → p x ≡ true → (y : X) × (find p xs ≡ Some y)
finds p [] x i h = absurd i
finds p (y ∷ ys) x i h =
    elim (cases_Bool (p y)) [
      | inl fits ↦ (y, ap (λ (b : Bool). cond b (Some y) (find p ys)) fits)
      | inr other ↦
          let later : In ys x = elim i [ inl e ↦ absurd (false≢true (sym other ∙ ap p e ∙ h)) | inr j ↦ j ] in
          let r = finds p ys x later h in
          (r.0, ap (λ (b : Bool). cond b (Some y) (find p ys)) other ∙ r.1)
    ]

some-first : {X Y : Type 0} (f : X → Option Y) (x : X) (xs : List X) (y : Y) (o : Option Y) (rest : List Y) → f x ≡ o → (In rest y → (z : X) × (In xs z × (f z ≡ Some y))) → In (cons_option o rest) y → (z : X) × (In (x ∷ xs) z × (f z ≡ Some y))
some-first f x xs y None rest e later i = let r = later i in (r.0, (inr r.1.0, r.1.1))
some-first f x xs y (Some v) rest e later i =
    elim i [
      | inl is ↦ (x, (inl refl, e ∙ ap (λ z. Some z) is))
      | inr j ↦ let r = later j in (r.0, (inr r.1.0, r.1.1))
    ]

-- what a filter has found, and that it finds it
pub In-from_filter_map : {X Y : Type 0} (f : X → Option Y) (xs : List X) (y : Y) → In (filter_map f xs) y → (x : X) × (In xs x × (f x ≡ Some y))
In-from_filter_map f [] y i = absurd i
In-from_filter_map f (x ∷ xs) y i = some-first f x xs y (f x) (filter_map f xs) refl (In-from_filter_map f xs y) i

some-kept : {Y : Type 0} (o : Option Y) (rest : List Y) (y : Y) → (o ≡ Some y) ⊎ In rest y → In (cons_option o rest) y
some-kept None rest y h = elim h [ inl e ↦ cc | inr i ↦ i ]
some-kept (Some v) rest y h = elim h [ inl e ↦ inl cc | inr i ↦ inr i ]

pub In-filter_map : {X Y : Type 0} (f : X → Option Y) (xs : List X) (x : X) (y : Y) → In xs x → f x ≡ Some y → In (filter_map f xs) y
In-filter_map f [] x y i h = absurd i
In-filter_map f (z ∷ zs) x y i h = some-kept (f z) (filter_map f zs) y (elim i [ inl e ↦ inl (ap f e ∙ h) | inr j ↦ inr (In-filter_map f zs x y j h) ])

by-found : (me : ℕ) (o : Option (AccBody × ℕ)) → is_by me (option_map (λ p. p.0) o) ≡ true → (p : AccBody × ℕ) × ((o ≡ Some p) × (p.0.accuser ≡ me))
by-found me None h = cc
by-found me (Some p) h = (p, (refl, eqb-true _ _ h))

-- of the rings below a number each is listed, and no other
pub In-range : (a n k : ℕ) → a ≤ k → k < a + n → In (range_with_len a n) k
In-range a zero k low high = absurd (omega (arith, low, high))
In-range a (suc n) k low high =
    elim (cases_Bool (eqb a k)) [
      | inl here ↦ inl (eqb-true a k here)
      | inr apart ↦ inr (In-range (a + 1) n k (further a k low apart) (omega (arith, high)))
    ]
  where
    further : (a k : ℕ) → a ≤ k → eqb a k ≡ false → a + 1 ≤ k
    further a k low apart = grind (arith, nat_tests, low, apart)

pub keeps-from_accused : (s : Setting) (st : State) (m : ℕ) → has_accused s st m ≡ true → KeepsOwnAgainst s st m
keeps-from_accused s st m h =
    let r = some_passes (λ ring. is_by s.me (kept_against st.kept m ring)) (range_with_len 0 (ring_count s.group.t)) h in
    let b = by-found s.me (entry_at m r.0 st.kept) r.1.1 in
    let f = found (is_at m r.0) st.kept b.0 b.1.0 in
    record { pair = b.0; kept = Contains-from_In _ _ f.0; by_the_node = b.1.1; against = eqb-true _ _ (and_parts _ _ f.1).0 }

-- the monitor of a member on a ring is one
one_number : (o : Option ℕ) (a b : ℕ) → is_number o a ≡ true → is_number o b ≡ true → a ≡ b
one_number None a b h k = cc
one_number (Some v) a b h k = sym (eqb-true v a h) ∙ eqb-true v b k

pub same_accuser : (st : State) (a b : AccBody) → stands st a ≡ true → stands st b ≡ true → a.accused ≡ b.accused → a.ring.0 ≡ b.ring.0 → a.accuser ≡ b.accuser
same_accuser st a b h k who ring =
    let ha = (IsStanding-from st a h).by_monitor in
    let hb = (IsStanding-from st b k).by_monitor in
    one_number (monitor st a.ring.0 a.accused) a.accuser b.accuser ha
    (ap (λ r. is_number (monitor st r a.accused) b.accuser) ring ∙ ap (λ m. is_number (monitor st b.ring.0 m) b.accuser) who ∙ hb)

pub accused-from_kept : (s : Setting) (st : State) (m : ℕ) → Lively s.group st → KeepsOwnAgainst s st m → has_accused s st m ≡ true
accused-from_kept s st m live k =
    let p : AccBody × ℕ = k.pair in
    let ring : ℕ = p.0.ring.0 in
    let i : In st.kept p = In-from_Contains _ _ k.kept in
    let at : is_at m ring p ≡ true = and_from _ _ (eq-eqb _ _ k.against) (eq-eqb ring ring refl) in
    let f = finds (is_at m ring) st.kept p i at in
    let back = found (is_at m ring) st.kept f.0 f.1 in
    let parts = and_parts _ _ back.1 in
    let accuser : f.0.0.accuser ≡ s.me =
    same_accuser st f.0.0 p.0 (live.upheld f.0 back.0) (live.upheld p i) (eqb-true _ _ parts.0 ∙ sym k.against) (eqb-true _ _ parts.1) ∙ k.by_the_node in
    let by : is_by s.me (kept_against st.kept m ring) ≡ true = ap (λ o. is_by s.me (option_map (λ q. q.0) o)) f.1 ∙ eq-eqb _ _ accuser in
    any_from_In _ (range_with_len 0 (ring_count s.group.t)) ring (In-range 0 (ring_count s.group.t) ring (omega arith) (omega (arith, live.on_rings p i))) by

-- ---- who is watched

pub record Watches (s : Setting) (st : State) (m : ℕ) : Type 0 where
  pub other : eqb m s.me ≡ false
  pub viewed : in_view st m ≡ true
  pub note : NoteBody
  pub is_newest : newest st.notes m ≡ Some note
  pub monitors : list_any (λ ring. is_number (monitor st ring m) s.me) (enabled (ring_count s.group.t) note.mask.0) ≡ true

watches_by : (s : Setting) (st : State) (m : ℕ) (o : Option NoteBody) → newest st.notes m ≡ o → eqb m s.me ≡ false → in_view st m ≡ true → option_map_or (monitors_by (ring_count s.group.t) st s.me m) o false ≡ true → Watches s st m
watches_by s st m None e other viewed h = absurd (false≢true h)
watches_by s st m (Some note) e other viewed h = record { other = other; viewed = viewed; note = note; is_newest = e; monitors = h }

pub watches : (s : Setting) (st : State) (m : ℕ) → is_watched s.group.t st s.me m ≡ true → Watches s st m
watches s st m h =
    let parts = and_parts _ _ h in
    let first = and_parts _ _ parts.0 in
    watches_by s st m (newest st.notes m) refl (not-true _ first.0) first.1 parts.1

-- who is listed on the rings is in the view
pub listed-viewed : (st : State) (ring v : ℕ) (k : Key) → In (map (key_of st ring) (view st)) k → k.number ≡ v → in_view st v ≡ true
listed-viewed st ring v k i is =
    let who = In-from_map (key_of st ring) (view st) k i in
    subst (λ m. in_view st m ≡ true) (ap (λ (x : Key). x.number) who.1.1 ∙ is) (In-from_filter (in_view st) all_numbers who.0 who.1.0).1

pub found-number : (o : Option Key) (v : ℕ) → option_map (λ k. k.number) o ≡ Some v → (k : Key) × ((o ≡ Some k) × (k.number ≡ v))
found-number None v e = cc
found-number (Some k) v e = (k, (refl, (cc)))

monitor-viewed : (st : State) (ring m v : ℕ) → monitor st ring m ≡ Some v → in_view st v ≡ true
monitor-viewed st ring m v h =
    let keys : List Key = map (key_of st ring) (view st) in
    let nearest : Key → Bool = λ k. none_between (others m keys) k (key_of st ring m) in
    let r = found-number (find nearest (others m keys)) v h in
    let f = found nearest (others m keys) r.0 r.1.0 in
    listed-viewed st ring v r.0 (In-from_filter (λ k. not (eqb k.number m)) keys r.0 f.0).0 r.1.1

pub is-monitor : (o : Option ℕ) (v : ℕ) → is_number o v ≡ true → o ≡ Some v
is-monitor None v h = cc
is-monitor (Some x) v h = ap (λ k. Some k) (eqb-true x v h)

-- the first of the rings on which the node is the monitor
first-of : (xs : List ℕ) (x : ℕ) → In xs x → (y : ℕ) × ((slice_get xs 0 ≡ Some y) × In xs y)
first-of [] x i = absurd i
first-of (y ∷ ys) x i = (y, (refl, inl refl))

In-filter_here : {X : Type 0} (p : X → Bool) (xs : List X) → list_any p xs ≡ true → (x : X) × In (filter p xs) x
In-filter_here p xs h = let r = some_passes p xs h in (r.0, In-filter p xs r.0 r.1.0 r.1.1)

pub range-below : (a n k : ℕ) → In (range_with_len a n) k → k < a + n
range-below a zero k i = absurd i
range-below a (suc n) k i = elim i [ inl e ↦ omega (arith, e) | inr j ↦ omega (arith, range-below (a + 1) n k j) ]

fine-by : (t : ℕ) (f : Facts) (a : AccBody) (n : NoteBody) → f.both_joined ≡ true → eqb a.accuser a.accused ≡ false → nat_le (ring_count t) a.ring.0 ≡ false → f.newest_note ≡ Some n → eqb n.epoch a.epoch ≡ true
    → f.viewed ≡ true → enables n.mask.0 a.ring.0 ≡ true → is_number f.ring_monitor a.accuser ≡ true → f.is_standing ≡ false → accusation_fault_by t f a ≡ None
fine-by t f a n joined other ring note epoch viewed enabled monitored free = rw (joined, other, ring, note, epoch, viewed, enabled, monitored, free) refl

-- what is kept against the member by the node is no accusation that it wants
free : (s : Setting) (st : State) (m : ℕ) (a : AccBody) → Lively s.group st → has_accused s st m ≡ false → a.accuser ≡ s.me → a.accused ≡ m → is_kept st a ≡ false
free s st m a live none by against =
    elim (cases_Bool (is_kept st a)) [
      | inl kept ↦
          let r = some_passes _ _ kept in
          let parts = same-parts r.0.0 a r.1.1 in
          let k : KeepsOwnAgainst s st m = record { pair = r.0; kept = Contains-from_In _ _ r.1.0; by_the_node = parts.0 ∙ by; against = parts.1 ∙ against } in
          absurd (false≢true (sym none ∙ accused-from_kept s st m live k))
      | inr free_of_it ↦ free_of_it
    ]
  where
    same-parts : (x y : AccBody) → same_accusation x y ≡ true → (x.accuser ≡ y.accuser) × (x.accused ≡ y.accused)
    same-parts x y h =
        let third = and_parts _ _ h in
        let second = and_parts _ _ third.0 in
        let first = and_parts _ _ second.0 in
        (eqb-true _ _ first.0, eqb-true _ _ first.1)

abbrev pub own_accusation : Setting → State → ℕ → ℕ → AccBody
own_accusation s st m ring = record { accuser = s.me; accused = m; epoch = newest_epoch st m; ring = record { 0 = ring } }

-- the rings of a member whose note this is
ring_for-by : (s : Setting) (st : State) (m ring : ℕ) (note : NoteBody) → newest st.notes m ≡ Some note → slice_get (monitored_rings s st m note) 0 ≡ Some ring → ring_for s st m ≡ Some ring
ring_for-by s st m ring note e h = ap (λ o. option_and_then (λ n. slice_get (monitored_rings s st m n) 0) o) e ∙ h

pub may_accuse : (s : Setting) (st : State) (m : ℕ) → Lively s.group st → is_watched s.group.t st s.me m ≡ true → has_accused s st m ≡ false → MayAccuse s st m
may_accuse s st m live watched none =
    let w = watches s st m watched in
    let note : NoteBody = w.note in
    let rings : List ℕ = enabled (ring_count s.group.t) note.mask.0 in
    let here = In-filter_here (λ ring. is_number (monitor st ring m) s.me) rings w.monitors in
    let first = first-of (monitored_rings s st m note) here.0 here.1 in
    let ring : ℕ = first.0 in
    let listed = In-from_filter (λ r. is_number (monitor st r m) s.me) rings ring first.1.1 in
    let enabled_here = In-from_filter (enables note.mask.0) (range_with_len 0 (ring_count s.group.t)) ring listed.0 in
    let below : ring < ring_count s.group.t = omega (arith, range-below 0 (ring_count s.group.t) ring enabled_here.0) in
    let a : AccBody = own_accusation s st m ring in
    let me_viewed : in_view st s.me ≡ true = monitor-viewed st ring m s.me (is-monitor _ _ listed.1) in
    let epoch : eqb note.epoch a.epoch ≡ true = eq-eqb _ _ (sym (ap (λ o. option_map_or (λ (x : NoteBody). x.epoch) o 0) w.is_newest)) in
    record {
      ring = ring;
      found = ring_for-by s st m ring note w.is_newest first.1.0;
      accusation = a;
      says = refl;
      no_fault = fine-by s.group.t (facts_of st a) a note
          (and_from _ _ (joined-viewed st s.me live.joined me_viewed) (joined-viewed st m live.joined w.viewed))
          (apart s.me m w.other) (within _ _ below) w.is_newest epoch w.viewed enabled_here.1 listed.1 (free s st m a live none refl refl);
    }
  where
    apart : (me m : ℕ) → eqb m me ≡ false → eqb me m ≡ false
    apart me m h = grind (arith, nat_tests, h)

    within : (rings ring : ℕ) → ring < rings → nat_le rings ring ≡ false
    within rings ring h = grind (arith, nat_tests, h)

-- ---- what own accusations leave

-- The states differ in what is kept alone.
abbrev pub OnlyKept : State → State → Type 0
OnlyKept st next = (k : List (AccBody × ℕ)) × (next ≡ record st { kept = k })

only_kept-step : (g : Group) (st : State) (a : AccBody) → OnlyKept st (step g st (Accuses a)).state
only_kept-step g st a = by_fault (accusation_fault g.t st a)
  where
    by_fault : (f : Option Fault) → OnlyKept st (unless_fault f st (unchanged (after_accusation st a))).state
    by_fault None = (with_kept (a, st.moment) st.kept, refl)
    by_fault (Some f) = (st.kept, refl)

pub only_kept-more : (a b c : State) → OnlyKept a b → OnlyKept b c → OnlyKept a c
only_kept-more a b c h k = (k.0, k.1 ∙ ap (λ (x : State). record x { kept = k.0 }) h.1)

only_kept-same : (st : State) → OnlyKept st st
only_kept-same st = (st.kept, refl)

pub node-signs_and_sends : (s : Setting) (body : Body) (addressees : State → List ℕ) (c : Call) → (signs_and_sends s body addressees c).node ≡ (signs s body c).node
unfolding signs_and_sends
node-signs_and_sends s body addressees c =
    node-sends_to_all s (addressees (state_of s (signs s body c).node)) (kinds.Records s.me (own_record s c.node body ∷ [])) (signs s body c)

-- a signature that is wanted while an index is left is made, where the disk works
pub wants-left : (s : Setting) (body : Body) (addressees : State → List ℕ) (c : Call) → is_used_up s c.node ≡ false → wants true s body addressees c ≡ signs_and_sends s body addressees c
unfolding wants
wants-left s body addressees c left = rw left refl

pub wants-used_up : (works : Bool) (s : Setting) (body : Body) (addressees : State → List ℕ) (c : Call) → is_used_up s c.node ≡ true → wants works s body addressees c ≡ tells s (told.Exhausted c.node.stored.next) c
unfolding wants
wants-used_up works s body addressees c up = rw up refl

state-signed : (s : Setting) (a : AccBody) (addressees : State → List ℕ) (c : Call) → state_of s (signs_and_sends s (Accusation a) addressees c).node ≡ (step s.group (state_of s c.node) (Accuses a)).state
state-signed s a addressees c = ap (state_of s) (node-signs_and_sends s (Accusation a) addressees c) ∙ state-signs s (Accusation a) c

only_kept-wants : (s : Setting) (a : AccBody) (addressees : State → List ℕ) (c : Call) → OnlyKept (state_of s c.node) (state_of s (wants true s (Accusation a) addressees c).node)
only_kept-wants s a addressees c =
    elim (cases_Bool (is_used_up s c.node)) [
      | inl up ↦ subst (λ (x : Call). OnlyKept (state_of s c.node) (state_of s x.node)) (sym (wants-used_up true s (Accusation a) addressees c up)) (only_kept-same (state_of s c.node))
      | inr left ↦
          subst (λ (x : Call). OnlyKept (state_of s c.node) (state_of s x.node)) (sym (wants-left s (Accusation a) addressees c left))
          (subst (OnlyKept (state_of s c.node)) (sym (state-signed s a addressees c)) (only_kept-step s.group (state_of s c.node) a))
    ]

only_kept-ring : (s : Setting) (m : ℕ) (ring : Option ℕ) (c : Call) → OnlyKept (state_of s c.node) (state_of s (wants_accusation true s m ring c).node)
only_kept-ring s m None c = only_kept-same (state_of s c.node)
only_kept-ring s m (Some ring) c = only_kept-wants s (own_accusation s (state_of s c.node) m ring) (neighbours_and s m) c

pub only_kept-accuses : (s : Setting) (c : Call) (m : ℕ) → OnlyKept (state_of s c.node) (state_of s (accuses true s c m).node)
unfolding accuses
only_kept-accuses s c m =
    let c1 : Call = tells s (told.Silent m) c in
    let ring : Option ℕ = ring_for s (state_of s c.node) m in
    cond_both (has_accused s (state_of s c.node) m) c (wants_accusation true s m ring c1) (λ (x : Call). OnlyKept (state_of s c.node) (state_of s x.node))
    (λ yes. only_kept-same (state_of s c.node))
    (λ no. only_kept-ring s m ring c1)

pub only_kept-accuses_all : (s : Setting) (silent : List ℕ) (c : Call) → OnlyKept (state_of s c.node) (state_of s (accuses_all s silent c).node)
only_kept-accuses_all s [] c = only_kept-same (state_of s c.node)
only_kept-accuses_all s (m ∷ silent) c =
    only_kept-more (state_of s c.node) (state_of s (accuses true s c m).node) (state_of s (accuses_all s silent (accuses true s c m)).node) (only_kept-accuses s c m) (only_kept-accuses_all s silent (accuses true s c m))

pub state-probed : (s : Setting) (n : Node) → state_of s (probed_at s n).node ≡ state_of s (passed s n).node
unfolding probed_at state_of
state-probed s n = refl

pub state-spread : (s : Setting) (n : Node) → state_of s (spread_at s n).node ≡ state_of s (passed s n).node
unfolding spread_at
state-spread s n = state-spreads s (probed_at s n) ∙ state-probed s n

-- ---- the members that are silent at a tick

pub silent-watched : (s : Setting) (n : Node) (m : ℕ) → In (silent_at s n) m → is_watched s.group.t (state_of s (passed s n).node) s.me m ≡ true
unfolding silent_at
silent-watched s n m =
    let p : Node = (passed s n).node in
    let st : State = state_of s p in
    cond_both (is_due s st) (map (λ (w : Watched). w.member) (filter (is_silent p.probes) (watched_by s st))) [] (λ xs. In xs m → is_watched s.group.t st s.me m ≡ true)
    (λ due i.
    let w = In-from_map (λ (w : Watched). w.member) (filter (is_silent p.probes) (watched_by s st)) m i in
    let v = In-from_filter (is_silent p.probes) (watched_by s st) w.0 w.1.0 in
    let x = In-from_map (as_watched st) (filter (is_watched s.group.t st s.me) all_numbers) w.0 v.0 in
    let here = In-from_filter (is_watched s.group.t st s.me) all_numbers x.0 x.1.0 in
    subst (λ k. is_watched s.group.t st s.me k ≡ true) (ap (λ (w : Watched). w.member) x.1.1 ∙ w.1.1) here.1)
    (λ never i. absurd i)

In-middle : (before : List ℕ) (m : ℕ) (behind : List ℕ) → In (before ++ m ∷ behind) m
In-middle before m behind = In-append_right before (m ∷ behind) m (inl refl)

-- ---- the law

watched-still : (s : Setting) (n : Node) (before : List ℕ) (m : ℕ) (behind : List ℕ) → silent_at s n ≡ before ++ m ∷ behind → is_watched s.group.t (state_of s (accuses_all s before (spread_at s n)).node) s.me m ≡ true
watched-still s n before m behind silent =
    let k = only_kept-accuses_all s before (spread_at s n) in
    let then : is_watched s.group.t (state_of s (passed s n).node) s.me m ≡ true = silent-watched s n m (subst (λ xs. In xs m) (sym silent) (In-middle before m behind)) in
    ap (λ (x : State). is_watched s.group.t x s.me m) k.1 ∙ ap (λ (x : State). is_watched s.group.t x s.me m) (state-spread s n) ∙ then

pub In-with_kept_here : (p : AccBody × ℕ) (xs : List (AccBody × ℕ)) → In (with_kept p xs) p
In-with_kept_here p [] = inl refl
In-with_kept_here p (x ∷ xs) =
    cond_both (precedes x.0 p.0) (x ∷ with_kept p xs) (p ∷ x ∷ xs) (λ ys. In ys p) (λ yes. inr (In-with_kept_here p xs)) (λ no. inl refl)

pub accuses-is : (works : Bool) (s : Setting) (c : Call) (m : ℕ) (ring : ℕ) → has_accused s (state_of s c.node) m ≡ false → ring_for s (state_of s c.node) m ≡ Some ring
    → accuses works s c m ≡ wants works s (Accusation (own_accusation s (state_of s c.node) m ring)) (neighbours_and s m) (tells s (told.Silent m) c)
unfolding accuses
accuses-is works s c m ring none found = rw (none, found) refl

pub step-accused : (g : Group) (st : State) (a : AccBody) → accusation_fault g.t st a ≡ None → (step g st (Accuses a)) ≡ unchanged (after_accusation st a)
step-accused g st a fine = rw fine refl

accuses_all-push : (s : Setting) (before : List ℕ) (m : ℕ) (c : Call) → accuses_all s (before ++ m ∷ []) c ≡ accuses true s (accuses_all s before c) m
accuses_all-push s [] m c = refl
accuses_all-push s (x ∷ before) m c = accuses_all-push s before m (accuses true s c x)

kept-then : (s : Setting) (c : Call) (m : ℕ) → has_accused s (state_of s c.node) m ≡ false → is_used_up s c.node ≡ false → (may : MayAccuse s (state_of s c.node) m) → KeepsOwnAgainst s (state_of s (accuses true s c m).node) m
kept-then s c m none left may =
    let st : State = state_of s c.node in
    let a : AccBody = own_accusation s st m may.ring in
    let fine : accusation_fault s.group.t st a ≡ None = ap (accusation_fault s.group.t st) (same_body a may.accusation may.says) ∙ may.no_fault in
    let c1 : Call = tells s (told.Silent m) c in
    let call : accuses true s c m ≡ signs_and_sends s (Accusation a) (neighbours_and s m) c1 = accuses-is true s c m may.ring none may.found ∙ wants-left s (Accusation a) (neighbours_and s m) c1 left in
    let next : state_of s (accuses true s c m).node ≡ after_accusation st a =
    ap (λ (x : Call). state_of s x.node) call ∙ state-signed s a (neighbours_and s m) c1 ∙ ap (λ x. x.state) (step-accused s.group st a fine) in
    let here : KeepsOwnAgainst s (after_accusation st a) m = record { pair = (a, st.moment); kept = Contains-from_In _ _ (In-with_kept_here (a, st.moment) st.kept); by_the_node = refl; against = refl } in
    subst (λ (x : State). KeepsOwnAgainst s x m) (sym next) here
  where
    same_body : (a b : AccBody) → Accusation a ≡ Accusation b → a ≡ b
    same_body a b h = cc

pub own-accepted : (s : Setting) (n : Node) (before : List ℕ) (m : ℕ) (behind : List ℕ) → silent_at s n ≡ before ++ m ∷ behind
    → has_accused s (state_of s (accuses_all s before (spread_at s n)).node) m ≡ false
    → MayAccuse s (state_of s (accuses_all s before (spread_at s n)).node) m
    × (is_used_up s (accuses_all s before (spread_at s n)).node ≡ false → KeepsOwnAgainst s (state_of s (accuses_all s (before ++ m ∷ []) (spread_at s n)).node) m)
own-accepted s n before m behind silent none =
    let c : Call = accuses_all s before (spread_at s n) in
    let may : MayAccuse s (state_of s c.node) m = may_accuse s (state_of s c.node) m (lively s c.node) (watched-still s n before m behind silent) none in
    (may, λ left. subst (λ (x : Call). KeepsOwnAgainst s (state_of s x.node) m) (sym (accuses_all-push s before m (spread_at s n))) (kept-then s c m none left may))
