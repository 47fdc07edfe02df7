-- What one event does to what stands and to the view.
use Rattle.std.proofs.Common.{◌≡◌, ℕ, ◌+◌, ◌-◌, ◌≤◌, true, false, not, eqb, List, [], ◌∷◌, ◌++◌, Option, Some, None, ◌⊎◌, inl, inr, map, filter, refl, ap, sym, ◌∙◌, subst, arith}
use Rattle.std.specs.Option.{option_map_or}
use Rattle.std.proofs.lemmas.Bool.{cond_both, cases_Bool, eqb-true, leb-true, false≢true, and_parts, not-false, or_right}
use Rattle.ff_ids.specs.declared.NoteBody.{NoteBody}
use Rattle.ff_ids.specs.declared.AccBody.{AccBody}
use Rattle.ff_ids.specs.declared.Group.{Group}
use Rattle.ff_ids.specs.declared.Fault.{Fault}
use Rattle.ff_ids.specs.Notes.{newest}
use Rattle.ff_ids.specs.Views.{State, is_member, has_expired, viewed_by, in_view, is_unanswered_by, stands}
use Rattle.ff_ids.specs.Faults.{note_fault, accusation_fault, facts_of}
use Rattle.ff_ids.proofs.FaultLemmas.{passed, passes}
use Rattle.ff_ids.specs.Steps.{Event, Joins, Notes, Accuses, Ticks, joined, with_kept, precedes, is_due, after_note, after_accusation, after_tick, unless_fault, unchanged, step}
use Rattle.life_laws.proofs.Lists.{In, In-from_filter, In-from_map, In-append_cases, some_passes, any_from_In}
use Rattle.life_laws.proofs.ViewLemmas.{IsViewed-from, LeavesWith, left-noted, AllJoined, stands-joined, stands-from}
use Rattle.life_laws.proofs.NoteLemmas.{newest-fits}
use Rattle.ff_ids.proofs.ViewLemmas.{expired-since, not_expired}

pub stands-accepted : (t : ℕ) (s : State) (a : AccBody) → accusation_fault t s a ≡ None → stands s a ≡ true
stands-accepted t s a h =
    let p = passes t (facts_of s a) a h in
    stands-from s a
    record {
      viewed = p.viewed;
      unanswered = ap (λ o. option_map_or (is_unanswered_by a) o false) p.newest ∙ p.unanswered;
      by_monitor = p.monitored;
    }

pub In-with_kept : (p q : AccBody × ℕ) (xs : List (AccBody × ℕ)) → In (with_kept p xs) q → (p ≡ q) ⊎ In xs q
In-with_kept p q [] = λ h. elim h [ inl e ↦ inl e | inr i ↦ absurd i ]
In-with_kept p q (x ∷ xs) =
    let T : List (AccBody × ℕ) → Type 0 = λ ys. In ys q → (p ≡ q) ⊎ In (x ∷ xs) q in
    cond_both (precedes x.0 p.0) (x ∷ with_kept p xs) (p ∷ x ∷ xs) T
    (λ yes. λ h. elim h [ inl e ↦ inr (inl e) | inr i ↦ elim (In-with_kept p q xs i) [ inl e ↦ inl e | inr j ↦ inr (inr j) ] ])
    (λ no. λ h. elim h [ inl e ↦ inl e | inr i ↦ inr i ])

-- how a pair came to be kept: it was kept before and stands, or it was accepted now
pub data HowKept (g : Group) (s : State) (e : Event) (q : AccBody × ℕ) : Type 0 where
  before : In s.kept q → HowKept g s e q
  accepted : e ≡ Accuses q.0 → accusation_fault g.t s q.0 ≡ None → q.1 ≡ s.moment → HowKept g s e q

-- why an event takes the member out of the view: it is a note without a fault by which the member leaves; or a tick, and an
-- accusation of the member was kept for the timeout
pub data TakesOut (g : Group) (s : State) (e : Event) (next : State) (m : ℕ) : Type 0 where
  leaves : (n : NoteBody) → e ≡ Notes n → LeavesWith n m → note_fault g.t s n ≡ None → TakesOut g s e next m
  expires : e ≡ Ticks → (q : AccBody × ℕ) → In s.kept q → q.0.accused ≡ m → g.timeout ≤ next.moment - q.1 → TakesOut g s e next m

-- one event's step, as far as lives need it
pub record Steps (g : Group) (s : State) (e : Event) (next : State) : Type 0 where
  pub later : s.moment ≤ next.moment
  pub all_joined : AllJoined next
  pub kept : (q : AccBody × ℕ) → In next.kept q → (stands next q.0 ≡ true) × HowKept g s e q
  pub since : (q : AccBody × ℕ) → e ≡ Accuses q.0 → next.moment ≡ s.moment
  pub removed : (m : ℕ) → in_view s m ≡ true → in_view next m ≡ false → TakesOut g s e next m

abbrev pub AllStand : State → Type 0
AllStand s = (q : AccBody × ℕ) → In s.kept q → stands s q.0 ≡ true

steps-same : (g : Group) (s : State) (e : Event) → AllJoined s → AllStand s → Steps g s e s
steps-same g s e known upheld =
    record {
      later = omega arith;
      all_joined = known;
      kept = λ q i. (upheld q i, before i);
      since = λ q f. refl;
      removed = λ m yes no. absurd (false≢true (sym no ∙ yes));
    }

steps-joined : (g : Group) (s : State) (number : ℕ) (places : List (List ℕ)) → is_member s number ≡ false → AllJoined s → AllStand s → Steps g s (Joins number places) (joined s number places)
steps-joined g s number places new known upheld =
    record {
      later = omega arith;
      all_joined = λ n i. or_right (eqb number n.member) (is_member s n.member) (known n i);
      kept = λ q i. (stands-joined s number places q.0 known new (upheld q i), before i);
      since = λ q f. refl;
      removed = λ m yes no. absurd (false≢true (sym no ∙ yes));
    }

steps-noted : (g : Group) (s : State) (n : NoteBody) → note_fault g.t s n ≡ None → AllJoined s → Steps g s (Notes n) (after_note s n).state
steps-noted g s n fine known =
    let of_member = not-false _ (passed (not (is_member s n.member)) _ _ fine).0 in
    record {
      later = omega arith;
      all_joined = λ x i. elim i [ inl e ↦ subst (λ y. is_member s y.member ≡ true) e of_member | inr j ↦ known x j ];
      kept = λ q i. let r = In-from_filter (λ p. stands (record s { notes = n ∷ s.notes }) p.0) s.kept q i in (r.1, before r.0);
      since = λ q f. refl;
      removed = λ m yes no. leaves n refl (left-noted s n m yes no) fine;
    }

steps-accused : (g : Group) (s : State) (a : AccBody) → accusation_fault g.t s a ≡ None → AllJoined s → AllStand s → Steps g s (Accuses a) (after_accusation s a)
steps-accused g s a fine known upheld =
    record {
      later = omega arith;
      all_joined = known;
      kept = λ q i. elim (In-with_kept (a, s.moment) q s.kept i) [
        | inl e ↦ (subst (λ p. stands s p.0 ≡ true) e (stands-accepted g.t s a fine), accepted (ap (λ p. Accuses p.0) e) (subst (λ p. accusation_fault g.t s p.0 ≡ None) e fine) (sym (ap (λ p. p.1) e)))
        | inr j ↦ (upheld q j, before j)
      ];
      since = λ q f. refl;
      removed = λ m yes no. absurd (false≢true (sym no ∙ yes));
    }

-- who leaves the view at a tick was accused for the timeout
due_against : (g : Group) (s : State) (m : ℕ) (n : NoteBody) → newest s.notes m ≡ Some n → has_expired s.expired n ≡ false → has_expired (map (λ p. p.0) (filter (is_due g.timeout (s.moment + 1)) s.kept) ++ s.expired) n ≡ true → (q : AccBody × ℕ) × (In s.kept q × (q.0.accused ≡ m) × (g.timeout ≤ s.moment + 1 - q.1))
due_against g s m n newest_is alive gone =
    let f = newest-fits s.notes m n newest_is in
    let r = some_passes _ _ gone in
    let about = and_parts _ _ r.1.1 in
    elim (In-append_cases _ s.expired r.0 r.1.0) [
      | inl i ↦
          let p = In-from_map (λ p. p.0) (filter (is_due g.timeout (s.moment + 1)) s.kept) r.0 i in
          let d = In-from_filter (is_due g.timeout (s.moment + 1)) s.kept p.0 p.1.0 in
          (p.0, (d.0, ap (λ a. a.accused) p.1.1 ∙ eqb-true r.0.accused n.member about.0 ∙ f.1, leb-true g.timeout (s.moment + 1 - p.0.1) d.1))
      | inr j ↦ absurd (false≢true (sym alive ∙ any_from_In _ s.expired r.0 j r.1.1))
    ]

steps-ticked : (g : Group) (s : State) → AllJoined s → Steps g s Ticks (after_tick g.timeout s).state
steps-ticked g s known =
    let next = (after_tick g.timeout s).state in
    record {
      later = omega arith;
      all_joined = known;
      kept = λ q i.
          let r = In-from_filter (λ p. stands next p.0) (filter (λ p. not (is_due g.timeout (s.moment + 1) p)) s.kept) q i in
          (r.1, before (In-from_filter (λ p. not (is_due g.timeout (s.moment + 1) p)) s.kept q r.0).0);
      since = λ q f. cc;
      removed = λ m yes no.
          let v = IsViewed-from s m yes in
          let shown = sym (ap (viewed_by next.expired) v.is_newest) ∙ no in
          let d = due_against g s m v.note v.is_newest (not_expired v.note _ v.shown) (expired-since v.note _ _ v.shown shown) in
          expires refl d.0 d.1.0 d.1.1 d.1.2;
    }

pub steps : (g : Group) (s : State) (e : Event) → AllJoined s → AllStand s → Steps g s e (step g s e).state
steps g s (Joins number places) known upheld =
    elim (cases_Bool (is_member s number)) [
      | inl old ↦ rw old (steps-same g s (Joins number places) known upheld)
      | inr new ↦ rw new (steps-joined g s number places new known upheld)
    ]
steps g s (Notes n) known upheld =
    by_fault (note_fault g.t s n) refl
  where
    by_fault : (f : Option Fault) → note_fault g.t s n ≡ f → Steps g s (Notes n) (unless_fault f s (after_note s n)).state
    by_fault None fine = steps-noted g s n fine known
    by_fault (Some f) faulty = steps-same g s (Notes n) known upheld
steps g s (Accuses a) known upheld =
    by_fault (accusation_fault g.t s a) refl
  where
    by_fault : (f : Option Fault) → accusation_fault g.t s a ≡ f → Steps g s (Accuses a) (unless_fault f s (unchanged (after_accusation s a))).state
    by_fault None fine = steps-accused g s a fine known upheld
    by_fault (Some f) faulty = steps-same g s (Accuses a) known upheld
steps g s Ticks known upheld = steps-ticked g s known
