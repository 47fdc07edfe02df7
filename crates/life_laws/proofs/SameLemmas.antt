-- The notes and the expired accusations of a state are those of the life that led to it, and they make its view.
use Rattle.std.proofs.Common.{◌≡◌, ℕ, zero, suc, ◌+◌, List, [], ◌∷◌, ◌++◌, Option, Some, None, map, filter, ◌⊎◌, inl, inr, refl, ap, sym, ◌∙◌, subst}
use Rattle.std.proofs.lemmas.Bool.{cond_both}
use Rattle.std.proofs.lemmas.List.Elements.{filter_agree}
use Rattle.ff_ids.specs.declared.NoteBody.{NoteBody}
use Rattle.ff_ids.specs.declared.AccBody.{AccBody}
use Rattle.ff_ids.specs.declared.Group.{Group}
use Rattle.ff_ids.specs.declared.Fault.{Fault}
use Rattle.ff_ids.specs.Notes.{newest}
use Rattle.ff_ids.specs.Views.{Member, State, all_numbers, has_expired, in_view, in_view_by, is_member, view, viewed_by}
use Rattle.ff_ids.specs.Faults.{note_fault, accusation_fault}
use Rattle.ff_ids.specs.Steps.{Event, Joins, Notes, Accuses, Ticks, is_due, joined, after_note, after_accusation, unless_fault, unchanged, step}
use Rattle.ff_ids.specs.Lives.{after, opening, IsNoteAcceptedAt}
use Rattle.life_laws.specs.Removals.{ExpiresAt}
use Rattle.life_laws.specs.Sameness.{Accepts, Expires, HaveSameRecords, HasSameElements}
use Rattle.life_laws.proofs.Lists.{In, In-from_Contains, Contains-from_In, In-append_cases, In-append_left, In-append_right, same_any}
use Rattle.life_laws.proofs.NoteLemmas.{same_newest}

-- ---- notes

notes-step : (g : Group) (s : State) (e : Event) (n : NoteBody) → In s.notes n → In (step g s e).state.notes n
notes-step g s (Joins number places) n i = cond_both (is_member s number) (unchanged s) (unchanged (joined s number places)) (λ x. In x.state.notes n) (λ yes. i) (λ new. i)
notes-step g s (Notes x) n i = by_fault (note_fault g.t s x)
  where
    by_fault : (f : Option Fault) → In (unless_fault f s (after_note s x)).state.notes n
    by_fault (Some f) = i
    by_fault None = inr i
notes-step g s (Accuses a) n i = by_fault (accusation_fault g.t s a)
  where
    by_fault : (f : Option Fault) → In (unless_fault f s (unchanged (after_accusation s a))).state.notes n
    by_fault (Some f) = i
    by_fault None = i
notes-step g s Ticks n i = i

notes-stay : (g : Group) (s : State) (events : List Event) (n : NoteBody) → In s.notes n → In (after g s events).notes n
notes-stay g s [] n i = i
notes-stay g s (e ∷ events) n i = notes-stay g (step g s e).state events n (notes-step g s e n i)

accepted-step : (g : Group) (s : State) (n : NoteBody) → note_fault g.t s n ≡ None → In (step g s (Notes n)).state.notes n
accepted-step g s n fine = by_fault (note_fault g.t s n) fine
  where
    by_fault : (f : Option Fault) → f ≡ None → In (unless_fault f s (after_note s n)).state.notes n
    by_fault (Some f) h = cc
    by_fault None h = inl refl

accepted-in : (g : Group) (s : State) (events : List Event) (i : ℕ) (n : NoteBody) → IsNoteAcceptedAt g s events i n → In (after g s events).notes n
accepted-in g s [] i n h = let e = h.event in cc
accepted-in g s (e ∷ events) zero n h =
    let first = h.event in
    let same : Notes n ≡ e = cc in
    notes-stay g (step g s e).state events n (subst (λ x. In (step g s x).state.notes n) same (accepted-step g s n h.no_fault))
accepted-in g s (e ∷ events) (suc i) n h = accepted-in g (step g s e).state events i n (record { event = h.event; no_fault = h.no_fault })

accepts-first : (g : Group) (s : State) (e : Event) (events : List Event) (n : NoteBody) → In (step g s e).state.notes n → In s.notes n ⊎ Accepts g s (e ∷ events) n
accepts-first g s (Joins number places) events n =
    cond_both (is_member s number) (unchanged s) (unchanged (joined s number places)) (λ x. In x.state.notes n → In s.notes n ⊎ Accepts g s (Joins number places ∷ events) n) (λ yes i. inl i) (λ new i. inl i)
accepts-first g s (Notes x) events n = by_fault (note_fault g.t s x) refl
  where
    by_fault : (f : Option Fault) → note_fault g.t s x ≡ f → In (unless_fault f s (after_note s x)).state.notes n → In s.notes n ⊎ Accepts g s (Notes x ∷ events) n
    by_fault (Some f) e i = inl i
    by_fault None e i =
        elim i [
          | inl same ↦ inr (zero, record { event = ap (λ v. Some (Notes v)) same; no_fault = subst (λ v. note_fault g.t s v ≡ None) same e })
          | inr j ↦ inl j
        ]
accepts-first g s (Accuses a) events n = by_fault (accusation_fault g.t s a)
  where
    by_fault : (f : Option Fault) → In (unless_fault f s (unchanged (after_accusation s a))).state.notes n → In s.notes n ⊎ Accepts g s (Accuses a ∷ events) n
    by_fault (Some f) i = inl i
    by_fault None i = inl i
accepts-first g s Ticks events n = λ i. inl i

in-accepted : (g : Group) (s : State) (events : List Event) (n : NoteBody) → In (after g s events).notes n → In s.notes n ⊎ Accepts g s events n
in-accepted g s [] n i = inl i
in-accepted g s (e ∷ events) n i =
    elim (in-accepted g (step g s e).state events n i) [
      | inl j ↦ accepts-first g s e events n j
      | inr later ↦ inr (suc later.0, record { event = later.1.event; no_fault = later.1.no_fault })
    ]

-- ---- expired accusations

expired-step : (g : Group) (s : State) (e : Event) (a : AccBody) → In s.expired a → In (step g s e).state.expired a
expired-step g s (Joins number places) a i = cond_both (is_member s number) (unchanged s) (unchanged (joined s number places)) (λ x. In x.state.expired a) (λ yes. i) (λ new. i)
expired-step g s (Notes x) a i = by_fault (note_fault g.t s x)
  where
    by_fault : (f : Option Fault) → In (unless_fault f s (after_note s x)).state.expired a
    by_fault (Some f) = i
    by_fault None = i
expired-step g s (Accuses b) a i = by_fault (accusation_fault g.t s b)
  where
    by_fault : (f : Option Fault) → In (unless_fault f s (unchanged (after_accusation s b))).state.expired a
    by_fault (Some f) = i
    by_fault None = i
expired-step g s Ticks a i = In-append_right (map (λ p. p.0) (filter (is_due g.timeout (s.moment + 1)) s.kept)) s.expired a i

expired-stay : (g : Group) (s : State) (events : List Event) (a : AccBody) → In s.expired a → In (after g s events).expired a
expired-stay g s [] a i = i
expired-stay g s (e ∷ events) a i = expired-stay g (step g s e).state events a (expired-step g s e a i)

-- What a step reports as expired is among the expired afterwards, and what is new there was reported.
reported-step : (g : Group) (s : State) (e : Event) (a : AccBody) → In (step g s e).report.expired a → In (step g s e).state.expired a
reported-step g s (Joins number places) a = cond_both (is_member s number) (unchanged s) (unchanged (joined s number places)) (λ x. In x.report.expired a → In x.state.expired a) (λ yes i. absurd i) (λ new i. absurd i)
reported-step g s (Notes x) a = by_fault (note_fault g.t s x)
  where
    by_fault : (f : Option Fault) → In (unless_fault f s (after_note s x)).report.expired a → In (unless_fault f s (after_note s x)).state.expired a
    by_fault (Some f) i = absurd i
    by_fault None i = absurd i
reported-step g s (Accuses b) a = by_fault (accusation_fault g.t s b)
  where
    by_fault : (f : Option Fault) → In (unless_fault f s (unchanged (after_accusation s b))).report.expired a → In (unless_fault f s (unchanged (after_accusation s b))).state.expired a
    by_fault (Some f) i = absurd i
    by_fault None i = absurd i
reported-step g s Ticks a = λ i. In-append_left (map (λ p. p.0) (filter (is_due g.timeout (s.moment + 1)) s.kept)) s.expired a i

new-reported : (g : Group) (s : State) (e : Event) (a : AccBody) → In (step g s e).state.expired a → In s.expired a ⊎ In (step g s e).report.expired a
new-reported g s (Joins number places) a = cond_both (is_member s number) (unchanged s) (unchanged (joined s number places)) (λ x. In x.state.expired a → In s.expired a ⊎ In x.report.expired a) (λ yes i. inl i) (λ new i. inl i)
new-reported g s (Notes x) a = by_fault (note_fault g.t s x)
  where
    by_fault : (f : Option Fault) → In (unless_fault f s (after_note s x)).state.expired a → In s.expired a ⊎ In (unless_fault f s (after_note s x)).report.expired a
    by_fault (Some f) i = inl i
    by_fault None i = inl i
new-reported g s (Accuses b) a = by_fault (accusation_fault g.t s b)
  where
    by_fault : (f : Option Fault) → In (unless_fault f s (unchanged (after_accusation s b))).state.expired a → In s.expired a ⊎ In (unless_fault f s (unchanged (after_accusation s b))).report.expired a
    by_fault (Some f) i = inl i
    by_fault None i = inl i
new-reported g s Ticks a = λ i.
    elim (In-append_cases (map (λ p. p.0) (filter (is_due g.timeout (s.moment + 1)) s.kept)) s.expired a i) [ inl j ↦ inr j | inr j ↦ inl j ]

expires-in : (g : Group) (s : State) (events : List Event) (j : ℕ) (a : AccBody) → ExpiresAt g s events j a → In (after g s events).expired a
expires-in g s [] j a h = let e = h.reported in cc
expires-in g s (e ∷ events) zero a h =
    let first = h.reported in
    let same : h.report ≡ (step g s e).report = cc in
    expired-stay g (step g s e).state events a (reported-step g s e a (subst (λ r. In r.expired a) same (In-from_Contains h.report.expired a h.expired)))
expires-in g s (e ∷ events) (suc j) a h = expires-in g (step g s e).state events j a (record { report = h.report; reported = h.reported; expired = h.expired })

in-expired : (g : Group) (s : State) (events : List Event) (a : AccBody) → In (after g s events).expired a → In s.expired a ⊎ Expires g s events a
in-expired g s [] a i = inl i
in-expired g s (e ∷ events) a i =
    elim (in-expired g (step g s e).state events a i) [
      | inl j ↦ elim (new-reported g s e a j) [
        | inl old ↦ inl old
        | inr new ↦ inr (zero, record { report = (step g s e).report; reported = refl; expired = Contains-from_In (step g s e).report.expired a new })
      ]
      | inr later ↦ inr (suc later.0, record { report = later.1.report; reported = later.1.reported; expired = later.1.expired })
    ]

-- ---- two lives, from states with no note and no expired accusation

notes-cross : (g : Group) (one other : State) (events others : List Event) → one.notes ≡ [] → ((n : NoteBody) → Accepts g one events n → Accepts g other others n) → (n : NoteBody) → In (after g one events).notes n → In (after g other others).notes n
notes-cross g one other events others none cross n i =
    elim (in-accepted g one events n i) [
      | inl j ↦ absurd (subst (λ xs. In xs n) none j)
      | inr h ↦ let there = cross n h in accepted-in g other others there.0 n there.1
    ]

expired-cross : (g : Group) (one other : State) (events others : List Event) → one.expired ≡ [] → ((a : AccBody) → Expires g one events a → Expires g other others a) → (a : AccBody) → In (after g one events).expired a → In (after g other others).expired a
expired-cross g one other events others none cross a i =
    elim (in-expired g one events a i) [
      | inl j ↦ absurd (subst (λ xs. In xs a) none j)
      | inr h ↦ let there = cross a h in expires-in g other others there.0 a there.1
    ]

elements : {X : Type 0} (xs ys : List X) → ((x : X) → In xs x → In ys x) → ((x : X) → In ys x → In xs x) → HasSameElements xs ys
elements xs ys onward back =
    record {
      onward = λ x c. Contains-from_In ys x (onward x (In-from_Contains xs x c));
      back = λ x c. Contains-from_In xs x (back x (In-from_Contains ys x c));
    }

pub same-notes : (g : Group) (one other : State) (events others : List Event) → one.notes ≡ [] → other.notes ≡ [] → HaveSameRecords g one other events others → HasSameElements (after g one events).notes (after g other others).notes
same-notes g one other events others none never h =
    elements (after g one events).notes (after g other others).notes
    (notes-cross g one other events others none (λ n. (h.notes n).0))
    (notes-cross g other one others events never (λ n. (h.notes n).1))

pub same-expired : (g : Group) (one other : State) (events others : List Event) → one.expired ≡ [] → other.expired ≡ [] → HaveSameRecords g one other events others → HasSameElements (after g one events).expired (after g other others).expired
same-expired g one other events others none never h =
    elements (after g one events).expired (after g other others).expired
    (expired-cross g one other events others none (λ a. (h.expired a).0))
    (expired-cross g other one others events never (λ a. (h.expired a).1))

-- ---- one view

same-in_view : (a b : State) (m : ℕ) → HasSameElements a.notes b.notes → HasSameElements a.expired b.expired → in_view a m ≡ in_view b m
same-in_view a b m notes expired =
    let newest_same = same_newest a.notes b.notes m (λ x i. In-from_Contains _ x (notes.onward x (Contains-from_In _ x i))) (λ x i. In-from_Contains _ x (notes.back x (Contains-from_In _ x i))) in
    let expired_same : (n : NoteBody) → has_expired a.expired n ≡ has_expired b.expired n =
    λ n. same_any _ a.expired b.expired (λ x i. In-from_Contains _ x (expired.onward x (Contains-from_In _ x i))) (λ x i. In-from_Contains _ x (expired.back x (Contains-from_In _ x i))) in
    ap (viewed_by a.expired) newest_same ∙ at_note (newest b.notes m) expired_same
  where
    at_note : (o : Option NoteBody) → ((n : NoteBody) → has_expired a.expired n ≡ has_expired b.expired n) → viewed_by a.expired o ≡ viewed_by b.expired o
    at_note None e = refl
    at_note (Some n) e = ap (in_view_by n) (e n)

pub same-view : (a b : State) → HasSameElements a.notes b.notes → HasSameElements a.expired b.expired → view a ≡ view b
same-view a b notes expired = filter_agree (in_view a) (in_view b) (λ m. same-in_view a b m notes expired) all_numbers

pub one-view : (g : Group) (members more : List Member) (events others : List Event) → HaveSameRecords g (opening members) (opening more) events others → view (after g (opening members) events) ≡ view (after g (opening more) others)
one-view g members more events others h =
    let one : State = opening members in
    let other : State = opening more in
    same-view (after g one events) (after g other others) (same-notes g one other events others refl refl h) (same-expired g one other events others refl refl h)
