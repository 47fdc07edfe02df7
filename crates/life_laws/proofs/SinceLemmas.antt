-- What an accepted note answers expires later in the life only where it was accepted again.
use Rattle.std.proofs.Common.{◌≡◌, ℕ, ◌+◌, ◌-◌, ◌<◌, ◌≤◌, true, false, List, [], ◌∷◌, length, filter, map, Option, Some, None, inl, inr, refl, ap, sym, ◌∙◌, subst, arith}
use Rattle.std.specs.Prelude.{Contains}
use Rattle.std.specs.List.{slice_get}
use Rattle.std.specs.Option.{option_map_or}
use Rattle.std.proofs.lemmas.Bool.{and_parts, cases_Bool, cases_lt, false≢true, leb-true}
use Rattle.std.proofs.lemmas.Option.{slice_get_within}
use Rattle.ff_ids.specs.declared.AccBody.{AccBody}
use Rattle.ff_ids.specs.declared.Fault.{Fault}
use Rattle.ff_ids.specs.declared.Group.{Group}
use Rattle.ff_ids.specs.declared.NoteBody.{NoteBody}
use Rattle.ff_ids.specs.Faults.{accusation_fault, note_fault}
use Rattle.ff_ids.specs.Lives.{opening, state_at, IsNoteAcceptedAt}
use Rattle.ff_ids.specs.Notes.{newest}
use Rattle.ff_ids.specs.Steps.{Accuses, Event, Joins, Notes, Report, Stepped, Ticks, after_accusation, after_note, is_due, step, unchanged, unless_fault}
use Rattle.ff_ids.specs.Views.{Member, State, is_member, is_unanswered_by, stands}
use Rattle.life_laws.specs.Removals.{Revokes, StoodSince}
use Rattle.life_laws.proofs.AnsweredLemmas.{newest-accepted}
use Rattle.life_laws.proofs.JustifiedLemmas.{Upheld, sound}
use Rattle.life_laws.proofs.LifeLemmas.{reports-at, state_at-next}
use Rattle.life_laws.proofs.Lists.{In, In-from_Contains, In-from_filter, In-from_map}

-- ---- what expires

-- What expires was kept, for the timeout.
pub record IsDue (g : Group) (st : State) (e : Event) (a : AccBody) : Type 0 where
  pub kept : AccBody × ℕ
  pub among : In st.kept kept
  pub same : kept.0 ≡ a
  pub due : g.timeout ≤ (step g st e).state.moment - kept.1
  pub rising : st.moment ≤ (step g st e).state.moment

due-unless : (g : Group) (st : State) (e : Event) (fault : Option Fault) (next : Stepped) (a : AccBody) → next.report.expired ≡ [] → In (unless_fault fault st next).report.expired a → IsDue g st e a
due-unless g st e (Some f) next a none i = absurd i
due-unless g st e None next a none i = absurd (subst (λ xs. In xs a) none i)

pub due-at : (g : Group) (st : State) (e : Event) (a : AccBody) → In (step g st e).report.expired a → IsDue g st e a
due-at g st (Joins number places) a =
    elim (cases_Bool (is_member st number)) [
      | inl old ↦ rw old (λ i. absurd i)
      | inr new ↦ rw new (λ i. absurd i)
    ]
due-at g st (Notes n) a = due-unless g st (Notes n) (note_fault g.t st n) (after_note st n) a refl
due-at g st (Accuses b) a = due-unless g st (Accuses b) (accusation_fault g.t st b) (unchanged (after_accusation st b)) a refl
due-at g st Ticks a = λ i.
    let p = In-from_map (λ (p : AccBody × ℕ). p.0) (filter (is_due g.timeout (st.moment + 1)) st.kept) a i in
    let k = In-from_filter (is_due g.timeout (st.moment + 1)) st.kept p.0 p.1.0 in
    record { kept = p.0; among = k.0; same = p.1.1; due = leb-true g.timeout (st.moment + 1 - p.0.1) k.1; rising = omega arith }

-- ---- what stands behind an accepted note

unanswered-by : (a : AccBody) (o : Option NoteBody) (n : NoteBody) → o ≡ Some n → option_map_or (is_unanswered_by a) o false ≡ true → is_unanswered_by a n ≡ true
unanswered-by a o n is h = rw is at h

stood-unanswered : (g : Group) (st : State) (n : NoteBody) (a : AccBody) → note_fault g.t st n ≡ None → a.accused ≡ n.member → stands (step g st (Notes n)).state a ≡ true → is_unanswered_by a n ≡ true
stood-unanswered g st n a fine about stood =
    let here : stands (after_note st n).state a ≡ true = rw fine at stood in
    let parts = and_parts _ _ here in
    let newest_is : newest (n ∷ st.notes) a.accused ≡ Some n = subst (λ (m : ℕ). newest (n ∷ st.notes) m ≡ Some n) (sym about) (newest-accepted g.t st n fine) in
    unanswered-by a (newest (n ∷ st.notes) a.accused) n newest_is (and_parts _ _ parts.0).1

other-event : (events : List Event) (place : ℕ) (a : AccBody) (n : NoteBody) → slice_get events place ≡ Some (Accuses a) → slice_get events place ≡ Some (Notes n) → ⊥
other-event events place a n x y = let same : Some (Accuses a) ≡ Some (Notes n) = sym x ∙ y in absurd cc

-- What was kept so long that the note would have ended it was accepted behind the note.
pub accepted-behind : (g : Group) (st : State) (events : List Event) (i j : ℕ) (n : NoteBody) (q : AccBody × ℕ) → i < j → IsNoteAcceptedAt g st events i n → q.0.accused ≡ n.member → is_unanswered_by q.0 n ≡ false → (u : Upheld g st events j q) → i < u.place
accepted-behind g st events i j n q less note about answered u =
    elim (cases_lt i u.place) [
      | inl later ↦ later
      | inr before ↦ absurd (
          elim (cases_lt u.place i) [
            | inr same ↦ let is : u.place ≡ i = omega (arith, same, before) in other-event events i q.0 n (subst (λ (k : ℕ). slice_get events k ≡ Some (Accuses q.0)) is u.accepted_there.event) note.event
            | inl earlier ↦
                let stood = u.stood (i + 1) (omega (arith, earlier)) (omega arith) in
                let next = state_at-next g st events i (Notes n) note.event in
                let still = stood-unanswered g (state_at g st events i) n q.0 note.no_fault about (rw next at stood) in
                false≢true (sym answered ∙ still)
          ])
    ]

pub due-by : (from timeout later moment then here : ℕ) → timeout ≤ later - from → later ≡ moment → from ≤ then → then ≡ here → here ≤ later → from + timeout ≤ moment
due-by from timeout later moment then here due same passed is rising = omega arith

-- ---- lives

pub revokes : (g : Group) (members : List Member) (events : List Event) → Revokes g (opening members) events
revokes g members events i j n a less note about answered expires =
    let st : State = opening members in
    let at = reports-at g st events j expires.report expires.reported in
    let e : Event = at.0 in
    let within : j < length events = slice_get_within events j e at.1.0 in
    let next = state_at-next g st events j e at.1.0 in
    let d : IsDue g (state_at g st events j) e a =
    due-at g (state_at g st events j) e a (In-from_Contains _ a (subst (λ (r : Report). Contains r.expired a) (sym at.1.1) expires.expired)) in
    let u : Upheld g st events j d.kept = (sound g members events j (omega (arith, within))).upheld d.kept d.among in
    let later : i < u.place =
    accepted-behind g st events i j n d.kept less note (ap (λ (x : AccBody). x.accused) d.same ∙ about) (ap (λ (x : AccBody). is_unanswered_by x n) d.same ∙ answered) u in
    let passed : d.kept.1 + g.timeout ≤ (state_at g st events (j + 1)).moment =
    due-by d.kept.1 g.timeout _ _ _ _ d.due (sym (ap (λ (x : State). x.moment) next)) u.passed refl d.rising in
    subst (StoodSince g st events i j) d.same
    (record { place = u.place; later = later; earlier = u.earlier; again = u.accepted_there; stood = u.stood; timeout = omega (arith, u.since, passed) })
