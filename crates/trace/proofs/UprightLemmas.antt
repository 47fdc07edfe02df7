-- Each removal that a walk reports is a removal of one of its lives, and each removal of a life has its cause in it.
use Rattle.std.proofs.Common.{◌≡◌, ℕ, suc, inl, inr, Bool, true, false, not, List, [], ◌∷◌, map, Option, Some, None, refl, ap, ◌∙◌, subst, cond}
use Rattle.std.specs.Prelude.{flat_map}
use Rattle.std.specs.List.{slice_get}
use Rattle.std.proofs.lemmas.Bool.{not-true}
use Rattle.std.proofs.lemmas.Option.{slice_get_within}
use Rattle.ff_ids.specs.declared.AccBody.{AccBody}
use Rattle.ff_ids.specs.declared.Fault.{Fault}
use Rattle.ff_ids.specs.declared.Group.{Group}
use Rattle.ff_ids.specs.Faults.{accusation_fault, note_fault}
use Rattle.ff_ids.specs.Lives.{IsRemovedAt, opening, reports, state_at}
use Rattle.ff_ids.specs.Steps.{Accuses, Event, Joins, Notes, Stepped, Ticks, after_accusation, after_note, after_tick, joined, only_before, step, unchanged, unless_fault}
use Rattle.ff_ids.specs.Views.{State, all_numbers, in_view, is_member}
use Rattle.life_events.specs.declared.event.Event as reported
use Rattle.life_events.specs.declared.event.What.TheVariants as what
use Rattle.life_laws.proofs.JustifiedLemmas.{justified}
use Rattle.life_laws.proofs.LifeLemmas.{state_at-next}
use Rattle.life_laws.proofs.Lists.{In, In-append_cases, In-from_Contains, Contains-from_In, In-from_filter, In-from_map}
use Rattle.trace.specs.Answers.{Recorded, events_of}
use Rattle.trace.specs.Lives.{IsJustifiedWalk, IsRemoval, reported_from, reported_in}
use Rattle.trace.specs.Walk.{events_in, lives_in, walk_over}
use Rattle.trace.proofs.WalkLemmas.{are-of-lives}

-- ## Who left the view in a step

-- in the view before the step, and not after it
pub record Left (s later : State) (m : ℕ) : Type 0 where
  pub before : in_view s m ≡ true
  pub after : in_view later m ≡ false

left-between : (s later : State) (m : ℕ) → In (only_before s later) m → Left s later m
left-between s later m h =
    let out = In-from_filter (λ k. not (in_view later k)) _ m h in
    let was = In-from_filter (in_view s) all_numbers m out.0 in
    record { before = was.1; after = not-true (in_view later m) out.1 }

left-unless : (fault : Option Fault) (s : State) (next : Stepped) (m : ℕ) → (In next.report.removed m → Left s next.state m) → In (unless_fault fault s next).report.removed m → Left s (unless_fault fault s next).state m
left-unless None s next m h i = h i
left-unless (Some fault) s next m h i = absurd i

left-joined : (b : Bool) (s later : State) (m : ℕ) → In (cond b (unchanged s) (unchanged later)).report.removed m → Left s (cond b (unchanged s) (unchanged later)).state m
left-joined true s later m i = absurd i
left-joined false s later m i = absurd i

pub left-by : (g : Group) (s : State) (e : Event) (m : ℕ) → In (step g s e).report.removed m → Left s (step g s e).state m
left-by g s (Joins number places) m i = left-joined (is_member s number) s (joined s number places) m i
left-by g s (Notes n) m i = left-unless (note_fault g.t s n) s (after_note s n) m (λ h. left-between s (after_note s n).state m h) i
left-by g s (Accuses a) m i = left-unless (accusation_fault g.t s a) s (unchanged (after_accusation s a)) m (λ h. absurd h) i
left-by g s Ticks m i = left-between s (after_tick g.timeout s).state m i

-- ## The removals of a report

abbrev removal : ℕ → ℕ → reported.Event
removal moment m = record { moment = moment; what = what.Removed m }

what-at : {e f : reported.Event} → e ≡ f → e.what ≡ f.what
what-at same = ap (λ (x : reported.Event). x.what) same

-- the step removed the member, and brought the moment
record Removes (st : Stepped) (moment m : ℕ) : Type 0 where
  removed : In st.report.removed m
  at : st.state.moment ≡ moment

removes-expired : (st : Stepped) (moment m : ℕ) → In (map (λ (a : AccBody). record { moment = st.state.moment; what = what.Expired a }) st.report.expired) (removal moment m) → Removes st moment m
removes-expired st moment m i =
    let x = In-from_map (λ (a : AccBody). record { moment = st.state.moment; what = what.Expired a }) st.report.expired (removal moment m) i in
    let same : what.Expired x.0 ≡ what.Removed m = ap (λ (x : reported.Event). x.what) x.1.1 in
    absurd cc

removes-fell : (st : Stepped) (moment m : ℕ) → In (map (λ (a : AccBody). record { moment = st.state.moment; what = what.Fell a }) st.report.fell) (removal moment m) → Removes st moment m
removes-fell st moment m i =
    let x = In-from_map (λ (a : AccBody). record { moment = st.state.moment; what = what.Fell a }) st.report.fell (removal moment m) i in
    let same : what.Fell x.0 ≡ what.Removed m = ap (λ (x : reported.Event). x.what) x.1.1 in
    absurd cc

removes-entered : (st : Stepped) (moment m : ℕ) → In (map (λ (k : ℕ). record { moment = st.state.moment; what = what.Entered k }) st.report.entered) (removal moment m) → Removes st moment m
removes-entered st moment m i =
    let x = In-from_map (λ (k : ℕ). record { moment = st.state.moment; what = what.Entered k }) st.report.entered (removal moment m) i in
    let same : what.Entered x.0 ≡ what.Removed m = ap (λ (x : reported.Event). x.what) x.1.1 in
    absurd cc

removes-removed : (st : Stepped) (moment m : ℕ) → In (map (λ (k : ℕ). record { moment = st.state.moment; what = what.Removed k }) st.report.removed) (removal moment m) → Removes st moment m
removes-removed st moment m i =
    let x = In-from_map (λ (k : ℕ). record { moment = st.state.moment; what = what.Removed k }) st.report.removed (removal moment m) i in
    let same : what.Removed x.0 ≡ what.Removed m = ap (λ (x : reported.Event). x.what) x.1.1 in
    let k : x.0 ≡ m = cc in
    record { removed = subst (In st.report.removed) k x.1.0; at = ap (λ (x : reported.Event). x.moment) x.1.1 }

removes : (st : Stepped) (moment m : ℕ) → In (events_of st) (removal moment m) → Removes st moment m
removes st moment m i =
    elim (In-append_cases _ (map (λ (a : AccBody). record { moment = st.state.moment; what = what.Fell a }) st.report.fell) (removal moment m) i) [
      | inr fell ↦ removes-fell st moment m fell
      | inl others ↦
          elim (In-append_cases _ (map (λ (k : ℕ). record { moment = st.state.moment; what = what.Entered k }) st.report.entered) (removal moment m) others) [
            | inr entered ↦ removes-entered st moment m entered
            | inl first ↦
                elim (In-append_cases (map (λ (a : AccBody). record { moment = st.state.moment; what = what.Expired a }) st.report.expired) (map (λ (k : ℕ). record { moment = st.state.moment; what = what.Removed k }) st.report.removed) (removal moment m) first) [
                  | inl expired ↦ removes-expired st moment m expired
                  | inr removed ↦ removes-removed st moment m removed
                ]
          ]
    ]

-- ## The removals of a life

-- the event at this place removed the member
record RemovesAt (g : Group) (s : State) (events : List Event) (moment m : ℕ) : Type 0 where
  place : ℕ
  event : Event
  is : slice_get events place ≡ Some event
  removes_there : Removes (step g (state_at g s events place) event) moment m
  reported_there : slice_get (reports g s events) place ≡ Some (step g (state_at g s events place) event).report

removed-at : (g : Group) (s : State) (events : List Event) (moment m : ℕ) → In (reported_from g s events) (removal moment m) → RemovesAt g s events moment m
removed-at g s [] moment m i = absurd i
removed-at g s (e ∷ events) moment m i =
    elim (In-append_cases (events_of (step g s e)) (reported_from g (step g s e).state events) (removal moment m) i) [
      | inl here ↦ record { place = 0; event = e; is = refl; removes_there = removes (step g s e) moment m here; reported_there = refl }
      | inr later ↦
          let r = removed-at g (step g s e).state events moment m later in
          record { place = suc r.place; event = r.event; is = r.is; removes_there = r.removes_there; reported_there = r.reported_there }
    ]

pub removal-of : (r : Recorded) (moment m : ℕ) → In (reported_in r) (removal moment m) → IsRemoval r moment m
removal-of r moment m i =
    let s = opening r.members in
    let x = removed-at r.group s r.events moment m i in
    let next = state_at-next r.group s r.events x.place x.event x.is in
    let left = left-by r.group (state_at r.group s r.events x.place) x.event m x.removes_there.removed in
    let gone : IsRemovedAt r.group s r.events x.place m = record {
      before = left.before;
      later = ap (λ (st : State). in_view st m) next ∙ left.after;
    } in
    record {
      place = x.place;
      report = (step r.group (state_at r.group s r.events x.place) x.event).report;
      reported = x.reported_there;
      removed = Contains-from_In _ m x.removes_there.removed;
      at = ap (λ (st : State). st.moment) next ∙ x.removes_there.at;
      cause = justified r.group r.members r.events x.place m (slice_get_within r.events x.place x.event x.is) gone;
    }

-- ## The removals of a walk

-- which of the lives reported it
in-lives : (lives : List Recorded) (e : reported.Event) → In (flat_map reported_in lives) e → (r : Recorded) × (In lives r × In (reported_in r) e)
in-lives [] e i = absurd i
in-lives (r ∷ lives) e i =
    elim (In-append_cases (reported_in r) (flat_map reported_in lives) e i) [
      | inl here ↦ (r, (inl refl, here))
      | inr later ↦ let x = in-lives lives e later in (x.0, (inr x.1.0, x.1.1))
    ]

pub justified-walk : (lines : List (List ℕ)) → IsJustifiedWalk (walk_over lines)
justified-walk lines moment m contains =
    let w = walk_over lines in
    let i : In (flat_map reported_in (lives_in w)) (removal moment m) = subst (λ (events : List reported.Event). In events (removal moment m)) (are-of-lives lines) (In-from_Contains (events_in w) (removal moment m) contains) in
    let x = in-lives (lives_in w) (removal moment m) i in
    (x.0, Contains-from_In (lives_in w) x.0 x.1.0, removal-of x.0 moment m x.1.1)
