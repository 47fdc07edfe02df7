-- Each removal that is reported has a leaving note for its cause or rests on an accusation, which has come of a record that verifies.
use Rattle.std.proofs.Common.{◌≡◌, ℕ, ◌+◌, zero, suc, ◌<◌, true, false, not, List, [], ◌∷◌, ◌++◌, length, Option, Some, None, inl, inr, refl, ap, ◌∙◌, subst, map, filter, arith}
use Rattle.std.specs.Prelude.{flat_map}
use Rattle.std.proofs.lemmas.Bool.{cond_both, and_from, eq-eqb, not-true}
use Rattle.ff_ids.specs.declared.AccBody.{AccBody}
use Rattle.ff_ids.specs.declared.NoteBody.{NoteBody}
use Rattle.ff_ids.specs.declared.Fault.{Fault}
use Rattle.ff_ids.specs.declared.Group.{Group}
use Rattle.ff_ids.specs.Views.{State, all_numbers, in_view, is_member, view}
use Rattle.ff_ids.specs.Faults.{note_fault, accusation_fault}
use Rattle.ff_ids.specs.Steps.{Event, Joins, Notes, Accuses, Ticks, Report, Stepped, joined, unchanged, only_before, after_note, after_accusation, unless_fault, step}
use Rattle.ff_ids.specs.Lives as causes
use Rattle.ff_ids.specs.Lives.{opening, state_at, IsRemovedAt, LeavesBy, RestsOn}
use Rattle.life_laws.proofs.Lists.{All-from_In, In, In-append_cases, In-filter, In-from_filter, In-from_map, In-from_Contains, Contains-from_In}
use Rattle.life_laws.proofs.JustifiedLemmas.{justified}
use Rattle.records.specs.declared.Body.TheVariants.{Note, Accusation}
use Rattle.journal.specs.declared.event.Event as journal
use Rattle.journal.specs.declared.event.What as whats
use Rattle.journal.specs.declared.event.What.TheVariants as happened
use Rattle.node_rules.specs.Calls.{told_of, whats_of}
use Rattle.node_rules.specs.Lives.{is_of_life, told_by}
use Rattle.world_rules.specs.Settings.{Setting, is_node}
use Rattle.world_rules.specs.Worlds.{Life, World, lives_of}
use Rattle.world_rules.specs.Steps.{NodeEvent}
use Rattle.world_rules.specs.Laws.{IsSetting, Reached, tells_life}
use Rattle.world_rules.proofs.Telling.{lives-justified}
use Rattle.world_laws.specs.Laws.{ByAccusation, ByNote, DepartsVerified, IsNoteSignedByThen, IsVerifiedRemoval, LeftVerified, RemovalsAreVerified, RemovesRightly, RemovesVerified, RestsOnVerified, SignaturesVerify, ToldRemovalsAreVerified}
use Rattle.world_laws.proofs.Signed.{in-mapped}
use Rattle.world_laws.proofs.AsCalled.{removes}
use Rattle.world_laws.proofs.Verified.{IsVouchedAt, vouched}

-- ---- a step that reports a removal

-- The member leaves the view between these states.
record Leaves (st next : State) (m : ℕ) : Type 0 where
  before : in_view st m ≡ true
  later : in_view next m ≡ false

leaves-between : (st next : State) (m : ℕ) → In (only_before st next) m → Leaves st next m
leaves-between st next m i =
    let gone = In-from_filter (λ k. not (in_view next k)) (view st) m i in
    record { before = (In-from_filter (in_view st) all_numbers m gone.0).1; later = not-true _ gone.1 }

leaves-unless : (fault : Option Fault) (st : State) (next : Stepped) (m : ℕ) → (In next.report.removed m → Leaves st next.state m) → In (unless_fault fault st next).report.removed m → Leaves st (unless_fault fault st next).state m
leaves-unless (Some fault) st next m h i = absurd i
leaves-unless None st next m h i = h i

leaves-step : (g : Group) (st : State) (e : Event) (m : ℕ) → In (step g st e).report.removed m → Leaves st (step g st e).state m
leaves-step g st (Joins number places) m =
    cond_both (is_member st number) (unchanged st) (unchanged (joined st number places)) (λ x. In x.report.removed m → Leaves st x.state m) (λ it none. absurd none) (λ other none. absurd none)
leaves-step g st (Notes n) m = leaves-unless (note_fault g.t st n) st (after_note st n) m (λ i. same (leaves-between st (record st { notes = n ∷ st.notes }) m i))
  where
    same : Leaves st (record st { notes = n ∷ st.notes }) m → Leaves st (after_note st n).state m
    same x = record { before = x.before; later = x.later }
leaves-step g st (Accuses a) m = leaves-unless (accusation_fault g.t st a) st (unchanged (after_accusation st a)) m (λ none. absurd none)
leaves-step g st Ticks m = λ i. leaves-between st (step g st Ticks).state m i

-- ---- what is reported of it

no-removal : {X : Type 0} (f : X → whats.What) (xs : List X) (m : ℕ) → ((x : X) → f x ≡ happened.Removed m → ⊥) → In (map f xs) (happened.Removed m) → ⊥
no-removal f xs m other i = let x = In-from_map f xs (happened.Removed m) i in other x.0 x.1.1

removed-here : (xs : List ℕ) (m : ℕ) → In (map happened.Removed xs) (happened.Removed m) → In xs m
removed-here xs m i =
    let x = In-from_map happened.Removed xs (happened.Removed m) i in
    subst (In xs) (number x.0 x.1.1) x.1.0
  where
    number : (k : ℕ) → happened.Removed k ≡ happened.Removed m → k ≡ m
    number k e = cc

removed-among : (r : Report) (m : ℕ) → In (whats_of r) (happened.Removed m) → In r.removed m
removed-among r m i =
    elim (In-append_cases (map happened.Expired r.expired ++ map happened.Removed r.removed ++ map happened.Entered r.entered) (map happened.Fell r.fell) (happened.Removed m) i) [
      | inl j ↦
          (elim (In-append_cases (map happened.Expired r.expired ++ map happened.Removed r.removed) (map happened.Entered r.entered) (happened.Removed m) j) [
            | inl k ↦
                (elim (In-append_cases (map happened.Expired r.expired) (map happened.Removed r.removed) (happened.Removed m) k) [
                  | inl l ↦ absurd (no-removal happened.Expired r.expired m (λ a e. expired-not a e) l)
                  | inr l ↦ removed-here r.removed m l
                ])
            | inr k ↦ absurd (no-removal happened.Entered r.entered m (λ x e. entered-not x e) k)
          ])
      | inr j ↦ absurd (no-removal happened.Fell r.fell m (λ a e. fell-not a e) j)
    ]
  where
    expired-not : (a : AccBody) → happened.Expired a ≡ happened.Removed m → ⊥
    expired-not a e = cc

    entered-not : (x : ℕ) → happened.Entered x ≡ happened.Removed m → ⊥
    entered-not x e = cc

    fell-not : (a : AccBody) → happened.Fell a ≡ happened.Removed m → ⊥
    fell-not a e = cc

told-removed : (moment : ℕ) (r : Report) (e : journal.Event) (m : ℕ) → In (told_of moment r) e → e.what ≡ happened.Removed m → In r.removed m
told-removed moment r e m i is =
    let x = In-from_map (λ what. let made : journal.Event = record { moment = moment; what = what } in made) (whats_of r) e i in
    removed-among r m (subst (In (whats_of r)) (ap (λ (y : journal.Event). y.what) x.1.1 ∙ is) x.1.0)

-- ---- a life in which it is reported

-- The member is removed at a place of the life, which has this moment behind it.
record RemovedIn (g : Group) (st : State) (events : List Event) (m moment : ℕ) : Type 0 where
  place : ℕ
  within : place < length events
  removed : IsRemovedAt g st events place m
  behind : (state_at g st events (place + 1)).moment ≡ moment

removed-later : (g : Group) (st : State) (e : Event) (events : List Event) (m moment : ℕ) → RemovedIn g (step g st e).state events m moment → RemovedIn g st (e ∷ events) m moment
removed-later g st e events m moment h =
    let same : suc h.place + 1 ≡ suc (h.place + 1) = omega arith in
    record {
      place = suc h.place;
      within = omega (arith, h.within);
      removed = record { before = h.removed.before; later = rw same h.removed.later };
      behind = rw same h.behind;
    }

pub told-moment : (moment : ℕ) (r : Report) (e : journal.Event) → In (told_of moment r) e → moment ≡ e.moment
told-moment moment r e i =
    let x = In-from_map (λ what. let made : journal.Event = record { moment = moment; what = what } in made) (whats_of r) e i in
    ap (λ (y : journal.Event). y.moment) x.1.1

removed-in : (g : Group) (st : State) (events : List Event) (e : journal.Event) (m : ℕ) → In (told_by g st events) e → e.what ≡ happened.Removed m → RemovedIn g st events m e.moment
removed-in g st [] e m i is = absurd i
removed-in g st (x ∷ events) e m i is =
    let made : Stepped = step g st x in
    elim (In-append_cases (told_of made.state.moment made.report) (told_by g made.state events) e i) [
      | inl here ↦
          let gone = leaves-step g st x m (told-removed made.state.moment made.report e m here is) in
          record { place = zero; within = omega arith; removed = record { before = gone.before; later = gone.later }; behind = told-moment made.state.moment made.report e here }
      | inr later ↦ removed-later g st x events m e.moment (removed-in g made.state events e m later is)
    ]

pub in-flat : {X Y : Type 0} (f : X → List Y) (xs : List X) (y : Y) → In (flat_map f xs) y → (x : X) × (In xs x × In (f x) y)
in-flat f [] y i = absurd i
in-flat f (x ∷ xs) y i =
    elim (In-append_cases (f x) (flat_map f xs) y i) [
      | inl here ↦ (x, (inl refl, here))
      | inr later ↦ let r = in-flat f xs y later in (r.0, (inr r.1.0, r.1.1))
    ]

-- ---- the law

left-verified : (s : Setting) (w : World) (told : List NodeEvent) (who : ℕ) (life : Life) (place m : ℕ) (n : NoteBody) → IsSetting s → SignaturesVerify s → Reached s w told → In (lives_of w who) life → LeavesBy s.group (opening []) life.node.lived place m n → LeftVerified s w told who life place m
left-verified s w told who life place m n fits verify reached i leaves =
    let at : IsVouchedAt s w who life place (Note n) = vouched s w told who life place (Note n) leaves.leaving fits verify reached i leaves.accepted.event in
    let right : RemovesRightly s w told who life = removes s w told who fits reached life i in
    subst (λ (k : ℕ). LeavesBy s.group (opening []) life.node.lived place k n → (is_node s k ≡ true → IsNoteSignedByThen s w told who life place n) → LeftVerified s w told who life place k) leaves.of_member
    (λ by own. record { note = n; leaves = by; verified = at.verified; came = at.came; own_note = own })
    leaves (λ is. right.left place m n leaves is)

rests-verified : (s : Setting) (w : World) (told : List NodeEvent) (who : ℕ) (life : Life) (place m accepted : ℕ) (a : AccBody) → IsSetting s → SignaturesVerify s → Reached s w told → In (lives_of w who) life → RestsOn s.group (opening []) life.node.lived place m accepted a → RestsOnVerified s w told who life place m
rests-verified s w told who life place m accepted a fits verify reached i rests =
    let at : IsVouchedAt s w who life accepted (Accusation a) = vouched s w told who life accepted (Accusation a) tt fits verify reached i rests.accepted.event in
    let right : RemovesRightly s w told who life = removes s w told who fits reached life i in
    record { accepted = accepted; accusation = a; rests = rests; verified = at.verified; came = at.came; own_note = λ is. right.accused place m accepted a rests is }

departs-verified : (s : Setting) (w : World) (told : List NodeEvent) (who : ℕ) (life : Life) (place m : ℕ) → IsSetting s → SignaturesVerify s → Reached s w told → In (lives_of w who) life → causes.Departs s.group (opening []) life.node.lived place m → DepartsVerified s w told who life place m
departs-verified s w told who life place m fits verify reached i (causes.ByNote n leaves) = ByNote (left-verified s w told who life place m n fits verify reached i leaves)
departs-verified s w told who life place m fits verify reached i (causes.ByAccusation accepted a rests) = ByAccusation (rests-verified s w told who life place m accepted a fits verify reached i rests)

verified-at : (s : Setting) (w : World) (told : List NodeEvent) (who : ℕ) (life : Life) → IsSetting s → SignaturesVerify s → Reached s w told → In (lives_of w who) life → RemovesVerified s w told who life
verified-at s w told who life fits verify reached i place m within removed = departs-verified s w told who life place m fits verify reached i (justified s.group [] life.node.lived place m within removed)

pub removals-verified : RemovalsAreVerified
removals-verified s w told who fits verify reached = All-from_In _ (lives_of w who) (λ life i. verified-at s w told who life fits verify reached i)

told-verified : (s : Setting) (w : World) (told : List NodeEvent) (t : NodeEvent) (m : ℕ) (life : Life) → IsSetting s → SignaturesVerify s → Reached s w told → In (lives_of w t.who) life → RemovedIn s.group (opening []) life.node.lived m t.event.moment → IsVerifiedRemoval s w told t m
told-verified s w told t m life fits verify reached i gone =
    record {
      life = life;
      lived = Contains-from_In _ _ i;
      place = gone.place;
      within = gone.within;
      removed = gone.removed;
      moment = gone.behind;
      departs = verified-at s w told t.who life fits verify reached i gone.place m gone.within gone.removed;
    }

-- What is reported of a node's view or of accusations there is reported by one of its lives.
pub in-told : (s : Setting) (w : World) (told : List NodeEvent) (t : NodeEvent) → Reached s w told → In told t → is_of_life t.event.what ≡ true → (life : Life) × (In (lives_of w t.who) life × In (told_by s.group (opening []) life.node.lived) t.event)
in-told s w told t reached among is =
    let tells : tells_life t.who t ≡ true = and_from _ _ (eq-eqb t.who t.who refl) is in
    let i : In (map (λ (x : NodeEvent). x.event) (filter (tells_life t.who) told)) t.event = in-mapped (λ (x : NodeEvent). x.event) (filter (tells_life t.who) told) t (In-filter (tells_life t.who) told t among tells) in
    let so = (lives-justified s w told t.who reached).told_so in
    in-flat (λ (life : Life). told_by s.group (opening []) life.node.lived) (lives_of w t.who) t.event (subst (λ xs. In xs t.event) so i)

pub told-removals-verified : ToldRemovalsAreVerified
told-removals-verified s w told t m fits verify reached among is =
    let life = in-told s w told t reached (In-from_Contains _ _ among) (ap is_of_life is) in
    told-verified s w told t m life.0 fits verify reached life.1.0 (removed-in s.group (opening []) life.0.node.lived t.event m life.1.1 is)
