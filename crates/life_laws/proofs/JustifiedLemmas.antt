-- What is kept was accepted at a place, and has stood since; and what each removal has for its cause.
use Rattle.std.proofs.Common.{◌≡◌, ℕ, zero, suc, ◌+◌, ◌<◌, ◌≤◌, true, List, Some, length, ◌⊎◌, inl, inr, ap, sym, ◌∙◌, subst, arith}
use Rattle.std.specs.List.{slice_get}
use Rattle.std.proofs.lemmas.Bool.{cases_lt}
use Rattle.ff_ids.specs.declared.AccBody.{AccBody}
use Rattle.ff_ids.specs.declared.Group.{Group}
use Rattle.ff_ids.specs.Views.{Member, State, stands}
use Rattle.ff_ids.specs.Steps.{Event}
use Rattle.ff_ids.specs.Lives.{opening, state_at, Departs, ByNote, ByAccusation, IsAcceptedAt, IsJustified}
use Rattle.life_laws.proofs.Lists.{In}
use Rattle.life_laws.proofs.ViewLemmas.{AllJoined}
use Rattle.life_laws.proofs.StepLemmas.{HowKept, before, accepted, TakesOut, leaves, expires, Steps, AllStand, steps}
use Rattle.life_laws.proofs.LifeLemmas.{state_at-next, event_at}

-- the pair kept before the event at place j was accepted at a place before it, and has stood since
pub record Upheld (g : Group) (s : State) (events : List Event) (j : ℕ) (q : AccBody × ℕ) : Type 0 where
  pub place : ℕ
  pub earlier : place < j
  pub accepted_there : IsAcceptedAt g s events place q.0
  pub stood : (k : ℕ) → place < k → k ≤ j → stands (state_at g s events k) q.0 ≡ true
  pub since : q.1 ≡ (state_at g s events (place + 1)).moment
  pub passed : q.1 ≤ (state_at g s events j).moment

pub record Sound (g : Group) (s : State) (events : List Event) (j : ℕ) : Type 0 where
  pub all_joined : AllJoined (state_at g s events j)
  pub upheld : (q : AccBody × ℕ) → In (state_at g s events j).kept q → Upheld g s events j q

all_stand : (g : Group) (s : State) (events : List Event) (j : ℕ) → Sound g s events j → AllStand (state_at g s events j)
all_stand g s events j sound = λ q i. let u = sound.upheld q i in u.stood j u.earlier (omega arith)

-- the step that the event at place j takes
step_at : (g : Group) (s : State) (events : List Event) (j : ℕ) (e : Event) → slice_get events j ≡ Some e → Sound g s events j → Steps g (state_at g s events j) e (state_at g s events (j + 1))
step_at g s events j e h sound = rw (state_at-next g s events j e h) (steps g (state_at g s events j) e sound.all_joined (all_stand g s events j sound))

one_more : (j k : ℕ) → k ≤ j + 1 → (k ≤ j) ⊎ (k ≡ j + 1)
one_more j k h = elim (cases_lt j k) [ inl above ↦ inr (omega arith) | inr within ↦ inl within ]

stands_on : (g : Group) (s : State) (events : List Event) (j : ℕ) (q : AccBody × ℕ) (place : ℕ) → ((k : ℕ) → place < k → k ≤ j → stands (state_at g s events k) q.0 ≡ true) → stands (state_at g s events (j + 1)) q.0 ≡ true → (k : ℕ) → place < k → k ≤ j + 1 → stands (state_at g s events k) q.0 ≡ true
stands_on g s events j q place stood now k low high =
    elim (one_more j k high) [
      | inl within ↦ stood k low within
      | inr last ↦ rw last now
    ]

upheld-next : (g : Group) (s : State) (events : List Event) (j : ℕ) (e : Event) (q : AccBody × ℕ) → slice_get events j ≡ Some e → Sound g s events j → Steps g (state_at g s events j) e (state_at g s events (j + 1)) → stands (state_at g s events (j + 1)) q.0 ≡ true → HowKept g (state_at g s events j) e q → Upheld g s events (j + 1) q
upheld-next g s events j e q h sound next now (before i) =
    let u = sound.upheld q i in
    record {
      place = u.place;
      earlier = omega (arith, u.earlier);
      accepted_there = u.accepted_there;
      stood = stands_on g s events j q u.place u.stood now;
      since = u.since;
      passed = omega (arith, u.passed, next.later);
    }
upheld-next g s events j e q h sound next now (accepted is fine since) =
    record {
      place = j;
      earlier = omega arith;
      accepted_there = record { event = h ∙ ap (λ x. Some x) is; no_fault = fine };
      stood = stands_on g s events j q j (λ k low high. absurd (omega arith)) now;
      since = since ∙ sym (next.since q is);
      passed = omega (arith, since, next.later);
    }

pub sound : (g : Group) (members : List Member) (events : List Event) (j : ℕ) → j ≤ length events → Sound g (opening members) events j
sound g members events zero within = record { all_joined = λ n i. absurd i; upheld = λ q i. absurd i }
sound g members events (suc j) within =
    let so_far = sound g members events j (omega arith) in
    let e = event_at events j (omega arith) in
    let next = step_at g (opening members) events j e.0 e.1 so_far in
    let here : Sound g (opening members) events (j + 1) =
    record {
      all_joined = next.all_joined;
      upheld = λ q i. let k = next.kept q i in upheld-next g (opening members) events j e.0 q e.1 so_far next k.0 k.1;
    } in
    let more : j + 1 ≡ suc j = omega arith in
    subst (Sound g (opening members) events) more here

departs : (g : Group) (s : State) (events : List Event) (j m : ℕ) (e : Event) → slice_get events j ≡ Some e → Sound g s events j
    → Steps g (state_at g s events j) e (state_at g s events (j + 1)) → TakesOut g (state_at g s events j) e (state_at g s events (j + 1)) m → Departs g s events j m
departs g s events j m e at so_far next (leaves n is with fine) =
    ByNote n
    record {
      of_member = with.of_member;
      leaving = with.leaving;
      accepted = record { event = at ∙ ap (λ x. Some x) is; no_fault = fine };
    }
departs g s events j m e at so_far next (expires is q i against passed) =
    let u = so_far.upheld q i in
    ByAccusation u.place q.0
    record {
      tick = at ∙ ap (λ x. Some x) is;
      earlier = u.earlier;
      against = against;
      accepted = u.accepted_there;
      stood = u.stood;
      timeout = omega (arith, u.since, u.passed, next.later, passed);
    }

pub justified : (g : Group) (members : List Member) (events : List Event) → IsJustified g (opening members) events
justified g members events j m within removed =
    let so_far = sound g members events j (omega arith) in
    let e = event_at events j within in
    let next = step_at g (opening members) events j e.0 e.1 so_far in
    departs g (opening members) events j m e.0 e.1 so_far next (next.removed m removed.before removed.later)
