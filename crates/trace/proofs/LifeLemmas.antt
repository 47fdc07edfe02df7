-- A life after one more event, and its moment.
use Rattle.std.proofs.Common.{◌≡◌, ℕ, zero, suc, ◌+◌, Bool, true, false, cond, List, [], ◌∷◌, ◌++◌, Option, Some, None, refl, ap, ◌∙◌, arith}
use Rattle.ff_ids.specs.declared.AccBody.{AccBody}
use Rattle.ff_ids.specs.declared.Fault.{Fault}
use Rattle.ff_ids.specs.declared.Group.{Group}
use Rattle.ff_ids.specs.declared.NoteBody.{NoteBody}
use Rattle.ff_ids.specs.Faults.{accusation_fault, note_fault}
use Rattle.ff_ids.specs.Lives.{after, opening}
use Rattle.ff_ids.specs.Steps.{Accuses, Event, Joins, Notes, Stepped, Ticks, after_accusation, after_note, joined, step, unchanged, unless_fault}
use Rattle.ff_ids.specs.Views.{State, is_member}
use Rattle.trace.specs.Answers.{Recorded, next_life, state_of, stepped, with_event, with_ticks}

after-push : (g : Group) (s : State) (events : List Event) (e : Event) → after g s (events ++ e ∷ []) ≡ (step g (after g s events) e).state
after-push g s [] e = refl
after-push g s (first ∷ events) e = after-push g (step g s first).state events e

pub state_of-with_event : (r : Recorded) (e : Event) → state_of (with_event r e) ≡ (stepped r e).state
unfolding state_of
state_of-with_event r e = after-push r.group (opening r.members) r.events e

pub state_of-next_life : (r : Recorded) → state_of (next_life r) ≡ opening (state_of r).members
unfolding state_of
state_of-next_life r = refl

moment-unless : (fault : Option Fault) (s : State) (next : Stepped) → next.state.moment ≡ s.moment → (unless_fault fault s next).state.moment ≡ s.moment
moment-unless None s next e = e
moment-unless (Some fault) s next e = refl

moment-joined : (b : Bool) (s later : State) → later.moment ≡ s.moment → (cond b (unchanged s) (unchanged later)).state.moment ≡ s.moment
moment-joined true s later e = refl
moment-joined false s later e = e

pub moment-joins : (r : Recorded) (m : ℕ) (places : List (List ℕ)) → (state_of (with_event r (Joins m places))).moment ≡ (state_of r).moment
moment-joins r m places =
    let s = state_of r in
    ap (λ (x : State). x.moment) (state_of-with_event r (Joins m places)) ∙ moment-joined (is_member s m) s (joined s m places) refl

pub moment-notes : (r : Recorded) (n : NoteBody) → (state_of (with_event r (Notes n))).moment ≡ (state_of r).moment
moment-notes r n =
    let s = state_of r in
    ap (λ (x : State). x.moment) (state_of-with_event r (Notes n)) ∙ moment-unless (note_fault r.group.t s n) s (after_note s n) refl

pub moment-accuses : (r : Recorded) (a : AccBody) → (state_of (with_event r (Accuses a))).moment ≡ (state_of r).moment
moment-accuses r a =
    let s = state_of r in
    ap (λ (x : State). x.moment) (state_of-with_event r (Accuses a)) ∙ moment-unless (accusation_fault r.group.t s a) s (unchanged (after_accusation s a)) refl

pub group-with_ticks : (n : ℕ) (r : Recorded) → ((with_ticks n r).group ≡ r.group) × ((with_ticks n r).life ≡ r.life)
group-with_ticks zero r = (refl, refl)
group-with_ticks (suc n) r = group-with_ticks n r

pub moment-with_ticks : (n : ℕ) (r : Recorded) → (state_of (with_ticks n r)).moment ≡ (state_of r).moment + n
moment-with_ticks zero r = omega arith
moment-with_ticks (suc n) r =
    let before = moment-with_ticks n r in
    let one : (state_of (with_event (with_ticks n r) Ticks)).moment ≡ (state_of (with_ticks n r)).moment + 1 =
    ap (λ (x : State). x.moment) (state_of-with_event (with_ticks n r) Ticks) in
    omega (arith, before, one)
