-- Behind an accepted note, what it answers expires only where it was accepted again.
use Rattle.std.proofs.Common.{◌≡◌, ℕ, zero, suc, ◌+◌, ◌<◌, ◌≤◌, ◌⊎◌, inl, inr, false, List, [], ◌∷◌, ◌++◌, length, take, Some, refl, ap, sym, ◌∙◌, subst, append_assoc, arith, length-append}
use Rattle.std.specs.List.{slice_get}
use Rattle.std.proofs.lemmas.List.{append-nil, take-append-le}
use Rattle.std.proofs.lemmas.Option.{slice_get_within}
use Rattle.ff_ids.specs.declared.AccBody.{AccBody}
use Rattle.ff_ids.specs.declared.NoteBody.{NoteBody}
use Rattle.ff_ids.specs.Faults.{accusation_fault}
use Rattle.ff_ids.specs.Lives.{IsAcceptedAt, after, opening, state_at}
use Rattle.ff_ids.specs.Steps.{Accuses, Event, Ticks}
use Rattle.ff_ids.specs.Views.{State, is_unanswered_by}
use Rattle.life_laws.proofs.JustifiedLemmas.{Upheld, sound}
use Rattle.life_laws.proofs.Lists.{In}
use Rattle.life_laws.proofs.SinceLemmas.{accepted-behind, due-at, due-by}
use Rattle.trace.specs.Answers.{Recorded, state_of, stepped, with_event, with_ticks}
use Rattle.trace.specs.Replies.{AcceptedSince, NoteRevokes}
use Rattle.trace.specs.Walk.{walk_over}
use Rattle.trace.proofs.AnswerLemmas.{Noted, behind-note, expires-there, noted-before, noted-more, noted-place, state-place}
use Rattle.trace.proofs.ReplyLemmas.{extends-ticks}

-- ## Ticks

ticks : ℕ → List Event
ticks zero = []
ticks (suc n) = ticks n ++ Ticks ∷ []

get-cases : (xs ys : List Event) (m : ℕ) (e : Event) → slice_get (xs ++ ys) m ≡ Some e → (slice_get xs m ≡ Some e) ⊎ ((d : ℕ) × (slice_get ys d ≡ Some e))
get-cases [] ys m e at = inr (m, at)
get-cases (x ∷ xs) ys zero e at = inl at
get-cases (x ∷ xs) ys (suc m) e at = get-cases xs ys m e at

no-accusation : (e : Event) (m : ℕ) (a : AccBody) → e ≡ Ticks → slice_get (e ∷ []) m ≡ Some (Accuses a) → ⊥
no-accusation e zero a is at = let same : Some Ticks ≡ Some (Accuses a) = ap (λ (x : Event). Some x) (sym is) ∙ at in absurd cc
no-accusation e (suc m) a is at = absurd cc

ticks-none : (n m : ℕ) (a : AccBody) → slice_get (ticks n) m ≡ Some (Accuses a) → ⊥
unfolding ticks
ticks-none zero m a at = absurd cc
ticks-none (suc n) m a at =
    elim (get-cases (ticks n) (Ticks ∷ []) m (Accuses a) at) [
      | inl before ↦ ticks-none n m a before
      | inr last ↦ no-accusation Ticks last.0 a refl last.1
    ]

-- so many ticks are events of the same life
ticks-same : (n : ℕ) (r : Recorded) → with_ticks n r ≡ record r { events = r.events ++ ticks n }
unfolding ticks
ticks-same zero r = ap (λ (es : List Event). record r { events = es }) (sym (append-nil r.events))
ticks-same (suc n) r =
    ap (λ (x : Recorded). with_event x Ticks) (ticks-same n r) ∙ ap (λ (es : List Event). record r { events = es }) (append_assoc r.events (ticks n) (Ticks ∷ []))

-- ## In a life

-- the acceptance as the life stood before the ticks of the line
since-line : (r : Recorded) (more : List Event) (event : Event) (place i moment : ℕ) (q : AccBody × ℕ) → (n : ℕ) → more ≡ ticks n → place < length (r.events ++ more) → i < place
    → IsAcceptedAt r.group (opening r.members) ((r.events ++ more) ++ event ∷ []) place q.0
    → (state_at r.group (opening r.members) ((r.events ++ more) ++ event ∷ []) (place + 1)).moment + r.group.timeout ≤ moment → AcceptedSince r i moment q.0
since-line r more event place i moment q n is within later there timeout =
    let all : slice_get (r.events ++ more) place ≡ Some (Accuses q.0) = within-front (r.events ++ more) (event ∷ []) place (Accuses q.0) within there.event in
    let first : slice_get r.events place ≡ Some (Accuses q.0) =
    elim (get-cases r.events more place (Accuses q.0) all) [
      | inl here ↦ here
      | inr tick ↦ absurd (ticks-none n tick.0 q.0 (subst (λ (es : List Event). slice_get es tick.0 ≡ Some (Accuses q.0)) is tick.1))
    ] in
    let short : place < length r.events = slice_get_within r.events place (Accuses q.0) first in
    let front : (k : ℕ) → k ≤ length r.events → take k ((r.events ++ more) ++ event ∷ []) ≡ take k r.events =
    λ k fits. ap (take k) (append_assoc r.events more (event ∷ [])) ∙ take-append-le k r.events (more ++ event ∷ []) fits in
    let s = opening r.members in
    record {
      place = place;
      later = later;
      again = record {
        event = first;
        no_fault = ap (λ (es : List Event). accusation_fault r.group.t (after r.group s es) q.0) (sym (front place (omega (arith, short)))) ∙ there.no_fault;
      };
      timeout = subst (λ (es : List Event). (after r.group s es).moment + r.group.timeout ≤ moment) (front (place + 1) (omega (arith, short))) timeout;
    }
  where
    within-front : (xs ys : List Event) (m : ℕ) (e : Event) → m < length xs → slice_get (xs ++ ys) m ≡ Some e → slice_get xs m ≡ Some e
    within-front [] ys m e less at = absurd (omega arith)
    within-front (x ∷ xs) ys zero e less at = at
    within-front (x ∷ xs) ys (suc m) e less at = within-front xs ys m e (omega arith) at

-- the life behind so many ticks, said with their list
since : (r : Recorded) (note : Recorded) (n : NoteBody) (a : AccBody) (moment k : ℕ) (event : Event) → (last : Recorded) → last ≡ record r { events = r.events ++ ticks k } → Noted note last n
    → a.accused ≡ n.member → is_unanswered_by a n ≡ false → In (stepped last event).report.expired a → (stepped last event).state.moment ≡ moment → AcceptedSince r (length note.events) moment a
unfolding state_of
since r note n a moment k event last is noted_last about answered expired_last at_last =
    let made : Recorded = record r { events = r.events ++ ticks k } in
    let noted : Noted note made n = subst (λ (x : Recorded). Noted note x n) is noted_last in
    let expired : In (stepped made event).report.expired a = subst (λ (x : Recorded). In (stepped x event).report.expired a) is expired_last in
    let at : (stepped made event).state.moment ≡ moment = subst (λ (x : Recorded). (stepped x event).state.moment ≡ moment) is at_last in
    let g = r.group in
    let s = opening r.members in
    let all = (r.events ++ ticks k) ++ event ∷ [] in
    let j = length (r.events ++ ticks k) in
    let i = length note.events in
    let before : i < j = noted-before note made n noted in
    let here : state_at g s all j ≡ after g s (r.events ++ ticks k) = state-place g s all (r.events ++ ticks k) (event ∷ []) refl in
    let d = due-at g (after g s (r.events ++ ticks k)) event a expired in
    let fits : j ≤ length all = omega (arith, length-append (r.events ++ ticks k) (event ∷ [])) in
    let u : Upheld g s all j d.kept = (sound g r.members all j fits).upheld d.kept (rw here d.among) in
    let place_note = noted-place note made n (event ∷ []) noted in
    let later = accepted-behind g s all i j n d.kept before place_note (ap (λ (x : AccBody). x.accused) d.same ∙ about) (ap (λ (x : AccBody). is_unanswered_by x n) d.same ∙ answered) u in
    let moment_here : (state_at g s all j).moment ≡ (after g s (r.events ++ ticks k)).moment = ap (λ (x : State). x.moment) here in
    let passed : d.kept.1 + g.timeout ≤ moment = due-by d.kept.1 g.timeout _ moment _ _ d.due at u.passed moment_here d.rising in
    subst (AcceptedSince r i moment) d.same
    (since-line r (ticks k) event u.place i moment d.kept k refl u.earlier later u.accepted_there (omega (arith, u.since, passed)))

-- an accepted note ends the acceptance of what it answers
pub ends-acceptance : (ls : List (List ℕ)) → NoteRevokes (walk_over ls)
ends-acceptance ls i j life moment n a less note about answered e =
    let there = expires-there ls j life moment a e in
    let last = with_ticks there.ticks e.r in
    let noted = noted-more note.r e.r last n (behind-note ls i j life n e.t e.r less note e.at e.during e.number) (extends-ticks there.ticks e.r) in
    since e.r note.r n a moment there.ticks there.event last (ticks-same there.ticks e.r) noted about answered there.expired there.at
