-- The events of a walk are those of its lives.
use Rattle.std.proofs.Common.{◌≡◌, ℕ, zero, suc, List, [], ◌∷◌, ◌++◌, Option, Some, None, Result, Ok, Err, refl, ap, sym, ◌∙◌, append_assoc}
use Rattle.std.specs.Prelude.{option_to_list, flat_map}
use Rattle.std.proofs.lemmas.List.{append-nil}
use Rattle.std.proofs.lemmas.Grind.{flat_map-append}
use Rattle.ff_ids.specs.declared.Group.{Group}
use Rattle.ff_ids.specs.Lives.{after, opening}
use Rattle.ff_ids.specs.Steps.{Accuses, Event, Joins, Notes, Ticks, step}
use Rattle.ff_ids.specs.Views.{State}
use Rattle.life_events.specs.declared.event.Event as reported
use Rattle.line_text.specs.declared.bad_word.BadWord.{BadWord}
use Rattle.schedule_direct.specs.declared.line.DirectLine.{DirectLine}
use Rattle.schedule_direct.specs.declared.line.DirectLine.TheVariants as lines
use Rattle.line_text.specs.Answers.{Progress}
use Rattle.schedule_direct.specs.declared.direct.Direct.{Direct}
use Rattle.schedule_direct.specs.Grammar as grammar
use Rattle.trace.specs.Answers.{Recorded, answer, events_of, places_at, state_of, stepped, tick_events, with_event, with_ticks}
use Rattle.trace.specs.Lives.{AreOfLives, reported_from, reported_in}
use Rattle.trace.specs.Walk.{Taken, Walk, events_in, from_line, left_behind, lives_in, walk, walk_over}

-- what one more event reports comes last
reported-push : (g : Group) (s : State) (events : List Event) (e : Event) → reported_from g s (events ++ e ∷ []) ≡ reported_from g s events ++ events_of (step g (after g s events) e)
reported-push g s [] e = append-nil (events_of (step g s e))
reported-push g s (x ∷ events) e =
    ap (λ (later : List reported.Event). events_of (step g s x) ++ later) (reported-push g (step g s x).state events e)
    ∙ sym (append_assoc (events_of (step g s x)) (reported_from g (step g s x).state events) (events_of (step g (after g (step g s x).state events) e)))

pub reported-with_event : (r : Recorded) (e : Event) → reported_in (with_event r e) ≡ reported_in r ++ events_of (stepped r e)
unfolding state_of
reported-with_event r e = reported-push r.group (opening r.members) r.events e

pub reported-with_ticks : (n : ℕ) (r : Recorded) → reported_in (with_ticks n r) ≡ reported_in r ++ tick_events n r
reported-with_ticks zero r = sym (append-nil (reported_in r))
reported-with_ticks (suc n) r =
    reported-with_event (with_ticks n r) Ticks
    ∙ ap (λ (before : List reported.Event). before ++ events_of (stepped (with_ticks n r) Ticks)) (reported-with_ticks n r)
    ∙ append_assoc (reported_in r) (tick_events n r) (events_of (stepped (with_ticks n r) Ticks))

-- what the life that is being recorded has reported
abbrev pub so_far : Option Recorded → List reported.Event
so_far recorded = flat_map reported_in (option_to_list recorded)

more-reported : (r later : Recorded) (events : List reported.Event) → reported_in later ≡ reported_in r ++ events → so_far (Some r) ++ events ≡ so_far (Some later)
more-reported r later events same = ap (λ (x : List reported.Event). x ++ events) (append-nil (reported_in r)) ∙ sym same ∙ sym (append-nil (reported_in later))

one-event : (r : Recorded) (e : Event) → so_far (Some r) ++ events_of (stepped r e) ≡ so_far (Some (with_event r e))
one-event r e = more-reported r (with_event r e) (events_of (stepped r e)) (reported-with_event r e)

-- what a line brings is reported by the life that it leaves behind, or by the one that is recorded after it
answered : (recorded : Option Recorded) (line : DirectLine) → so_far recorded ++ (answer recorded line).events ≡ flat_map reported_in (left_behind recorded line) ++ so_far (answer recorded line).recorded
answered None lines.Header = refl
answered None (lines.Group t timeout) = refl
answered None (lines.Member m places) = refl
answered None (lines.Note note) = refl
answered None (lines.Accuse a) = refl
answered None (lines.Tick n) = refl
answered None lines.View = refl
answered None (lines.Monitor ring m) = refl
answered None lines.Life = refl
answered None lines.End = refl
answered (Some r) lines.Header = append-nil (so_far (Some r))
answered (Some r) (lines.Group t timeout) = append-nil (so_far (Some r))
answered (Some r) (lines.Member m places) = one-event r (Joins m (places_at places))
answered (Some r) (lines.Note note) = one-event r (Notes note)
answered (Some r) (lines.Accuse a) = one-event r (Accuses a)
answered (Some r) (lines.Tick n) = more-reported r (with_ticks n r) (tick_events n r) (reported-with_ticks n r)
answered (Some r) lines.View = append-nil (so_far (Some r))
answered (Some r) (lines.Monitor ring m) = append-nil (so_far (Some r))
answered (Some r) lines.Life = refl
answered (Some r) lines.End = append-nil (so_far (Some r))

of-onto : (recorded : Option Recorded) (bytes : List ℕ) (line : DirectLine) (w : Walk)
    → so_far (answer recorded line).recorded ++ events_in w ≡ flat_map reported_in (lives_in w)
    → so_far recorded ++ events_in (from_line recorded bytes (Ok line) (λ l. w)) ≡ flat_map reported_in (lives_in (from_line recorded bytes (Ok line) (λ l. w)))
of-onto recorded bytes line w rest =
    let a = answer recorded line in
    let left = left_behind recorded line in
    let ended = flat_map (λ (t : Taken). left_behind t.before t.line) w.taken in
    sym (append_assoc (so_far recorded) a.events (events_in w))
    ∙ ap (λ (x : List reported.Event). x ++ events_in w) (answered recorded line)
    ∙ append_assoc (flat_map reported_in left) (so_far a.recorded) (events_in w)
    ∙ ap (λ (x : List reported.Event). flat_map reported_in left ++ x) rest
    ∙ sym (flat_map-append reported_in left (lives_in w))
    ∙ ap (λ (x : List Recorded). flat_map reported_in x) (sym (append_assoc left ended (option_to_list w.recorded)))

of-judged : (recorded : Option Recorded) (bytes : List ℕ) (judged : Result DirectLine BadWord) (rest : DirectLine → Walk)
    → ((l : DirectLine) → so_far (answer recorded l).recorded ++ events_in (rest l) ≡ flat_map reported_in (lives_in (rest l)))
    → so_far recorded ++ events_in (from_line recorded bytes judged rest) ≡ flat_map reported_in (lives_in (from_line recorded bytes judged rest))
of-judged recorded bytes (Ok line) rest h = of-onto recorded bytes line (rest line) (h line)
of-judged recorded bytes (Err w) rest h = append-nil (so_far recorded)

of-lives : (lines : List (List ℕ)) (p : Progress Direct) (recorded : Option Recorded) → so_far recorded ++ events_in (walk lines p recorded) ≡ flat_map reported_in (lives_in (walk lines p recorded))
of-lives [] p recorded = append-nil (so_far recorded)
of-lives (bytes ∷ lines) p recorded =
    of-judged recorded bytes (grammar.judge p bytes) (λ l. walk lines (grammar.behind p l) (answer recorded l).recorded)
    (λ l. of-lives lines (grammar.behind p l) (answer recorded l).recorded)

-- the events of a walk are those of its lives
pub are-of-lives : (lines : List (List ℕ)) → AreOfLives (walk_over lines)
are-of-lives lines = of-lives lines grammar.opening None
