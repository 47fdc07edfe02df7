-- What an event on the kept life makes of the recorded one.
use Rattle.std.proofs.Common.{◌≡◌, ◌<◌, ℕ, zero, suc, arith, Bool, true, false, cond, List, [], ◌∷◌, ◌++◌, Option, Some, None, Result, Ok, Err, refl, ap, sym, ◌∙◌, subst, append_assoc, ◌+◌, add-one}
use Rattle.std.specs.Prelude.{codes}
use Rattle.std.specs.Fmt.{decimal}
use Rattle.std.specs.Result.{OnErr, OnOk, result_err}
use Rattle.std.proofs.lemmas.Grind.{flat_map-append}
use Rattle.std.proofs.lemmas.List.{append-nil}
use Rattle.life_events.specs.declared.event.Event as reported
use Rattle.life_events.specs.Events.{event_text}
use Rattle.std.proofs.lemmas.Bool.{cond-false, cond-true}
use Rattle.ff_ids.specs.declared.AccBody.{AccBody}
use Rattle.ff_ids.specs.declared.Fault.{Fault}
use Rattle.ff_ids.specs.declared.Fault.TheVariants as faults
use Rattle.ff_ids.specs.declared.Group.{Group}
use Rattle.ff_ids.specs.Faults.{accusation_fault, join_fault}
use Rattle.ff_ids.specs.Lives.{opening}
use Rattle.ff_ids.specs.Steps.{Accuses, Event, Joins, Report, Stepped, Ticks, after_accusation, after_tick, joined, nothing, unchanged, unless_fault}
use Rattle.ff_ids.specs.Texts.{fault_text}
use Rattle.ff_ids.specs.Views.{State, is_member}
use Rattle.membership.specs.Holds.{Holds}
use Rattle.membership.specs.Life as kept
use Rattle.membership.specs.Reports.{Answers}
use Rattle.membership.specs.Ticks.{after_ticks}
use Rattle.trace.specs.Answers.{Recorded, events_at, events_of, events_text, next_life, state_of, stepped, taken, tick_events, ticked, verdict_on, verdict_on_joining, with_ticks}
use Rattle.trace.proofs.LifeLemmas.{group-with_ticks, state_of-next_life, state_of-with_event}
use Rattle.replay.specs.declared.life.Life.{Life}
use Rattle.replay.specs.Plays.{PlaysOne, Tells}

-- What a call on the kept life did: the answer is the fault of the rules, and the life and the report are those of
-- the step.
pub record IsStepped (fault : Option Fault) (step : Stepped) (answer : Result (Unit {0}) Fault) (later : kept.Life) (report : Report) : Type 0 where
  pub answered : result_err answer ≡ fault
  pub holds : Holds later step.state
  pub reported : report ≡ step.report

pub note-stepped : (fault : Option Fault) (s : State) (next : Stepped) (answer : Result (Unit {0}) Fault) (old later : kept.Life) (report : Report) → Holds old s → Answers fault answer → OnOk answer (Holds later next.state) → OnOk answer (report ≡ next.report) → OnErr answer (later ≡ old) → OnErr answer (report ≡ nothing) → IsStepped fault (unless_fault fault s next) answer later report
note-stepped None s next answer old later report holds answered ok reported same emptied =
    let P : Result (Unit {0}) Fault → Type 0 = λ r. OnOk r (Holds later next.state) in
    let Q : Result (Unit {0}) Fault → Type 0 = λ r. OnOk r (report ≡ next.report) in
    record { answered = ap result_err answered; holds = subst P answered ok; reported = subst Q answered reported }
note-stepped (Some fault) s next answer old later report holds answered ok reported same emptied =
    let P : Result (Unit {0}) Fault → Type 0 = λ r. OnErr r (later ≡ old) in
    let Q : Result (Unit {0}) Fault → Type 0 = λ r. OnErr r (report ≡ nothing) in
    record {
      answered = ap result_err answered;
      holds = subst (λ (l : kept.Life). Holds l s) (sym (subst P answered same)) holds;
      reported = subst Q answered emptied;
    }

regroup : (old colon verdict feed events : List ℕ) → (old ++ colon ++ verdict ++ feed ++ events) ≡ old ++ (colon ++ verdict ++ feed ++ events)
regroup old colon verdict feed events = simp append_assoc

-- A step on the life, and what is written for it, is the answer of the line.
pub tells-step : (life : Life) (r : Recorded) (e : Event) (verdict : List ℕ) (later : kept.Life) (report : Report) (moment : ℕ) (old new : List ℕ) → PlaysOne life r → later.group ≡ life.membership.group → Holds later (stepped r e).state → report ≡ (stepped r e).report → moment ≡ (stepped r e).state.moment → new ≡ old ++ codes " : " ++ verdict ++ 10 ∷ [] ++ events_text (events_at moment report) → Tells (taken r e verdict) (record { number = life.number; membership = later; changes = report; told = life.told }) old new
tells-step life r e verdict later report moment old new plays group holds reported at text =
    let events : events_at moment report ≡ events_of (stepped r e) =
    ap (events_at moment) reported ∙ ap (λ (m : ℕ). events_at m (stepped r e).report) at in
    record {
      plays = record {
        group = group ∙ plays.group;
        number = plays.number;
        holds = subst (Holds later) (sym (state_of-with_event r e)) holds;
      };
      text = text ∙ ap (λ es. old ++ codes " : " ++ verdict ++ 10 ∷ [] ++ events_text es) events
          ∙ regroup old (codes " : ") verdict (10 ∷ []) (events_text (events_of (stepped r e)));
    }

free : (b : Bool) (answer : Result (Unit {0}) Fault) → Answers (cond b (Some faults.AlreadyMember) None) answer → answer ≡ Ok tt → b ≡ false
free true answer answered ok = cc
free false answer answered ok = refl

known : (b : Bool) (answer : Result (Unit {0}) Fault) (fault : Fault) → Answers (cond b (Some faults.AlreadyMember) None) answer → answer ≡ Err fault → (b ≡ true) × (fault ≡ faults.AlreadyMember)
known true answer fault answered err = (refl, cc)
known false answer fault answered err = cc

-- A number joins that had not joined.
pub tells-joined : (life : Life) (r : Recorded) (m : ℕ) (places : List (List ℕ)) (answer : Result (Unit {0}) Fault) (later : kept.Life) (old new : List ℕ) → PlaysOne life r → Answers (join_fault (state_of r) m) answer → answer ≡ Ok tt → Holds later (joined (state_of r) m places) → later.group ≡ life.membership.group → new ≡ old ++ codes " : " ++ codes "joined" ++ 10 ∷ [] → Tells (taken r (Joins m places) (verdict_on_joining (is_member (state_of r) m))) (record { number = life.number; membership = later; changes = life.changes; told = life.told }) old new
tells-joined life r m places answer later old new plays answered ok holds group text =
    let s = state_of r in
    let new_one = free (is_member s m) answer answered ok in
    let is : stepped r (Joins m places) ≡ unchanged (joined s m places) = cond-false (is_member s m) (unchanged s) (unchanged (joined s m places)) new_one in
    let said : verdict_on_joining (is_member s m) ≡ codes "joined" = ap verdict_on_joining new_one in
    record {
      plays = record {
        group = group ∙ plays.group;
        number = plays.number;
        holds = subst (Holds later) (sym (state_of-with_event r (Joins m places) ∙ ap (λ (x : Stepped). x.state) is)) holds;
      };
      text = text
          ∙ sym (append-nil (old ++ codes " : " ++ codes "joined" ++ 10 ∷ []))
          ∙ regroup old (codes " : ") (codes "joined") (10 ∷ []) []
          ∙ sym (ap (λ (v : List ℕ). old ++ (codes " : " ++ v ++ 10 ∷ [] ++ events_text (events_of (stepped r (Joins m places))))) said
          ∙ ap (λ (x : Stepped). old ++ (codes " : " ++ codes "joined" ++ 10 ∷ [] ++ events_text (events_of x))) is);
    }

-- A number comes again.
pub tells-known : (life : Life) (r : Recorded) (m : ℕ) (places : List (List ℕ)) (answer : Result (Unit {0}) Fault) (fault : Fault) (later : kept.Life) (old new : List ℕ) → PlaysOne life r → Answers (join_fault (state_of r) m) answer → answer ≡ Err fault → later ≡ life.membership → new ≡ old ++ codes " : " ++ (codes "refused " ++ fault_text fault) ++ 10 ∷ [] → Tells (taken r (Joins m places) (verdict_on_joining (is_member (state_of r) m))) (record { number = life.number; membership = later; changes = life.changes; told = life.told }) old new
tells-known life r m places answer fault later old new plays answered err same text =
    let s = state_of r in
    let again = known (is_member s m) answer fault answered err in
    let is : stepped r (Joins m places) ≡ unchanged s = cond-true (is_member s m) (unchanged s) (unchanged (joined s m places)) again.0 in
    let said : verdict_on_joining (is_member s m) ≡ codes "refused " ++ fault_text fault =
    ap verdict_on_joining again.0 ∙ ap (λ (f : Fault). codes "refused " ++ fault_text f) (sym again.1) in
    record {
      plays = record {
        group = ap (λ (l : kept.Life). l.group) same ∙ plays.group;
        number = plays.number;
        holds = subst (Holds later) (sym (state_of-with_event r (Joins m places) ∙ ap (λ (x : Stepped). x.state) is)) (subst (λ (l : kept.Life). Holds l s) (sym same) plays.holds);
      };
      text = text
          ∙ sym (append-nil (old ++ codes " : " ++ (codes "refused " ++ fault_text fault) ++ 10 ∷ []))
          ∙ regroup old (codes " : ") (codes "refused " ++ fault_text fault) (10 ∷ []) []
          ∙ sym (ap (λ (v : List ℕ). old ++ (codes " : " ++ v ++ 10 ∷ [] ++ events_text (events_of (stepped r (Joins m places))))) said
          ∙ ap (λ (x : Stepped). old ++ (codes " : " ++ (codes "refused " ++ fault_text fault) ++ 10 ∷ [] ++ events_text (events_of x))) is);
    }

accused-events : (fault : Option Fault) (s later : State) → events_of (unless_fault fault s (unchanged later)) ≡ []
accused-events None s later = refl
accused-events (Some fault) s later = refl

accused-holds : (fault : Option Fault) (s next : State) (answer : Result (Unit {0}) Fault) (old later : kept.Life) → Holds old s → Answers fault answer → OnOk answer (Holds later next) → OnErr answer (later ≡ old) → (result_err answer ≡ fault) × Holds later (unless_fault fault s (unchanged next)).state
accused-holds None s next answer old later holds answered ok same =
    (ap result_err answered, subst (λ (r : Result (Unit {0}) Fault). OnOk r (Holds later next)) answered ok)
accused-holds (Some fault) s next answer old later holds answered ok same = (
  ap result_err answered,
  subst (λ (l : kept.Life). Holds l s) (sym (subst (λ (r : Result (Unit {0}) Fault). OnErr r (later ≡ old)) answered same)) holds,
)

-- An accusation comes: it reports nothing, whether it is kept or refused.
pub tells-accused : (life : Life) (r : Recorded) (a : AccBody) (answer : Result (Unit {0}) Fault) (later : kept.Life) (old new : List ℕ) → PlaysOne life r → Answers (accusation_fault r.group.t (state_of r) a) answer → OnOk answer (Holds later (after_accusation (state_of r) a)) → OnErr answer (later ≡ life.membership) → later.group ≡ life.membership.group → new ≡ old ++ codes " : " ++ verdict_on (result_err answer) ++ 10 ∷ [] → Tells (taken r (Accuses a) (verdict_on (accusation_fault r.group.t (state_of r) a))) (record { number = life.number; membership = later; changes = life.changes; told = life.told }) old new
tells-accused life r a answer later old new plays answered ok same group text =
    let s = state_of r in
    let fault = accusation_fault r.group.t s a in
    let done = accused-holds fault s (after_accusation s a) answer life.membership later plays.holds answered ok same in
    let none : events_of (stepped r (Accuses a)) ≡ [] = accused-events fault s (after_accusation s a) in
    record {
      plays = record {
        group = group ∙ plays.group;
        number = plays.number;
        holds = subst (Holds later) (sym (state_of-with_event r (Accuses a))) done.1;
      };
      text = text
          ∙ ap (λ (f : Option Fault). old ++ codes " : " ++ verdict_on f ++ 10 ∷ []) done.0
          ∙ sym (append-nil (old ++ codes " : " ++ verdict_on fault ++ 10 ∷ []))
          ∙ regroup old (codes " : ") (verdict_on fault) (10 ∷ []) []
          ∙ ap (λ es. old ++ (codes " : " ++ verdict_on fault ++ 10 ∷ [] ++ events_text es)) (sym none);
    }

-- So many ticks were run on the life, and reported behind a line feed.
pub record IsTicked (n : ℕ) (r : Recorded) (life : Life) (old new : List ℕ) : Type 0 where
  pub plays : PlaysOne life (with_ticks n r)
  pub text : new ≡ old ++ 10 ∷ [] ++ events_text (tick_events n r)

pub ticked-none : (r : Recorded) (life : Life) (old new : List ℕ) → PlaysOne life r → new ≡ old ++ 10 ∷ [] → IsTicked 0 r life old new
ticked-none r life old new plays text = record { plays = plays; text = text ∙ sym (append-nil (old ++ 10 ∷ [])) }

events_text-append : (es more : List reported.Event) → events_text (es ++ more) ≡ events_text es ++ events_text more
events_text-append es more = flat_map-append (λ e. event_text e ++ 10 ∷ []) es more

chained : (old a b c d : List ℕ) → (((old ++ a) ++ b) ++ c) ++ d ≡ old ++ (((a ++ b) ++ c) ++ d)
chained old a b c d = simp append_assoc

-- four texts of events, one behind another
pub report-text : (old one two three four : List ℕ) (a b c d : List reported.Event) → one ≡ old ++ events_text a → two ≡ one ++ events_text b → three ≡ two ++ events_text c → four ≡ three ++ events_text d → four ≡ old ++ events_text (((a ++ b) ++ c) ++ d)
report-text old one two three four a b c d first second third last =
    let all : events_text (((a ++ b) ++ c) ++ d) ≡ ((events_text a ++ events_text b) ++ events_text c) ++ events_text d =
    events_text-append ((a ++ b) ++ c) d
    ∙ ap (λ (x : List ℕ). x ++ events_text d) (events_text-append (a ++ b) c ∙ ap (λ (x : List ℕ). x ++ events_text c) (events_text-append a b)) in
    last
    ∙ ap (λ (x : List ℕ). x ++ events_text d) (third ∙ ap (λ (x : List ℕ). x ++ events_text c) (second ∙ ap (λ (x : List ℕ). x ++ events_text b) first))
    ∙ chained old (events_text a) (events_text b) (events_text c) (events_text d)
    ∙ ap (λ (x : List ℕ). old ++ x) (sym all)

pub ticked-more : (n : ℕ) (r : Recorded) (life : Life) (later : kept.Life) (report : Report) (moment : ℕ) (old mid new : List ℕ) → IsTicked n r life old mid → later.group ≡ life.membership.group → Holds later (after_tick life.membership.group.timeout (state_of (with_ticks n r))).state → report ≡ (after_tick life.membership.group.timeout (state_of (with_ticks n r))).report → ((s : State) → Holds later s → moment ≡ s.moment) → new ≡ mid ++ events_text (events_at moment report) → IsTicked (n + 1) r (record { number = life.number; membership = later; changes = report; told = life.told }) old new
ticked-more n r life later report moment old mid new before group holds reported at text =
    let now = with_ticks n r in
    let same : after_tick life.membership.group.timeout (state_of now) ≡ stepped now Ticks =
    ap (λ (g : Group). after_tick g.timeout (state_of now)) before.plays.group in
    let held : Holds later (stepped now Ticks).state = subst (λ (t : Stepped). Holds later t.state) same holds in
    let events : events_at moment report ≡ events_of (stepped now Ticks) =
    ap (events_at moment) (reported ∙ ap (λ (t : Stepped). t.report) same) ∙ ap (λ (m : ℕ). events_at m (stepped now Ticks).report) (at (stepped now Ticks).state held) in
    subst (λ (k : ℕ). IsTicked k r (record { number = life.number; membership = later; changes = report; told = life.told }) old new) (sym (add-one n))
    (record {
      plays = record {
        group = group ∙ before.plays.group;
        number = before.plays.number;
        holds = subst (Holds later) (sym (state_of-with_event now Ticks)) held;
      };
      text = text
          ∙ ap (λ es. mid ++ events_text es) events
          ∙ ap (λ (t : List ℕ). t ++ events_text (events_of (stepped now Ticks))) before.text
          ∙ append_assoc (old ++ 10 ∷ []) (events_text (tick_events n r)) (events_text (events_of (stepped now Ticks)))
          ∙ ap (λ (t : List ℕ). old ++ 10 ∷ [] ++ t) (sym (events_text-append (tick_events n r) (events_of (stepped now Ticks))));
    })

-- the recorded state after more ticks
state_of-more : (n k : ℕ) (r : Recorded) → state_of (with_ticks (n + k) r) ≡ after_ticks r.group.timeout k (state_of (with_ticks n r))
state_of-more n zero r =
    let none : n + 0 ≡ n = omega arith in
    ap (λ (m : ℕ). state_of (with_ticks m r)) none
state_of-more n (suc k) r =
    let now = with_ticks (n + k) r in
    let next : n + suc k ≡ suc (n + k) = omega arith in
    ap (λ (m : ℕ). state_of (with_ticks m r)) next
    ∙ state_of-with_event now Ticks
    ∙ ap (λ (g : Group). (after_tick g.timeout (state_of now)).state) (group-with_ticks (n + k) r).0
    ∙ ap (λ (s : State). (after_tick r.group.timeout s).state) (state_of-more n k r)

-- ticks that bring nothing
abbrev AreQuiet : ℕ → State → ℕ → Type 0
AreQuiet timeout s ticks = (n : ℕ) → n < ticks → (after_tick timeout (after_ticks timeout n s)).report ≡ nothing

tick_events-quiet : (n k : ℕ) (r : Recorded) → AreQuiet r.group.timeout (state_of (with_ticks n r)) k → tick_events (n + k) r ≡ tick_events n r
tick_events-quiet n zero r quiet =
    let none : n + 0 ≡ n = omega arith in
    ap (λ (m : ℕ). tick_events m r) none
tick_events-quiet n (suc k) r quiet =
    let now = with_ticks (n + k) r in
    let next : n + suc k ≡ suc (n + k) = omega arith in
    let silent : (stepped now Ticks).report ≡ nothing =
    ap (λ (g : Group). (after_tick g.timeout (state_of now)).report) (group-with_ticks (n + k) r).0
    ∙ ap (λ (s : State). (after_tick r.group.timeout s).report) (state_of-more n k r)
    ∙ quiet k (omega arith) in
    ap (λ (m : ℕ). tick_events m r) next
    ∙ ap (λ (t : Report). tick_events (n + k) r ++ events_at (stepped now Ticks).state.moment t) silent
    ∙ append-nil (tick_events (n + k) r)
    ∙ tick_events-quiet n k r (λ j less. quiet j (omega (arith, less)))

pub ticked-quiet : (n k : ℕ) (r : Recorded) (life : Life) (later : kept.Life) (old new : List ℕ) → IsTicked n r life old new → later.group ≡ life.membership.group → ((s : State) → Holds life.membership s → Holds later (after_ticks life.membership.group.timeout k s)) → ((s : State) → Holds life.membership s → AreQuiet life.membership.group.timeout s k) → IsTicked (n + k) r (record { number = life.number; membership = later; changes = life.changes; told = life.told }) old new
ticked-quiet n k r life later old new before group step quiet =
    let s = state_of (with_ticks n r) in
    let here = group-with_ticks n r in
    let there = group-with_ticks (n + k) r in
    let timeout : life.membership.group.timeout ≡ r.group.timeout = ap (λ (g : Group). g.timeout) (before.plays.group ∙ here.0) in
    let held : Holds later (after_ticks r.group.timeout k s) = subst (λ (t : ℕ). Holds later (after_ticks t k s)) timeout (step s before.plays.holds) in
    let silent : AreQuiet r.group.timeout s k = subst (λ (t : ℕ). AreQuiet t s k) timeout (quiet s before.plays.holds) in
    record {
      plays = record {
        group = group ∙ before.plays.group ∙ here.0 ∙ sym there.0;
        number = before.plays.number ∙ here.1 ∙ sym there.1;
        holds = subst (Holds later) (sym (state_of-more n k r)) held;
      };
      text = before.text ∙ ap (λ es. old ++ 10 ∷ [] ++ events_text es) (sym (tick_events-quiet n k r silent));
    }

pub tells-ticked : (n : ℕ) (r : Recorded) (life : Life) (old new : List ℕ) → IsTicked n r life old new → Tells (ticked n r) life old new
tells-ticked n r life old new t =
    record { plays = t.plays; text = t.text ∙ append_assoc old (10 ∷ []) (events_text (tick_events n r)) }

-- Another life begins.
pub tells-another : (life : Life) (r : Recorded) (later : kept.Life) (old new : List ℕ) → PlaysOne life r → Holds later (opening (state_of r).members) → later.group ≡ life.membership.group → new ≡ old ++ codes " : " ++ decimal (life.number + 1) ++ 10 ∷ [] → Tells (record { recorded = Some (next_life r); verdict = Some (decimal (r.life + 1)); events = [] }) (record { number = life.number + 1; membership = later; changes = life.changes; told = life.told }) old new
tells-another life r later old new plays holds group text =
    record {
      plays = record {
        group = group ∙ plays.group;
        number = ap (λ (n : ℕ). n + 1) plays.number;
        holds = subst (Holds later) (sym (state_of-next_life r)) holds;
      };
      text = text
          ∙ ap (λ (n : ℕ). old ++ codes " : " ++ decimal (n + 1) ++ 10 ∷ []) plays.number
          ∙ sym (append-nil (old ++ codes " : " ++ decimal (r.life + 1) ++ 10 ∷ []))
          ∙ regroup old (codes " : ") (decimal (r.life + 1)) (10 ∷ []) [];
    }
