-- What an accepted note rules out, in a walk.
use Rattle.std.proofs.Common.{◌≡◌, ℕ, zero, suc, ◌<◌, inl, inr, List, [], ◌∷◌, ◌++◌, length, get_or, map, take, Option, Some, None, refl, ap, sym, ◌∙◌, subst, append_assoc, arith, length-append}
use Rattle.std.specs.Prelude.{codes}
use Rattle.std.specs.List.{slice_get}
use Rattle.std.proofs.Math.Seq.{take-append_seam}
use Rattle.ff_ids.specs.declared.AccBody.{AccBody}
use Rattle.ff_ids.specs.declared.Fault.{Fault}
use Rattle.ff_ids.specs.declared.Group.{Group}
use Rattle.ff_ids.specs.declared.NoteBody.{NoteBody}
use Rattle.ff_ids.specs.Faults.{accusation_fault, note_fault}
use Rattle.ff_ids.specs.Lives.{IsAcceptedAt, IsNoteAcceptedAt, after, opening, reports, state_at}
use Rattle.ff_ids.specs.Steps.{Accuses, Event, Joins, Notes, Stepped, Ticks, step}
use Rattle.ff_ids.specs.Views.{State}
use Rattle.ff_ids.specs.Texts.{fault_text}
use Rattle.life_events.specs.declared.event.Event as reported
use Rattle.life_events.specs.declared.event.What.TheVariants as what
use Rattle.life_events.specs.declared.verdict.Verdict.TheVariants as verdicts
use Rattle.life_events.specs.Verdicts.{verdict_words}
use Rattle.life_laws.specs.Removals.{ExpiresAt, IsOlderThan}
use Rattle.life_laws.proofs.AnsweredLemmas.{none_accepted, none_expires}
use Rattle.life_laws.proofs.Lists.{In, In-append_cases, In-from_Contains, Contains-from_In, In-from_map}
use Rattle.schedule_direct.specs.declared.line.DirectLine.{DirectLine}
use Rattle.schedule_direct.specs.declared.line.DirectLine.TheVariants as lines
use Rattle.schedule_direct.specs.Grammar as grammar
use Rattle.trace.specs.Answers.{Answer, Recorded, answer, answer_in, events_of, places_at, state_of, stepped, tick_events, verdict_on, with_event, with_ticks}
use Rattle.trace.specs.Replies.{AcceptsAccusation, AcceptsNote, Expires, NoteSupersedes}
use Rattle.trace.specs.Walk.{Taken, walk_over}
use Rattle.trace.proofs.ReplyLemmas.{Extends, Later, all-answered, extends-ticks, goes-on-to, some-same}

-- ## Places in lists of events

get-at : (xs : List Event) (e : Event) (ys : List Event) → slice_get (xs ++ e ∷ ys) (length xs) ≡ Some e
get-at [] e ys = refl
get-at (x ∷ xs) e ys = get-at xs e ys

-- the event behind the first ones
at-place : (events xs : List Event) (e : Event) (ys : List Event) → events ≡ xs ++ e ∷ ys → slice_get events (length xs) ≡ Some e
at-place events xs e ys same = ap (λ (es : List Event). slice_get es (length xs)) same ∙ get-at xs e ys

-- the state before it
pub state-place : (g : Group) (s : State) (events xs ys : List Event) → events ≡ xs ++ ys → state_at g s events (length xs) ≡ after g s xs
state-place g s events xs ys same = ap (λ (es : List Event). after g s (take (length xs) es)) same ∙ ap (after g s) (take-append_seam xs ys)

-- what it reports
report-place : (g : Group) (s : State) (xs : List Event) (e : Event) (ys : List Event) → slice_get (reports g s (xs ++ e ∷ ys)) (length xs) ≡ Some (step g (after g s xs) e).report
report-place g s [] e ys = refl
report-place g s (x ∷ xs) e ys = report-place g (step g s x).state xs e ys

-- ## The verdict of acceptance

abbrev accepted : Option (List ℕ)
accepted = Some (verdict_words verdicts.Accepted)

not-accepted : (fault : Fault) → Some (verdict_on (Some fault)) ≡ accepted → ⊥
not-accepted fault same =
    let first : 114 ≡ 97 = ap (λ (text : List ℕ). get_or text 0 0) (some-same (codes "refused " ++ fault_text fault) (codes "accepted") same) in
    absurd (omega (arith, first))

no-fault : (fault : Option Fault) → Some (verdict_on fault) ≡ accepted → fault ≡ None
no-fault None same = refl
no-fault (Some fault) same = absurd (not-accepted fault same)

-- ## A life that goes on behind an accepted note

-- the same life, if it has the same number
same-life : (a b : Recorded) → Later a b → a.life ≡ b.life → Extends a b
same-life a b (inl less) same = absurd (omega (arith, less, same))
same-life a b (inr extends) same = extends

-- the note was accepted in this life, at the place behind the events of the one before it
pub record Noted (r other : Recorded) (n : NoteBody) : Type 0 where
  pub group : other.group ≡ r.group
  pub members : other.members ≡ r.members
  pub more : List Event
  pub events : other.events ≡ r.events ++ Notes n ∷ more
  pub no_fault : note_fault r.group.t (state_of r) n ≡ None

pub noted-more : (r other last : Recorded) (n : NoteBody) → Noted r other n → Extends other last → Noted r last n
noted-more r other last n a b = record {
  group = b.group ∙ a.group;
  members = b.members ∙ a.members;
  more = a.more ++ b.more;
  events = b.events ∙ ap (λ (es : List Event). es ++ b.more) a.events ∙ append_assoc r.events (Notes n ∷ a.more) b.more;
  no_fault = a.no_fault;
}

pub noted-place : (r other : Recorded) (n : NoteBody) (ys : List Event) → Noted r other n → IsNoteAcceptedAt other.group (opening other.members) (other.events ++ ys) (length r.events) n
unfolding state_of
noted-place r other n ys a =
    let same : other.events ++ ys ≡ r.events ++ Notes n ∷ (a.more ++ ys) = ap (λ (es : List Event). es ++ ys) a.events ∙ append_assoc r.events (Notes n ∷ a.more) ys in
    record {
      event = at-place (other.events ++ ys) r.events (Notes n) (a.more ++ ys) same;
      no_fault =
          ap (λ (s : State). note_fault other.group.t s n) (state-place other.group (opening other.members) (other.events ++ ys) r.events (Notes n ∷ (a.more ++ ys)) same)
          ∙ ap (λ (g : Group). note_fault g.t (after g (opening other.members) r.events) n) a.group
          ∙ ap (λ (ms : _). note_fault r.group.t (after r.group (opening ms) r.events) n) a.members
          ∙ a.no_fault;
    }

pub noted-before : (r other : Recorded) (n : NoteBody) → Noted r other n → length r.events < length other.events
noted-before r other n a = omega (arith, ap length a.events, length-append r.events (Notes n ∷ a.more))

-- in a walk: behind the line of an accepted note, a later line of the same life
pub behind-note : (ls : List (List ℕ)) (i j life : ℕ) (n : NoteBody) (u : Taken) (other : Recorded) → i < j → (note : AcceptsNote (walk_over ls) i life n) → slice_get (walk_over ls).taken j ≡ Some u → u.before ≡ Some other → other.life ≡ life → Noted note.r other n
behind-note ls i j life n u other less note at before number =
    let r = note.r in
    let brought : note.t.answer ≡ answer_in r (lines.Note n) =
    all-answered ls grammar.opening None i note.t note.at ∙ ap (λ (x : Option Recorded). answer x note.t.line) note.during ∙ ap (λ (l : DirectLine). answer_in r l) note.line in
    let recorded : note.t.answer.recorded ≡ Some (with_event r (Notes n)) = ap (λ (x : Answer). x.recorded) brought in
    let fine : note_fault r.group.t (state_of r) n ≡ None = no-fault _ (sym (ap (λ (x : Answer). x.verdict) brought) ∙ note.verdict) in
    let later = goes-on-to ls grammar.opening None i j note.t u (with_event r (Notes n)) other less note.at at recorded before in
    let extends = same-life (with_event r (Notes n)) other later (note.number ∙ sym number) in
    noted-more r (with_event r (Notes n)) other n (record { group = refl; members = refl; more = []; events = refl; no_fault = fine }) extends

-- ## No older accusation is accepted

none-accepted : (ls : List (List ℕ)) (i j life : ℕ) (n : NoteBody) (a : AccBody) → i < j → AcceptsNote (walk_over ls) i life n → IsOlderThan a n → AcceptsAccusation (walk_over ls) j life a → ⊥
unfolding state_of
none-accepted ls i j life n a less note older acc =
    let other = acc.r in
    let noted = behind-note ls i j life n acc.t other less note acc.at acc.during acc.number in
    let brought : acc.t.answer ≡ answer_in other (lines.Accuse a) =
    all-answered ls grammar.opening None j acc.t acc.at ∙ ap (λ (x : Option Recorded). answer x acc.t.line) acc.during ∙ ap (λ (l : DirectLine). answer_in other l) acc.line in
    let fine : accusation_fault other.group.t (state_of other) a ≡ None = no-fault _ (sym (ap (λ (x : Answer). x.verdict) brought) ∙ acc.verdict) in
    let s = opening other.members in
    let events = other.events ++ Accuses a ∷ [] in
    let there : IsAcceptedAt other.group s events (length other.events) a = record {
      event = get-at other.events (Accuses a) [];
      no_fault = ap (λ (x : State). accusation_fault other.group.t x a) (state-place other.group s events other.events (Accuses a ∷ []) refl) ∙ fine;
    } in
    none_accepted other.group s events (length note.r.events) (length other.events) n a (noted-before note.r other n noted) (noted-place note.r other n (Accuses a ∷ []) noted) older there

-- ## No older accusation expires

abbrev expiry : ℕ → AccBody → reported.Event
expiry moment a = record { moment = moment; what = what.Expired a }

what-of : (e f : reported.Event) → e ≡ f → e.what ≡ f.what
what-of e f same = ap (λ (x : reported.Event). x.what) same

-- the step reports the accusation as expired
record StepExpires (st : Stepped) (moment : ℕ) (a : AccBody) : Type 0 where
  expired : In st.report.expired a
  at : st.state.moment ≡ moment

step-expires : (st : Stepped) (moment : ℕ) (a : AccBody) → In (events_of st) (expiry moment a) → StepExpires st moment a
step-expires st moment a i =
    elim (In-append_cases _ (map (λ (b : AccBody). record { moment = st.state.moment; what = what.Fell b }) st.report.fell) (expiry moment a) i) [
      | inr fell ↦
          let x = In-from_map (λ (b : AccBody). record { moment = st.state.moment; what = what.Fell b }) st.report.fell (expiry moment a) fell in
          let same : what.Fell x.0 ≡ what.Expired a = ap (λ (e : reported.Event). e.what) x.1.1 in
          absurd cc
      | inl others ↦
          elim (In-append_cases _ (map (λ (k : ℕ). record { moment = st.state.moment; what = what.Entered k }) st.report.entered) (expiry moment a) others) [
            | inr entered ↦
                let x = In-from_map (λ (k : ℕ). record { moment = st.state.moment; what = what.Entered k }) st.report.entered (expiry moment a) entered in
                let same : what.Entered x.0 ≡ what.Expired a = ap (λ (e : reported.Event). e.what) x.1.1 in
                absurd cc
            | inl first ↦
                elim (In-append_cases (map (λ (b : AccBody). record { moment = st.state.moment; what = what.Expired b }) st.report.expired) (map (λ (k : ℕ). record { moment = st.state.moment; what = what.Removed k }) st.report.removed) (expiry moment a) first) [
                  | inr removed ↦
                      let x = In-from_map (λ (k : ℕ). record { moment = st.state.moment; what = what.Removed k }) st.report.removed (expiry moment a) removed in
                      let same : what.Removed x.0 ≡ what.Expired a = ap (λ (e : reported.Event). e.what) x.1.1 in
                      absurd cc
                  | inl expired ↦
                      let x = In-from_map (λ (b : AccBody). record { moment = st.state.moment; what = what.Expired b }) st.report.expired (expiry moment a) expired in
                      let same : what.Expired x.0 ≡ what.Expired a = ap (λ (e : reported.Event). e.what) x.1.1 in
                      let b : x.0 ≡ a = cc in
                      record { expired = subst (In st.report.expired) b x.1.0; at = ap (λ (e : reported.Event). e.moment) x.1.1 }
                ]
          ]
    ]

-- under a line of the life, some step of the life as it stands after so many ticks reports the accusation as expired
pub record LineExpires (r : Recorded) (moment : ℕ) (a : AccBody) : Type 0 where
  pub ticks : ℕ
  pub event : Event
  pub expired : In (stepped (with_ticks ticks r) event).report.expired a
  pub at : (stepped (with_ticks ticks r) event).state.moment ≡ moment

one-expires : (r : Recorded) (e : Event) (moment : ℕ) (a : AccBody) → In (events_of (stepped r e)) (expiry moment a) → LineExpires r moment a
one-expires r e moment a i =
    let x = step-expires (stepped r e) moment a i in
    record { ticks = 0; event = e; expired = x.expired; at = x.at }

ticks-expire : (n : ℕ) (r : Recorded) (moment : ℕ) (a : AccBody) → In (tick_events n r) (expiry moment a) → LineExpires r moment a
ticks-expire zero r moment a i = absurd i
ticks-expire (suc n) r moment a i =
    elim (In-append_cases (tick_events n r) (events_of (stepped (with_ticks n r) Ticks)) (expiry moment a) i) [
      | inl before ↦ ticks-expire n r moment a before
      | inr last ↦
          let x = step-expires (stepped (with_ticks n r) Ticks) moment a last in
          record { ticks = n; event = Ticks; expired = x.expired; at = x.at }
    ]

line-expires : (r : Recorded) (line : DirectLine) (moment : ℕ) (a : AccBody) → In (answer_in r line).events (expiry moment a) → LineExpires r moment a
line-expires r lines.Header moment a i = absurd i
line-expires r (lines.Group t timeout) moment a i = absurd i
line-expires r (lines.Member m places) moment a i = one-expires r (Joins m (places_at places)) moment a i
line-expires r (lines.Note note) moment a i = one-expires r (Notes note) moment a i
line-expires r (lines.Accuse b) moment a i = one-expires r (Accuses b) moment a i
line-expires r (lines.Tick n) moment a i = ticks-expire n r moment a i
line-expires r lines.View moment a i = absurd i
line-expires r (lines.Monitor ring m) moment a i = absurd i
line-expires r lines.Life moment a i = absurd i
line-expires r lines.End moment a i = absurd i

-- the line at this place of a walk
pub expires-there : (ls : List (List ℕ)) (j life moment : ℕ) (a : AccBody) → (e : Expires (walk_over ls) j life moment a) → LineExpires e.r moment a
expires-there ls j life moment a e =
    let brought : e.t.answer ≡ answer_in e.r e.t.line = all-answered ls grammar.opening None j e.t e.at ∙ ap (λ (x : Option Recorded). answer x e.t.line) e.during in
    let i = In-from_Contains e.t.answer.events (expiry moment a) e.reported in
    line-expires e.r e.t.line moment a (subst (λ (x : Answer). In x.events (expiry moment a)) brought i)

none-expires : (ls : List (List ℕ)) (i j life moment : ℕ) (n : NoteBody) (a : AccBody) → i < j → AcceptsNote (walk_over ls) i life n → IsOlderThan a n → Expires (walk_over ls) j life moment a → ⊥
unfolding state_of
none-expires ls i j life moment n a less note older e =
    let there = expires-there ls j life moment a e in
    let last = with_ticks there.ticks e.r in
    let noted = noted-more note.r e.r last n (behind-note ls i j life n e.t e.r less note e.at e.during e.number) (extends-ticks there.ticks e.r) in
    let s = opening last.members in
    let events = last.events ++ there.event ∷ [] in
    let at : ExpiresAt last.group s events (length last.events) a = record {
      report = (step last.group (after last.group s last.events) there.event).report;
      reported = report-place last.group s last.events there.event [];
      expired = Contains-from_In _ a there.expired;
    } in
    none_expires last.group s events (length note.r.events) (length last.events) n a (noted-before note.r last n noted) (noted-place note.r last n (there.event ∷ []) noted) older at

-- behind an accepted note no older accusation is accepted, or expires
pub rule-out : (ls : List (List ℕ)) → NoteSupersedes (walk_over ls)
rule-out ls life moment i j n a less note older = (none-accepted ls i j life n a less note older, none-expires ls i j life moment n a less note older)
