-- Answers: what a line of a recorded text brings, by the rules of membership.
use Rattle.std.specs.Prelude.{ℕ, zero, suc, ◌+◌, ◌-◌, Bool, true, false, List, [], ◌∷◌, ◌++◌, Option, Some, None, map, flat_map, replicate, codes, if◌then◌else◌, take, length}
use Rattle.ff_ids.specs.declared.Fault.{Fault}
use Rattle.ff_ids.specs.declared.Fault.TheVariants as faults
use Rattle.ff_ids.specs.declared.Group.{Group}
use Rattle.ff_ids.specs.Faults.{accusation_fault, note_fault}
use Rattle.ff_ids.specs.Lives.{after, opening}
use Rattle.ff_ids.specs.Steps.{Accuses, Event, Joins, Notes, Report, Stepped, Ticks, step}
use Rattle.ff_ids.specs.Views.{Member, State, is_member, monitor, view}
use Rattle.ring_order.specs.Rows.{place_of_number}
use Rattle.life_events.specs.declared.event.Event as reported
use Rattle.life_events.specs.declared.event.What.TheVariants as what
use Rattle.life_events.specs.declared.verdict.Verdict.TheVariants as verdicts
use Rattle.life_events.specs.Events.{event_text, members_text}
use Rattle.life_events.specs.Verdicts.{verdict_words}
use Rattle.schedule_direct.specs.declared.line.DirectLine.{DirectLine}
use Rattle.schedule_direct.specs.declared.line.DirectLine.TheVariants as lines

-- A life that is being recorded: its group, its number from 1 on, who had joined as it opened, and its events so
-- far, in the order in which they came.
pub record Recorded : Type 0 where
  pub group : Group
  pub life : ℕ
  pub members : List Member
  pub events : List Event

-- The state to which its events have brought it.
unfoldable pub state_of : Recorded → State
state_of r = after r.group (opening r.members) r.events

-- What one more event does to it.
abbrev pub stepped : Recorded → Event → Stepped
stepped r e = step r.group (state_of r) e

abbrev pub with_event : Recorded → Event → Recorded
with_event r e = record r { events = r.events ++ e ∷ [] }

-- What a line brings: the life after it, a verdict if the line has one, and the events that are reported
-- under it.
pub record Answer : Type 0 where
  pub recorded : Option Recorded
  pub verdict : Option (List ℕ)
  pub events : List reported.Event

-- A text of plain numbers has no tag, and says nothing of probes.
abbrev pub plain_group : ℕ → ℕ → Group
plain_group t timeout = record { tag = replicate 16 0; t = t; timeout = timeout; period = 1; misses = 1 }

abbrev pub first_life : Group → Recorded
first_life group = record { group = group; life = 1; members = []; events = [] }

-- What is reported at a moment, in order: expired accusations, removed members, entered ones, fallen accusations.
abbrev pub events_at : ℕ → Report → List reported.Event
events_at moment r =
    map (λ a. record { moment = moment; what = what.Expired a }) r.expired
    ++ map (λ m. record { moment = moment; what = what.Removed m }) r.removed
    ++ map (λ m. record { moment = moment; what = what.Entered m }) r.entered
    ++ map (λ a. record { moment = moment; what = what.Fell a }) r.fell

-- What a step reports.
abbrev pub events_of : Stepped → List reported.Event
events_of st = events_at st.state.moment st.report

abbrev pub quiet : Option Recorded → Answer
quiet recorded = record { recorded = recorded; verdict = None; events = [] }

abbrev pub says : Recorded → List ℕ → Answer
says r verdict = record { recorded = Some r; verdict = Some verdict; events = [] }

-- The verdict on a record: accepted, or refused for its first fault.
abbrev pub verdict_on : Option Fault → List ℕ
verdict_on None = verdict_words verdicts.Accepted
verdict_on (Some fault) = verdict_words (verdicts.Refused fault)

-- The verdict on a number that joins, by whether it has joined before.
abbrev pub verdict_on_joining : Bool → List ℕ
verdict_on_joining true = verdict_words (verdicts.Refused faults.AlreadyMember)
verdict_on_joining false = verdict_words verdicts.Joined

-- Who monitors the member on the ring, where it has joined.
abbrev pub monitor_answer : State → ℕ → ℕ → List ℕ
monitor_answer s ring member =
    if is_member s member then verdict_words (verdicts.Monitor (monitor s ring member)) else verdict_words (verdicts.Refused faults.UnknownMember)

-- An event with its verdict, and what it reports.
abbrev pub taken : Recorded → Event → List ℕ → Answer
taken r e verdict = record { recorded = Some (with_event r e); verdict = Some verdict; events = events_of (stepped r e) }

-- The life after so many ticks, and what each of them reports.
abbrev pub with_ticks : ℕ → Recorded → Recorded
with_ticks zero r = r
with_ticks (suc n) r = with_event (with_ticks n r) Ticks

abbrev pub tick_events : ℕ → Recorded → List reported.Event
tick_events zero r = []
tick_events (suc n) r = tick_events n r ++ events_of (stepped (with_ticks n r) Ticks)

abbrev pub ticked : ℕ → Recorded → Answer
ticked n r = record { recorded = Some (with_ticks n r); verdict = None; events = tick_events n r }

-- A new life has the members of the one before, and nothing else of it.
abbrev pub next_life : Recorded → Recorded
next_life r = record { group = r.group; life = r.life + 1; members = (state_of r).members; events = [] }

abbrev pub places_at : List ℕ → List (List ℕ)
places_at numbers = map place_of_number numbers

-- What a line brings to the life that is being recorded.
abbrev pub answer_in : Recorded → DirectLine → Answer
answer_in r lines.Header = quiet (Some r)
answer_in r (lines.Group t timeout) = quiet (Some r)
answer_in r (lines.Member member places) = taken r (Joins member (places_at places)) (verdict_on_joining (is_member (state_of r) member))
answer_in r (lines.Note note) = taken r (Notes note) (verdict_on (note_fault r.group.t (state_of r) note))
answer_in r (lines.Accuse a) = taken r (Accuses a) (verdict_on (accusation_fault r.group.t (state_of r) a))
answer_in r (lines.Tick n) = ticked n r
answer_in r lines.View = says r (members_text (view (state_of r)))
answer_in r (lines.Monitor ring member) = says r (monitor_answer (state_of r) ring.0 member)
answer_in r lines.Life = record { recorded = Some (next_life r); verdict = Some (verdict_words (verdicts.Life (r.life + 1))); events = [] }
answer_in r lines.End = quiet (Some r)

-- What a line brings: the line of the group begins the first life.
abbrev pub answer : Option Recorded → DirectLine → Answer
answer (Some r) line = answer_in r line
answer None (lines.Group t timeout) = quiet (Some (first_life (plain_group t timeout)))
answer None _ = quiet None

abbrev pub verdict_text : Option (List ℕ) → List ℕ
verdict_text None = []
verdict_text (Some verdict) = codes " : " ++ verdict

-- A line for each event.
abbrev pub events_text : List reported.Event → List ℕ
events_text events = flat_map (λ e. event_text e ++ 10 ∷ []) events

-- What is written behind the text of a line: its verdict, and a line for each event.
abbrev pub answer_text : Answer → List ℕ
answer_text answer = verdict_text answer.verdict ++ 10 ∷ [] ++ events_text answer.events

-- What is written for a line.
abbrev pub told : List ℕ → Answer → List ℕ
told line answer = take (length line - 1) line ++ answer_text answer
