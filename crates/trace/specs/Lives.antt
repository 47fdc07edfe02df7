-- The lives of a walk: what their steps report, and what each removal in them has for its cause.
use Rattle.std.specs.Prelude.{◌≡◌, ℕ, ◌+◌, List, [], ◌∷◌, ◌++◌, Some, Contains, flat_map, slice_get}
use Rattle.ff_ids.specs.declared.Group.{Group}
use Rattle.ff_ids.specs.Lives.{Departs, opening, reports, state_at}
use Rattle.ff_ids.specs.Steps.{Event, Report, step}
use Rattle.ff_ids.specs.Views.{State}
use Rattle.life_events.specs.declared.event.Event as reported
use Rattle.life_events.specs.declared.event.What.TheVariants as what
use Rattle.trace.specs.Answers.{Recorded, events_of}
use Rattle.trace.specs.Walk.{Walk, events_in, lives_in}

-- What the steps of a life report, one after another.
abbrev pub reported_from : Group → State → List Event → List reported.Event
reported_from g s [] = []
reported_from g s (e ∷ events) = events_of (step g s e) ++ reported_from g (step g s e).state events

abbrev pub reported_in : Recorded → List reported.Event
reported_in r = reported_from r.group (opening r.members) r.events

-- The events that a walk reports are those that the steps of its lives report, life after life.
abbrev pub AreOfLives : Walk → Type 0
AreOfLives w = events_in w ≡ flat_map reported_in (lives_in w)

-- The life reports that the member was removed at the moment: by a leaving note of it that was accepted at that place, or
-- by a tick, resting on an accusation that was accepted in this life, and stood in each state between, for the timeout.
pub record IsRemoval (r : Recorded) (moment m : ℕ) : Type 0 where
  pub place : ℕ
  pub report : Report
  pub reported : slice_get (reports r.group (opening r.members) r.events) place ≡ Some report
  pub removed : Contains report.removed m
  pub at : (state_at r.group (opening r.members) r.events (place + 1)).moment ≡ moment
  pub cause : Departs r.group (opening r.members) r.events place m

-- Each removal that a walk reports is a removal of one of its lives, and has its cause in it.
abbrev pub IsJustifiedWalk : Walk → Type 0
IsJustifiedWalk w = (moment m : ℕ) → Contains (events_in w) (record { moment = moment; what = what.Removed m }) → (r : Recorded) × Contains (lives_in w) r × IsRemoval r moment m
