-- Steps: what one event makes of a state, and what it reports.
use Rattle.std.specs.Prelude.{ℕ, ◌+◌, ◌-◌, Bool, ◌&&◌, ◌||◌, not, ◌==◌, nat_lt, nat_le, if◌then◌else◌, List, [], ◌∷◌, ◌++◌, Option, Some, None, map, filter}
use Rattle.ff_ids.specs.declared.NoteBody.{NoteBody}
use Rattle.ff_ids.specs.declared.AccBody.{AccBody}
use Rattle.ff_ids.specs.declared.Group.{Group}
use Rattle.ff_ids.specs.declared.Fault.{Fault}
use Rattle.ff_ids.specs.Views.{State, is_member, in_view, view, stands}
use Rattle.ff_ids.specs.Faults.{note_fault, accusation_fault}

-- What may happen in a life.
pub data Event : Type 0 where
  Joins : (number : ℕ) (places : List (List ℕ)) → Event
  Notes : (note : NoteBody) → Event
  Accuses : (accusation : AccBody) → Event
  Ticks : Event

-- What a step reports: the accusations that expired, the members that left the view and those that entered it,
-- and the kept accusations that fell.
pub record Report : Type 0 where
  pub expired : List AccBody
  pub removed : List ℕ
  pub entered : List ℕ
  pub fell : List AccBody

abbrev pub nothing : Report
nothing = record { expired = []; removed = []; entered = []; fell = [] }

-- A step leaves a state, and reports.
pub record Stepped : Type 0 where
  pub state : State
  pub report : Report

abbrev pub unchanged : State → Stepped
unchanged s = record { state = s; report = nothing }

-- The members of the first state's view that aren't in the second's.
abbrev pub only_before : State → State → List ℕ
only_before s other = filter (λ m. not (in_view other m)) (view s)

-- What no longer stands falls; the rest is reported by comparing the views.
abbrev pub settled : State → State → List AccBody → Stepped
settled old new expired =
    record {
      state = record new { kept = filter (λ p. stands new p.0) new.kept };
      report = record {
        expired = expired;
        removed = only_before old new;
        entered = only_before new old;
        fell = map (λ p. p.0) (filter (λ p. not (stands new p.0)) new.kept);
      };
    }

abbrev pub joined : State → ℕ → List (List ℕ) → State
joined s number places = record s { members = record { number = number; places = places } ∷ s.members }

-- A note without a fault is accepted.
abbrev pub after_note : State → NoteBody → Stepped
after_note s n = settled s (record s { notes = n ∷ s.notes }) []

-- Kept accusations are in order of the accused, then of the ring.
abbrev pub precedes : AccBody → AccBody → Bool
precedes a b = nat_lt a.accused b.accused || ((a.accused == b.accused) && nat_lt a.ring.0 b.ring.0)

abbrev pub with_kept : AccBody × ℕ → List (AccBody × ℕ) → List (AccBody × ℕ)
with_kept p [] = p ∷ []
with_kept p (q ∷ kept) = if precedes q.0 p.0 then q ∷ with_kept p kept else p ∷ q ∷ kept

-- An accusation without a fault is kept from now on.
abbrev pub after_accusation : State → AccBody → State
after_accusation s a = record s { kept = with_kept (a, s.moment) s.kept }

-- It was kept for the timeout, at this moment.
abbrev pub is_due : ℕ → ℕ → AccBody × ℕ → Bool
is_due timeout moment p = nat_le timeout (moment - p.1)

-- At a tick each kept accusation expires that was kept for the timeout, all of them together.
abbrev pub after_tick : ℕ → State → Stepped
after_tick timeout s =
    let now = s.moment + 1 in
    let due = map (λ p. p.0) (filter (is_due timeout now) s.kept) in
    settled s (record s { moment = now; expired = due ++ s.expired; kept = filter (λ p. not (is_due timeout now p)) s.kept }) due

-- A record with a fault changes nothing.
abbrev pub unless_fault : Option Fault → State → Stepped → Stepped
unless_fault (Some fault) s next = unchanged s
unless_fault None s next = next

-- One event of a life.
abbrev pub step : Group → State → Event → Stepped
step g s (Joins number places) = if is_member s number then unchanged s else unchanged (joined s number places)
step g s (Notes n) = unless_fault (note_fault g.t s n) s (after_note s n)
step g s (Accuses a) = unless_fault (accusation_fault g.t s a) s (unchanged (after_accusation s a))
step g s Ticks = after_tick g.timeout s
