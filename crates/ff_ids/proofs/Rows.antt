-- The rules at work: worked lives, computed from the definitions alone.
use Rattle.std.proofs.Common.{◌≡◌, ℕ, List, [], ◌∷◌, ◌++◌, Some, None, refl, replicate}
use Rattle.ff_ids.specs.declared.AccBody.{AccBody}
use Rattle.ff_ids.specs.declared.Fault.TheVariants as faults
use Rattle.ff_ids.specs.declared.Group.{Group}
use Rattle.ff_ids.specs.declared.NoteBody.{NoteBody}
use Rattle.ff_ids.specs.Views.{State, all_numbers, in_view_by, monitor, view}
use Rattle.ff_ids.specs.Faults.{accusation_fault, note_fault}
use Rattle.ff_ids.specs.Steps.{Accuses, Event, Joins, Notes, Ticks, step}
use Rattle.ff_ids.specs.Lives.{after, opening}

-- A group of tolerance 1 whose accusations stand for three ticks.
abbrev group : Group
group = record { tag = replicate 16 0; t = 1; timeout = 3; period = 1; misses = 1 }

-- The member at the same place on each of the three rings.
abbrev at : ℕ → ℕ → Event
at number place = Joins number ((place ∷ []) ∷ (place ∷ []) ∷ (place ∷ []) ∷ [])

abbrev note : ℕ → ℕ → ℕ → NoteBody
note member epoch mask = record { member = member; epoch = epoch; mask = record { 0 = mask } }

abbrev acc : ℕ → ℕ → ℕ → ℕ → AccBody
acc accuser accused epoch ring = record { accuser = accuser; accused = accused; epoch = epoch; ring = record { 0 = ring } }

abbrev state_of : List Event → State
state_of events = after group (opening []) events

-- What the event reports after the others: expired, removed, entered, fell.
abbrev told : List Event → Event → List AccBody × List ℕ × List ℕ × List AccBody
told events e = let r = (step group (state_of events) e).report in (r.expired, r.removed, r.entered, r.fell)

abbrev nothing : List AccBody × List ℕ × List ℕ × List AccBody
nothing = ([], [], [], [])

abbrev three : List Event
three = at 1 10 ∷ at 2 20 ∷ at 3 30 ∷ Notes (note 1 1 7) ∷ Notes (note 2 1 7) ∷ Notes (note 3 1 7) ∷ []

abbrev ticks : ℕ → List Event
ticks n = replicate n Ticks

-- who monitors whom, and nobody where no other is in the view
monitors : (monitor (state_of three) 0 2 ≡ Some 1) × (monitor (state_of three) 0 1 ≡ Some 3)
unfolding all_numbers in_view_by
monitors = (refl, refl)

alone : monitor (state_of (at 1 10 ∷ Notes (note 1 1 7) ∷ [])) 0 1 ≡ None
unfolding all_numbers in_view_by
alone = refl

abbrev accused_once : List Event
accused_once = three ++ Accuses (acc 1 2 1 0) ∷ []

-- nobody goes before the timeout, and the accused goes at it
two_ticks : (told (accused_once ++ ticks 1) Ticks ≡ nothing) × (view (state_of (accused_once ++ ticks 2)) ≡ 1 ∷ 2 ∷ 3 ∷ [])
unfolding all_numbers in_view_by
two_ticks = (refl, refl)

third_tick : (told (accused_once ++ ticks 2) Ticks ≡ (acc 1 2 1 0 ∷ [], 2 ∷ [], [], [])) × (view (state_of (accused_once ++ ticks 3)) ≡ 1 ∷ 3 ∷ [])
unfolding all_numbers in_view_by
third_tick = (refl, refl)

-- a newer note rebuts
abbrev rebutted : List Event
rebutted = accused_once ++ ticks 2

rebuttal : (told rebutted (Notes (note 2 2 7)) ≡ ([], [], [], acc 1 2 1 0 ∷ [])) × (accusation_fault 1 (state_of (rebutted ++ Notes (note 2 2 7) ∷ ticks 5)) (acc 1 2 1 0) ≡ Some (faults.OtherEpoch 2))
unfolding all_numbers in_view_by
rebuttal = (refl, refl)

-- a newcomer takes the place of the monitor: the accusation falls, and accepted afresh it has a new time
abbrev newcomer : List Event
newcomer = accused_once ++ Ticks ∷ at 4 15 ∷ []

falls : told newcomer (Notes (note 4 1 7)) ≡ ([], [], 4 ∷ [], acc 1 2 1 0 ∷ [])
unfolding all_numbers in_view_by
falls = refl

abbrev afresh : List Event
afresh = newcomer ++ Notes (note 4 1 7) ∷ Accuses (acc 1 4 1 0) ∷ ticks 3 ++ Accuses (acc 1 2 1 0) ∷ []

newcomer_goes : told (newcomer ++ Notes (note 4 1 7) ∷ Accuses (acc 1 4 1 0) ∷ ticks 2) Ticks ≡ (acc 1 4 1 0 ∷ [], 4 ∷ [], [], [])
unfolding all_numbers in_view_by
newcomer_goes = refl

new_time : (told (afresh ++ ticks 1) Ticks ≡ nothing) × (told (afresh ++ ticks 2) Ticks ≡ (acc 1 2 1 0 ∷ [], 2 ∷ [], [], []))
unfolding all_numbers in_view_by
new_time = (refl, refl)

-- each fault of an accusation, before all that come after it
abbrev narrowed : List Event
narrowed = three ++ Notes (note 2 2 6) ∷ []

mask_faults : (note_fault 1 (state_of narrowed) (note 2 2 1) ≡ Some faults.BadMask) × (note_fault 1 (state_of narrowed) (note 2 3 15) ≡ Some faults.BadMask)
unfolding all_numbers in_view_by
mask_faults = (refl, refl)

accusation_faults : (accusation_fault 1 (state_of narrowed) (acc 1 2 2 0) ≡ Some faults.RingDisabled)
    × (accusation_fault 1 (state_of narrowed) (acc 3 2 2 1) ≡ Some (faults.NotMonitor (Some 1)))
    × (accusation_fault 1 (state_of narrowed) (acc 2 2 2 1) ≡ Some faults.SelfAccusation)
    × (accusation_fault 1 (state_of narrowed) (acc 1 2 2 3) ≡ Some faults.BadRing)
    × (accusation_fault 1 (state_of narrowed) (acc 9 2 1 0) ≡ Some faults.UnknownMember)
    × (accusation_fault 1 (state_of (three ++ at 4 40 ∷ [])) (acc 3 4 1 0) ≡ Some faults.NoNote)
    × (accusation_fault 1 (state_of accused_once) (acc 1 2 1 0) ≡ Some faults.Standing)
    × (accusation_fault 1 (state_of (accused_once ++ ticks 3)) (acc 1 2 1 0) ≡ Some faults.NotInView)
unfolding all_numbers in_view_by
accusation_faults = (refl, refl, refl, refl, refl, refl, refl, refl)

-- two that are due expire together, in order of the accused, and both go
together : told (three ++ Accuses (acc 1 2 1 0) ∷ Accuses (acc 3 1 1 0) ∷ ticks 2) Ticks ≡ (acc 3 1 1 0 ∷ acc 1 2 1 0 ∷ [], 1 ∷ 2 ∷ [], [], [])
unfolding all_numbers in_view_by
together = refl

-- the removal of the accuser ends its accusation
accuser_goes : told (three ++ Accuses (acc 3 1 1 0) ∷ Ticks ∷ Accuses (acc 1 2 1 0) ∷ ticks 1) Ticks ≡ (acc 3 1 1 0 ∷ [], 1 ∷ [], [], acc 1 2 1 0 ∷ [])
unfolding all_numbers in_view_by
accuser_goes = refl

-- notes of one epoch: the greater mask is the newer, in whichever order they come
abbrev without_note : List Event
without_note = at 1 10 ∷ at 2 20 ∷ at 3 30 ∷ Notes (note 1 1 7) ∷ Notes (note 3 1 7) ∷ []

either_order : (told (without_note ++ Notes (note 2 1 5) ∷ []) (Notes (note 2 1 6)) ≡ nothing)
    × (note_fault 1 (state_of (without_note ++ Notes (note 2 1 6) ∷ [])) (note 2 1 5) ≡ Some (faults.Older 1 (record { 0 = 6 })))
    × (accusation_fault 1 (state_of (without_note ++ Notes (note 2 1 5) ∷ Notes (note 2 1 6) ∷ [])) (acc 1 2 1 0) ≡ Some faults.RingDisabled)
    × (accusation_fault 1 (state_of (without_note ++ Notes (note 2 1 6) ∷ Notes (note 2 1 5) ∷ [])) (acc 1 2 1 0) ≡ Some faults.RingDisabled)
unfolding all_numbers in_view_by
either_order = (refl, refl, refl, refl)

-- members that tie on a ring are in order of number; the greatest epoch is the newest
abbrev tied : List Event
tied = at 5 50 ∷ at 6 50 ∷ at 7 60 ∷ Notes (note 5 1 7) ∷ Notes (note 6 1 7) ∷ Notes (note 7 1 7) ∷ []

ties : (monitor (state_of tied) 0 6 ≡ Some 5) × (monitor (state_of tied) 0 5 ≡ Some 7) × (monitor (state_of tied) 0 7 ≡ Some 6)
unfolding all_numbers in_view_by
ties = (refl, refl, refl)

last_epoch : (note_fault 1 (state_of (tied ++ Notes (note 5 18446744073709551615 7) ∷ [])) (note 5 18446744073709551615 7) ≡ Some faults.Known)
    × (note_fault 1 (state_of (tied ++ Notes (note 5 18446744073709551615 7) ∷ [])) (note 5 1 7) ≡ Some (faults.Older 18446744073709551615 (record { 0 = 7 })))
unfolding all_numbers in_view_by
last_epoch = (refl, refl)

-- a member leaves: it is out at once, with no accusation; what stood by it falls, and its place on the rings is free
abbrev leaving : List Event
leaving = accused_once ++ Notes (note 1 2 0) ∷ []

leaves : (told accused_once (Notes (note 1 2 0)) ≡ ([], 1 ∷ [], [], acc 1 2 1 0 ∷ [])) × (view (state_of leaving) ≡ 2 ∷ 3 ∷ []) × (monitor (state_of leaving) 0 2 ≡ Some 3)
    × (accusation_fault 1 (state_of leaving) (acc 3 1 2 0) ≡ Some faults.NotInView)
unfolding all_numbers in_view_by
leaves = (refl, refl, refl, refl)

-- an accusation of it falls as well, so none expires
accused_leaves : (told accused_once (Notes (note 2 2 0)) ≡ ([], 2 ∷ [], [], acc 1 2 1 0 ∷ [])) × (told (accused_once ++ Notes (note 2 2 0) ∷ ticks 2) Ticks ≡ nothing)
unfolding all_numbers in_view_by
accused_leaves = (refl, refl)

-- by a greater note it returns; a leaving note of the newest epoch is the lesser, and one with a mask of the same epoch the greater
returns : (told leaving (Notes (note 1 3 7)) ≡ ([], [], 1 ∷ [], [])) × (told leaving (Notes (note 1 2 7)) ≡ ([], [], 1 ∷ [], []))
    × (note_fault 1 (state_of three) (note 2 1 0) ≡ Some (faults.Older 1 (record { 0 = 7 }))) × (note_fault 1 (state_of leaving) (note 1 2 0) ≡ Some faults.Known)
unfolding all_numbers in_view_by
returns = (refl, refl, refl, refl)

-- a first note may be a leaving one, and brings nothing
first_leaves : (told without_note (Notes (note 2 1 0)) ≡ nothing) × (view (state_of (without_note ++ Notes (note 2 1 0) ∷ [])) ≡ 1 ∷ 3 ∷ [])
unfolding all_numbers in_view_by
first_leaves = (refl, refl)
