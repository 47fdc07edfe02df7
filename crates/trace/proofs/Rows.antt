-- Worked texts, by computation: a member is accused, and removed at the timeout; another leaves by a note.
use Rattle.std.proofs.Common.{◌≡◌, ℕ, List, [], ◌∷◌, ◌++◌, length, map, drop, Option, Some, None, refl, lit<}
use Rattle.std.specs.Prelude.{codes}
use Rattle.ff_ids.specs.declared.AccBody.{AccBody}
use Rattle.ff_ids.specs.declared.Fault.TheVariants as faults
use Rattle.ff_ids.specs.Views.{all_numbers, in_view_by}
use Rattle.life_events.specs.declared.event.Event as reported
use Rattle.life_events.specs.declared.event.What.{What}
use Rattle.life_events.specs.declared.event.What.TheVariants as what
use Rattle.life_events.specs.declared.verdict.Verdict.{Verdict}
use Rattle.life_events.specs.declared.verdict.Verdict.TheVariants as verdicts
use Rattle.life_events.specs.Events.{members_text}
use Rattle.life_events.specs.Verdicts.{verdict_words}
use Rattle.line_text.specs.Frame.{judge}
use Rattle.trace.specs.Answers.{state_of}
use Rattle.trace.specs.Replies.{AcceptsAccusation, AcceptsNote, Expires}
use Rattle.trace.specs.Walk.{events_in, lives_in, replayed, walk_over}

abbrev schedule : List (List ℕ)
schedule =
    (codes "fireflies 1 direct" ++ 10 ∷ [])
    ∷ (codes "group 1 1" ++ 10 ∷ [])
    ∷ (codes "member 1 10 10 10" ++ 10 ∷ [])
    ∷ (codes "member 2 20 20 20" ++ 10 ∷ [])
    ∷ (codes "note 1 1 7" ++ 10 ∷ [])
    ∷ (codes "note 2 1 7" ++ 10 ∷ [])
    ∷ (codes "accuse 1 2 1 0" ++ 10 ∷ [])
    ∷ (codes "tick 1" ++ 10 ∷ [])
    ∷ (codes "end" ++ 10 ∷ [])
    ∷ []

-- the events of its only life: at the tick the accusation expires, and the accused is removed
removed : events_in (walk_over schedule) ≡ record { moment = 0; what = what.Entered 1 } ∷ record { moment = 0; what = what.Entered 2 } ∷ record { moment = 1; what = what.Expired (record { accuser = 1; accused = 2; epoch = 1; ring = record { 0 = 0 } }) } ∷ record { moment = 1; what = what.Removed 2 } ∷ []
unfolding all_numbers in_view_by state_of judge
removed = refl

one_life : length (lives_in (walk_over schedule)) ≡ 1
unfolding all_numbers in_view_by state_of judge
one_life = refl

taken_whole : (replayed schedule).cause ≡ None
unfolding all_numbers in_view_by state_of judge
taken_whole = refl

-- the note of the member is accepted, and then the accusation, which expires under the tick
note_accepted : AcceptsNote (walk_over schedule) 5 1 (record { member = 2; epoch = 1; mask = record { 0 = 7 } })
unfolding all_numbers in_view_by state_of judge
note_accepted = record { t = _; r = _; at = refl; during = refl; number = refl; line = refl; verdict = refl }

abbrev accusation : AccBody
accusation = record { accuser = 1; accused = 2; epoch = 1; ring = record { 0 = 0 } }

accusation_accepted : AcceptsAccusation (walk_over schedule) 6 1 accusation
unfolding all_numbers in_view_by state_of judge
accusation_accepted = record { t = _; r = _; at = refl; during = refl; number = refl; line = refl; verdict = refl }

accusation_expires : Expires (walk_over schedule) 7 1 1 accusation
unfolding all_numbers in_view_by state_of judge
accusation_expires = record { t = _; r = _; at = refl; during = refl; number = refl; reported = (0, lit< tt, refl) }

-- ## A member that leaves

abbrev line : List ℕ → List ℕ
line text = text ++ 10 ∷ []

abbrev base : List (List ℕ)
base =
    line (codes "fireflies 1 direct") ∷ line (codes "group 1 3")
    ∷ line (codes "member 1 10 10 10") ∷ line (codes "member 2 20 20 20") ∷ line (codes "member 3 30 30 30")
    ∷ line (codes "note 1 1 7") ∷ line (codes "note 2 1 7") ∷ line (codes "note 3 1 7") ∷ []

-- what the lines behind these say and report
abbrev behind_base : List (List ℕ) → List (Option (List ℕ) × List reported.Event)
behind_base lines = map (λ t. (t.answer.verdict, t.answer.events)) (drop 8 (walk_over (base ++ lines)).taken)

abbrev leaving : List (List ℕ)
leaving =
    line (codes "accuse 1 2 1 0") ∷ line (codes "note 1 2 0") ∷ line (codes "view") ∷ line (codes "monitor 0 2")
    ∷ line (codes "accuse 3 1 2 0") ∷ line (codes "note 1 3 7") ∷ line (codes "view") ∷ []

abbrev says : Verdict → Option (List ℕ) × List reported.Event
says verdict = (Some (verdict_words verdict), [])

-- accepted at moment 0, and these are reported
abbrev tells : List What → Option (List ℕ) × List reported.Event
tells events = (Some (verdict_words verdicts.Accepted), map (λ w. record { moment = 0; what = w }) events)

-- its own accusation falls, another monitors in its place, and it returns by a greater note
leaves : behind_base leaving
    ≡ says verdicts.Accepted
    ∷ tells (what.Removed 1 ∷ what.Fell accusation ∷ [])
    ∷ (Some (members_text (2 ∷ 3 ∷ [])), [])
    ∷ says (verdicts.Monitor (Some 3))
    ∷ says (verdicts.Refused faults.NotInView)
    ∷ tells (what.Entered 1 ∷ [])
    ∷ (Some (members_text (1 ∷ 2 ∷ 3 ∷ [])), [])
    ∷ []
unfolding all_numbers in_view_by state_of judge
leaves = refl

-- of the newest epoch it is the lesser note
older : behind_base (line (codes "note 2 1 0") ∷ []) ≡ says (verdicts.Refused (faults.Older 1 (record { 0 = 7 }))) ∷ []
unfolding all_numbers in_view_by state_of judge
older = refl
