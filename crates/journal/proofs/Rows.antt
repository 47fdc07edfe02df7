-- Worked rows, by computation: events as they are written and read, and the places of faults.
use Rattle.std.proofs.Common.{◌≡◌, ℕ, List, [], ◌∷◌, None, Some, Ok, Err, refl}
use Rattle.std.specs.Prelude.{Result, codes}
use Rattle.std.specs.Fmt.{digits}
use Rattle.hex.specs.Hex.{decode_pairs, encode_with}
use Rattle.ff_ids.specs.declared.Fault.TheVariants as faults
use Rattle.records.specs.declared.Body.TheVariants.{Note, Accusation}
use Rattle.journal.specs.declared.event.Event.{Event}
use Rattle.journal.specs.declared.event.What.{What}
use Rattle.journal.specs.declared.event.What.TheVariants as happened
use Rattle.journal.specs.Texts.{event_text}
use Rattle.journal.specs.Words.{whole}
use Rattle.journal.specs.Grammar.{accusation_at, body_at, event_at, fault_at, note_at, verdict_at, what_at}

abbrev read : List ℕ → Result Event ℕ
read text = whole event_at text

abbrev at_zero : What → Event
at_zero what = record { moment = 0; what = what }

-- an accusation of member 1 comes, is answered by a note, and falls
abbrev came : Event
came = at_zero (happened.Took (Accusation (record { accuser = 2; accused = 1; epoch = 1; ring = record { 0 = 0 } })) None)

abbrev answered : Event
answered = at_zero (happened.Spent 1 (Note (record { member = 1; epoch = 2; mask = record { 0 = 6 } })))

abbrev fell : Event
fell = at_zero (happened.Fell (record { accuser = 2; accused = 1; epoch = 1; ring = record { 0 = 0 } }))

abbrev refused : Event
refused = at_zero (happened.Took (Accusation (record { accuser = 2; accused = 1; epoch = 3; ring = record { 0 = 1 } })) (Some faults.RingDisabled))

abbrev sent : Event
sent = at_zero (happened.Sent 1 2 (0 ∷ 171 ∷ []))

texts : (event_text came ≡ codes "at 0 took accuse 2 1 1 0 : accepted")
    × (event_text answered ≡ codes "at 0 spent 1 note 1 2 6")
    × (event_text fell ≡ codes "at 0 fell 2 1 1 0")
    × (event_text refused ≡ codes "at 0 took accuse 2 1 3 1 : refused ring-disabled")
    × (event_text sent ≡ codes "at 0 sent 1 2 00ab")
unfolding digits encode_with
texts = (refl, refl, refl, refl, refl)

events : (read (codes "at 0 took accuse 2 1 1 0 : accepted") ≡ Ok came)
    × (read (codes "at 0 spent 1 note 1 2 6") ≡ Ok answered)
    × (read (codes "at 0 fell 2 1 1 0") ≡ Ok fell)
    × (read (codes "at 0 took accuse 2 1 3 1 : refused ring-disabled") ≡ Ok refused)
    × (read (codes "at 0 sent 1 2 00ab") ≡ Ok sent)
unfolding digits decode_pairs event_at what_at body_at note_at accusation_at verdict_at fault_at
events = (refl, refl, refl, refl, refl)

-- the place of each fault, with what follows it unread
places : (read [] ≡ Err 0)
    × (read (codes "at") ≡ Err 2)
    × (read (codes "at 05 stopped") ≡ Err 3)
    × (read (codes "at 5  stopped") ≡ Err 5)
    × (read (codes "at 5 stopped ") ≡ Err 13)
    × (read (codes "at 5 entered 1024 x") ≡ Err 13)
    × (read (codes "at 5 took note 1 1 7") ≡ Err 20)
    × (read (codes "at 5 took note 1 1 7 accepted") ≡ Err 21)
    × (read (codes "at 5 sent 1 2 AB") ≡ Err 14)
unfolding digits decode_pairs event_at what_at body_at note_at accusation_at verdict_at fault_at
places = (refl, refl, refl, refl, refl, refl, refl, refl, refl)
