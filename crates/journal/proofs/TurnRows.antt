-- Worked lines of turns, by computation: as they are written and read, and the places of faults.
use Rattle.std.proofs.Common.{◌≡◌, ℕ, List, [], ◌∷◌, Ok, Err, refl}
use Rattle.std.specs.Prelude.{Result, codes}
use Rattle.std.specs.Fmt.{digits}
use Rattle.hex.specs.Hex.{decode_pairs, encode_with}
use Rattle.journal.specs.declared.turn.Heard.{Heard}
use Rattle.journal.specs.declared.turn.Heard.TheVariants as heard
use Rattle.journal.specs.declared.turn.Turn.{Turn}
use Rattle.journal.specs.Turns.{heard_at, turn_at, turn_text}
use Rattle.journal.specs.Words.{whole}

abbrev read : List ℕ → Result Turn ℕ
read text = whole turn_at text

abbrev turn : ℕ → Heard → ℕ → Turn
turn n h k = record { number = n; heard = h; ticks = k }

texts : (turn_text (turn 1 heard.Nothing 0) ≡ codes "turn 1 nothing ticks 0")
    × (turn_text (turn 2 heard.Failed 64) ≡ codes "turn 2 failed ticks 64")
    × (turn_text (turn 3 (heard.Got (0 ∷ 171 ∷ [])) 2) ≡ codes "turn 3 got 00ab ticks 2")
    × (turn_text (turn 3 (heard.Got []) 2) ≡ codes "turn 3 got - ticks 2")
unfolding digits encode_with
texts = (refl, refl, refl, refl)

turns : (read (codes "turn 1 nothing ticks 0") ≡ Ok (turn 1 heard.Nothing 0))
    × (read (codes "turn 2 failed ticks 64") ≡ Ok (turn 2 heard.Failed 64))
    × (read (codes "turn 3 got 00ab ticks 2") ≡ Ok (turn 3 (heard.Got (0 ∷ 171 ∷ [])) 2))
    × (read (codes "turn 3 got - ticks 2") ≡ Ok (turn 3 (heard.Got []) 2))
unfolding digits decode_pairs turn_at heard_at
turns = (refl, refl, refl, refl)

-- the place of each fault, with what follows it unread
places : (read [] ≡ Err 0)
    × (read (codes "turn") ≡ Err 4)
    × (read (codes "turns 1 nothing ticks 0") ≡ Err 0)
    × (read (codes "turn 0 nothing ticks 0") ≡ Err 5)
    × (read (codes "turn 01 nothing ticks 0") ≡ Err 5)
    × (read (codes "turn 4294967296 nothing ticks 0") ≡ Err 5)
    × (read (codes "turn 1  nothing ticks 0") ≡ Err 7)
    × (read (codes "turn 1 none ticks 0") ≡ Err 7)
    × (read (codes "turn 1 got ticks 0") ≡ Err 11)
    × (read (codes "turn 1 got AB ticks 0") ≡ Err 11)
    × (read (codes "turn 1 got 0 ticks 0") ≡ Err 11)
    × (read (codes "turn 1 nothing tick 0") ≡ Err 15)
    × (read (codes "turn 1 nothing ticks 65") ≡ Err 21)
    × (read (codes "turn 1 nothing ticks") ≡ Err 20)
    × (read (codes "turn 1 nothing ticks 0 ") ≡ Err 23)
unfolding digits decode_pairs turn_at heard_at
places = (refl, refl, refl, refl, refl, refl, refl, refl, refl, refl, refl, refl, refl, refl, refl)
