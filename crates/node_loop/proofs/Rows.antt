-- Turns, worked out.
use Rattle.std.proofs.Common.{◌≡◌, ℕ, true, false, [], ◌∷◌, Some, None, refl}
use Rattle.std.specs.Prelude.{codes}
use Rattle.std.specs.Fmt.{digits}
use Rattle.ports.specs.declared.link.LinkAnswer.TheVariants as answers
use Rattle.node_rules.specs.Lives.{Delivers, Ticks, Leaves}
use Rattle.journal.specs.declared.turn.Heard.TheVariants as heard
use Rattle.journal.specs.declared.turn.Turn.{Turn}
use Rattle.journal.specs.Turns.{turn_text}
use Rattle.node_loop.specs.declared.turns.Pace.{Pace}
use Rattle.turn_rules.specs.Turns.{Receives, Writes, Calls}
use Rattle.node_loop.specs.Turns.{life_acts, ticks_owed, ticks_forgotten}

abbrev every : ℕ → Pace
every millis = record { millis = millis; most = None }

abbrev quiet : ℕ → ℕ → Turn
quiet number ticks = record { number = number; heard = heard.Nothing; ticks = ticks }

-- A tick a tenth of a second, and readings of 0, 50 and 250 milliseconds: two ticks are owed at the second turn.
two-turns : life_acts (every 100) 2 false [] 0 (0 ∷ 50 ∷ 250 ∷ [])
    ≡ Receives ∷ Writes (quiet 1 0) ∷ Receives ∷ Writes (quiet 2 2) ∷ Calls Ticks ∷ Calls Ticks ∷ []
unfolding life_acts
two-turns = refl

-- Whoever leaves does so behind the last turn.
two-turns-and-out : life_acts (every 100) 2 true [] 0 (0 ∷ 50 ∷ 250 ∷ [])
    ≡ Receives ∷ Writes (quiet 1 0) ∷ Receives ∷ Writes (quiet 2 2) ∷ Calls Ticks ∷ Calls Ticks ∷ Calls Leaves ∷ []
unfolding life_acts
two-turns-and-out = refl

-- What came is delivered before the ticks. The base is the first reading, whatever it is.
got-and-ticked : life_acts (every 10) 1 false (answers.Got (70 ∷ 70 ∷ []) ∷ []) 3 (1000 ∷ 1019 ∷ [])
    ≡ Receives ∷ Writes (record { number = 1; heard = heard.Got (70 ∷ 70 ∷ []); ticks = 1 }) ∷ Calls (Delivers (70 ∷ 70 ∷ [])) ∷ Calls Ticks ∷ []
unfolding life_acts
got-and-ticked = refl

-- Of 70 ticks a turn makes 64, and the next one the rest.
at-most-64 : ticks_owed (every 1) 0 0 70 ≡ 64
at-most-64 = refl

the-rest : ticks_owed (every 1) 0 64 70 ≡ 6
the-rest = refl

-- Behind a pause of 70 ticks, where no more than 5 are kept: 5 are made, and 65 forgotten.
abbrev resting : Pace
resting = record { millis = 1; most = Some 5 }

at-most-5 : ticks_owed resting 0 0 70 ≡ 5
at-most-5 = refl

forgotten-65 : ticks_forgotten resting 0 0 70 ≡ 65
forgotten-65 = refl

nothing : turn_text (quiet 2 2) ≡ codes "turn 2 nothing ticks 2"
unfolding digits
nothing = refl

-- An empty datagram is a dash, and one that failed is delivered as nothing.
dash : turn_text (record { number = 3; heard = heard.Got []; ticks = 0 }) ≡ codes "turn 3 got - ticks 0"
unfolding digits
dash = refl

failed-turn : life_acts (every 10) 1 false (answers.Failed ∷ []) 0 [] ≡ Receives ∷ Writes (record { number = 1; heard = heard.Failed; ticks = 0 }) ∷ []
unfolding life_acts
failed-turn = refl
