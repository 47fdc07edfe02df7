-- The turns that a link and a clock bring: in each one receive and one reading of the clock, which say what it got and how many
-- ticks it makes.
use Rattle.std.specs.Prelude.{◌≡◌, ℕ, zero, suc, ◌+◌, ◌-◌, ◌/◌, ◌≤◌, ◌<◌, min, Bool, true, false, List, [], ◌∷◌, ◌++◌, Option, Some, None, filter, length, take, drop}
use Rattle.ff_ids.specs.declared.Group.{Group}
use Rattle.ff_ids.specs.Heals.{Heal}
use Rattle.ports.specs.declared.link.LinkAnswer.{LinkAnswer}
use Rattle.ports.specs.declared.link.LinkAnswer.TheVariants as answers
use Rattle.ports.specs.Link.{next_of}
use Rattle.ports.specs.Clock.{next_reading}
use Rattle.ports.specs.MemoryClock.{NeverFalls}
use Rattle.journal.specs.declared.turn.Heard.{Heard}
use Rattle.journal.specs.declared.turn.Heard.TheVariants as heard
use Rattle.journal.specs.declared.turn.Turn.{Turn}
use Rattle.node_loop.specs.declared.turns.Pace.{Pace}
use Rattle.node_rules.specs.Nodes.{Setting}
use Rattle.node_rules.specs.Lives.{Ticks}
use Rattle.turn_rules.specs.Turns.{Act, Calls, leaving_acts, most_ticks, turn_acts}

-- how many bytes a receive has room for: one more than the longest datagram has
abbrev pub room : ℕ
room = 32769

-- what comes of an answer of the link: of a datagram as much as there is room for
abbrev pub heard_of : LinkAnswer → Heard
heard_of (answers.Got bytes) = heard.Got (take room bytes)
heard_of answers.Nothing = heard.Nothing
heard_of answers.Failed = heard.Failed

-- ---- the pace

-- With the option that nodes come together again a turn keeps no more ticks than the period has.
abbrev pub most_for : Option Heal → Group → Option ℕ
most_for None g = None
most_for (Some heal) g = Some g.period

abbrev pub pace_for : Setting → ℕ → Pace
pace_for s millis = record { millis = millis; most = most_for s.heal s.group }

-- ---- the turns

-- Since the base a tick is owed for each so many milliseconds.
abbrev pub owed : Pace → ℕ → ℕ → ℕ → ℕ
owed pace base made reading = (reading - base) / pace.millis - made

-- Where a pause is no silence, no more of them are kept at a turn than this; the others are forgotten.
abbrev pub kept_of : Option ℕ → ℕ → ℕ
kept_of None owed = owed
kept_of (Some most) owed = min most owed

-- Of those that are owed and kept a turn makes 64 at the most.
abbrev pub ticks_owed : Pace → ℕ → ℕ → ℕ → ℕ
ticks_owed pace base made reading = min most_ticks (kept_of pace.most (owed pace base made reading))

abbrev pub ticks_forgotten : Pace → ℕ → ℕ → ℕ → ℕ
ticks_forgotten pace base made reading = owed pace base made reading - kept_of pace.most (owed pace base made reading)

-- what is to come: the answers of the link; the last reading of the clock, and those to come; and how many ticks
-- were made or forgotten
pub record Outlook : Type 0 where
  pub heard : List LinkAnswer
  pub reading : ℕ
  pub readings : List ℕ
  pub made : ℕ

abbrev pub reading_of : Outlook → ℕ
reading_of o = next_reading o.reading o.readings

abbrev pub ticks_in : Pace → ℕ → Outlook → ℕ
ticks_in pace base o = ticks_owed pace base o.made (reading_of o)

abbrev pub forgotten_in : Pace → ℕ → Outlook → ℕ
forgotten_in pace base o = ticks_forgotten pace base o.made (reading_of o)

abbrev pub turn_in : Pace → ℕ → ℕ → Outlook → Turn
turn_in pace base number o = record { number = number; heard = heard_of (next_of o.heard); ticks = ticks_in pace base o }

abbrev pub after_turn : Pace → ℕ → Outlook → Outlook
after_turn pace base o =
    record {
      heard = drop 1 o.heard;
      reading = reading_of o;
      readings = drop 1 o.readings;
      made = o.made + ticks_in pace base o + forgotten_in pace base o;
    }

-- Behind a turn no more ticks were made or forgotten than the clock gives, if that was so before; and as many, unless the
-- turn made the most.
abbrev pub TicksFollowTheClock : Type 0
TicksFollowTheClock = (pace : Pace) (base : ℕ) (o : Outlook)
    → (o.made ≤ (reading_of o - base) / pace.millis → (after_turn pace base o).made ≤ (reading_of o - base) / pace.millis)
    × (ticks_in pace base o < most_ticks → (reading_of o - base) / pace.millis ≤ (after_turn pace base o).made)

-- so many turns, the first of which has this number
abbrev pub turns_from : Pace → ℕ → ℕ → ℕ → Outlook → List Act
turns_from pace base zero number o = []
turns_from pace base (suc left) number o =
    turn_acts (turn_in pace base number o) ++ turns_from pace base left (number + 1) (after_turn pace base o)

-- those turns themselves
abbrev pub turns_in : Pace → ℕ → ℕ → ℕ → Outlook → List Turn
turns_in pace base zero number o = []
turns_in pace base (suc left) number o = turn_in pace base number o ∷ turns_in pace base left (number + 1) (after_turn pace base o)

-- the turns of a life, which these answers and readings bring
abbrev pub turns_brought : Pace → ℕ → List LinkAnswer → ℕ → List ℕ → List Turn
turns_brought pace turns heard reading readings =
    let base = next_reading reading readings in
    turns_in pace base turns 1 (record { heard = heard; reading = base; readings = drop 1 readings; made = 0 })

-- The base is the first reading, and the turns are numbered from 1.
unfoldable pub life_acts : Pace → ℕ → Bool → List LinkAnswer → ℕ → List ℕ → List Act
life_acts pace turns leave heard reading readings =
    let base = next_reading reading readings in
    turns_from pace base turns 1 (record { heard = heard; reading = base; readings = drop 1 readings; made = 0 }) ++ leaving_acts leave

-- ---- how many ticks a life makes

abbrev pub is_tick : Act → Bool
is_tick (Calls Ticks) = true
is_tick other = false

abbrev pub ticks_among : List Act → ℕ
ticks_among acts = length (filter is_tick acts)

-- the reading of the last of so many turns, or the last one before them
abbrev pub reading_behind : ℕ → ℕ → List ℕ → ℕ
reading_behind zero last readings = last
reading_behind (suc turns) last readings = reading_behind turns (next_reading last readings) (drop 1 readings)

-- One for each so many milliseconds from the base to the reading of the last of so many turns.
abbrev pub ticks_due : ℕ → ℕ → ℕ → List ℕ → ℕ
ticks_due millis turns last readings = (reading_behind (suc turns) last readings - next_reading last readings) / millis

-- Where the clock never falls, a life of so many turns makes no more ticks than its readings give. It makes just as many where
-- none is forgotten and the last of its turns made fewer than the most.
abbrev pub LivesFollowTheClock : Type 0
LivesFollowTheClock = (pace : Pace) (turns : ℕ) (leave : Bool) (heard : List LinkAnswer) (last : ℕ) (readings : List ℕ) → 1 ≤ pace.millis → NeverFalls last readings
    → (ticks_among (life_acts pace turns leave heard last readings) ≤ ticks_due pace.millis turns last readings)
    × (pace.most ≡ None → ticks_among (life_acts pace (suc turns) leave heard last readings) < ticks_among (life_acts pace turns leave heard last readings) + most_ticks
    → ticks_among (life_acts pace (suc turns) leave heard last readings) ≡ ticks_due pace.millis (suc turns) last readings)
