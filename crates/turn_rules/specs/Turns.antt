-- The turns of a life: in each one receive, the turn's line, and the calls of the node that what it got and its ticks bring.
use Rattle.std.specs.Prelude.{ℕ, ◌+◌, ◌≤◌, ◌≡◌, Bool, if◌then◌else◌, List, [], ◌∷◌, ◌++◌, flat_map, replicate}
use Rattle.journal.specs.declared.turn.Heard.{Heard}
use Rattle.journal.specs.declared.turn.Heard.TheVariants as heard
use Rattle.journal.specs.declared.turn.Turn.{Turn}
use Rattle.node_rules.specs.Lives.{Input, Delivers, Ticks, Leaves}

-- the most ticks that a turn makes
abbrev pub most_ticks : ℕ
most_ticks = 64

-- ---- what a turn does

-- a receive, the line of a turn, or a call of the node
pub data Act : Type 0 where
  Receives : Act
  Writes : (turn : Turn) → Act
  Calls : (input : Input) → Act

-- what was got is delivered
abbrev pub delivery_of : Heard → List Act
delivery_of (heard.Got bytes) = Calls (Delivers bytes) ∷ []
delivery_of heard.Nothing = []
delivery_of heard.Failed = []

abbrev pub ticks_of : ℕ → List Act
ticks_of ticks = replicate ticks (Calls Ticks)

-- its line, the delivery of what was got, and the ticks
abbrev pub turn_acts : Turn → List Act
turn_acts turn = Receives ∷ Writes turn ∷ delivery_of turn.heard ++ ticks_of turn.ticks

-- a node that is to leave does so behind its last turn
abbrev pub leaving_acts : Bool → List Act
leaving_acts leave = if leave then Calls Leaves ∷ [] else []

-- what these turns do, and the node behind them that is to leave
abbrev pub acts_of : List Turn → Bool → List Act
acts_of turns leave = flat_map turn_acts turns ++ leaving_acts leave

-- The turns have the numbers from this one on, and none makes more ticks than the most.
pub record IsTurnAt (number : ℕ) (turn : Turn) : Type 0 where
  pub numbered : turn.number ≡ number
  pub few : turn.ticks ≤ most_ticks

abbrev pub AreTurns : ℕ → List Turn → Type 0
AreTurns number [] = Unit {0}
AreTurns number (turn ∷ turns) = IsTurnAt number turn × AreTurns (number + 1) turns
