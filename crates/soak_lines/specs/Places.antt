-- The places of a workload, and the lines that are left at each.
use Rattle.std.specs.Prelude.{ℕ, ◌+◌, ◌-◌, ◌%◌, ◌==◌, ◌<◌, ◌≤◌, nat_lt, if◌then◌else◌, List, [], ◌∷◌, ◌++◌, map, None}
use Rattle.rand_core.specs.Stream.{Stream}
use Rattle.lms_ots.specs.declared.kind.OtsKind.TheVariants.{W4}
use Rattle.lms_tree.specs.declared.kind.TreeKind.TheVariants.{H10}
use Rattle.schedule_world.specs.declared.line.WorldLine.{WorldLine}
use Rattle.schedule_world.specs.declared.line.WorldLine.TheVariants as lines
use Rattle.soak_lines.specs.declared.plan.Plan.{Plan}
use Rattle.soak_lines.specs.declared.place.Head.{Head}
use Rattle.soak_lines.specs.declared.place.Head.TheVariants as head
use Rattle.soak_lines.specs.declared.place.Step.{Step}
use Rattle.soak_lines.specs.declared.place.Step.TheVariants as step
use Rattle.soak_lines.specs.declared.place.Place.{Place}
use Rattle.soak_lines.specs.declared.place.Place.TheVariants as place
use Rattle.soak_lines.specs.Workload.{accusation_name, accusations, group_of, note_name, notes, numbers, rounds_from}

-- ## Plans and places that come

-- There is a node, and no more than 32 members.
pub record IsPlan (p : Plan) : Type 0 where
  pub some : 0 < p.correct
  pub within : p.correct ≤ p.members
  pub few : p.members ≤ 32
  pub rounds_few : p.rounds ≤ 1000

abbrev pub IsLiar : Plan → ℕ → Type 0
IsLiar p m = (p.correct ≤ m) × (m < p.members)

abbrev pub IsHead : Plan → Head → Type 0
IsHead p (head.Node m) = m < p.correct
IsHead p (head.Liar m) = IsLiar p m
IsHead p (head.Start m) = m < p.correct
IsHead p _ = Unit {0}

abbrev pub IsStep : Plan → Step → Type 0
IsStep p (step.SignNote m) = IsLiar p m
IsStep p (step.GiveNote m) = IsLiar p m
IsStep p (step.Tick m) = m < p.correct
IsStep p (step.SignAccusation m) = IsLiar p m
IsStep p (step.GiveAccusation m) = IsLiar p m
IsStep p step.Flow = Unit {0}

abbrev pub IsPlace : Plan → Place → Type 0
IsPlace p (place.Head h) = IsHead p h
IsPlace p (place.Round round s) = (1 ≤ round) × (round ≤ p.rounds) × IsStep p s
IsPlace p place.End = Unit {0}
IsPlace p place.Done = Unit {0}

-- ## The lines that are left

-- from this round on
abbrev pub rounds_left : Plan → ℕ → Stream → List WorldLine
rounds_left p round words = rounds_from p round (p.rounds + 1 - round) words

-- from the flow on, behind accusations
abbrev pub flow_left : Plan → ℕ → Stream → List WorldLine
flow_left p round words = lines.Flow 20000 ∷ rounds_left p (round + 1) words

-- from the accusation by this liar on
abbrev pub accusations_left : Plan → ℕ → ℕ → Stream → List WorldLine
accusations_left p round m words =
    let made = accusations p.correct (numbers m p.members) words in
    made.0 ++ flow_left p round made.1

-- from the tick of this node on
abbrev pub ticks_left : Plan → ℕ → ℕ → Stream → List WorldLine
ticks_left p round m words = map (λ n. lines.Tick n 1) (numbers m p.correct) ++ accusations_left p round p.correct words

-- from the note of this liar on
abbrev pub notes_left : Plan → ℕ → ℕ → Stream → List WorldLine
notes_left p round m words = notes round (numbers m p.members) ++ ticks_left p round 0 words

-- from the start of this node on
abbrev pub starts_left : Plan → ℕ → Stream → List WorldLine
starts_left p m words = map lines.Start (numbers m p.correct) ++ rounds_left p 1 words

-- from this liar on
abbrev pub liars_left : Plan → ℕ → Stream → List WorldLine
liars_left p m words = map lines.Liar (numbers m p.members) ++ (lines.Begin ∷ starts_left p 0 words)

-- from this node on
abbrev pub nodes_left : Plan → ℕ → Stream → List WorldLine
nodes_left p m words = map lines.Node (numbers m p.correct) ++ liars_left p p.correct words

abbrev pub head_left : Plan → Head → Stream → List WorldLine
head_left p head.Header words = lines.Header ∷ lines.Group (group_of p) ∷ lines.Kinds W4 H10 None ∷ nodes_left p 0 words
head_left p head.Group words = lines.Group (group_of p) ∷ lines.Kinds W4 H10 None ∷ nodes_left p 0 words
head_left p head.Kinds words = lines.Kinds W4 H10 None ∷ nodes_left p 0 words
head_left p (head.Node m) words = nodes_left p m words
head_left p (head.Liar m) words = liars_left p m words
head_left p head.Begin words = lines.Begin ∷ starts_left p 0 words
head_left p (head.Start m) words = starts_left p m words

abbrev pub round_left : Plan → ℕ → Step → Stream → List WorldLine
round_left p round (step.SignNote m) words = notes_left p round m words
round_left p round (step.GiveNote m) words = lines.GiveAll (note_name m) ∷ notes_left p round (m + 1) words
round_left p round (step.Tick m) words = ticks_left p round m words
round_left p round (step.SignAccusation m) words = accusations_left p round m words
round_left p round (step.GiveAccusation m) words = lines.GiveAll (accusation_name m) ∷ accusations_left p round (m + 1) words
round_left p round step.Flow words = flow_left p round words

unfoldable pub left : Plan → Place → Stream → List WorldLine
left p (place.Head h) words = head_left p h words
left p (place.Round round s) words = round_left p round s words
left p place.End words = lines.End ∷ []
left p place.Done words = []

-- ## The place behind a line

-- Where there is no accusation, the flow comes next.
abbrev pub accusation_place : Plan → ℕ → ℕ → Place
accusation_place p round m = if nat_lt m p.members then place.Round round (step.SignAccusation m) else place.Round round step.Flow

abbrev pub tick_place : Plan → ℕ → ℕ → Place
tick_place p round m = if nat_lt m p.correct then place.Round round (step.Tick m) else accusation_place p round p.correct

abbrev pub note_place : Plan → ℕ → ℕ → Place
note_place p round m = if nat_lt m p.members then place.Round round (step.SignNote m) else tick_place p round 0

abbrev pub round_place : Plan → ℕ → Place
round_place p round =
    if nat_lt p.rounds round then place.End
    else (if round % 10 == 1 then note_place p round p.correct else tick_place p round 0)

abbrev pub start_place : Plan → ℕ → Place
start_place p m = if nat_lt m p.correct then place.Head (head.Start m) else round_place p 1

abbrev pub liar_place : Plan → ℕ → Place
liar_place p m = if nat_lt m p.members then place.Head (head.Liar m) else place.Head head.Begin

abbrev pub node_place : Plan → ℕ → Place
node_place p m = if nat_lt m p.correct then place.Head (head.Node m) else liar_place p p.correct
