-- One line of a workload, and the place behind it.
use Rattle.std.specs.Prelude.{◌≡◌, ℕ, ◌+◌, List, [], ◌∷◌, Option, Some, None}
use Rattle.rand_core.specs.Stream.{Stream}
use Rattle.lms_ots.specs.declared.kind.OtsKind.TheVariants.{W4}
use Rattle.lms_tree.specs.declared.kind.TreeKind.TheVariants.{H10}
use Rattle.schedule_world.specs.declared.line.WorldLine.{WorldLine}
use Rattle.schedule_world.specs.declared.line.WorldLine.TheVariants as lines
use Rattle.soak_lines.specs.declared.plan.Plan.{Plan}
use Rattle.soak_lines.specs.declared.place.Head.{Head}
use Rattle.soak_lines.specs.declared.place.Head.TheVariants as head
use Rattle.soak_lines.specs.declared.place.Step.{Step}
use Rattle.soak_lines.specs.declared.place.Step.TheVariants as step
use Rattle.soak_lines.specs.declared.place.Place.{Place}
use Rattle.soak_lines.specs.declared.place.Place.TheVariants as place
use Rattle.soak_lines.specs.declared.turn.Turn.{Turn}
use Rattle.soak_lines.specs.Workload.{accusation_by, accusation_name, group_of, note_line, note_name}
use Rattle.soak_lines.specs.Places.{accusation_place, liar_place, node_place, note_place, round_place, start_place, tick_place}

-- The first of the lines that were left, or none where none was; the others are left.
abbrev pub Gives : List WorldLine → List WorldLine → Option WorldLine → Type 0
Gives before later (Some line) = before ≡ line ∷ later
Gives before later None = (before ≡ []) × (later ≡ [])

abbrev turned : WorldLine → Place → Turn
turned line place = record { line = line; place = place }

abbrev pub head_turn : Plan → Head → Turn
head_turn p head.Header = turned lines.Header (place.Head head.Group)
head_turn p head.Group = turned (lines.Group (group_of p)) (place.Head head.Kinds)
head_turn p head.Kinds = turned (lines.Kinds W4 H10 None) (node_place p 0)
head_turn p (head.Node m) = turned (lines.Node m) (node_place p (m + 1))
head_turn p (head.Liar m) = turned (lines.Liar m) (liar_place p (m + 1))
head_turn p head.Begin = turned lines.Begin (start_place p 0)
head_turn p (head.Start m) = turned (lines.Start m) (start_place p (m + 1))

-- the turn, and what is left of the words
abbrev pub round_turn : Plan → ℕ → Step → Stream → Turn × Stream
round_turn p round (step.SignNote m) words = (turned (note_line round m) (place.Round round (step.GiveNote m)), words)
round_turn p round (step.GiveNote m) words = (turned (lines.GiveAll (note_name m)) (note_place p round (m + 1)), words)
round_turn p round (step.Tick m) words = (turned (lines.Tick m 1) (tick_place p round (m + 1)), words)
round_turn p round (step.SignAccusation m) words =
    (turned (accusation_by p.correct m words).0 (place.Round round (step.GiveAccusation m)), (accusation_by p.correct m words).1)
round_turn p round (step.GiveAccusation m) words = (turned (lines.GiveAll (accusation_name m)) (accusation_place p round (m + 1)), words)
round_turn p round step.Flow words = (turned (lines.Flow 20000) (round_place p (round + 1)), words)

-- where there is a line
abbrev some : Turn × Stream → Option Turn × Stream
some t = (Some t.0, t.1)

abbrev pub turn_at : Plan → Place → Stream → Option Turn × Stream
turn_at p (place.Head h) words = (Some (head_turn p h), words)
turn_at p (place.Round round s) words = some (round_turn p round s words)
turn_at p place.End words = (Some (turned lines.End place.Done), words)
turn_at p place.Done words = (None, words)
