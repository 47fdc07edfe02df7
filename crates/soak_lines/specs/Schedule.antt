-- That lines are a schedule.
use Rattle.std.specs.Prelude.{◌≡◌, List, [], ◌∷◌}
use Rattle.schedule_world.specs.declared.line.WorldLine.{WorldLine}
use Rattle.schedule_world.specs.declared.text.WorldText.{WorldText}
use Rattle.schedule_world.specs.declared.text.WorldText.TheVariants as world
use Rattle.schedule_world.specs.Grammar.{InRange, Stands, after}

-- From here on the lines are the rest of a schedule: each may stand where it comes, with its numbers in range, and
-- the last is `end`.
abbrev pub IsSchedule : WorldText → List WorldLine → Type 0
IsSchedule w [] = w ≡ world.Ended
IsSchedule w (line ∷ others) = Stands w line × InRange w line × IsSchedule (after w line) others
