-- The life that is kept, and the recorded life that it stands for.
use Rattle.std.specs.Prelude.{◌≡◌, ℕ, ◌+◌, ◌<◌, ◌≤◌, List, ◌++◌, Option, Some, None, length}
use Rattle.ff_ids.specs.declared.TheConstants.{MAX_TOLERANCE, MAX_RINGS}
use Rattle.ff_ids.specs.Masks.{ring_count}
use Rattle.membership.specs.Holds.{Holds}
use Rattle.schedule_direct.specs.declared.direct.Direct.{Direct}
use Rattle.schedule_direct.specs.declared.direct.Direct.TheVariants as direct
use Rattle.schedule_direct.specs.declared.line.DirectLine.{DirectLine}
use Rattle.schedule_direct.specs.declared.line.DirectLine.TheVariants as lines
use Rattle.schedule_direct.specs.Rows.{most_ticks}
use Rattle.text_trace.specs.Lines.{text_lines}
use Rattle.trace.specs.Answers.{Answer, Recorded, answer_text, state_of}
use Rattle.replay.specs.declared.life.Life.{Life}

-- The life has the recorded group and number, and what is kept of it holds the recorded state.
pub record PlaysOne (life : Life) (r : Recorded) : Type 0 where
  pub group : life.membership.group ≡ r.group
  pub number : life.number ≡ r.life
  pub holds : Holds life.membership (state_of r)

abbrev pub Plays : Option Life → Option Recorded → Type 0
Plays None None = Unit {0}
Plays None (Some r) = ⊥
Plays (Some life) None = ⊥
Plays (Some life) (Some r) = PlaysOne life r

-- The answer of the line was run on the life, and added to the text.
pub record Tells (a : Answer) (life : Life) (before later : List ℕ) : Type 0 where
  pub plays : Plays (Some life) a.recorded
  pub text : later ≡ before ++ answer_text a

-- A life that is recorded has the tolerance of the text's group, at most `MAX_TOLERANCE`, as many ticks at the most as the text had, and a
-- number that is no more than the lines.
pub record InBody (t number ticks : ℕ) (r : Recorded) : Type 0 where
  pub small : t ≤ MAX_TOLERANCE
  pub tolerance : r.group.t ≡ t
  pub moment : (state_of r).moment ≤ ticks
  pub life : r.life ≤ number

-- The life fits the place in the text: one is recorded below the line of the group.
abbrev pub IsPlaced : Direct → ℕ → Option Recorded → Type 0
IsPlaced (direct.Body t ticks) number None = ⊥
IsPlaced (direct.Body t ticks) number (Some r) = InBody t number ticks r
IsPlaced direct.Ended number recorded = Unit {0}
IsPlaced direct.Start number None = Unit {0}
IsPlaced direct.Start number (Some r) = ⊥
IsPlaced direct.Headed number None = Unit {0}
IsPlaced direct.Headed number (Some r) = ⊥

-- The line may be run on this life: its numbers are in the ranges of the group, and no count passes its type.
abbrev pub FitsLife : Life → DirectLine → Type 0
FitsLife life (lines.Member m ps) = (length ps ≡ ring_count life.membership.group.t) × (length ps ≤ MAX_RINGS)
FitsLife life (lines.Tick n) = life.membership.moment + n ≤ most_ticks
FitsLife life (lines.Monitor ring m) = ring.0 < ring_count life.membership.group.t
FitsLife life lines.Life = life.number ≤ text_lines
FitsLife life _ = Unit {0}

abbrev pub FitsFirst : DirectLine → Type 0
FitsFirst (lines.Group t timeout) = t ≤ MAX_TOLERANCE
FitsFirst _ = Unit {0}

abbrev pub FitsOn : Option Life → DirectLine → Type 0
FitsOn None line = FitsFirst line
FitsOn (Some life) line = FitsLife life line
