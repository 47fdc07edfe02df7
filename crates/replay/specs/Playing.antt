-- What is owed for the lines that are still to come.
use Rattle.std.specs.Prelude.{◌≡◌, ℕ, ◌+◌, ◌-◌, Option}
use Rattle.line_text.specs.declared.bad_word.BadWord.{BadWord}
use Rattle.line_text.specs.Answers.{Progress}
use Rattle.schedule_direct.specs.declared.direct.Direct.{Direct}
use Rattle.text_trace.specs.Lines.{text_lines}
use Rattle.text_trace.specs.Trace.{Continuation, Waits}
use Rattle.trace.specs.Answers.{Recorded}
use Rattle.trace.specs.Walk.{played}
use Rattle.trace.proofs.UnfedLemmas.{waits-as}
use Rattle.replay.specs.declared.life.Life.{Life}
use Rattle.replay.specs.declared.player.Player.{Player}
use Rattle.replay.specs.Plays.{IsPlaced, Plays}

-- The life that is kept stands for a recorded one, which fits its place, and what is owed is what that one plays.
pub record Owes (p : Progress Direct) (life : Option Life) (f : Continuation BadWord) : Type 0 where
  pub recorded : Option Recorded
  pub plays : Plays life recorded
  pub placed : IsPlaced p.form p.number recorded
  pub same : f ≡ played p recorded

pub owes_waits : (p : Progress Direct) (life : Option Life) (f : Continuation BadWord) → Owes p life f → Waits BadWord f
owes_waits p life f owes = waits-as p owes.recorded f owes.same

-- What a player owes, and how many lines it may still take.
abbrev pub OwedBy : Player → Continuation BadWord → Type 0
OwedBy player f = Owes player.lines player.life f

abbrev pub lines_left : Player → ℕ
lines_left player = text_lines + 1 - player.lines.number

pub owed_waits : (player : Player) (f : Continuation BadWord) → OwedBy player f → Waits BadWord f
owed_waits player f owes = owes_waits player.lines player.life f owes
