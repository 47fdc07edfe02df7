-- What is owed for the lines that are still to come.
use Rattle.std.specs.Prelude.{◌≡◌, ℕ, Option, Some, None}
use Rattle.line_text.specs.declared.bad_word.BadWord.{BadWord}
use Rattle.text_trace.specs.Lines.{text_lines}
use Rattle.text_trace.specs.Trace.{Continuation}
use Rattle.play.specs.Named.{OwesAs}
use Rattle.replay.specs.declared.player.Player as players
use Rattle.replay.specs.Playing as direct
use Rattle.world_rules.specs.declared.cause.Cause.{Cause}
use Rattle.world_rules.specs.declared.cause.Cause.TheVariants as causes
use Rattle.world_replay.specs.Owing as world
use Rattle.command_line.specs.declared.replay_form.FormPlayer.{FormPlayer}
use Rattle.command_line.specs.declared.replay_form.FormPlayer.TheVariants as forms
use Rattle.command_line.specs.Replayed.{replayed}

-- The direct form owes this, for bad words.
abbrev pub OwesBad : players.Player → Continuation Cause → Type 0
OwesBad player = OwesAs BadWord Cause causes.Bad (direct.OwedBy player)

abbrev pub OwedByForm : FormPlayer → Continuation Cause → Type 0
OwedByForm (forms.Direct player) f = OwesBad player f
OwedByForm (forms.World player) f = world.OwedBy player f

abbrev pub left_in_form : FormPlayer → ℕ
left_in_form (forms.Direct player) = direct.lines_left player
left_in_form (forms.World player) = world.lines_left player

-- Before the first line, a recorded text is owed; behind it, what its form owes.
abbrev pub OwedFrom : Option FormPlayer → Continuation Cause → Type 0
OwedFrom None f = f ≡ replayed
OwedFrom (Some player) f = OwedByForm player f

abbrev pub left_from : Option FormPlayer → ℕ
left_from None = text_lines
left_from (Some player) = left_in_form player
