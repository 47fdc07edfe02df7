-- What `verify` upholds: nothing but the line of a cause is written before the end of the text.
use Rattle.std.specs.Prelude.{◌≡◌, [], Ok, Err}
use Rattle.line_text.specs.declared.bad_word.BadWord.{BadWord}
use Rattle.play.specs.Plays.{IoState}
use Rattle.play.specs.declared.stop.Stop.TheVariants as stop
use Rattle.verifier.specs.Answered.{verified}
use Rattle.command_line.specs.Causes.{RunEnd}
use Rattle.command_line.specs.Traced.{Traced}
use Rattle.command_line.specs.declared.status.Status.{Status}

-- The run stopped before the end of the text, and for no failed write.
abbrev pub OnStopped : RunEnd BadWord → Type 0 → Type 0
OnStopped (Ok _) P = Unit {0}
OnStopped (Err (stop.Refused line refused)) P = P
OnStopped (Err stop.ReadFault) P = P
OnStopped (Err stop.WriteFault) P = Unit {0}
OnStopped (Err stop.OutOfMemory) P = P

-- What `verify` upholds: where it stopped otherwise than at a write, nothing but the line of the cause was written.
pub record Verification (was now : IoState) (s : Status) : Type 0 where
  pub trace : Traced verified was now s
  pub silent : OnStopped trace.result (trace.text ≡ [])
