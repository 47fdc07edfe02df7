use Rattle.text_trace.specs.Trace.{Every}
use Rattle.verifier.specs.Answered.{verified}
use Rattle.command_line.specs.Causes.{for_word}
use Rattle.command_line.proofs.EndLemmas.{concluded}
use Rattle.command_line.proofs.running.run_verify.Goals as goal

pub returns : goal.returns
returns g c = record { ends = concluded Every for_word verified _ _ _ c.verify_input-ended.result _ _ c.verify_input-ended.ensures.runs c.from.ensures (c.conclude.ensures (g.S.Source.state c.verify_input-ended.new.input)) }
