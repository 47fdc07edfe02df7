-- What the direct form answers, as an answer of either form.
use Rattle.std.specs.Prelude.{Result}
use Rattle.line_text.specs.declared.bad_word.BadWord.{BadWord}
use Rattle.play.specs.declared.script.Refusal.{Refusal}
use Rattle.play.specs.declared.stop.Stop.{Stop}
use Rattle.play.specs.Named.{answer_as, run_as}
use Rattle.world_rules.specs.declared.cause.Cause.{Cause}
use Rattle.world_rules.specs.declared.cause.Cause.TheVariants as causes

abbrev pub for_either : Result (Unit {0}) (Refusal BadWord) → Result (Unit {0}) (Refusal Cause)
for_either r = answer_as causes.Bad r

-- How a run over the direct form ended, as one over either form.
abbrev pub run_for_either : Result (Unit {0}) (Stop BadWord) → Result (Unit {0}) (Stop Cause)
run_for_either r = run_as causes.Bad r
