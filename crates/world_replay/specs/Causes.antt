-- What is owed for the lines of a schedule of a world.
use Rattle.line_text.specs.Answers.{Progress}
use Rattle.schedule_world.specs.declared.text.WorldText.{WorldText}
use Rattle.schedule_world.specs.Grammar.{opening}
use Rattle.text_trace.specs.Trace.{Continuation}
use Rattle.world_rules.specs.Walk as walk
use Rattle.world_rules.specs.Walk.{Grammar, Lists, Stage, no_roster, setting_in, trace_in}
use Rattle.world_laws.specs.Texts.{world_grammar}
use Rattle.world_text.specs.Lines.{line_text}
use Rattle.world_rules.specs.declared.cause.Cause.{Cause}
use Rattle.world_rules.specs.declared.cause.Cause.TheVariants as causes

-- A bad word stands in the line; what is forged shows only as the line is played.
abbrev pub IsJudged : Cause → Type 0
IsJudged (causes.Bad w) = Unit {0}
IsJudged (causes.Forged who body) = ⊥

-- The world form, each line with its one spelling.
abbrev pub grammar : Grammar (Progress WorldText)
grammar = world_grammar line_text

-- What is owed for the lines of which so much was read before, and to which this has come.
abbrev pub played : Progress WorldText → Stage → Continuation Cause
played p stage = λ lines. trace_in grammar (walk.walk grammar setting_in lines p stage)

-- What is owed for the lines of a whole text.
abbrev pub replayed : Continuation Cause
replayed = played opening (Lists no_roster)
