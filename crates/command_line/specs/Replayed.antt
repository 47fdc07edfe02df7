-- What is owed to a recorded text, by the form that its first line tells.
use Rattle.std.specs.Prelude.{ℕ, ◌++◌, Bool, true, false, List, [], ◌∷◌, codes}
use Rattle.std.specs.Option.{option_map}
use Rattle.std.specs.Str.{bytes_eq}
use Rattle.line_text.specs.declared.bad_word.BadWord.{BadWord}
use Rattle.text_trace.specs.Trace.{Continuation, Trace}
use Rattle.trace.specs.Walk as direct
use Rattle.world_rules.specs.declared.cause.Cause.{Cause}
use Rattle.world_rules.specs.declared.cause.Cause.TheVariants as causes
use Rattle.world_replay.specs.Causes as world

-- The line that heads a schedule of a world.
abbrev pub world_header : List ℕ
world_header = codes "fireflies 1 world" ++ 10 ∷ []

-- That line comes first.
abbrev pub is_world : List (List ℕ) → Bool
is_world [] = false
is_world (line ∷ lines) = bytes_eq line world_header

-- The trace of a text that is refused for bad words alone.
abbrev pub as_bad : Trace BadWord → Trace Cause
as_bad t = record { output = t.output; cause = option_map causes.Bad t.cause }

abbrev pub all_bad : Continuation BadWord → Continuation Cause
all_bad owed = λ lines. as_bad (owed lines)

-- What is owed to a text of the one form or of the other.
abbrev pub replayed_as : Bool → Continuation Cause
replayed_as true = world.replayed
replayed_as false = all_bad direct.replayed

-- What is owed to a recorded text. One whose first line heads no form is read in the direct form, which refuses it.
abbrev pub replayed : Continuation Cause
replayed lines = replayed_as (is_world lines) lines
