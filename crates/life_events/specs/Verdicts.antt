-- Verdicts, as they are written.
use Rattle.std.specs.Prelude.{ℕ, List, ◌++◌, codes}
use Rattle.std.specs.Fmt.{decimal}
use Rattle.ff_ids.specs.Texts.{fault_text, monitor_text}
use Rattle.life_events.specs.declared.verdict.Verdict.{Verdict}
use Rattle.life_events.specs.declared.verdict.Verdict.TheVariants as verdicts

-- How a verdict is written.
abbrev pub verdict_words : Verdict → List ℕ
verdict_words verdicts.Joined = codes "joined"
verdict_words verdicts.Accepted = codes "accepted"
verdict_words (verdicts.Refused fault) = codes "refused " ++ fault_text fault
verdict_words (verdicts.Monitor member) = monitor_text member
verdict_words (verdicts.Life number) = decimal number
