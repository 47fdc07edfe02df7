-- How a workload is run: nothing is read, and what was counted is written, or what it hands over that is forged is named.
use Rattle.std.specs.Prelude.{◌≡◌, ℕ, Bool, List, [], ◌++◌, None}
use Rattle.std.specs.Io.KnownBytes.{Appends}
use Rattle.play.specs.Plays.{IoState}
use Rattle.ports.specs.Count.{Rose}
use Rattle.authority.specs.Telling.{IsCut, IsTold}
use Rattle.soak_lines.specs.Workload.{workload}
use Rattle.signer.specs.Lives.{IsRising}
use Rattle.world_rules.specs.Forgeries.{Forgery}
use Rattle.world_rules.specs.Walk.{events_in}
use Rattle.world_laws.specs.Flows.{flowed_in}
use Rattle.world_laws.specs.Texts.{IsComeTo, IsForgedAt, IsLawfulStage}
use Rattle.world_replay.specs.declared.summary.Summary.{Summary}
use Rattle.world_replay.specs.Causes.{grammar}
use Rattle.world_replay.specs.Soaking.{IsFoundForged, IsSummary, spelled_lines, workload_walk}
use Rattle.world_replay.specs.Summaries.{summary_text}
use Rattle.command_line.specs.Causes.{IsFront, Says}
use Rattle.command_line.specs.Ends.{Tells}
use Rattle.command_line.specs.Traced.{IsComplete}
use Rattle.command_line.specs.declared.status.Status.{Status}
use Rattle.command_line.specs.declared.status.Status.TheVariants as status

-- The workload came to its end, and this is its summary.
pub record IsSummed (seed members rounds : ℕ) : Type 0 where
  pub summary : Summary
  pub is : IsSummary (workload seed members rounds) (workload_walk seed members rounds) summary

-- The summary as it is written.
abbrev pub summed_text : (seed members rounds : ℕ) → IsSummed seed members rounds → List ℕ
summed_text seed members rounds summed = summary_text seed members rounds summed.summary.lines summed.summary.counts

-- What was done before the line of the cause for which it stopped.
abbrev pub Soaks : ℕ → ℕ → ℕ → IoState → IoState → Status → Type 0
Soaks seed members rounds was now status.Ok = (summed : IsSummed seed members rounds) × IsTold was now (summed_text seed members rounds summed)
Soaks seed members rounds was now (status.Forged line who body) = IsFoundForged (workload_walk seed members rounds) line (record { who = who; body = body }) × (now ≡ was)
Soaks seed members rounds was now status.WriteFault = (summed : IsSummed seed members rounds) × IsCut was now (summed_text seed members rounds summed)
Soaks seed members rounds was now status.OutOfMemory = now ≡ was
Soaks seed members rounds was now _ = ⊥

-- The run of a workload ends so: it stopped for a first cause, and the line of that cause is the last that is written.
pub record SoakEnds (seed members rounds : ℕ) (was now : IoState) (s : Status) : Type 0 where
  pub first : Status
  pub between : IoState
  pub soaks : Soaks seed members rounds was between first
  pub tells : Tells first between now s

-- What was written of the summary, by the first cause: all of it, or a front where a write failed; else nothing.
abbrev pub IsSoaked : ℕ → ℕ → ℕ → List ℕ → Status → Type 0
IsSoaked seed members rounds text status.Ok = (summed : IsSummed seed members rounds) × (text ≡ summed_text seed members rounds summed)
IsSoaked seed members rounds text (status.Forged line who body) = IsFoundForged (workload_walk seed members rounds) line (record { who = who; body = body }) × (text ≡ [])
IsSoaked seed members rounds text status.WriteFault = (summed : IsSummed seed members rounds) × IsFront text (summed_text seed members rounds summed)
IsSoaked seed members rounds text status.OutOfMemory = text ≡ []
IsSoaked seed members rounds text _ = ⊥

-- That was written, and behind it the line of the first cause, or a front of it where a write failed. Nothing was read.
pub record TracedSoak (seed members rounds : ℕ) (was now : IoState) (s : Status) : Type 0 where
  pub first : Status
  pub failed : Bool
  pub text : List ℕ
  pub line : List ℕ
  pub says : Says failed first line s
  pub left : now.left ≡ was.left
  pub wrote : Appends was.taken now.taken (text ++ line)
  pub soaked : IsSoaked seed members rounds text first

-- Where no line of the workload hands over what is forged, and no write failed, all of it is run, unless memory is refused.
abbrev pub SoakCompletes : ℕ → ℕ → ℕ → IoState → IoState → Status → Type 0
SoakCompletes seed members rounds was now s = (workload_walk seed members rounds).cause ≡ None → ¬ (Rose was.write_faults now.write_faults) → IsComplete s

-- P of the number of a line and of what it handed over that is forged, where that stopped the run.
abbrev pub OnForged : Status → (ℕ → Forgery → Type 0) → Type 0
OnForged (status.Forged line who body) P = P line (record { who = who; body = body })
OnForged _ P = Unit {0}

-- What the workload came to, of which the summary counts, is a world in which no line is forged, and what was reported of it is as
-- no liar can help. What is named as forged was handed over by the very line of the number that is named, and verifies under a key
-- that never signed it.
pub record SoakUpheld (seed members rounds : ℕ) (was now : IoState) (s : Status) : Type 0 where
  pub trace : TracedSoak seed members rounds was now s
  -- Three laws of any workload: `trace` ties it to what was written, which are its counts.
  pub played : IsComeTo (workload_walk seed members rounds).stage (events_in (workload_walk seed members rounds))
  pub lawful : IsLawfulStage (workload_walk seed members rounds).stage (events_in (workload_walk seed members rounds))
  pub flowed : IsRising (flowed_in (workload_walk seed members rounds).taken)
  pub forged : OnForged trace.first (IsForgedAt grammar (spelled_lines (workload seed members rounds)) (workload_walk seed members rounds))
