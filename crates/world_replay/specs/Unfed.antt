-- A line without its line feed is refused, and nothing is written for it.
use Rattle.std.proofs.Common.{◌≡◌, ℕ, Bool, true, false, if◌then◌else◌, List, [], ◌∷◌, Option, Some, None, Result, Ok, Err, refl, ap, sym, ◌∙◌}
use Rattle.line_text.specs.declared.bad_word.BadWord.{BadWord}
use Rattle.line_text.specs.declared.bad_word.BadWord.TheVariants as bad
use Rattle.line_text.specs.Answers.{Progress, next_line}
use Rattle.line_text.proofs.FrameLemmas.{empty_fault, judge-empty, judge-spelled, line-fed, line-unfed}
use Rattle.schedule_world.specs.declared.text.WorldText.{WorldText}
use Rattle.schedule_world.specs.declared.line.WorldLine.{WorldLine}
use Rattle.schedule_world.specs.Grammar.{IsLine, IsWorld, behind, judge}
use Rattle.schedule_world.specs.Laws.{world-spelled}
use Rattle.schedule_world.specs.Rows.{is_ended, row_for}
use Rattle.text_trace.specs.Lines.{has_line_feed, has_no_feed}
use Rattle.text_trace.specs.Trace.{IsUnrefused, Waits}
use Rattle.world_rules.specs.Walk as walk
use Rattle.world_rules.specs.Walk.{Stage, at_end, from_line, setting_in, trace_in}
use Rattle.world_rules.specs.declared.cause.Cause.{Cause}
use Rattle.world_rules.specs.declared.cause.Cause.TheVariants as causes
use Rattle.world_replay.specs.Causes.{grammar, played}

-- a line that is judged to be one is one
pub line-is : (p : Progress WorldText) (bytes : List ℕ) (l : WorldLine) → judge p bytes ≡ Ok l → IsLine p bytes l
line-is p bytes l e = judge-spelled (next_line is_ended row_for p) (IsWorld p.form) (world-spelled p.form) bytes l e

pub judged-fed : (p : Progress WorldText) (bytes : List ℕ) (l : WorldLine) → judge p bytes ≡ Ok l → has_line_feed bytes ≡ true
judged-fed p bytes l e = line-fed (is_ended p.form) p.number (IsWorld p.form) bytes l (line-is p bytes l e)

-- what comes of a line, by what it is
abbrev pub goes_on : Progress WorldText → Stage → List (List ℕ) → Result WorldLine BadWord → walk.Walk
goes_on p stage rest judged = from_line setting_in stage judged (λ l after. walk.walk grammar setting_in rest (behind p l) after)

pub unfed-none : (p : Progress WorldText) (bytes : List ℕ) (l : WorldLine) → judge p bytes ≡ Ok l → has_no_feed bytes ≡ true → ⊥
unfed-none p bytes l is clear = line-unfed (is_ended p.form) p.number (IsWorld p.form) bytes l (line-is p bytes l is) clear

unfed_silent : (p : Progress WorldText) (stage : Stage) (bytes : List ℕ) (rest : List (List ℕ)) (r : Result WorldLine BadWord) → judge p bytes ≡ r → has_no_feed bytes ≡ true → (trace_in grammar (goes_on p stage rest r)).output ≡ []
unfed_silent p stage bytes rest (Ok l) is clear = absurd (unfed-none p bytes l is clear)
unfed_silent p stage bytes rest (Err w) is clear = refl

abbrev one : Cause → Option Cause
one c = Some c

-- what ends a text behind these lines
abbrev end_cause : Stage → Bool → Option Cause
end_cause stage is_over = (trace_in grammar (at_end stage (if is_over then None else Some bad.End))).cause

-- the end of a text and a line of no bytes have no cause in common
apart : (stage : Stage) (c : Cause) (is_over : Bool) → end_cause stage is_over ≡ one c → one (causes.Bad (empty_fault is_over)) ≡ one c → ⊥
apart stage c true e f = cc
apart stage c false e f = cc

-- There is no cause that refuses all that may come.
pub played-unrefused : (p : Progress WorldText) (stage : Stage) → IsUnrefused Cause (played p stage)
played-unrefused p stage = λ c any all.
    let empty : (played p stage ([] ∷ [])).cause ≡ one (causes.Bad (empty_fault (is_ended p.form))) =
    ap (λ (j : Result WorldLine BadWord). (trace_in grammar (goes_on p stage [] j)).cause) (judge-empty (next_line is_ended row_for p)) in
    apart stage c (is_ended p.form) (all []) (sym empty ∙ all ([] ∷ []))

pub played-waits : (p : Progress WorldText) (stage : Stage) → Waits Cause (played p stage)
played-waits p stage = record { silent = λ bytes rest clear. unfed_silent p stage bytes rest (judge p bytes) refl clear; unrefused = played-unrefused p stage }
