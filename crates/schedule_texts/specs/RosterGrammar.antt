-- The grammar of the text that asks an authority for certificates, which its table gives.
use Rattle.std.specs.Prelude.{◌≡◌, ℕ, false, true, List, length, replicate, Result, slice_set}
use Rattle.ff_ids.specs.declared.TheConstants.{MEMBERS}
use Rattle.line_text.specs.declared.bad_word.BadWord.{BadWord}
use Rattle.line_text.specs.Answers.{Progress, next_line}
use Rattle.line_text.specs.Frame as frame
use Rattle.line_text.specs.Tables.{Spells}
use Rattle.schedule_texts.specs.declared.line.RosterLine.{RosterLine}
use Rattle.schedule_texts.specs.declared.line.RosterLine.TheVariants as lines
use Rattle.schedule_texts.specs.declared.roster.RosterText.{RosterText}
use Rattle.schedule_texts.specs.declared.roster.RosterText.TheVariants as roster
use Rattle.schedule_texts.specs.RosterRows.{is_ended, roster_table, row_for}

-- What holds of each value that a reader reaches: there is a place for each number of a member.
abbrev pub IsSound : RosterText → Type 0
IsSound (roster.Body named) = length named ≡ MEMBERS
IsSound _ = Unit {0}

-- These words are this line, which may stand here.
abbrev pub IsRoster : RosterText → List (List ℕ) → RosterLine → Type 0
IsRoster form ws l = Spells roster_table form ws l

-- ## Behind a line

-- no member is named
abbrev pub nobody : RosterText
nobody = roster.Body (replicate MEMBERS false)

-- the member of this number is named as well
abbrev pub naming : ℕ → RosterText → RosterText
naming m (roster.Body named) = roster.Body (slice_set named m true)
naming m form = form

abbrev pub after : RosterText → RosterLine → RosterText
after form lines.Header = roster.Headed
after form (lines.Group g) = roster.Grouped
after form (lines.Kinds k) = roster.Kinded
after form (lines.Secret s) = nobody
after form (lines.Cert c) = naming c.member form
after form lines.End = roster.Ended

-- ## A reader of the form

-- What the next line is, or its first bad word.
abbrev pub judge : Progress RosterText → List ℕ → Result RosterLine BadWord
judge p bytes = frame.judge (next_line is_ended row_for p) bytes
