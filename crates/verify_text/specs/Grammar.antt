-- The grammar of the text that asks whether a signature is good, which its table gives; and the reader's progress.
use Rattle.std.specs.Prelude.{ℕ, List, Option, Result}
use Rattle.line_text.specs.declared.bad_word.BadWord.{BadWord}
use Rattle.line_text.specs.Answers.{Progress, moved, next_line}
use Rattle.line_text.specs.Frame as frame
use Rattle.line_text.specs.Tables.{Spells}
use Rattle.verify_text.specs.declared.line.VerifyLine.{VerifyLine}
use Rattle.verify_text.specs.declared.line.VerifyLine.TheVariants as lines
use Rattle.verify_text.specs.declared.verify.Verify.{Verify}
use Rattle.verify_text.specs.declared.verify.Verify.TheVariants as verify
use Rattle.verify_text.specs.Rows.{is_ended, row_for, verify_table}

-- Every value may be reached.
abbrev pub IsSound : Verify → Type 0
IsSound v = Unit {0}

-- These words are this line, which may stand here, and its bytes are no more than there may be.
abbrev pub IsVerify : Verify → List (List ℕ) → VerifyLine → Type 0
IsVerify v ws l = Spells verify_table v ws l

-- ## Behind a line

abbrev pub after : Verify → VerifyLine → Verify
after v lines.Header = verify.Headed
after v (lines.Key k) = verify.Keyed
after v (lines.Message m) = verify.Worded
after v (lines.Signature s) = verify.Signed
after v lines.End = verify.Ended

-- ## A reader of the form

-- Nothing has been read.
abbrev pub opening : Progress Verify
opening = record { number = 1; form = verify.Start }

-- What the next line is, or its first bad word.
abbrev pub judge : Progress Verify → List ℕ → Result VerifyLine BadWord
judge p bytes = frame.judge (next_line is_ended row_for p) bytes

abbrev pub first_bad : Progress Verify → List ℕ → Option BadWord
first_bad p bytes = frame.first_bad (next_line is_ended row_for p) bytes

-- These bytes are the next line, and it is l.
abbrev pub IsLine : Progress Verify → List ℕ → VerifyLine → Type 0
IsLine p bytes l = frame.IsLine (is_ended p.form) p.number (IsVerify p.form) bytes l

-- the progress behind a line
abbrev pub behind : Progress Verify → VerifyLine → Progress Verify
behind p l = moved after p l
