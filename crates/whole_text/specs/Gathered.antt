-- The lines of a whole text, and what is owed to a text of which nothing is told before its end.
use Rattle.std.specs.Prelude.{◌≡◌, ℕ, Bool, List, [], ◌∷◌, ◌++◌, Some, None, Result, Ok, Err, if◌then◌else◌}
use Rattle.std.specs.Io.KnownBytes.{Appends, Consumes}
use Rattle.line_text.specs.declared.bad_word.BadWord.{BadWord}
use Rattle.line_text.specs.declared.bad_word.BadWord.TheVariants as bad
use Rattle.line_text.specs.Answers.{Progress, moved, next_line}
use Rattle.line_text.specs.Frame.{Row, judge}
use Rattle.play.specs.Plays.{IoState, Lines, StopsRun, Unfailed}
use Rattle.play.specs.declared.stop.Stop.{Stop}
use Rattle.ports.specs.Contents.{IsUsedUp}
use Rattle.text_trace.specs.Lines.{text_lines}
use Rattle.text_trace.specs.Trace.{Every, Continuation, Trace}

-- how the lines of a form are judged: whether its last line was read, the row of a line's words, the form behind a line
pub record Judging (F L : Type 0) : Type 0 where
  pub is_ended : F → Bool
  pub row : F → List (List ℕ) → Result (Row L) BadWord
  pub after : F → L → F

-- these lines, and then those
abbrev pub behind_these : {L : Type 0} → List L → Result (List L) BadWord → Result (List L) BadWord
behind_these lines (Ok more) = Ok (lines ++ more)
behind_these lines (Err word) = Err word

abbrev pub judged_then : {L : Type 0} → Result L BadWord → (L → Result (List L) BadWord) → Result (List L) BadWord
judged_then (Ok line) more = behind_these (line ∷ []) (more line)
judged_then (Err word) more = Err word

-- The lines that the text is from here on, to its end; or the first bad word.
abbrev pub lines_from : {F L : Type 0} → Judging F L → Progress F → List (List ℕ) → Result (List L) BadWord
lines_from j p [] = if j.is_ended p.form then Ok [] else Err bad.End
lines_from j p (bytes ∷ rest) =
    judged_then (judge (next_line j.is_ended j.row p) bytes) (λ line. lines_from j (moved j.after p line) rest)

-- nothing has been read
abbrev pub unread : {F : Type 0} → F → Progress F
unread form = record { number = 1; form = form }

abbrev pub told_of : {L : Type 0} → (List L → List ℕ) → Result (List L) BadWord → Trace BadWord
told_of tell (Ok lines) = record { output = tell lines; cause = None }
told_of tell (Err word) = record { output = []; cause = Some word }

-- What is owed from here on: nothing before the end, and there what is told of the lines.
abbrev pub owed_from : {F L : Type 0} → Judging F L → Progress F → (List L → List ℕ) → Continuation BadWord
owed_from j p tell lines = told_of tell (lines_from j p lines)

-- What is owed to a text that begins in this form.
abbrev pub owed_whole : {F L : Type 0} → Judging F L → F → (List L → List ℕ) → Continuation BadWord
owed_whole j form tell = owed_from j (unread form) tell

-- nothing is reported
abbrev pub nothing : {L : Type 0} → List L → List ℕ
nothing lines = []

-- These bytes lead from the one place in the text to the other, and from the lines of it that are known there to those
-- that are known here: whatever comes behind them, the lines of the whole are the same.
abbrev pub Leads : {F L : Type 0} → Judging F L → Progress F → List L → List (List ℕ) → Progress F → List L → Type 0
Leads j p known lines q later =
    (rest : List (List ℕ)) → behind_these known (lines_from j p (lines ++ rest)) ≡ behind_these later (lines_from j q rest)

-- The whole text was taken, these are its lines, and nothing was written.
pub record IsWhole {F L : Type 0} (j : Judging F L) (form : F) (was now : IoState) (lines : List L) : Type 0 where
  pub seen_lines : List (List ℕ)
  pub bytes : List ℕ
  pub taken : Lines text_lines seen_lines bytes
  pub read : Consumes was.left now.left bytes
  pub used_up : IsUsedUp now.left
  pub are : lines_from j (unread form) seen_lines ≡ Ok lines
  pub wrote : Appends was.taken now.taken []
  pub unfailed : Unfailed was now

-- The reading stopped before the end of the text, as it would whatever is told of its lines.
abbrev pub IsUnfinished : {F L : Type 0} → Judging F L → F → IoState → IoState → Stop BadWord → Type 0
IsUnfinished {L = L} j form was now stop =
    (tell : List L → List ℕ) → StopsRun BadWord Every (λ f. f ≡ owed_whole j form tell) text_lines was now stop
