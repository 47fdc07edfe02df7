-- What was written, beside the trace of what was taken.
use Rattle.std.specs.Prelude.{◌≡◌, ◌≤◌, ◌+◌, ◌⊎◌, ℕ, Bool, true, List, [], ◌∷◌, ◌++◌, length, Option, Some, None, IfSome, Ok, Err}
use Rattle.std.specs.Io.KnownBytes.{Appends, Consumes}
use Rattle.line_text.specs.declared.bad_word.BadWord.{BadWord}
use Rattle.play.specs.Plays.{IoState}
use Rattle.play.specs.declared.stop.Stop.TheVariants as stop
use Rattle.text_trace.specs.Lines.{AreWhole, has_no_feed, seen, text_lines}
use Rattle.text_trace.specs.Trace.{Every, IsFree, Continuation, Writes}
use Rattle.ports.specs.Contents.{IsUsedUp}
use Rattle.ports.specs.Count.{Rose}
use Rattle.command_line.specs.Causes.{RunEnd, Says, for_word, status_by}
use Rattle.command_line.specs.Ends.{Is}
use Rattle.command_line.specs.declared.status.Status.{Status}
use Rattle.command_line.specs.declared.status.Status.TheVariants as status

-- A last line without its line feed adds nothing to the trace; so nothing is written at the end of a text alone.
abbrev pub EndsSilently : {C : Type 0} → Continuation C → Type 0
EndsSilently owed = (lines : List (List ℕ)) (line : List ℕ) → has_no_feed line ≡ true → (owed (lines ++ line ∷ [])).output ≡ (owed lines).output

-- A text whose last line has no line feed has an empty trace; so nothing is written before the end of a text.
abbrev pub SpeaksAtEnd : {C : Type 0} → Continuation C → Type 0
SpeaksAtEnd owed = (lines : List (List ℕ)) (line : List ℕ) → has_no_feed line ≡ true → (owed (lines ++ line ∷ [])).output ≡ []

-- What a run owes behind what it wrote: nothing where it came to the end or to a line that is refused; nor at a read
-- fault, where nothing is written at the end alone.
abbrev pub IsOwed : {C : Type 0} → Continuation C → List ℕ → RunEnd C → Type 0
IsOwed owed rest (Ok _) = rest ≡ []
IsOwed owed rest (Err (stop.Refused line cause)) = rest ≡ []
IsOwed owed rest (Err stop.ReadFault) = EndsSilently owed → rest ≡ []
IsOwed owed rest (Err stop.WriteFault) = Unit {0}
IsOwed owed rest (Err stop.OutOfMemory) = Unit {0}

-- What refuses the text of the trace: nothing where the run came to its end, else the cause for which it stopped.
abbrev pub IsCause : {C : Type 0} → Option C → RunEnd C → Type 0
IsCause cause (Ok _) = cause ≡ None
IsCause cause (Err (stop.Refused line c)) = cause ≡ Some c
IsCause cause (Err stop.ReadFault) = Unit {0}
IsCause cause (Err stop.WriteFault) = Unit {0}
IsCause cause (Err stop.OutOfMemory) = Unit {0}

-- The trace of the whole text, where the bytes left at first are modelled: where the run came to its end or to a line that
-- is refused, what was written is all of it, whatever stands behind the line.
abbrev pub IsTrace : {C : Type 0} → Continuation C → Option (List ℕ) → List ℕ → RunEnd C → Type 0
IsTrace owed left text (Ok _) = IfSome left (λ all. owed (seen all) ≡ record { output = text; cause = None })
IsTrace owed left text (Err (stop.Refused line c)) = IfSome left (λ all. owed (seen all) ≡ record { output = text; cause = Some c })
IsTrace owed left text (Err stop.ReadFault) = Unit {0}
IsTrace owed left text (Err stop.WriteFault) = Unit {0}
IsTrace owed left text (Err stop.OutOfMemory) = Unit {0}

-- What was written early: nothing, where nothing is written before the end of a text.
abbrev pub IsEarly : {C : Type 0} → Continuation C → List ℕ → RunEnd C → Type 0
IsEarly owed text (Ok _) = Unit {0}
IsEarly owed text (Err (stop.Refused line cause)) = Unit {0}
IsEarly owed text (Err stop.ReadFault) = SpeaksAtEnd owed → text ≡ []
IsEarly owed text (Err stop.WriteFault) = Unit {0}
IsEarly owed text (Err stop.OutOfMemory) = SpeaksAtEnd owed → text ≡ []

-- The number of the line that is refused: that of the last line that was taken; or one more, at the end of the text.
abbrev pub IsNumber : {C : Type 0} → List ℕ → Option (List ℕ) → RunEnd C → Type 0
IsNumber bytes left (Ok _) = IsUsedUp left
IsNumber bytes left (Err (stop.Refused line cause)) = (line ≡ length (seen bytes)) ⊎ ((line ≡ length (seen bytes) + 1) × IsUsedUp left)
IsNumber bytes left (Err stop.ReadFault) = Unit {0}
IsNumber bytes left (Err stop.WriteFault) = Unit {0}
IsNumber bytes left (Err stop.OutOfMemory) = Unit {0}

-- Whole lines were taken, and then a part of a line; the text is the trace of those lines, none of which is refused.
pub record IsUnread {C : Type 0} (owed : Continuation C) (bytes text : List ℕ) : Type 0 where
  pub front : List ℕ
  pub part : List ℕ
  pub parts : bytes ≡ front ++ part
  pub whole : AreWhole (seen front) front
  pub clear : has_no_feed part ≡ true
  pub writes : Writes C (Is owed) (seen front) text

-- The line of this number was refused, or the end: the whole lines before it were taken, none of which is refused, and the text
-- is their trace.
pub record IsRefusedAt {C : Type 0} (owed : Continuation C) (bytes text : List ℕ) (number : ℕ) : Type 0 where
  pub front : List ℕ
  pub part : List ℕ
  pub parts : bytes ≡ front ++ part
  pub whole : AreWhole (seen front) front
  pub counted : number ≡ length (seen front) + 1
  pub writes : Writes C (Is owed) (seen front) text

-- Whole lines were taken, none of which is refused for a cause that P holds of.
pub record AreUnrefused {C : Type 0} (P : C → Type 0) (owed : Continuation C) (bytes : List ℕ) : Type 0 where
  pub whole : AreWhole (seen bytes) bytes
  pub unrefused : IsFree C P (λ rest. owed (seen bytes ++ rest))

-- The whole of a text was taken, which isn't refused.
pub record IsUnrefusedText {C : Type 0} (owed : Continuation C) (bytes : List ℕ) (left : Option (List ℕ)) : Type 0 where
  pub used_up : IsUsedUp left
  pub none : (owed (seen bytes)).cause ≡ None

-- The number of a line that is refused is that of the first: none before it is. A read fault stands for no line that is
-- refused: none of those that were taken whole is. Nor does want of memory, for a cause that P holds of: neither those lines
-- are refused for one, nor is the end of the text, where it was reached.
abbrev pub IsFirst : {C : Type 0} → (C → Type 0) → Continuation C → List ℕ → List ℕ → Option (List ℕ) → RunEnd C → Type 0
IsFirst P owed bytes text left (Ok _) = Unit {0}
IsFirst P owed bytes text left (Err (stop.Refused line cause)) = IsRefusedAt owed bytes text line
IsFirst P owed bytes text left (Err stop.ReadFault) = IsUnread owed bytes text
IsFirst P owed bytes text left (Err stop.WriteFault) = Unit {0}
IsFirst P owed bytes text left (Err stop.OutOfMemory) = (bytes ≡ []) ⊎ (AreUnrefused P owed bytes ⊎ IsUnrefusedText owed bytes left)

-- These bytes were taken from the source, up to the first cause. Written was a front of their trace, and behind it the
-- line of that cause, or a front of it where a write failed.
pub record TracedBy {C : Type 0} (P : C → Type 0) (refusal : ℕ → C → Status) (owed : Continuation C) (was now : IoState) (s : Status) : Type 0 where
  pub result : RunEnd C
  pub failed : Bool
  pub bytes : List ℕ
  pub text : List ℕ
  pub rest : List ℕ
  pub line : List ℕ
  pub says : Says failed (status_by refusal result) line s
  pub read : Consumes was.left now.left bytes
  pub few : length (seen bytes) ≤ text_lines + 1
  pub number : IsNumber bytes now.left result
  pub wrote : Appends was.taken now.taken (text ++ line)
  pub front : (owed (seen bytes)).output ≡ text ++ rest
  pub whole : IsOwed owed rest result
  pub refused : IsCause (owed (seen bytes)).cause result
  pub exact : IsTrace owed was.left text result
  pub early : IsEarly owed text result
  pub first : IsFirst P owed bytes text now.left result

-- The same where a line is refused for a bad word alone.
abbrev pub Traced : Continuation BadWord → IoState → IoState → Status → Type 0
Traced owed was now s = TracedBy Every for_word owed was now s

-- The run came to the end of the text, or was refused memory.
abbrev pub IsComplete : Status → Type 0
IsComplete s = (s ≡ status.Ok) ⊎ (s ≡ status.OutOfMemory)

-- Where no line refuses the text and neither side failed, all of it is run, unless memory is refused.
abbrev pub Completes : {C : Type 0} → Continuation C → IoState → IoState → Status → Type 0
Completes owed was now s = IfSome was.left (λ all. (owed (seen all)).cause ≡ None
    → ¬ (Rose was.read_faults now.read_faults) → ¬ (Rose was.write_faults now.write_faults) → IsComplete s)
