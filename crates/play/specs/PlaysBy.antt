-- How a run over a text went: what it took, what it wrote, and why it stopped; where long lines are cut, and where they are
-- passed.
use Rattle.std.specs.Prelude.{◌≡◌, ℕ, ◌+◌, ◌<◌, ◌≤◌, ◌⊎◌, true, List, [], ◌∷◌, ◌++◌, length, take, Option, Some, None, Bool, false, Result, Ok, Err}
use Rattle.std.specs.Io.KnownBytes.{Appends, Consumes}
use Rattle.ports.specs.Contents.{IsUsedUp}
use Rattle.ports.specs.Count.{next_count}
use Rattle.ports.specs.Outside.{OfSink, OfSource}
use Rattle.text_trace.specs.Lines.{has_no_feed}
use Rattle.text_trace.specs.Trace.{Continuation, Steps, Writes, Ends, Refuses, Admits}
use Rattle.play.specs.declared.long_lines.LongLines.{LongLines}
use Rattle.play.specs.declared.stop.Stop.{Stop}
use Rattle.play.specs.declared.stop.Stop.TheVariants as stop
use Rattle.play.specs.Taking.{AreTaken, IsLastBy, IsPartBy, IsTaken, bytes_of, given, given_last, given_line}

-- What stands before or after a run: the bytes left in the source and those that the sink took, where they are modelled,
-- and the counts of faults of both.
pub record IoState : Type 0 where
  pub left : Option (List ℕ)
  pub taken : Option (List ℕ)
  pub read_faults : ℕ
  pub write_faults : ℕ

abbrev pub io : OfSource → OfSink → IoState
io source sink = record { left = source.left; taken = sink.taken; read_faults = source.faults; write_faults = sink.faults }

-- Neither side failed.
pub record Unfailed (was now : IoState) : Type 0 where
  pub reads : now.read_faults ≡ was.read_faults
  pub writes : now.write_faults ≡ was.write_faults

-- The bytes are these whole lines, and so many could come.
pub record LinesBy (l : LongLines) (room : ℕ) (lines : List (List ℕ)) (bytes : List ℕ) : Type 0 where
  pub whole : AreTaken l lines bytes
  pub few : length lines ≤ room

-- Lines were taken, and their trace was written. The first has the one number, and the line behind them the other; so
-- many could come before, and so many after.
pub record AdvancedBy (l : LongLines) (C : Type 0) (A B : Continuation C → Type 0) (first next room later : ℕ) (was now : IoState) : Type 0 where
  pub lines : List (List ℕ)
  pub bytes : List ℕ
  pub text : List ℕ
  pub whole : AreTaken l lines bytes
  pub few : later + length lines ≤ room
  pub number : next ≡ first + length lines
  pub read : Consumes was.left now.left bytes
  pub wrote : Appends was.taken now.taken text
  pub steps : Steps C A B (given l lines) text
  pub unfailed : Unfailed was now

-- Lines were taken of which this holds; so many could come before, and so many after.
pub record ConsumedBy (l : LongLines) (Reaches : List (List ℕ) → Type 0) (room later : ℕ) (before after : Option (List ℕ)) : Type 0 where
  pub lines : List (List ℕ)
  pub bytes : List ℕ
  pub whole : AreTaken l lines bytes
  pub few : later + length lines ≤ room
  pub read : Consumes before after bytes
  pub reaches : Reaches (given l lines)

-- The whole text was taken, and its trace was written.
pub record FinishedBy (l : LongLines) (C : Type 0) (A : Continuation C → Type 0) (room : ℕ) (was now : IoState) : Type 0 where
  pub lines : List (List ℕ)
  pub bytes : List ℕ
  pub text : List ℕ
  pub taken : LinesBy l room lines bytes
  pub read : Consumes was.left now.left bytes
  pub used_up : IsUsedUp now.left
  pub wrote : Appends was.taken now.taken text
  pub ends : Ends C A (given l lines) text
  pub unfailed : Unfailed was now

-- The line of this number was refused, or the end: whole lines and that line were taken, none of the lines before it is
-- refused, and all of the trace before it was written.
pub record RefusedBy (l : LongLines) (C : Type 0) (A : Continuation C → Type 0) (room first number : ℕ) (cause : C) (was now : IoState) : Type 0 where
  pub lines : List (List ℕ)
  pub bytes : List ℕ
  pub last : Option (List ℕ)
  pub text : List ℕ
  pub taken : LinesBy l room lines bytes
  pub counted : number ≡ first + length lines
  pub read : Consumes was.left now.left (bytes ++ bytes_of last)
  pub stands : IsLastBy l last now.left
  pub wrote : Appends was.taken now.taken text
  pub writes : Writes C A (given l lines) text
  pub refuses : Refuses C A (given l lines) (given_last l last) text cause
  pub unfailed : Unfailed was now

-- A read failed: whole lines were taken, and then a part of a line; the trace of the whole lines was written, and
-- nothing else.
pub record UnreadBy (l : LongLines) (C : Type 0) (A : Continuation C → Type 0) (room : ℕ) (was now : IoState) : Type 0 where
  pub lines : List (List ℕ)
  pub bytes : List ℕ
  pub part : List ℕ
  pub text : List ℕ
  pub taken : LinesBy l room lines bytes
  pub read : Consumes was.left now.left (bytes ++ part)
  pub clear : has_no_feed part ≡ true
  pub short : IsPartBy l part
  pub wrote : Appends was.taken now.taken text
  pub writes : Writes C A (given l lines) text
  pub failed : now.read_faults ≡ next_count was.read_faults
  pub kept : now.write_faults ≡ was.write_faults

-- The text is the trace of these lines and the next one, or with none of the whole text.
abbrev pub FollowsBy : LongLines → (C : Type 0) → (Continuation C → Type 0) → List (List ℕ) → Option (List ℕ) → List ℕ → Type 0
FollowsBy l C A lines (Some line) text = IsTaken l line × Writes C A (given l (lines ++ line ∷ [])) text
FollowsBy l C A lines None text = Ends C A (given l lines) text

-- A write failed: the trace of whole lines was written, and then a front of that of the next line or the end.
pub record UnwrittenBy (l : LongLines) (C : Type 0) (A : Continuation C → Type 0) (room : ℕ) (was now : IoState) : Type 0 where
  pub lines : List (List ℕ)
  pub bytes : List ℕ
  pub last : Option (List ℕ)
  pub text : List ℕ
  pub more : List ℕ
  pub count : ℕ
  pub taken : LinesBy l room lines bytes
  pub read : Consumes was.left now.left (bytes ++ bytes_of last)
  pub stands : IsLastBy l last now.left
  pub writes : Writes C A (given l lines) text
  pub follows : FollowsBy l C A lines last (text ++ more)
  pub short : count < length more
  pub wrote : Appends was.taken now.taken (text ++ take count more)
  pub failed : now.write_faults ≡ next_count was.write_faults
  pub kept : now.read_faults ≡ was.read_faults

-- The line behind whole lines has its line feed, and isn't refused for a cause that P holds of; with none, the text is at its
-- end, and that isn't refused.
abbrev pub IsAdmittedBy : LongLines → (C : Type 0) → (C → Type 0) → (Continuation C → Type 0) → List (List ℕ) → Option (List ℕ) → Option (List ℕ) → Type 0
IsAdmittedBy l C P A lines (Some line) left = IsTaken l line × Admits C P A (given l lines) (Some (given_line l line))
IsAdmittedBy l C P A lines None left = IsUsedUp left × Admits C P A (given l lines) None

-- Memory was refused, for a line or an end that isn't refused for a cause that P holds of: whole lines and then that line were taken; the trace of
-- the lines before it was written.
pub record StarvedBy (l : LongLines) (C : Type 0) (P : C → Type 0) (A : Continuation C → Type 0) (room : ℕ) (was now : IoState) : Type 0 where
  pub lines : List (List ℕ)
  pub bytes : List ℕ
  pub last : Option (List ℕ)
  pub text : List ℕ
  pub taken : LinesBy l room lines bytes
  pub read : Consumes was.left now.left (bytes ++ bytes_of last)
  pub admitted : IsAdmittedBy l C P A lines last now.left
  pub wrote : Appends was.taken now.taken text
  pub writes : Writes C A (given l lines) text
  pub unfailed : Unfailed was now

-- How it stopped, by the cause, where the first line had this number.
abbrev pub StopsBy : LongLines → (C : Type 0) → (C → Type 0) → (Continuation C → Type 0) → ℕ → ℕ → IoState → IoState → Stop C → Type 0
StopsBy l C P A first room was now (stop.Refused line cause) = RefusedBy l C A room first line cause was now
StopsBy l C P A first room was now stop.ReadFault = UnreadBy l C A room was now
StopsBy l C P A first room was now stop.WriteFault = UnwrittenBy l C A room was now
StopsBy l C P A first room was now stop.OutOfMemory = StarvedBy l C P A room was now

-- How a run went on that owed what A says and had so many lines to come, the first of this number, by its answer.
abbrev pub ContinuesBy : LongLines → (C : Type 0) → (C → Type 0) → (Continuation C → Type 0) → ℕ → ℕ → IoState → IoState → Result (Unit {0}) (Stop C) → Type 0
ContinuesBy l C P A first room was now (Ok _) = FinishedBy l C A room was now
ContinuesBy l C P A first room was now (Err s) = StopsBy l C P A first room was now s

-- How a whole run stopped, which may be refused memory before it takes or writes anything.
abbrev pub StopsRunBy : LongLines → (C : Type 0) → (C → Type 0) → (Continuation C → Type 0) → ℕ → IoState → IoState → Stop C → Type 0
StopsRunBy l C P A room was now stop.OutOfMemory = (now ≡ was) ⊎ StarvedBy l C P A room was now
StopsRunBy l C P A room was now s = StopsBy l C P A 1 room was now s

-- How a run over a text went that owes what A says, where so many lines could come, by its answer.
abbrev pub RunsBy : LongLines → (C : Type 0) → (C → Type 0) → (Continuation C → Type 0) → ℕ → IoState → IoState → Result (Unit {0}) (Stop C) → Type 0
RunsBy l C P A room was now (Ok _) = FinishedBy l C A room was now
RunsBy l C P A room was now (Err s) = StopsRunBy l C P A room was now s

-- How one turn went: behind a line that was taken the run goes on, and owes what B says.
abbrev pub TurnsBy : LongLines → (C : Type 0) → (C → Type 0) → (Continuation C → Type 0) → (Continuation C → Type 0) → ℕ → ℕ → ℕ → IoState → IoState → Result Bool (Stop C) → Type 0
TurnsBy l C P A B first room later was now (Ok true) = AdvancedBy l C A B first (first + 1) room later was now
TurnsBy l C P A B first room later was now (Ok false) = FinishedBy l C A room was now
TurnsBy l C P A B first room later was now (Err s) = StopsBy l C P A first room was now s

-- No write failed, so that the sink may be written to.
abbrev pub has_written : {T C : Type 0} → Result T (Stop C) → Bool
has_written (Ok _) = true
has_written (Err (stop.Refused line cause)) = true
has_written (Err stop.ReadFault) = true
has_written (Err stop.WriteFault) = false
has_written (Err stop.OutOfMemory) = true
