-- What was taken of a member's text, and what was written beside the journal of its life.
use Rattle.std.specs.Prelude.{◌≡◌, ◌≤◌, ℕ, Bool, List, length, Option, None, IfSome, Ok}
use Rattle.std.specs.Io.KnownBytes.{Appends, Consumes}
use Rattle.play.specs.Plays.{IoState}
use Rattle.ports.specs.Contents.{IsUsedUp}
use Rattle.schedule_texts.specs.declared.kit.KitText.TheVariants as kit
use Rattle.schedule_texts.specs.declared.kit_line.KitLine.{KitLine}
use Rattle.text_trace.specs.Lines.{seen, text_lines}
use Rattle.whole_text.specs.Gathered.{lines_from, nothing, owed_whole, unread}
use Rattle.ports.specs.Outside.{OfDisk}
use Rattle.node_command.specs.Members.{kit_judging}
use Rattle.command_line.specs.Causes.{Says, cause_line}
use Rattle.command_line.specs.Traced.{Traced}
use Rattle.command_line.specs.declared.status.Status.{Status}
use Rattle.command_line.specs.declared.status.Status.TheVariants as status

-- The causes that may come behind the text of a member.
abbrev pub IsBehindText : Status → Type 0
IsBehindText status.Usage = ⊥
IsBehindText (status.BadInput line w) = ⊥
IsBehindText (status.Forged line who body) = ⊥
IsBehindText status.ReadFault = ⊥
IsBehindText (status.StoreTaken len) = ⊥
IsBehindText _ = Unit {0}

-- The whole text of a member was taken, none of whose lines is refused; the line of the first cause was written last, or a front
-- of it where a write failed.
pub record TakenWhole (was now : IoState) (s : Status) : Type 0 where
  pub cause : Status
  pub failed : Bool
  pub bytes : List ℕ
  pub lines : List KitLine
  pub line : List ℕ
  pub says : Says failed cause line s
  pub behind : IsBehindText cause
  pub read : Consumes was.left now.left bytes
  pub few : length (seen bytes) ≤ text_lines
  pub used_up : IsUsedUp now.left
  pub all : IfSome was.left (λ left. left ≡ bytes)
  pub are : lines_from kit_judging (unread kit.Start) (seen bytes) ≡ Ok lines

-- The text of a member was cut off, and nothing is told of it then, whatever would be told at its end; or it was taken whole.
pub data NodeTraced (was now : IoState) (s : Status) : Type 0 where
  CutOff : ((tell : List KitLine → List ℕ) → Traced (owed_whole kit_judging kit.Start tell) was now s) → NodeTraced was now s
  Whole : TakenWhole was now s → NodeTraced was now s

-- P holds where no line of the text that is left refuses it.
abbrev pub OnUnrefused : Option (List ℕ) → Type 0 → Type 0
OnUnrefused left P = IfSome left (λ all. (owed_whole kit_judging kit.Start nothing (seen all)).cause ≡ None → P)

-- How a node's run may end whose text isn't refused, and where nothing failed but a port.
abbrev pub IsNodeDone : Status → Type 0
IsNodeDone status.Ok = Unit {0}
IsNodeDone (status.StoreBroken place byte) = Unit {0}
IsNodeDone status.LinkFault = Unit {0}
IsNodeDone (status.Exhausted next) = Unit {0}
IsNodeDone status.OutOfMemory = Unit {0}
IsNodeDone _ = ⊥

-- How one may end that is so, and whose store is one of its key with an index left.
abbrev pub IsNodeWhole : Status → Type 0
IsNodeWhole status.Ok = Unit {0}
IsNodeWhole status.LinkFault = Unit {0}
IsNodeWhole status.OutOfMemory = Unit {0}
IsNodeWhole _ = ⊥

-- Nothing was written but the line of this answer, and the disk is as it was.
pub record IsUntouched (s : Status) (was now : IoState) (old new : OfDisk) : Type 0 where
  pub wrote : Appends was.taken now.taken (cause_line s)
  pub faults : new.faults ≡ old.faults
  pub moments : new.moments ≡ old.moments

-- Where the text is refused, a read failed, or the port can't be bound, nothing was written or done.
abbrev pub NodeUpheld : IoState → IoState → OfDisk → OfDisk → Status → Type 0
NodeUpheld was now old new (status.BadInput line w) = IsUntouched (status.BadInput line w) was now old new
NodeUpheld was now old new status.ReadFault = IsUntouched status.ReadFault was now old new
NodeUpheld was now old new status.LinkFault = IsUntouched status.LinkFault was now old new
NodeUpheld was now old new _ = Unit {0}
