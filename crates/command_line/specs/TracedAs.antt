-- What was written, beside the trace of what was taken, for each command; and where all of a command is run.
use Rattle.std.specs.Prelude.{◌≡◌, ◌≤◌, ◌<◌, ◌⊎◌, ℕ, Bool, List, [], ◌∷◌, ◌++◌, length, Some, None, IfSome, Ok}
use Rattle.std.specs.Io.KnownBytes.{Appends, Consumes}
use Rattle.line_text.specs.declared.bad_word.BadWord.{BadWord}
use Rattle.play.specs.Plays.{IoState}
use Rattle.ports.specs.Contents.{IsUsedUp}
use Rattle.ports.specs.Count.{Rose}
use Rattle.ports.specs.Disk.{Moment}
use Rattle.epoch_store.specs.declared.seat.Seat.{Seat}
use Rattle.epoch_store.specs.declared.Stored.{Stored}
use Rattle.epoch_store.specs.Calls.{HoldsStore}
use Rattle.epoch_store.specs.Store.{StoreOf}
use Rattle.schedule_texts.specs.declared.line.RosterLine.{RosterLine}
use Rattle.schedule_texts.specs.declared.line.SecretLine.{SecretLine}
use Rattle.schedule_texts.specs.declared.migrate.MigrateText.TheVariants as migrate
use Rattle.schedule_texts.specs.declared.roster.RosterText.TheVariants as roster
use Rattle.schedule_texts.specs.declared.kit.KitText.TheVariants as kit
use Rattle.schedule_texts.specs.declared.kit_line.KitLine.{KitLine}
use Rattle.sign_keys.specs.Keys.{index_count}
use Rattle.text_trace.specs.Lines.{seen, text_lines}
use Rattle.text_trace.specs.Trace.{Continuation}
use Rattle.world_replay.specs.Causes.{IsJudged}
use Rattle.command_line.specs.Replayed.{replayed}
use Rattle.verifier.specs.Answered.{verified}
use Rattle.whole_text.specs.Gathered.{lines_from, unread}
use Rattle.authority.specs.declared.moving.Moving.{Moving}
use Rattle.authority.specs.declared.setting.Setting.{Setting}
use Rattle.ports.specs.Outside.{OfDisk}
use Rattle.authority.specs.Settings.{asked_in, roster_judging, roster_setting, tag_of}
use Rattle.authority.specs.Making.{stored}
use Rattle.authority.specs.Texts.{IsRoster}
use Rattle.authority.specs.Enrolling.{IsEnough}
use Rattle.authority.specs.Lines.{enrolled}
use Rattle.authority.specs.Migrating.{count_of, moved_on, old_tag}
use Rattle.authority.specs.Moved.{migrate_judging, migrate_setting}
use Rattle.command_line.specs.Causes.{Says, for_cause}
use Rattle.node_command.specs.declared.kit.Member.{Member}
use Rattle.node_command.specs.Members as node
use Rattle.node_command.specs.Members.{SetsUp, kit_judging, set_by}
use Rattle.command_line.specs.Migration.{FoundToMove}
use Rattle.command_line.specs.Serving.{NodeTraced, OnUnrefused, IsNodeDone, IsNodeWhole}
use Rattle.command_line.specs.Soaking.{SoakCompletes, TracedSoak}
use Rattle.command_line.specs.Traced.{Completes, IsComplete, Traced, TracedBy}
use Rattle.command_line.specs.declared.command.Command.{Command}
use Rattle.command_line.specs.declared.command.Command.TheVariants.{Replay, Verify, Store, Enroll, Migrate, Node, Soak}
use Rattle.command_line.specs.declared.status.Status.{Status}
use Rattle.command_line.specs.declared.status.Status.TheVariants as status

-- What is owed behind what was written, where the whole text was taken, by the first cause: nothing where the run came to its
-- end, or the key was used up. The causes that stop a run before the end of its text don't come.
abbrev pub IsOwedBehind : List ℕ → Status → Type 0
IsOwedBehind rest status.Ok = rest ≡ []
IsOwedBehind rest status.Usage = ⊥
IsOwedBehind rest (status.BadInput line w) = ⊥
IsOwedBehind rest (status.Forged line who body) = ⊥
IsOwedBehind rest status.ReadFault = ⊥
IsOwedBehind rest status.WriteFault = Unit {0}
IsOwedBehind rest status.StoreFault = Unit {0}
IsOwedBehind rest (status.StoreBroken place byte) = Unit {0}
IsOwedBehind rest status.LinkFault = ⊥
IsOwedBehind rest (status.Exhausted next) = rest ≡ []
IsOwedBehind rest status.OutOfMemory = Unit {0}
IsOwedBehind rest (status.StoreTaken len) = Unit {0}

-- The whole text was taken, none of whose lines is refused. Written was a front of its trace, and behind it the line of the
-- first cause, or a front of it where a write failed.
pub record TracedWhole (owed : Continuation BadWord) (was now : IoState) (s : Status) : Type 0 where
  pub cause : Status
  pub failed : Bool
  pub bytes : List ℕ
  pub text : List ℕ
  pub rest : List ℕ
  pub line : List ℕ
  pub says : Says failed cause line s
  pub read : Consumes was.left now.left bytes
  pub few : length (seen bytes) ≤ text_lines
  pub used_up : IsUsedUp now.left
  pub all : IfSome was.left (λ left. left ≡ bytes)
  pub wrote : Appends was.taken now.taken (text ++ line)
  pub front : owed (seen bytes) ≡ record { output = text ++ rest; cause = None }
  pub owing : IsOwedBehind rest cause

-- A text that was cut off, or taken whole.
abbrev pub TracedEither : Continuation BadWord → IoState → IoState → Status → Type 0
TracedEither owed was now s = Traced owed was now s ⊎ TracedWhole owed was now s

-- A whole roster was read, and a store of the key that it sets up was found, with this state.
pub record FoundToEnroll (o : Stored) (was : IoState) (old : OfDisk) : Type 0 where
  pub setting : Setting
  pub lines : List RosterLine
  pub between : IoState
  pub read : IsRoster was between setting lines
  pub seat : Seat
  pub found : HoldsStore (tag_of setting) o seat old.moments

-- What a text is owed where the store that is found has this state.
abbrev pub OwedFor : Type 0
OwedFor = Stored → Continuation BadWord

-- The text was cut off, or no store was found: then the trace is told whatever store there is. Else it is told by the state of the
-- store that was found.
pub data TracedFound (Found : Stored → IoState → OfDisk → Type 0) (owed : OwedFor) (was now : IoState) (old : OfDisk) (s : Status) : Type 0 where
  CutOff : ((o : Stored) → Traced (owed o) was now s) → TracedFound Found owed was now old s
  Unopened : ((o : Stored) → TracedWhole (owed o) was now s) → TracedFound Found owed was now old s
  Opened : (o : Stored) → Found o was old → TracedWhole (owed o) was now s → TracedFound Found owed was now old s

-- A roster's trace is told by the next index alone.
abbrev pub enrolled_from : OwedFor
enrolled_from o = enrolled o.next

-- What was written beside the trace of what was taken, for each command.
abbrev pub TracedAs : Command → IoState → IoState → OfDisk → OfDisk → Status → Type 0
TracedAs Replay was now old new s = TracedBy IsJudged for_cause replayed was now s
TracedAs Verify was now old new s = Traced verified was now s
TracedAs Store was now old new s = TracedEither stored was now s
TracedAs Enroll was now old new s = TracedFound FoundToEnroll enrolled_from was now old s
TracedAs Migrate was now old new s = TracedFound FoundToMove moved_on was now old s
TracedAs (Node stay) was now old new s = NodeTraced was now s
TracedAs (Soak seed members rounds) was now old new s = TracedSoak seed members rounds was now s

-- ## Where all of it is run

-- Of the file that is modelled P holds.
abbrev pub OnImage : List Moment → (List ℕ → Type 0) → Type 0
OnImage [] P = ⊥
OnImage (now ∷ past) P = P now.image

-- The source, the sink and the disk didn't fail.
pub record NoneFailed (was now : IoState) (old new : OfDisk) : Type 0 where
  pub reads : ¬ (Rose was.read_faults now.read_faults)
  pub writes : ¬ (Rose was.write_faults now.write_faults)
  pub disk : ¬ (Rose old.faults new.faults)

-- A store is made where no line of the text is refused, and the file is empty.
abbrev pub StoreCompletes : IoState → IoState → OfDisk → OfDisk → Status → Type 0
StoreCompletes was now old new s = IfSome was.left (λ all. (stored (seen all)).cause ≡ None → OnImage old.moments (λ image. length image ≡ 0)
    → NoneFailed was now old new → IsComplete s)

-- Certificates are signed where no line of the roster is refused, and the file is a store of its key that has an index for each.
abbrev pub EnrollCompletes : IoState → IoState → OfDisk → OfDisk → Status → Type 0
EnrollCompletes was now old new s = IfSome was.left (λ all. (lines : List RosterLine) (setting : Setting) (o : Stored)
    → lines_from roster_judging (unread roster.Start) (seen all) ≡ Ok lines → roster_setting lines ≡ Some setting
    → OnImage old.moments (λ image. StoreOf (tag_of setting) image o) → IsEnough setting o.next (asked_in lines)
    → NoneFailed was now old new → IsComplete s)

-- A store moves where no line of the text is refused, and the file is a store of its key in the group that it leaves, with an index
-- left.
abbrev pub MigrateCompletes : IoState → IoState → OfDisk → OfDisk → Status → Type 0
MigrateCompletes was now old new s = IfSome was.left (λ all. (lines : List SecretLine) (m : Moving) (o : Stored)
    → lines_from migrate_judging (unread migrate.Start) (seen all) ≡ Ok lines → migrate_setting lines ≡ Some m
    → OnImage old.moments (λ image. StoreOf (old_tag m) image o) → o.next < count_of m
    → NoneFailed was now old new → IsComplete s)

-- A node's life comes to its end, its store is found broken or used up, or its port can't be bound, where no line of its text
-- is refused and nothing failed.
abbrev pub NodeEndsWell : IoState → IoState → OfDisk → OfDisk → Status → Type 0
NodeEndsWell was now old new s = OnUnrefused was.left (NoneFailed was now old new → IsNodeDone s)

-- Where the text sets up a member, and the file is a store of its key with an index left, the store is found neither broken nor
-- used up.
abbrev pub NodeOpens : IoState → IoState → OfDisk → OfDisk → Status → Type 0
NodeOpens was now old new s = IfSome was.left (λ all. (lines : List KitLine) (m : Member) (o : Stored)
    → lines_from kit_judging (unread kit.Start) (seen all) ≡ Ok lines → SetsUp (set_by lines) m
    → OnImage old.moments (λ image. StoreOf (node.tag_of m) image o) → o.next < index_count (node.key_of m)
    → NoneFailed was now old new → IsNodeWhole s)

pub record NodeCompletes (was now : IoState) (old new : OfDisk) (s : Status) : Type 0 where
  pub unrefused : NodeEndsWell was now old new s
  pub opened : NodeOpens was now old new s

-- When all of a command is run: where no line refuses the text and nothing failed.
abbrev pub CompletesAs : Command → IoState → IoState → OfDisk → OfDisk → Status → Type 0
CompletesAs Replay was now old new s = Completes replayed was now s
CompletesAs Verify was now old new s = Completes verified was now s
CompletesAs Store was now old new s = StoreCompletes was now old new s
CompletesAs Enroll was now old new s = EnrollCompletes was now old new s
CompletesAs Migrate was now old new s = MigrateCompletes was now old new s
CompletesAs (Node stay) was now old new s = NodeCompletes was now old new s
CompletesAs (Soak seed members rounds) was now old new s = SoakCompletes seed members rounds was now s
