-- How a run over a text ends: what it took and wrote of it, and the line of the first cause that stopped it.
use Rattle.std.specs.Prelude.{◌≡◌, ◌⊎◌, ℕ, Bool, List, Option, Some, None, Result, OnOk, IfErr}
use Rattle.std.specs.Io.KnownBytes.{Appends}
use Rattle.line_text.specs.declared.bad_word.BadWord.{BadWord}
use Rattle.ports.specs.Count.{Rose, counted, next_count}
use Rattle.ports.specs.Link.{LinkState}
use Rattle.ports.specs.Outside.{OfClock, OfDisk, OfLink}
use Rattle.play.specs.Plays as plays
use Rattle.play.specs.Plays.{IoState, Unfailed}
use Rattle.text_trace.specs.Lines.{text_lines}
use Rattle.text_trace.specs.Trace.{Every, Continuation}
use Rattle.authority.specs.declared.halt.Halt.{Halt}
use Rattle.authority.specs.Making.{Makes}
use Rattle.authority.specs.Enrolling.{Enrols}
use Rattle.authority.specs.Migrating.{Migrates}
use Rattle.node_command.specs.declared.halt.NodeHalt.{NodeHalt}
use Rattle.node_command.specs.declared.halt.NodeHalt.TheVariants as node
use Rattle.node_command.specs.declared.stay.Stay.{Stay}
use Rattle.node_command.specs.Journal.{environment}
use Rattle.node_command.specs.Running.{NetInputs, IsCaused, Runs, Takes}
use Rattle.node_command.specs.Spendings.{Spends}
use Rattle.node_command.specs.Written.{LinesRest}
use Rattle.command_line.specs.Causes.{RunEnd, Says, for_word, status_by, status_of_halt, status_of_node}
use Rattle.command_line.specs.declared.command.Command.{Command}
use Rattle.command_line.specs.declared.command.Command.TheVariants.{Node}
use Rattle.command_line.specs.declared.status.Status.{Status}
use Rattle.command_line.specs.declared.status.Status.TheVariants as status

-- Just this is owed.
abbrev pub Is : {C : Type 0} → Continuation C → Continuation C → Type 0
Is owed f = f ≡ owed

-- A run that stopped for the first status says so and no more, and answers this status; a write of the line may fail.
pub record Tells (first : Status) (was now : IoState) (s : Status) : Type 0 where
  pub failed : Bool
  pub line : List ℕ
  pub says : Says failed first line s
  pub wrote : Appends was.taken now.taken line
  pub left : now.left ≡ was.left
  pub reads : now.read_faults ≡ was.read_faults
  pub writes : now.write_faults ≡ counted failed was.write_faults

-- A run over a text that owes this ends so: the loop stopped for a first cause, or came to the end, and the line of that
-- cause is the last that is written. A line that is refused has this status; memory is refused for none that a cause refuses
-- of which P holds.
pub record EndsBy {C : Type 0} (P : C → Type 0) (refusal : ℕ → C → Status) (owed : Continuation C) (was now : IoState) (s : Status) : Type 0 where
  pub result : RunEnd C
  pub between : IoState
  pub runs : plays.Runs C P (Is owed) text_lines was between result
  pub tells : Tells (status_by refusal result) between now s

-- The same where a line is refused for a bad word alone.
abbrev pub Ends : Continuation BadWord → IoState → IoState → Status → Type 0
Ends owed was now s = EndsBy Every for_word owed was now s

-- A command of an authority ended for some answer, with P of how it then stood; and the line of its cause is the last that
-- is written.
pub record HaltEnds (P : IoState → Result (Unit {0}) Halt → Type 0) (now : IoState) (s : Status) : Type 0 where
  pub result : Result (Unit {0}) Halt
  pub between : IoState
  pub stands : P between result
  pub tells : Tells (status_of_halt result) between now s

-- How the making of a store ends, an enrolment, and the move of a store.
abbrev pub StoreEnds : List ℕ → IoState → IoState → OfDisk → OfDisk → Status → Type 0
StoreEnds name was now old new s = HaltEnds (λ between result. Makes name was between old new result) now s

abbrev pub EnrollEnds : List ℕ → IoState → IoState → OfDisk → OfDisk → Status → Type 0
EnrollEnds name was now old new s = HaltEnds (λ between result. Enrols name was between old new result) now s

abbrev pub MigrateEnds : List ℕ → IoState → IoState → OfDisk → OfDisk → Status → Type 0
MigrateEnds name was now old new s = HaltEnds (λ between result. Migrates name was between old new result) now s

-- What a node is served over: what the link holds and how often it failed, the clock's last reading and those to come.
pub record NetState : Type 0 where
  pub contents : Option LinkState
  pub faults : ℕ
  pub reading : ℕ
  pub readings : Option (List ℕ)

abbrev pub net_state : OfLink → OfClock → NetState
net_state link clock = record { contents = link.contents; faults = link.faults; reading = clock.reading; readings = clock.coming }

-- What the run of a member took, wrote, did and left, where link and clock are modelled.
abbrev pub RunsFed : Stay → IoState → IoState → OfDisk → OfDisk → NetState → NetState → Result (Unit {0}) NodeHalt → Type 0
RunsFed stay was between old new before after result =
    (feed : NetInputs) → before.contents ≡ Some feed.link → before.readings ≡ Some feed.readings → before.reading ≡ feed.reading → stay ≡ feed.stay
    → Runs feed was between (environment was.taken before.contents old) (environment between.taken after.contents new) result

-- What the lines rest on that the run of a member has written, where link and clock are modelled.
abbrev pub RestsFed : Stay → IoState → IoState → OfDisk → NetState → Result (Unit {0}) NodeHalt → Type 0
RestsFed stay was between old before result =
    (feed : NetInputs) → before.contents ≡ Some feed.link → before.readings ≡ Some feed.readings → before.reading ≡ feed.reading → stay ≡ feed.stay
    → LinesRest feed was between old result

-- How the run of a member ends: it ended for some answer, and the line of its cause is the last that is written. What it took
-- of its text, which side failed, which file it opened where its store is broken, and what the lines of its journal give of
-- signatures is said whether or not link and clock are modelled.
pub record NodeEnds (name : List ℕ) (stay : Stay) (was now : IoState) (old new : OfDisk) (before after : NetState) (s : Status) : Type 0 where
  pub result : Result (Unit {0}) NodeHalt
  pub between : IoState
  pub takes : Takes was between old new result
  pub cause : IsCaused name was old new result
  pub no_disk_fault : OnOk result (new.faults ≡ old.faults)
  pub store_fault : IfErr result (λ h. h ≡ node.StoreFault → Rose old.faults new.faults)
  pub link_fault : IfErr result (λ h. h ≡ node.LinkFault → after.faults ≡ next_count before.faults)
  pub runs : RunsFed stay was between old new before after result
  pub rests : RestsFed stay was between old before result
  pub spends : Spends was between old new before.faults after.faults result
  pub tells : Tells (status_of_node result) between now s

-- The count of faults of the disk: a fault of the store raises it by one, and also where the line that says so can't be
-- written; else it stays.
abbrev pub DiskCounts : OfDisk → OfDisk → Status → Type 0
DiskCounts old new status.StoreFault = new.faults ≡ next_count old.faults
DiskCounts old new status.WriteFault = (new.faults ≡ old.faults) ⊎ (new.faults ≡ next_count old.faults)
DiskCounts old new _ = new.faults ≡ old.faults

-- The same of a node's run: a fault of the store may be more than one of the disk.
abbrev pub NodeCounts : OfDisk → OfDisk → Status → Type 0
NodeCounts old new status.Ok = new.faults ≡ old.faults
NodeCounts old new (status.BadInput line w) = new.faults ≡ old.faults
NodeCounts old new status.ReadFault = new.faults ≡ old.faults
NodeCounts old new status.StoreFault = Rose old.faults new.faults
NodeCounts old new status.LinkFault = new.faults ≡ old.faults
NodeCounts old new _ = Unit {0}

abbrev pub DiskCountsAs : Command → OfDisk → OfDisk → Status → Type 0
DiskCountsAs (Node stay) old new s = NodeCounts old new s
DiskCountsAs other old new s = DiskCounts old new s

abbrev pub FaultsAs : Option Command → OfDisk → OfDisk → Status → Type 0
FaultsAs None old new s = DiskCounts old new s
FaultsAs (Some command) old new s = DiskCountsAs command old new s

-- The counts of faults after a run: a cause that is no fault leaves both, a fault raises its own by one. Where the line
-- of a read fault can't be written, both rise.
abbrev pub Counts : IoState → IoState → Status → Type 0
Counts was now status.ReadFault = (now.read_faults ≡ next_count was.read_faults) × (now.write_faults ≡ was.write_faults)
Counts was now status.WriteFault =
    ((now.read_faults ≡ was.read_faults) ⊎ (now.read_faults ≡ next_count was.read_faults)) × (now.write_faults ≡ next_count was.write_faults)
Counts was now _ = Unfailed was now
