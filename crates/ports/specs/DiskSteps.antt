-- A disk whose state is modelled: what each call makes of it, and which calls fail.
use Rattle.std.specs.Prelude.{◌≡◌, Bool, true, false, ◌&&◌, not, if◌then◌else◌, Option, None, Some, List, [], ◌∷◌, length}
use Rattle.ports.specs.declared.Opened.{Opened}
use Rattle.ports.specs.declared.Opened.TheVariants as opened
use Rattle.ports.specs.DiskCalls.{DiskCall, ToOpen, ToMeasure, ToRead, ToWrite, ToSync}
use Rattle.ports.specs.MemoryDisk.{DiskState, turn_of, passes, fits, can_sync, after_turn, after_write, after_sync}

abbrev pub call_fails : DiskCall → DiskState → Bool
call_fails (ToOpen name) disk = not (passes (turn_of disk))
call_fails ToMeasure disk = not (passes (turn_of disk))
call_fails (ToRead place count) disk = not (passes (turn_of disk))
call_fails (ToWrite place bytes) disk = not (passes (turn_of disk) && fits disk place (length bytes))
call_fails ToSync disk = not (passes (turn_of disk) && can_sync disk)

abbrev pub after_call : DiskCall → DiskState → DiskState
after_call (ToOpen name) disk = after_turn (turn_of disk) disk
after_call ToMeasure disk = after_turn (turn_of disk) disk
after_call (ToRead place count) disk = after_turn (turn_of disk) disk
after_call (ToWrite place bytes) disk = after_write (turn_of disk) place bytes disk
after_call ToSync disk = after_sync (turn_of disk) disk

-- how far some calls came: the disk behind them, and whether one failed
pub record Came : Type 0 where
  pub disk : DiskState
  pub failed : Bool

abbrev pub makes : DiskCall → Came → Came
makes call came = if came.failed then came else record { disk = after_call call came.disk; failed = call_fails call came.disk }

-- these calls, the last one first, up to one that fails
abbrev pub runs : List DiskCall → DiskState → Came
runs [] disk = record { disk = disk; failed = false }
runs (call ∷ earlier) disk = makes call (runs earlier disk)

-- where the state of the disk is modelled
abbrev pub runs_on : List DiskCall → Option DiskState → Option Came
runs_on calls None = None
runs_on calls (Some disk) = Some (runs calls disk)

-- A disk of a known state, and whether a call of it failed.
abbrev pub came_to : Option DiskState → Bool → Option Came
came_to None failed = None
came_to (Some disk) failed = Some (record { disk = disk; failed = failed })

-- the file was opened or not, as follows from the state; memory is refused only where it isn't modelled
abbrev pub OpensOn : List DiskCall → Option DiskState → Option DiskState → Opened → Type 0
OpensOn calls older newer opened.Done = came_to newer false ≡ runs_on calls older
OpensOn calls older newer opened.Failed = came_to newer true ≡ runs_on calls older
OpensOn calls older newer opened.OutOfMemory = older ≡ None
