-- A file or a socket of the system, as contracts see it: what it holds is not modelled.
use Rattle.std.specs.Prelude.{ℕ, Bool, true, false, List, []}
use Rattle.ports.specs.declared.Opened as opened
use Rattle.ports.specs.Disk.{Moment}
use Rattle.ports.specs.Count.{next_count, counted}

-- whether one is open, and how many calls failed
pub record Device : Type 0 where
  pub is_open : Bool
  pub faults : ℕ

-- after a call that failed or didn't
abbrev pub after_call : Bool → Device → Device
after_call failed device = record device { faults = counted failed device.faults }

-- after an opening: what was open stays so where it isn't done
abbrev pub after_open : opened.Opened → Device → Device
after_open opened.TheVariants.Done device = record device { is_open = true }
after_open opened.TheVariants.Failed device = record device { faults = next_count device.faults }
after_open opened.TheVariants.OutOfMemory device = device

-- what was open is closed
abbrev pub closed : Device → Device
closed device = record device { is_open = false }

-- no moment of the file is modelled
abbrev pub untold : List Moment
untold = []
