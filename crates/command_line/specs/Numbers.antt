-- The numbers with which the program exits.
use Rattle.std.specs.Prelude.{ℕ}
use Rattle.command_line.specs.declared.status.Status.{Status}
use Rattle.command_line.specs.declared.status.Status.TheVariants as status

abbrev pub status_number : Status → ℕ
status_number status.Ok = 0
status_number status.Usage = 2
status_number (status.BadInput line _) = 3
status_number (status.Forged line who body) = 4
status_number status.ReadFault = 5
status_number status.WriteFault = 6
status_number status.StoreFault = 7
status_number (status.StoreBroken place byte) = 8
status_number status.LinkFault = 9
status_number (status.Exhausted next) = 10
status_number status.OutOfMemory = 11
status_number (status.StoreTaken len) = 12
