-- How far a call has come with its records.
use Rattle.std.specs.Prelude.{◌≡◌, ℕ, false, Option, Some, List, ◌++◌, fold}
use Rattle.journal.specs.declared.event.Event as journal
use Rattle.records.specs.declared.Record.{Record}
use Rattle.node_rules.specs.Nodes.{Setting}
use Rattle.node_rules.specs.Calls.{Call}
use Rattle.node_rules.specs.Deliveries.{handles_all}
use Rattle.ports.specs.Disk.{Moment}
use Rattle.ports.specs.MemoryDisk.{DiskState}
use Rattle.node_rules.specs.OnDisks.{handles_on}
use Rattle.node_core.specs.OnDisks.{ComesTo, on_disk, storage}
use Rattle.node_core.specs.Playing.{Kept, Plays, Grows}
use Rattle.node_core.specs.Spending.{Spends}

-- These records were handled, and the rest is to come.
pub record Handled (old now : Kept) (older newer : List Moment) (disk disk_now : Option DiskState) (records rest : List Record) : Type 0 where
  pub done : List Record
  pub split : records ≡ done ++ rest
  pub plays : (s : Setting) (es : List journal.Event) (os : List (ℕ × List ℕ)) (c : Call) → Plays s es os old c → Plays s es os now (handles_all s done c)
  pub comes : (s : Setting) (es : List journal.Event) (os : List (ℕ × List ℕ)) (c : Call) (d : DiskState) → Plays s es os old c → c.ended ≡ false → disk ≡ Some d → now.telling.failed ≡ false
      → ComesTo s es os now disk_now false (fold (handles_on storage s) (on_disk c d old.signer.seat) done)
  pub grows : Grows old now
  pub spends : Spends old now older newer
  pub closed : now.signer.closed ≡ old.signer.closed
