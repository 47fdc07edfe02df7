-- How a tick of a node goes, by its answer.
use Rattle.std.specs.Prelude.{◌≡◌, ℕ, Bool, false, Option, Some, List, ◌++◌, Result, Ok, Err, fold, take}
use Rattle.std.specs.List.{slice_get}
use Rattle.journal.specs.declared.event.Event as journal
use Rattle.node_rules.specs.Nodes.{Setting, Node, state_of}
use Rattle.node_rules.specs.Calls.{Call}
use Rattle.node_rules.specs.Ticking.{accuses, accuses_all, due_tick, probes_after, silent_at, spread_at, spreads, ticked}
use Rattle.node_core.specs.declared.NodeFault.{NodeFault}
use Rattle.ports.specs.Disk.{Moment}
use Rattle.ports.specs.MemoryDisk.{DiskState}
use Rattle.node_rules.specs.OnDisks.{accuses_on}
use Rattle.node_core.specs.OnDisks.{ComesTo, on_disk, storage}
use Rattle.node_core.specs.Playing.{Kept, Plays, Grows}
use Rattle.node_core.specs.Spending.{Spends}
use Rattle.node_core.specs.Signatures.{StopsAt}

-- How a silent member is accused, by whether the disk works.
abbrev pub accusing : Setting → Bool → Call → ℕ → Call
accusing s works c m = accuses works s c m

-- All silent members are accused, or the disk failed.
abbrev pub RunsAccusing : (Call → Type 0) → (Call → Call → Type 0) → Setting → List ℕ → Call → Result (Unit {0}) NodeFault → Type 0
RunsAccusing P Q s silent c (Ok done) = P (accuses_all s silent c)
RunsAccusing P Q s silent c (Err fault) = StopsAt Q (accusing s) silent (accuses_all s silent c) c

-- These were accused, and the rest is to come.
pub record Accused (old now : Kept) (older newer : List Moment) (disk disk_now : Option DiskState) (silent rest : List ℕ) : Type 0 where
  pub done : List ℕ
  pub split : silent ≡ done ++ rest
  pub plays : (s : Setting) (es : List journal.Event) (os : List (ℕ × List ℕ)) (c : Call) → Plays s es os old c → Plays s es os now (accuses_all s done c)
  pub comes : (s : Setting) (es : List journal.Event) (os : List (ℕ × List ℕ)) (c : Call) (d : DiskState) → Plays s es os old c → c.ended ≡ false → disk ≡ Some d → now.telling.failed ≡ false
      → ComesTo s es os now disk_now false (fold (accuses_on storage s) (on_disk c d old.signer.seat) done)
  pub grows : Grows old now
  pub spends : Spends old now older newer
  pub closed : now.signer.closed ≡ old.signer.closed

-- What a due tick brings behind the tick of the life, or the disk failed in an accusation.
abbrev pub RunsDue : (Call → Type 0) → (Call → Call → Type 0) → Setting → List ℕ → List (ℕ × ℕ) → ℕ → Call → Result (Unit {0}) NodeFault → Type 0
RunsDue P Q s silent pings round c (Ok done) = P (due_tick s silent pings round c)
RunsDue P Q s silent pings round c (Err fault) = StopsAt Q (accusing s) silent (due_tick s silent pings round c) (spreads s c)

-- The probes of the life have seen the tick.
abbrev pub seen : Setting → Call → Call
seen s c = record c { node = probes_after s c.node (state_of s c.node) }

-- A tick was made, or the disk failed in an accusation, of one that is silent if memory sufficed.
abbrev pub RunsTick : Type 0 → (Call → Type 0) → (Call → Call → Type 0) → Setting → Node → Result (Unit {0}) NodeFault → Type 0
RunsTick Sufficed P Q s n (Ok done) = P (ticked s n)
RunsTick Sufficed P Q s n (Err fault) =
    (i : ℕ) × (m : ℕ) × ((Sufficed → slice_get (silent_at s n) i ≡ Some m) × Q (ticked s n) (accuses false s (accuses_all s (take i (silent_at s n)) (spread_at s n)) m))
