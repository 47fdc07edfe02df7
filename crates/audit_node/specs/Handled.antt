-- How far a call has come with its records, or with the silent.
use Rattle.std.specs.Prelude.{◌≡◌, ℕ, List, ◌++◌}
use Rattle.journal.specs.declared.event.Event as journal
use Rattle.records.specs.declared.Record.{Record}
use Rattle.node_rules.specs.Nodes.{Setting}
use Rattle.node_rules.specs.Calls.{Call}
use Rattle.node_rules.specs.Deliveries.{handles_all}
use Rattle.node_rules.specs.Ticking.{accuses_all}
use Rattle.audit_node.specs.Playing.{Kept, Plays, Grows}

-- These records were handled, and the rest is to come.
pub record Handled (old now : Kept) (records rest : List Record) : Type 0 where
  pub done : List Record
  pub split : records ≡ done ++ rest
  pub plays : (s : Setting) (es : List journal.Event) (c : Call) → Plays s es old c → Plays s es now (handles_all s done c)
  pub grows : Grows old now

-- These were accused, and the rest is to come.
pub record Accused (old now : Kept) (silent rest : List ℕ) : Type 0 where
  pub done : List ℕ
  pub split : silent ≡ done ++ rest
  pub plays : (s : Setting) (es : List journal.Event) (c : Call) → Plays s es old c → Plays s es now (accuses_all s done c)
  pub grows : Grows old now
