-- A datagram is heard whole, or up to a record in whose answer the disk fails.
use Rattle.std.specs.Prelude.{◌≡◌, ℕ, Bool, true, false, List, Some, Result, Ok, Err, take}
use Rattle.std.specs.List.{slice_get}
use Rattle.records.specs.declared.Record.{Record}
use Rattle.datagram.specs.declared.Datagram.{Datagram}
use Rattle.datagram.specs.declared.Datagram.TheVariants as kinds
use Rattle.node_rules.specs.Nodes.{Setting}
use Rattle.node_rules.specs.Calls.{Call}
use Rattle.node_rules.specs.Deliveries.{handles, handles_all, hears}
use Rattle.node_core.specs.declared.NodeFault.{NodeFault}

pub record StopsAt (Q : Call → Call → Type 0) (s : Setting) (heard : Result Datagram ℕ) (c : Call) : Type 0 where
  pub from : ℕ
  pub records : List Record
  pub is : heard ≡ Ok (kinds.Records from records)
  pub place : ℕ
  pub at : Record
  pub found : slice_get records place ≡ Some at
  pub runs : Q (hears s heard c) (handles false s (handles_all s (take place records) c) at)

abbrev pub RunsHearing : (Call → Type 0) → (Call → Call → Type 0) → Setting → Result Datagram ℕ → Call → Result (Unit {0}) NodeFault → Type 0
RunsHearing P Q s heard c (Ok done) = P (hears s heard c)
RunsHearing P Q s heard c (Err fault) = StopsAt Q s heard c

-- What was read is a datagram that brings records: only in the answer to one is anything signed.
abbrev pub brings_records : Result Datagram ℕ → Bool
brings_records (Ok (kinds.Ping from nonce)) = false
brings_records (Ok (kinds.Pong from nonce)) = false
brings_records (Ok (kinds.Summary from flag summary)) = false
brings_records (Ok (kinds.Records from records)) = true
brings_records (Err place) = false
