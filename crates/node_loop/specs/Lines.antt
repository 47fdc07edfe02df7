-- The lines that a life writes, whatever link and clock answer: the signatures that they give, and the faults of the link.
use Rattle.std.specs.Prelude.{◌≡◌, ℕ, Bool, List, [], flat_map, fold, Option, Result, Ok, Err}
use Rattle.std.specs.Io.KnownBytes.{Appends}
use Rattle.ports.specs.Count.{counted}
use Rattle.ports.specs.Disk.{Moment}
use Rattle.signer.specs.Lives.{Spent}
use Rattle.signer.specs.Signing.{SignerState}
use Rattle.node_core.specs.Spending.{LivesOn, spent_by}
use Rattle.node_core.specs.Told.{IsPrefix, is_loss}
use Rattle.node_loop.specs.declared.fault.ServeFault.{ServeFault}
use Rattle.node_loop.specs.declared.fault.ServeFault.TheVariants as faults
use Rattle.turn_rules.specs.Lines.{JournalLine, OfTurn, OfEvent, bytes_of}
use Rattle.node_loop.specs.Writing.{has_failed}

-- The signature that the line gives, if any: a line `spent` gives one.
abbrev pub spent_on : JournalLine → List Spent
spent_on (OfTurn turn) = []
spent_on (OfEvent event) = spent_by event.what

-- The signatures that the lines give, in order.
abbrev pub spent_in : List JournalLine → List Spent
spent_in lines = flat_map spent_on lines

-- The line says that a call of the link failed: a receive on a turn's line, a send on a line `lost`.
abbrev pub is_link_fault : JournalLine → Bool
is_link_fault (OfTurn turn) = has_failed (Ok turn.heard)
is_link_fault (OfEvent event) = is_loss event.what

-- The link's count of faults behind these lines: each that says so raises it, and no other.
abbrev pub faults_behind : List JournalLine → ℕ → ℕ
faults_behind lines count = fold (λ n line. counted (is_link_fault line) n) count lines

-- A front of these bytes was written.
pub record WroteFront (before after : Option (List ℕ)) (bytes : List ℕ) : Type 0 where
  pub text : List ℕ
  pub front : IsPrefix text bytes
  pub written : Appends before after text

-- All these lines were written; or a front of them, where a write failed or memory was refused.
abbrev pub WritesLines : Option (List ℕ) → Option (List ℕ) → List JournalLine
    → Result (Unit {0}) ServeFault → Type 0
WritesLines before after lines (Ok done) = Appends before after (bytes_of lines)
WritesLines before after lines (Err faults.StoreFault) = Appends before after (bytes_of lines)
WritesLines before after lines (Err faults.WriteFault) = WroteFront before after (bytes_of lines)
WritesLines before after lines (Err faults.OutOfMemory) = WroteFront before after (bytes_of lines)

-- Lines were written that give just these signatures, or a front of such lines; and of the link's faults they say each.
pub record WritesSpent (spent : List Spent) (before after : Option (List ℕ)) (count later : ℕ)
    (answer : Result (Unit {0}) ServeFault) : Type 0 where
  pub lines : List JournalLine
  pub give : spent_in lines ≡ spent
  pub written : WritesLines before after lines answer
  pub link : later ≡ faults_behind lines count

-- The lives of the key go on with just the signatures that these lines give, in order, and the link's count of faults rose
-- with just the lines that say so; and the lines were written, or a front of them where it broke off.
pub record GoesOn (old new : SignerState) (older newer : List Moment) (before after : Option (List ℕ))
    (count later : ℕ) (answer : Result (Unit {0}) ServeFault) : Type 0 where
  pub lines : List JournalLine
  pub written : WritesLines before after lines answer
  pub key : LivesOn (spent_in lines) old new older newer
  pub link : later ≡ faults_behind lines count
