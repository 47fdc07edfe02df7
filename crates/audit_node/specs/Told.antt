-- What a call owes and has sent so far.
use Rattle.std.specs.Prelude.{◌≡◌, ℕ, ◌+◌, Bool, false, List, [], ◌∷◌, ◌++◌, map}
use Rattle.ff_ids.specs.Steps.{Report}
pub use Rattle.signer.specs.Lives.{IsPrefix}
use Rattle.journal.specs.declared.event.What as whats
use Rattle.node_rules.specs.Calls.{told_of}
use Rattle.audit_node.specs.declared.owing.Owed.{Owed}
use Rattle.audit_node.specs.declared.owing.Owed.TheVariants as owings
use Rattle.audit_node.specs.declared.owing.OwedEvent.{OwedEvent}
use Rattle.audit_node.specs.Owing.{owed_as}

-- The owed events, how many datagrams the call has sent, and whether memory was refused.
pub record Tellings : Type 0 where
  pub events : List OwedEvent
  pub sent : ℕ
  pub failed : Bool

abbrev pub with_event : ℕ → whats.What → Tellings → Tellings
with_event moment what w = record w { events = w.events ++ record { moment = moment; owed = owings.What what } ∷ [] }

abbrev pub with_report : ℕ → Report → Tellings → Tellings
with_report moment r w = record w { events = w.events ++ map owed_as (told_of moment r) }

-- A datagram is sent, which has its number among those of the call.
abbrev pub with_sent : ℕ → (ℕ → Owed) → Tellings → Tellings
with_sent moment owed w =
    record w {
      events = w.events ++ record { moment = moment; owed = owed w.sent } ∷ [];
      sent = w.sent + 1;
    }

-- This is added, or memory was refused.
pub record Adds (f : Tellings → Tellings) (old new : Tellings) : Type 0 where
  pub going : new.failed ≡ false → (old.failed ≡ false) × (new ≡ f old)
  pub events : IsPrefix old.events new.events

-- An event for each of these.
abbrev pub with_each : {X : Type 0} → ℕ → (X → whats.What) → List X → Tellings → Tellings
with_each moment f xs w = record w { events = w.events ++ map (λ x. record { moment = moment; owed = owings.What (f x) }) xs }
