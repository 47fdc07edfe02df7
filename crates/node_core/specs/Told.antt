-- What a call has reported and sent so far.
use Rattle.std.specs.Prelude.{◌≡◌, ℕ, ◌-◌, Bool, false, true, List, [], ◌∷◌, ◌++◌, length, map}
use Rattle.ff_ids.specs.Steps.{Report}
pub use Rattle.signer.specs.Lives.{IsPrefix}
use Rattle.journal.specs.declared.event.Event as journal
use Rattle.journal.specs.declared.event.What as whats
use Rattle.journal.specs.declared.event.What.TheVariants as told
use Rattle.node_rules.specs.Calls.{told_of}

-- The events and the datagrams, how many datagrams there were before the call, and whether memory was refused.
pub record Tellings : Type 0 where
  pub events : List journal.Event
  pub sent : List (ℕ × List ℕ)
  pub before : ℕ
  pub failed : Bool

-- It says that a datagram is lost.
abbrev pub is_loss : whats.What → Bool
is_loss (told.Lost number) = true
is_loss other = false

-- What a node reports is no loss: who gives its datagrams to a link knows of those.
abbrev pub IsNoLoss : journal.Event → Type 0
IsNoLoss e = is_loss e.what ≡ false

abbrev pub with_event : ℕ → whats.What → Tellings → Tellings
with_event moment what w = record w { events = w.events ++ record { moment = moment; what = what } ∷ [] }

abbrev pub with_report : ℕ → Report → Tellings → Tellings
with_report moment r w = record w { events = w.events ++ told_of moment r }

abbrev pub with_sent : ℕ → List ℕ → ℕ → Tellings → Tellings
with_sent moment bytes to w =
    record w {
      events = w.events ++ record { moment = moment; what = told.Sent (length w.sent - w.before) to bytes } ∷ [];
      sent = w.sent ++ (to, bytes) ∷ [];
    }

-- This is added, or memory was refused and a front of it is. Where memory was refused before, nothing is.
pub record Adds (f : Tellings → Tellings) (old new : Tellings) : Type 0 where
  pub going : new.failed ≡ false → (old.failed ≡ false) × (new ≡ f old)
  pub stuck : old.failed ≡ true → new ≡ old
  pub events : IsPrefix old.events new.events
  pub sent : IsPrefix old.sent new.sent
  pub events_due : IsPrefix new.events (f old).events
  pub sent_due : IsPrefix new.sent (f old).sent
  pub before : new.before ≡ old.before

-- An event for each of these.
abbrev pub with_each : {X : Type 0} → ℕ → (X → whats.What) → List X → Tellings → Tellings
with_each moment f xs w = record w { events = w.events ++ map (λ x. record { moment = moment; what = f x }) xs }
