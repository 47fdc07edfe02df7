-- What a whole call reports: the moment of each event, and what none is.
use Rattle.std.specs.Prelude.{◌≡◌, ℕ, ◌+◌, ◌<◌, ◌^◌, Bool, true, false, List, []}
use Rattle.std.specs.List.{AllByRecursion}
use Rattle.records.specs.declared.Record.{Record}
use Rattle.epoch_store.specs.declared.Stored.{Stored}
use Rattle.journal.specs.declared.event.Event as journal
use Rattle.journal.specs.declared.event.What as whats
use Rattle.journal.specs.declared.event.What.TheVariants as told
use Rattle.node_rules.specs.Nodes.{Setting, Node, state_of}
use Rattle.node_rules.specs.Calls.{Call}
use Rattle.node_rules.specs.Starting.{started}
use Rattle.node_rules.specs.Lives.{Input, Delivers, Ticks, Leaves, call_of}
use Rattle.node_rules.specs.Sending.{is_sent, TellsSendings}

-- Neither that a datagram is lost or handed over, nor that the disk failed.
abbrev pub is_of_call : whats.What → Bool
is_of_call (told.Lost number) = false
is_of_call (told.Got number) = false
is_of_call told.Stopped = false
is_of_call other = true

-- The node's moment as the call began, and at a tick the next one.
abbrev pub moment_of : Setting → Node → Input → ℕ
moment_of s n (Delivers bytes) = (state_of s n).moment
moment_of s n Ticks = (state_of s n).moment + 1
moment_of s n Leaves = (state_of s n).moment

-- The event is told in a whole call, at this moment.
pub record IsToldAt (moment : ℕ) (e : journal.Event) : Type 0 where
  pub now : e.moment ≡ moment
  pub of_call : is_of_call e.what ≡ true

abbrev pub CallsTellNow : Type 0
CallsTellNow = (s : Setting) (n : Node) (i : Input) → AllByRecursion (IsToldAt (moment_of s n i)) (call_of s n i).told

-- So each moment fits in 64 bits, where the call began before the last.
abbrev pub MomentsFit : Type 0
MomentsFit = (s : Setting) (n : Node) (i : Input) → (state_of s n).moment < 18446744073709551615
    → AllByRecursion (λ (e : journal.Event). e.moment < 2 ^ 64) (call_of s n i).told

-- A start is at the first moment, and sends nothing.
pub record StartsAtOnce (c : Call) : Type 0 where
  pub told : AllByRecursion (IsToldAt 0) c.told
  pub unsent : AllByRecursion (λ (e : journal.Event). is_sent e.what ≡ false) c.told
  pub sent_so : c.sent ≡ []

abbrev pub StartsTellNow : Type 0
StartsTellNow = (s : Setting) (nonces : ℕ → ℕ) (certificates : List Record) (stored : Stored) → StartsAtOnce (started s nonces certificates stored)

-- What a whole call reports as sent is what it sends, and numbered from 0 on.
abbrev pub CallsTellSendings : Type 0
CallsTellSendings = (s : Setting) (n : Node) (i : Input) → TellsSendings (call_of s n i)
