-- The records that a life has come by, and that no others are sent.
use Rattle.std.specs.Prelude.{◌≡◌, ℕ, if◌then◌else◌, List, [], ◌∷◌, ◌++◌, Option, Some, None, is_some, filter_map, Contains}
use Rattle.std.specs.List.{AllByRecursion}
use Rattle.records.specs.declared.Record.{Record}
use Rattle.epoch_store.specs.declared.Stored.{Stored}
use Rattle.datagram.specs.declared.Datagram.{Datagram}
use Rattle.datagram.specs.declared.Datagram.TheVariants as kinds
use Rattle.datagram.specs.Spelling.{datagram_bytes}
use Rattle.datagram.specs.Grammar.{read_of}
use Rattle.journal.specs.declared.event.What as whats
use Rattle.journal.specs.declared.event.What.TheVariants as told
use Rattle.node_rules.specs.Nodes.{Setting, Node}
use Rattle.node_rules.specs.Refusals.{refusal}
use Rattle.node_rules.specs.Calls.{Call}
use Rattle.node_rules.specs.OnDisks.{called}
use Rattle.node_rules.specs.Starting.{started}
use Rattle.node_rules.specs.Lives.{Input, Delivers, Ticks, Leaves, call_of, life_of}
use Rattle.node_rules.specs.Verdicts.{records_in, when_handled}

-- ---- what a life comes by

-- The record that a spent index has made.
abbrev pub made_by : Setting → whats.What → Option Record
made_by s (told.Spent index body) = Some (record { body = body; signature = s.signature index body })
made_by s other = None

-- The records that the call has signed.
abbrev pub signed_in : Setting → Call → List Record
signed_in s c = filter_map (λ e. made_by s e.what) c.told

-- Those without a fault, each in the node as the records before it have left it.
abbrev pub accepted_of : Setting → Node → List Record → List Record
accepted_of s n [] = []
accepted_of s n (r ∷ records) = (if is_some (refusal s n r) then [] else r ∷ []) ++ accepted_of s (when_handled s n r) records

abbrev pub accepted_in : Setting → Node → Input → List Record
accepted_in s n (Delivers bytes) = accepted_of s n (records_in (read_of bytes))
accepted_in s n Ticks = []
accepted_in s n Leaves = []

-- These, and what the calls have accepted and signed.
abbrev pub gathered : Setting → Node → List Record → List Input → List Record
gathered s n known [] = known
gathered s n known (i ∷ inputs) = gathered s (call_of s n i).node (known ++ accepted_in s n i ++ signed_in s (call_of s n i)) inputs

-- The kit's certificates, the first note, and what the calls have accepted and signed.
abbrev pub known_in : Setting → (ℕ → ℕ) → List Record → Stored → List Input → List Record
known_in s nonces certificates stored inputs =
    gathered s (started s nonces certificates stored).node (certificates ++ signed_in s (started s nonces certificates stored)) inputs

-- ---- what is sent

abbrev pub records_of : Datagram → List Record
records_of (kinds.Records from records) = records
records_of other = []

-- The bytes are a datagram's whose records are all among these.
pub record IsOfKnown (known : List Record) (bytes : List ℕ) : Type 0 where
  pub datagram : Datagram
  pub spelled : bytes ≡ datagram_bytes datagram
  pub records : AllByRecursion (Contains known) (records_of datagram)

-- In each datagram of the call each record is among these, or the call has signed it.
abbrev pub SendsKnown : Setting → List Record → Call → Type 0
SendsKnown s known c = AllByRecursion (λ d. IsOfKnown (known ++ signed_in s c) d.1) c.sent

-- In every life each record that a call sends stands in the kit, or was accepted or signed before, whichever put fails.
abbrev pub OnlyKnownIsSent : Type 0
OnlyKnownIsSent = (s : Setting) (nonces : ℕ → ℕ) (certificates : List Record) (stored : Stored) (inputs : List Input) (i : Input) (fails_at : Option ℕ)
    → SendsKnown s (known_in s nonces certificates stored inputs) (called s (life_of s nonces certificates stored inputs) i fails_at)
