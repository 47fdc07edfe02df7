-- What the lines of a journal rest on.
use Rattle.std.specs.Prelude.{ℕ, Bool, List, None}
use Rattle.journal.specs.declared.event.What as whats
use Rattle.journal.specs.declared.event.What.TheVariants as told
use Rattle.records.specs.declared.Body.{Body}
use Rattle.records.specs.declared.Body.TheVariants.{Accusation}
use Rattle.node_rules.specs.Nodes.{Setting, Node}
use Rattle.turn_rules.specs.Turns.{Act}
use Rattle.turn_rules.specs.Departures.{GivesRemoval}
use Rattle.turn_rules.specs.Removals.{removal_line}
use Rattle.turn_rules.specs.Replies.{GivesAccepted, GivesExpiry, GivesSigned, accepted_line, expiry_line, signed_line}
use Rattle.turn_rules.specs.Sendings.{GivesSent, sent_line}

-- What the line says of the life at these acts that gives a removal, an expiry, an accepted record, an accusation that the node
-- signs, or a datagram.
abbrev pub GivesOf : (ℕ → Body → Bool) → Setting → Node → List Act → ℕ → whats.What → Type 0
GivesOf claimed s start acts moment (told.Removed m) =
    GivesRemoval claimed s start acts (removal_line moment m)
GivesOf claimed s start acts moment (told.Expired a) = GivesExpiry s start acts (expiry_line moment a)
GivesOf claimed s start acts moment (told.Took body None) =
    GivesAccepted s start acts (accepted_line moment body)
GivesOf claimed s start acts moment (told.Spent index (Accusation a)) =
    GivesSigned s start acts (signed_line moment index a)
GivesOf claimed s start acts moment (told.Sent number to bytes) =
    GivesSent claimed s start acts (sent_line moment number to bytes)
GivesOf claimed s start acts moment other = Unit {0}
