-- What the run of a member upholds of the journal that it writes.
use Rattle.std.specs.Prelude.{◌≡◌, ℕ, List, Some, None, Result}
use Rattle.std.specs.Io.KnownBytes.{Appends}
use Rattle.ff_ids.specs.declared.AccBody.{AccBody}
use Rattle.journal.specs.declared.event.What.TheVariants as told
use Rattle.play.specs.Plays.{IoState}
use Rattle.records.specs.declared.Body.{Body}
use Rattle.records.specs.declared.Body.TheVariants.{Accusation}
use Rattle.trace.specs.Written.{IsLineOf}
use Rattle.ports.specs.Outside.{OfDisk}
use Rattle.node_command.specs.declared.halt.NodeHalt.{NodeHalt}
use Rattle.node_command.specs.declared.stay.Stay.{Stay}
use Rattle.turn_rules.specs.Removals.{removal_line}
use Rattle.turn_rules.specs.Replies.{accepted_line, expiry_line, signed_line}
use Rattle.node_command.specs.Running.{NetInputs}
use Rattle.turn_rules.specs.Sendings.{sent_line}
use Rattle.node_command.specs.Spendings.{Spends}
use Rattle.node_command.specs.Written.{IsGiven}
use Rattle.command_line.specs.Causes.{status_of_node}
use Rattle.command_line.specs.Ends.{NetState, Tells}
use Rattle.command_line.specs.Serving.{NodeUpheld}
use Rattle.command_line.specs.declared.status.Status.{Status}

-- Each whole line that was written, the line of a cause among them, and that gives a removal: the life reports it by a tick of
-- one of its turns, and it rests on an accusation; or by a delivery of a note by which the member leaves; or as the node itself
-- leaves behind its turns.
pub record JournalRests (feed : NetInputs) (was now : IoState) (old : OfDisk) : Type 0 where
  pub bytes : List ℕ
  pub written : Appends was.taken now.taken bytes
  pub rests : (moment m : ℕ) → IsLineOf (removal_line moment m) bytes
      → IsGiven was old feed moment (told.Removed m)

-- Each whole line that was written and gives that a delivered record was accepted, or that an accusation expired: so it was, at
-- that moment, in the life that the run began. What was accepted had no fault there, and its record verifies. Of one that
-- gives an index that is spent on an accusation a tick of the life has the moment and spends this index on it: the accusation is the
-- node's own, and the accused was silent at that tick. No note that the life had accepted by then is of a later epoch than the
-- accusation against its member; and where one answers it otherwise, it expires only where it was accepted again behind the note,
-- and stood since, for the timeout.
pub record JournalAnswers (feed : NetInputs) (was now : IoState) (old : OfDisk) : Type 0 where
  pub bytes : List ℕ
  pub written : Appends was.taken now.taken bytes
  pub accepted : (moment : ℕ) (body : Body) → IsLineOf (accepted_line moment body) bytes
      → IsGiven was old feed moment (told.Took body None)
  pub own : (moment index : ℕ) (a : AccBody) → IsLineOf (signed_line moment index a) bytes
      → IsGiven was old feed moment (told.Spent index (Accusation a))
  pub expiries : (moment : ℕ) (a : AccBody) → IsLineOf (expiry_line moment a) bytes
      → IsGiven was old feed moment (told.Expired a)

-- Each whole line that was written and gives a datagram: a call of the life that the run began sends it, at that moment, to that
-- member.
pub record JournalSends (feed : NetInputs) (was now : IoState) (old : OfDisk) : Type 0 where
  pub bytes : List ℕ
  pub written : Appends was.taken now.taken bytes
  pub sent : (moment number to : ℕ) (datagram : List ℕ)
      → IsLineOf (sent_line moment number to datagram) bytes
      → IsGiven was old feed moment (told.Sent number to datagram)

-- P of what link and clock hold, where they are modelled, and of how long the member is served.
abbrev pub OnFeed : Stay → NetState → (NetInputs → Type 0) → Type 0
OnFeed stay before P =
    (feed : NetInputs) → before.contents ≡ Some feed.link → before.readings ≡ Some feed.readings → before.reading ≡ feed.reading → stay ≡ feed.stay → P feed

-- What the run has spent of its key, which is what the lines of its journal give; and behind those just the line of its cause was
-- written. The link's count of faults rose with the lines that say so, one for one.
pub record JournalSpends (was now : IoState) (old new : OfDisk) (count faults : ℕ) (s : Status)
    : Type 0 where
  pub result : Result (Unit {0}) NodeHalt
  pub between : IoState
  pub spends : Spends was between old new count faults result
  pub tells : Tells (status_of_node result) between now s

-- The headline for a member's run, under every status: what its removals have for their cause, what its accepted notes rule out, that what
-- its journal gives as sent is sent, and that it spends each index and each epoch once, all above what its store kept.
pub record NodeUpholds (stay : Stay) (was now : IoState) (old new : OfDisk) (before after : NetState) (s : Status) : Type 0 where
  pub untouched : NodeUpheld was now old new s
  pub removals : OnFeed stay before (λ feed. JournalRests feed was now old)
  pub answers : OnFeed stay before (λ feed. JournalAnswers feed was now old)
  pub sends : OnFeed stay before (λ feed. JournalSends feed was now old)
  pub spends : JournalSpends was now old new before.faults after.faults s
