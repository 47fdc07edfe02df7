-- What the lines of the journal rest on that a run has written.
use Rattle.std.specs.Prelude.{◌≡◌, ℕ, List, Result, Err}
use Rattle.std.specs.List.{AllByRecursion, concat}
use Rattle.std.specs.Io.KnownBytes.{Appends}
use Rattle.epoch_store.specs.declared.Stored.{Stored}
use Rattle.journal.specs.declared.event.What as whats
use Rattle.play.specs.Plays.{IoState}
use Rattle.trace.specs.Written.{IsLineOf, IsWholeLine}
use Rattle.node_rules.specs.Nodes.{Setting, Node}
use Rattle.node_rules.specs.Claims.{claims_all}
use Rattle.turn_rules.specs.Turns.{Act}
use Rattle.node_loop.specs.Turns.{life_acts, pace_for}
use Rattle.turn_rules.specs.Lines.{event_line}
use Rattle.turn_rules.specs.Written.{GivesOf}
use Rattle.node_command.specs.declared.halt.NodeHalt.{NodeHalt}
use Rattle.node_command.specs.declared.halt.NodeHalt.TheVariants as halt
use Rattle.node_command.specs.declared.kit.Member.{Member}
use Rattle.node_command.specs.Members.{IsMember}
use Rattle.node_command.specs.Opening.{IsFound, setting_for, start_of}
use Rattle.ports.specs.Outside.{OfDisk}
use Rattle.node_command.specs.Running.{NetInputs}

-- ## The life of a run

-- as the life begins, and what its turns do
abbrev pub first_of : Member → Stored → Node
first_of m stored = (start_of m stored).node

abbrev pub acts_of : Member → NetInputs → List Act
acts_of m feed = life_acts (pace_for (setting_for m) m.millis) feed.stay.turns feed.stay.leave feed.link.coming feed.reading feed.readings

-- A member was read from the text, a store of its key was found, and P holds of the life that this began: of its turns, which the
-- answers of the link and the readings of the clock bring.
pub record IsOfLife (was : IoState) (old : OfDisk) (feed : NetInputs)
    (P : Setting → Node → List Act → Type 0) : Type 0 where
  pub member : Member
  pub between : IoState
  pub read : IsMember was between member
  pub stored : Stored
  pub found : IsFound member stored old
  pub gives : P (setting_for member) (first_of member stored) (acts_of member feed)

-- What the line says of the life that a run began that gives a removal, an expiry, an accepted record, an accusation that the
-- node signs, or a datagram. All its own signatures are claimed to verify.
abbrev pub IsGiven : IoState → OfDisk → NetInputs → ℕ → whats.What → Type 0
IsGiven was old feed moment what =
    IsOfLife was old feed (λ s start acts. GivesOf claims_all s start acts moment what)

-- ## The lines

-- whole lines
pub record AreWholeLines (text : List ℕ) : Type 0 where
  pub lines : List (List ℕ)
  pub joined : text ≡ concat lines
  pub whole : AllByRecursion IsWholeLine lines

-- P holds, unless a write failed or memory was refused.
abbrev pub UnlessCut : Result (Unit {0}) NodeHalt → Type 0 → Type 0
UnlessCut (Err halt.WriteFault) P = Unit {0}
UnlessCut (Err halt.OutOfMemory) P = Unit {0}
UnlessCut other P = P

-- Each whole line that was written and gives an event comes only where a member was read and a store of its key found; one that
-- gives a removal, an expiry, an accepted record, an own accusation or a datagram says this of the life that this began. The
-- journal is whole lines, unless a write failed or memory was refused.
pub record LinesRest (feed : NetInputs) (was now : IoState) (old : OfDisk)
    (result : Result (Unit {0}) NodeHalt) : Type 0 where
  pub bytes : List ℕ
  pub written : Appends was.taken now.taken bytes
  pub rests : (moment : ℕ) (what : whats.What)
      → IsLineOf (event_line moment what) bytes → IsGiven was old feed moment what
  pub ended : UnlessCut result (AreWholeLines bytes)
