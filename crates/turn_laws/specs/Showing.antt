-- The journal of a life shows the accusations that the node signs.
use Rattle.std.specs.Prelude.{◌≡◌, ℕ, Bool, true, List, ◌∷◌, ◌++◌, Contains}
use Rattle.ff_ids.specs.declared.AccBody.{AccBody}
use Rattle.records.specs.declared.Body.TheVariants.{Accusation}
use Rattle.records.specs.declared.Record.{Record}
use Rattle.epoch_store.specs.declared.Stored.{Stored}
use Rattle.journal.specs.declared.event.What.TheVariants as told
use Rattle.journal.specs.declared.turn.Turn.{Turn}
use Rattle.node_rules.specs.Nodes.{Setting}
use Rattle.node_rules.specs.Calls.{Call}
use Rattle.node_rules.specs.Lives.{AreCertificates, Ticks, call_of}
use Rattle.node_rules.specs.Starting.{started}
use Rattle.turn_rules.specs.Turns.{Act, Calls, acts_of}
use Rattle.turn_rules.specs.Lines.{OfEvent}
use Rattle.turn_rules.specs.Courses.{may_tick, node_behind}
use Rattle.turn_rules.specs.Journals.{life_lines}
use Rattle.turn_rules.specs.Showings.{ShowOwn}

-- Where a tick among the acts of a life spends an index on an accusation, a line shows that accusation, signed with the index, as
-- it is sent to the accused; whichever datagrams are lost.
abbrev pub SignedAccusationsAreShown : Type 0
SignedAccusationsAreShown = (s : Setting) (start : Call) (turns : List Turn) (lost : ℕ → Bool) (leave : Bool)
    (before behind : List Act) (moment index : ℕ) (a : AccBody)
    → acts_of turns leave ≡ before ++ Calls Ticks ∷ behind
    → may_tick s (node_behind s start.node before) ≡ true
    → Contains (call_of s (node_behind s start.node before) Ticks).told
    (record { moment = moment; what = told.Spent index (Accusation a) })
    → ShowOwn s (life_lines s start turns lost leave) a.accused index (Accusation a)

-- So does one where a line gives the index that is spent on it.
abbrev pub GivenAccusationsAreShown : Type 0
GivenAccusationsAreShown = (s : Setting) (nonces : ℕ → ℕ) (certificates : List Record) (stored : Stored) (turns : List Turn)
    (lost : ℕ → Bool) (leave : Bool) (moment index : ℕ) (a : AccBody)
    → AreCertificates certificates
    → Contains (life_lines s (started s nonces certificates stored) turns lost leave)
    (OfEvent (record { moment = moment; what = told.Spent index (Accusation a) }))
    → ShowOwn s (life_lines s (started s nonces certificates stored) turns lost leave) a.accused index (Accusation a)
