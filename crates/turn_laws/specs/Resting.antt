-- What the journal of a life gives rests on the life.
use Rattle.std.specs.Prelude.{ℕ, ◌<◌, Bool, List, Contains}
use Rattle.std.specs.List.{AllByRecursion}
use Rattle.records.specs.declared.keys.Key.{Key}
use Rattle.records.specs.declared.Body.{Body}
use Rattle.records.specs.declared.Record.{Record}
use Rattle.epoch_store.specs.declared.Stored.{Stored}
use Rattle.journal.specs.declared.event.What as whats
use Rattle.journal.specs.declared.turn.Turn.{Turn}
use Rattle.node_rules.specs.Nodes.{Setting}
use Rattle.node_rules.specs.Lives.{HasRings, IsKit}
use Rattle.node_rules.specs.Vouching.{IsCertifiedBy}
use Rattle.node_rules.specs.Claims.{ClaimedVerify}
use Rattle.node_rules.specs.Starting.{started}
use Rattle.turn_rules.specs.Turns.{acts_of}
use Rattle.turn_rules.specs.Lines.{OfEvent}
use Rattle.turn_rules.specs.Journals.{life_lines}
use Rattle.turn_rules.specs.Written.{GivesOf}

-- A life may start so: the kit's certificates verify, the node's own has this key, under which what is claimed verifies, and
-- an index of it is left.
pub record MayStart (claimed : ℕ → Body → Bool) (s : Setting) (own : Key) (certificates : List Record) (stored : Stored) : Type 0 where
  pub rings : HasRings s
  pub kit : IsKit s certificates
  pub certified : AllByRecursion (IsCertifiedBy s own) certificates
  pub signatures : ClaimedVerify claimed s own
  pub left : stored.next < s.indexes

abbrev pub JournalsRestOnLives : Type 0
JournalsRestOnLives = (claimed : ℕ → Body → Bool) (s : Setting) (own : Key) (nonces : ℕ → ℕ) (certificates : List Record) (stored : Stored)
    (turns : List Turn) (lost : ℕ → Bool) (leave : Bool) (moment : ℕ) (what : whats.What)
    → MayStart claimed s own certificates stored
    → Contains (life_lines s (started s nonces certificates stored) turns lost leave) (OfEvent (record { moment = moment; what = what }))
    → GivesOf claimed s (started s nonces certificates stored).node (acts_of turns leave) moment what
