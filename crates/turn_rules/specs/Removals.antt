-- What the removals at ticks rest on that the journal of a life gives.
use Rattle.std.specs.Prelude.{◌≡◌, ◌⊎◌, ℕ, ◌+◌, ◌<◌, Bool, true, List, [], ◌∷◌, ◌++◌, length, Contains, Option, Some, None, Ok}
use Rattle.std.specs.List.{slice_get}
use Rattle.ff_ids.specs.declared.AccBody.{AccBody}
use Rattle.ff_ids.specs.Steps.{Accuses, Ticks as Passes}
use Rattle.ff_ids.specs.Lives.{opening, IsRemovedAt, RestsOn}
use Rattle.records.specs.declared.keys.Key.{Key}
use Rattle.records.specs.declared.Body.{Body}
use Rattle.records.specs.declared.Body.TheVariants.{Accusation}
use Rattle.records.specs.declared.Record.{Record}
use Rattle.datagram.specs.declared.Datagram.TheVariants as kinds
use Rattle.datagram.specs.Grammar.{read_of}
use Rattle.journal.specs.declared.event.What.TheVariants as told
use Rattle.node_rules.specs.Nodes.{Setting, Node, public_key_of, state_of}
use Rattle.node_rules.specs.Refusals.{refusal}
use Rattle.node_rules.specs.Verdicts.{when_all_handled}
use Rattle.node_rules.specs.Gaining.{gained}
use Rattle.node_rules.specs.Accusing.{AccusesTheSilent}
use Rattle.node_rules.specs.Outgoing.{at_tick}
use Rattle.node_rules.specs.Lives.{Delivers, Ticks, call_of}
use Rattle.turn_rules.specs.Turns.{Act, Calls}
use Rattle.turn_rules.specs.Lines.{line_of}
use Rattle.turn_rules.specs.Courses.{life_behind, may_tick, node_behind}

-- ## The life

-- A tick among these acts brings the moment.
pub record IsTick (s : Setting) (start : Node) (acts : List Act) (moment : ℕ) : Type 0 where
  pub before : List Act
  pub behind : List Act
  pub ticks : acts ≡ before ++ Calls Ticks ∷ behind
  pub at : (state_of s (at_tick s (node_behind s start before))).moment ≡ moment

-- ## Where an accusation has come from

-- The author has a key, under which the record verifies.
pub record VerifiesFor (s : Setting) (author : Option Key) (r : Record) : Type 0 where
  pub key : Key
  pub author_is : author ≡ Some key
  pub verifies : s.verifies key r ≡ true

-- The accusation that stands at this place in the life is a record of a datagram that one of these acts delivered. As the acts
-- and the records before it had left the node, it had no fault, and it verifies under the key of the accuser's certificate.
pub record WasDelivered (s : Setting) (start : Node) (acts : List Act) (place : ℕ) (a : AccBody) : Type 0 where
  pub before : List Act
  pub bytes : List ℕ
  pub behind : List Act
  pub delivers : acts ≡ before ++ Calls (Delivers bytes) ∷ behind
  pub from : ℕ
  pub earlier : List Record
  pub taken : Record
  pub later : List Record
  pub read : read_of bytes ≡ Ok (kinds.Records from (earlier ++ taken ∷ later))
  pub says : taken.body ≡ Accusation a
  pub at : place ≡ length (life_behind s start before) + length (gained s (node_behind s start before) earlier)
  pub no_fault : refusal s (when_all_handled s (node_behind s start before) earlier) taken ≡ None
  pub verified : VerifiesFor s (public_key_of (when_all_handled s (node_behind s start before) earlier) a.accuser) taken

-- The accusation that stands at this place in the life is the node's own: at a tick among these acts the accused was silent, and
-- the node its monitor; it spent an index on the accusation, and that signature verifies under the key of its certificate, where
-- that is claimed.
pub record WasMade (claimed : ℕ → Body → Bool) (s : Setting) (start : Node) (acts : List Act) (place : ℕ) (a : AccBody) : Type 0 where
  pub before : List Act
  pub behind : List Act
  pub ticks : acts ≡ before ++ Calls Ticks ∷ behind
  pub counts : may_tick s (node_behind s start before) ≡ true
  pub by : a.accuser ≡ s.me
  pub silent : AccusesTheSilent s (node_behind s start before) a
  pub moment : ℕ
  pub index : ℕ
  pub spent : Contains (call_of s (node_behind s start before) Ticks).told (record { moment = moment; what = told.Spent index (Accusation a) })
  pub since : length (life_behind s start before) < place
  pub came_in : slice_get (call_of s (node_behind s start before) Ticks).node.lived place ≡ Some (Accuses a)
  pub verified : claimed index (Accusation a) ≡ true
      → VerifiesFor s (public_key_of (node_behind s start before) a.accuser) (record { body = Accusation a; signature = s.signature index (Accusation a) })

-- ## Removals

-- At a tick among these acts, which brings the moment, the member leaves the view. That rests on an accusation that was
-- accepted earlier in the life, and stood in each state between, for the timeout; and which was delivered, or made.
pub record Removes (claimed : ℕ → Body → Bool) (s : Setting) (start : Node) (acts : List Act) (moment m : ℕ) : Type 0 where
  pub tick : IsTick s start acts moment
  pub removed : IsRemovedAt s.group (opening []) (life_behind s start tick.before ++ Passes ∷ []) (length (life_behind s start tick.before)) m
  pub accepted : ℕ
  pub accusation : AccBody
  pub rests : RestsOn s.group (opening []) (life_behind s start tick.before ++ Passes ∷ []) (length (life_behind s start tick.before)) m accepted accusation
  pub came : WasDelivered s start tick.before accepted accusation ⊎ WasMade claimed s start tick.before accepted accusation

-- The line that gives a removal.
abbrev pub removal_line : ℕ → ℕ → List ℕ
removal_line moment m = line_of (record { moment = moment; what = told.Removed m })
