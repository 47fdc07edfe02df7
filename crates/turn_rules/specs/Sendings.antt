-- What the journal of a life gives as sent, and that it verifies.
use Rattle.std.specs.Prelude.{◌≡◌, ℕ, Bool, List, ◌∷◌, ◌++◌, Contains, Option}
use Rattle.records.specs.declared.Body.{Body}
use Rattle.journal.specs.declared.event.What.TheVariants as told
use Rattle.node_rules.specs.Nodes.{Setting, Node}
use Rattle.node_rules.specs.OnDisks.{Input, called}
use Rattle.turn_rules.specs.Turns.{Act, Calls}
use Rattle.turn_rules.specs.Lines.{line_of}
use Rattle.turn_rules.specs.Courses.{node_behind}
use Rattle.node_rules.specs.Claims.{IsOfSound}

-- One of these acts is a call that sends the bytes to this member, and reports so at this moment; the disk may fail in it. They are
-- a datagram's, each of whose records verifies: a certificate under the authority's key, a note or an accusation under that of its
-- signer's certificate, as the node holds it behind the call; unless it is the node's own, and nothing is claimed of it.
pub record Sends (claimed : ℕ → Body → Bool) (s : Setting) (start : Node) (acts : List Act) (moment to : ℕ)
    (bytes : List ℕ) : Type 0 where
  pub before : List Act
  pub input : Input
  pub behind : List Act
  pub calls : acts ≡ before ++ Calls input ∷ behind
  pub fails_at : Option ℕ
  pub place : ℕ
  pub sent : Contains (called s (node_behind s start before) input fails_at).told
      (record { moment = moment; what = told.Sent place to bytes })
  pub goes_out : Contains (called s (node_behind s start before) input fails_at).sent (to, bytes)
  pub authentic : IsOfSound claimed s (called s (node_behind s start before) input fails_at).node bytes

-- The line that gives a datagram. Its number is that in the life.
abbrev pub sent_line : ℕ → ℕ → ℕ → List ℕ → List ℕ
sent_line moment number to bytes =
    line_of (record { moment = moment; what = told.Sent number to bytes })

-- The line gives such a datagram of one of these acts.
pub record GivesSent (claimed : ℕ → Body → Bool) (s : Setting) (start : Node) (acts : List Act) (line : List ℕ)
    : Type 0 where
  pub moment : ℕ
  pub number : ℕ
  pub to : ℕ
  pub bytes : List ℕ
  pub spelled : line ≡ sent_line moment number to bytes
  pub sends : Sends claimed s start acts moment to bytes
