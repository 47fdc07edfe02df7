-- The course of a life: what the node has come to, how many datagrams it has sent, and the lines of its journal, act by act.
use Rattle.std.specs.Prelude.{ℕ, ◌+◌, min, nat_lt, Bool, if◌then◌else◌, List, [], ◌∷◌, ◌++◌, fold, Option, Some, None}
use Rattle.ports.specs.Count.{last_count}
use Rattle.ff_ids.specs.Steps.{Event}
use Rattle.journal.specs.declared.event.Event as journal
use Rattle.journal.specs.declared.event.What as whats
use Rattle.journal.specs.declared.event.What.TheVariants as told
use Rattle.node_rules.specs.Nodes.{Setting, Node, state_of}
use Rattle.node_rules.specs.Calls.{Call}
use Rattle.node_rules.specs.Lives.{Input, Delivers, Ticks, Leaves, call_of}
use Rattle.turn_rules.specs.Turns.{Act, Receives, Writes, Calls}
use Rattle.turn_rules.specs.Lines.{JournalLine, OfTurn, OfEvent}

-- ---- the node

-- a tick can be counted
abbrev pub may_tick : Setting → Node → Bool
may_tick s n = nat_lt (state_of s n).moment 18446744073709551615

-- A life that counted 2^64 - 1 ticks makes no more.
abbrev pub node_called : Setting → Node → Input → Node
node_called s n (Delivers bytes) = (call_of s n (Delivers bytes)).node
node_called s n Leaves = (call_of s n Leaves).node
node_called s n Ticks = if may_tick s n then (call_of s n Ticks).node else n

abbrev pub node_acted : Setting → Node → Act → Node
node_acted s n Receives = n
node_acted s n (Writes turn) = n
node_acted s n (Calls input) = node_called s n input

-- The node as these acts leave it, and the events of its life till then.
unfoldable pub node_behind : Setting → Node → List Act → Node
node_behind s start acts = fold (node_acted s) start acts

abbrev pub life_behind : Setting → Node → List Act → List Event
life_behind s start acts = (node_behind s start acts).lived

-- ---- the journal

-- The node, how many datagrams were sent, and what was written.
pub record Course : Type 0 where
  pub node : Node
  pub sent : ℕ
  pub lines : List JournalLine

-- as a life begins to be served
abbrev pub course_from : Node → Course
course_from n = record { node = n; sent = 0; lines = [] }

abbrev pub adds_event : ℕ → whats.What → Course → Course
adds_event moment what c = record c { lines = c.lines ++ OfEvent (record { moment = moment; what = what }) ∷ [] }

-- The number of the datagram before which so many were sent, which stands still at the end of its type.
abbrev pub number_of : ℕ → ℕ
number_of sent = min sent last_count

-- whom a datagram went to, and its bytes, where the event reports one
abbrev pub datagram_in : whats.What → Option (ℕ × List ℕ)
datagram_in (told.Sent number to bytes) = Some (to, bytes)
datagram_in other = None

-- Its line is written, and behind it that it is lost, where it is.
abbrev pub sends_one : (ℕ → Bool) → ℕ → ℕ → List ℕ → Course → Course
sends_one lost moment to bytes c =
    let number = number_of c.sent in
    let c1 = adds_event moment (told.Sent number to bytes) (record c { sent = c.sent + 1 }) in
    if lost c.sent then adds_event moment (told.Lost number) c1 else c1

abbrev pub tells_what : (ℕ → Bool) → ℕ → whats.What → Option (ℕ × List ℕ) → Course → Course
tells_what lost moment what (Some datagram) c = sends_one lost moment datagram.0 datagram.1 c
tells_what lost moment what None c = adds_event moment what c

unfoldable pub tells : (ℕ → Bool) → Course → journal.Event → Course
tells lost c e = tells_what lost e.moment e.what (datagram_in e.what) c

abbrev pub tells_all : (ℕ → Bool) → List journal.Event → Course → Course
tells_all lost events c = fold (tells lost) c events

-- The node stands where the call does, and what the call reported is reported.
unfoldable pub gives : (ℕ → Bool) → Call → Course → Course
gives lost call c = tells_all lost call.told (record c { node = call.node })

abbrev pub called : Setting → (ℕ → Bool) → Input → Course → Course
called s lost (Delivers bytes) c = gives lost (call_of s c.node (Delivers bytes)) c
called s lost Leaves c = gives lost (call_of s c.node Leaves) c
called s lost Ticks c = if may_tick s c.node then gives lost (call_of s c.node Ticks) c else c

abbrev pub acted : Setting → (ℕ → Bool) → Course → Act → Course
acted s lost c Receives = c
acted s lost c (Writes turn) = record c { lines = c.lines ++ OfTurn turn ∷ [] }
acted s lost c (Calls input) = called s lost input c

-- The course of a life behind these acts, of whose datagrams those are lost before which so many were sent.
unfoldable pub course : Setting → (ℕ → Bool) → List Act → Course → Course
course s lost acts c = fold (acted s lost) c acts
