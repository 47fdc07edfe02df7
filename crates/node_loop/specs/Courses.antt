-- The course of a life: what the node has come to, what the link holds, and the journal, act by act.
use Rattle.std.specs.Prelude.{ℕ, Bool, if◌then◌else◌, List, [], ◌++◌, length, fold, Option, Some, None, unwrap_or}
use Rattle.std.specs.Option.{option_map}
use Rattle.ports.specs.Count.{next_count}
use Rattle.ports.specs.Memory.{is_failing}
use Rattle.ports.specs.Link.{LinkState, received_from, with_given}
use Rattle.journal.specs.declared.event.Event as journal
use Rattle.journal.specs.declared.event.What as whats
use Rattle.journal.specs.declared.event.What.TheVariants as told
use Rattle.journal.specs.Turns.{turn_text}
use Rattle.signer.specs.Lives.{Spent}
use Rattle.node_core.specs.Spending.{spent_told}
use Rattle.node_rules.specs.Nodes.{Setting, Node, certificate_of}
use Rattle.node_rules.specs.Calls.{Call}
use Rattle.node_rules.specs.Lives.{Input, Delivers, Ticks, Leaves, call_of}
use Rattle.turn_rules.specs.Turns.{Act, Receives, Writes, Calls}
use Rattle.turn_rules.specs.Lines.{line_of, with_feed}
use Rattle.turn_rules.specs.Courses.{datagram_in, may_tick}

-- The node, the link, how many datagrams were sent, which signatures were made, and what was written.
pub record ServeState : Type 0 where
  pub node : Node
  pub link : LinkState
  pub sent : ℕ
  pub spent : List Spent
  pub text : List ℕ

-- as a life begins to be served
abbrev pub served_from : Node → LinkState → ServeState
served_from n link = record { node = n; link = link; sent = 0; spent = []; text = [] }

-- ---- events

abbrev pub writes : List ℕ → ServeState → ServeState
writes line r = record r { text = r.text ++ line }

abbrev pub writes_event : ℕ → whats.What → ServeState → ServeState
writes_event moment what r = writes (line_of (record { moment = moment; what = what })) r

-- The port in the member's certificate, or 0 where it has none.
abbrev pub port_in : Node → ℕ → ℕ
port_in n m = unwrap_or (option_map (λ c. c.port) (certificate_of n m)) 0

-- the next send fails
abbrev pub fails_next : LinkState → Bool
fails_next link = is_failing link.failing (length link.given)

-- The datagram is given to the link, for the addressee's port.
abbrev pub hands_over : ℕ → List ℕ → ServeState → ServeState
hands_over to bytes r = record r { link = with_given (port_in r.node to) bytes r.link; sent = next_count r.sent }

-- A datagram has the number of those sent before it in the life. Its line is written, it is given to the link, and where
-- its send fails that is written too.
abbrev pub sends_one : ℕ → ℕ → List ℕ → ServeState → ServeState
sends_one moment to bytes r =
    let r1 = hands_over to bytes (writes_event moment (told.Sent r.sent to bytes) r) in
    if fails_next r.link then writes_event moment (told.Lost r.sent) r1 else r1

abbrev pub tells_what : ℕ → whats.What → Option (ℕ × List ℕ) → ServeState → ServeState
tells_what moment what (Some datagram) r = sends_one moment datagram.0 datagram.1 r
tells_what moment what None r = writes_event moment what r

unfoldable pub tells : ServeState → journal.Event → ServeState
tells r e = tells_what e.moment e.what (datagram_in e.what) r

abbrev pub tells_all : List journal.Event → ServeState → ServeState
tells_all events r = fold tells r events

-- ---- acts

-- The node stands where the call does, which made the signatures that it reports.
abbrev pub moves : Call → ServeState → ServeState
moves c r = record r { node = c.node; spent = r.spent ++ spent_told c.told }

-- The node stands where the call does, and what the call reported is reported.
unfoldable pub gives : Call → ServeState → ServeState
gives c r = tells_all c.told (moves c r)

-- A life that counted 2^64 - 1 ticks makes no more.
abbrev pub called : Setting → Input → ServeState → ServeState
called s (Delivers bytes) r = gives (call_of s r.node (Delivers bytes)) r
called s Leaves r = gives (call_of s r.node Leaves) r
called s Ticks r = if may_tick s r.node then gives (call_of s r.node Ticks) r else r

abbrev pub acted : Setting → ServeState → Act → ServeState
acted s r Receives = record r { link = received_from r.link }
acted s r (Writes turn) = writes (with_feed (turn_text turn)) r
acted s r (Calls input) = called s input r

-- The course of a life behind these acts.
unfoldable pub served : Setting → List Act → ServeState → ServeState
served s acts r = fold (acted s) r acts
