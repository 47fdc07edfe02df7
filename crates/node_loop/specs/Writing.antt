-- How a line of the journal, and the events of a call, are written and sent.
use Rattle.std.specs.Prelude.{◌≡◌, ℕ, ◌⊎◌, ◌++◌, Bool, true, false, List, Option, Some, None, Result, Ok, Err, IsOk}
use Rattle.std.specs.Io.KnownBytes.{Appends}
use Rattle.ports.specs.Contents.{TookFront}
use Rattle.fields.specs.declared.NoMemory.{NoMemory}
use Rattle.ports.specs.Disk.{Moment}
use Rattle.ports.specs.Link.{LinkState, next_of, received_from, with_given}
use Rattle.node_core.specs.declared.NodeFault.{NodeFault}
use Rattle.node_core.specs.declared.NodeFault.TheVariants as node
use Rattle.signer.specs.Lives.{Spent}
use Rattle.signer.specs.Signing.{SignerState}
use Rattle.node_core.specs.Playing.{Kept, IsNode}
use Rattle.node_core.specs.Spending.{LivesOn}
use Rattle.node_core.specs.Told.{IsPrefix}
use Rattle.node_rules.specs.Nodes.{Setting, certificate_of}
use Rattle.validate.specs.Certified.{certificate_of as kept_certificate}
use Rattle.node_loop.specs.declared.fault.ServeFault.{ServeFault}
use Rattle.node_loop.specs.declared.fault.ServeFault.TheVariants as faults
use Rattle.journal.specs.declared.turn.Heard.{Heard}
use Rattle.journal.specs.declared.turn.Heard.TheVariants as heard
use Rattle.node_loop.specs.Turns.{heard_of}
use Rattle.node_loop.specs.Courses.{ServeState, fails_next}

abbrev pub is_write_fault : {T : Type 0} → Result T ServeFault → Bool
is_write_fault (Ok value) = false
is_write_fault (Err faults.StoreFault) = false
is_write_fault (Err faults.WriteFault) = true
is_write_fault (Err faults.OutOfMemory) = false

-- the sink may be written to
abbrev pub is_open_after : {T : Type 0} → Result T ServeFault → Bool
is_open_after (Ok value) = true
is_open_after (Err faults.StoreFault) = true
is_open_after (Err faults.WriteFault) = false
is_open_after (Err faults.OutOfMemory) = true

-- The line was written; or a front of it, where the write failed; or nothing, where memory was refused.
abbrev pub WritesLine : Option (List ℕ) → Option (List ℕ) → List ℕ → Result (Unit {0}) ServeFault → Type 0
WritesLine before after line (Ok done) = Appends before after line
WritesLine before after line (Err faults.StoreFault) = ⊥
WritesLine before after line (Err faults.WriteFault) = TookFront before after line
WritesLine before after line (Err faults.OutOfMemory) = after ≡ before

-- the send failed
abbrev pub is_lost : Result Bool NoMemory → Bool
is_lost (Ok lost) = lost
is_lost (Err refused) = false

-- The datagram was given to the link for that port, and is lost where its send fails; or memory was refused.
abbrev pub HandsOver : ℕ → List ℕ → Option LinkState → Option LinkState → Result Bool NoMemory → Type 0
HandsOver port bytes None after answer = after ≡ None
HandsOver port bytes (Some link) after (Ok lost) = (lost ≡ fails_next link) × (after ≡ Some (with_given port bytes link))
HandsOver port bytes (Some link) after (Err refused) = after ≡ Some link

-- the receive failed
abbrev pub has_failed : Result Heard NoMemory → Bool
has_failed (Ok (heard.Got bytes)) = false
has_failed (Ok heard.Nothing) = false
has_failed (Ok heard.Failed) = true
has_failed (Err refused) = false

-- What the link answers next was heard, or memory was refused for it.
abbrev pub Hears : Option LinkState → Option LinkState → Result Heard NoMemory → Type 0
Hears None after answer = after ≡ None
Hears (Some link) after (Ok came) = (came ≡ heard_of (next_of link.coming)) × (after ≡ Some (received_from link))
Hears (Some link) after (Err refused) = after ≡ Some (received_from link)

-- What stands: the node, what is modelled of the link, the sink and the disk, and how many datagrams were sent.
pub record Standing : Type 0 where
  pub node : Kept
  pub link : Option LinkState
  pub taken : Option (List ℕ)
  pub moments : List Moment
  pub sent : ℕ

abbrev pub standing : Kept → Option LinkState → Option (List ℕ) → List Moment → ℕ → Standing
standing node link taken moments sent = record { node = node; link = link; taken = taken; moments = moments; sent = sent }

-- What there was before: the bytes that the sink had taken, and the signer and its disk.
pub record Before : Type 0 where
  pub taken : Option (List ℕ)
  pub signer : SignerState
  pub moments : List Moment

abbrev pub before_all : Option (List ℕ) → SignerState → List Moment → Before
before_all taken signer moments = record { taken = taken; signer = signer; moments = moments }

-- The lives of the key have gone on with these signatures.
abbrev pub HasSpent : Before → List Spent → Standing → Type 0
HasSpent before spent w = LivesOn spent before.signer w.node.signer before.moments w.moments

-- It stands where the course is, behind what there was before; of the node, its certificates are those of the course's.
pub record IsAt (before : Before) (w : Standing) (r : ServeState) : Type 0 where
  pub knows : (m : ℕ) → kept_certificate w.node.roster m ≡ certificate_of r.node m
  pub link : w.link ≡ Some r.link
  pub text : Appends before.taken w.taken r.text
  pub sent : w.sent ≡ r.sent
  pub key : HasSpent before r.spent w

-- The node stands for that of the course, too.
pub record Stands (s : Setting) (before : Before) (w : Standing) (r : ServeState) : Type 0 where
  pub node : IsNode s w.node r.node
  pub at : IsAt before w r

-- What was written is a front of what the course has written, what was given to the link a front of what it has given,
-- and the signatures that were made are a front of its own.
pub record IsWithin (before : Before) (w : Standing) (r : ServeState) : Type 0 where
  pub text : List ℕ
  pub front : IsPrefix text r.text
  pub written : Appends before.taken w.taken text
  pub link : LinkState
  pub told : w.link ≡ Some link
  pub given : IsPrefix link.given r.link.given
  pub spent : List Spent
  pub made : IsPrefix spent r.spent
  pub key : HasSpent before spent w

-- What the course has written is a front of what was written, what it has given to the link a front of what was given,
-- and its signatures are a front of those that were made.
pub record IsBeyond (before : Before) (w : Standing) (r : ServeState) : Type 0 where
  pub text : List ℕ
  pub front : IsPrefix r.text text
  pub written : Appends before.taken w.taken text
  pub link : LinkState
  pub told : w.link ≡ Some link
  pub given : IsPrefix r.link.given link.given
  pub spent : List Spent
  pub made : IsPrefix r.spent spent
  pub key : HasSpent before spent w

-- A link that is modelled stays so, and what was given to it stands.
abbrev pub KeepsGiven : Option LinkState → Option LinkState → Type 0
KeepsGiven None after = Unit {0}
KeepsGiven (Some link) after = (later : LinkState) × ((after ≡ Some later) × IsPrefix link.given later.given)

-- The link is as it was, or what was written begins with the whole line.
abbrev pub IsBehindLine : List ℕ → Option (List ℕ) → Option (List ℕ) → Option LinkState
    → Option LinkState → Type 0
IsBehindLine line taken after link later =
    (later ≡ link) ⊎ ((rest : List ℕ) × Appends taken after (line ++ rest))

-- Some bytes were written, perhaps none, and datagrams were given to the link.
pub record Extends (taken after : Option (List ℕ)) (link later : Option LinkState) : Type 0 where
  pub text : List ℕ
  pub written : Appends taken after text
  pub given : KeepsGiven link later

-- All of it was reported, or it broke off.
abbrev pub Tells : Before → Standing → ServeState → Result (Unit {0}) ServeFault → Type 0
Tells before w r (Ok done) = IsAt before w r
Tells before w r (Err faults.StoreFault) = ⊥
Tells before w r (Err faults.WriteFault) = IsWithin before w r
Tells before w r (Err faults.OutOfMemory) = IsWithin before w r

-- Only a call that was answered Ok is answered so, and only one in which the disk failed has that answer.
abbrev pub Answers : Result (Unit {0}) NodeFault → Result (Unit {0}) ServeFault → Type 0
Answers done (Ok x) = IsOk done
Answers done (Err faults.StoreFault) = done ≡ Err node.StoreFault
Answers done (Err faults.WriteFault) = Unit {0}
Answers done (Err faults.OutOfMemory) = Unit {0}

-- What the call gave was reported, or that broke off.
abbrev pub Settles : Before → Standing → ServeState → Result (Unit {0}) ServeFault → Type 0
Settles before w r (Ok x) = IsAt before w r
Settles before w r (Err faults.StoreFault) = IsAt before w r
Settles before w r (Err faults.WriteFault) = IsWithin before w r
Settles before w r (Err faults.OutOfMemory) = IsWithin before w r
