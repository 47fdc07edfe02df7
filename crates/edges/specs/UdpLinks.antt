-- A UDP link, as contracts see it: its queues, and how many calls failed.
use Rattle.std.specs.Prelude.{◌≡◌, ℕ, min, Bool, List, Option, None, Some, Result, Ok, Err, length, true, false}
use Rattle.std.specs.Option.{option_map}
use Rattle.ports.specs.declared.Opened as opened
use Rattle.ports.specs.declared.Received as received
use Rattle.ports.specs.declared.Failed.{Failed}
use Rattle.ports.specs.Count.{counted, next_count}
use Rattle.link_queues.specs.declared.queues.Sizes.{Sizes}
use Rattle.link_queues.specs.Waiting.{filled}
use Rattle.link_queues.specs.Queues.{QueuesState, after_handing, expecting, handed_on, nothing_yet}
use Rattle.edges.specs.Sockets.{Arrival}
use Rattle.edges.specs.Looks.{Reaches, batch, emptied, left_with}

-- what came and waits, once a port is bound; and how many calls failed
pub record UdpState : Type 0 where
  pub queues : Option QueuesState
  pub faults : ℕ

-- Room for 1,024 members, and in each queue for two of the longest datagrams; ten a second of other ports.
abbrev pub sizes : Sizes
sizes = record { members = 1024; slots = 64; room = 65538; gap = 100 }

-- how many bytes are taken of a datagram: one more than the longest has
abbrev pub bytes_taken : ℕ
bytes_taken = 32769

-- after a bind: nothing waits behind one that is done, and any other leaves what was bound
abbrev pub after_bind : opened.Opened → UdpState → UdpState
after_bind opened.TheVariants.Done link = record link { queues = Some (nothing_yet sizes) }
after_bind opened.TheVariants.Failed link = record link { faults = next_count link.faults }
after_bind opened.TheVariants.OutOfMemory link = link

-- after a call that failed or didn't, and left what waits
abbrev pub after_send : Bool → UdpState → UdpState
after_send failed link = record link { faults = counted failed link.faults }

-- after the member is expected at the port
abbrev pub after_expect : ℕ → ℕ → UdpState → UdpState
after_expect member port link = record link { queues = option_map (expecting member port) link.queues }

-- how many were lost since the port was bound
abbrev pub lost_in : Option QueuesState → ℕ
lost_in None = 0
lost_in (Some s) = s.lost

-- The oldest of a queue was handed on: the one whose turn it was, of what waited then.
pub record HandsOn (s t : QueuesState) (buffer after : List ℕ) (count : ℕ) : Type 0 where
  pub now : ℕ
  pub between : QueuesState
  pub reached : Reaches s between
  pub datagram : List ℕ
  pub turn : handed_on now between ≡ Some datagram
  pub counted : count ≡ min (length datagram) (length buffer)
  pub lies : after ≡ filled (Some datagram) buffer
  pub left : t ≡ after_handing now between

-- Nothing was handed on, and what came waits; nor was anything where a look failed.
pub record HandsNothing (s t : QueuesState) (buffer after : List ℕ) : Type 0 where
  pub reached : Reaches s t
  pub same : after ≡ buffer

abbrev pub HandsNext : QueuesState → QueuesState → List ℕ → List ℕ → Result (Option ℕ) Failed → Type 0
HandsNext s t buffer after (Ok (Some count)) = HandsOn s t buffer after count
HandsNext s t buffer after (Ok None) = HandsNothing s t buffer after
HandsNext s t buffer after (Err failed) = HandsNothing s t buffer after

-- what an answer of a link says of what was handed on
abbrev pub handing : received.Received → Result (Option ℕ) Failed
handing (received.TheVariants.Got count) = Ok (Some count)
handing received.TheVariants.Nothing = Ok None
handing received.TheVariants.Failed = Err (record {})

-- After a receive. Where no port is bound the queues stay away.
pub record StaysShut (after : Option QueuesState) (buffer filled : List ℕ) : Type 0 where
  pub shut : after ≡ None
  pub same : filled ≡ buffer

pub record ReceivesInTurn (s : QueuesState) (after : Option QueuesState) (buffer filled : List ℕ) (answer : received.Received) : Type 0 where
  pub queues : QueuesState
  pub bound : after ≡ Some queues
  pub hands : HandsNext s queues buffer filled (handing answer)

abbrev pub QueuesAfter : Option QueuesState → Option QueuesState → List ℕ → List ℕ → received.Received → Type 0
QueuesAfter None after buffer filled answer = StaysShut after buffer filled
QueuesAfter (Some s) after buffer filled answer = ReceivesInTurn s after buffer filled answer

abbrev pub AfterReceive : UdpState → UdpState → List ℕ → List ℕ → received.Received → Type 0
AfterReceive link after buffer filled answer = QueuesAfter link.queues after.queues buffer filled answer

-- What is handed on next, by the queues between.
abbrev pub HandsFrom : ℕ → QueuesState → QueuesState → List ℕ → List ℕ → Result (Option ℕ) Failed → Type 0
HandsFrom now between t buffer after (Ok got) =
    (got ≡ option_map (λ d. min (length d) (length buffer)) (handed_on now between)) × (after ≡ filled (handed_on now between) buffer) × (t ≡ after_handing now between)
HandsFrom now between t buffer after (Err failed) = (after ≡ buffer) × (t ≡ between)

abbrev pub no_fault : Result (Option ℕ) Failed → Bool
no_fault (Ok got) = true
no_fault (Err failed) = false

-- The socket was emptied, and then what is next was handed on.
pub record EmptiedFirst (room now : ℕ) (coming : List Arrival) (later : Option (List Arrival)) (s t : QueuesState) (buffer after : List ℕ) (answer : Result (Option ℕ) Failed) : Type 0 where
  pub left : List Arrival
  pub is : later ≡ Some left
  pub between : QueuesState
  pub looks : emptied room batch coming s ≡ left_with left between (no_fault answer)
  pub hands : HandsFrom now between t buffer after answer

abbrev pub EmptiesFirst : ℕ → ℕ → Option (List Arrival) → Option (List Arrival) → QueuesState → QueuesState → List ℕ → List ℕ → Result (Option ℕ) Failed → Type 0
EmptiesFirst room now None later s t buffer after answer = later ≡ None
EmptiesFirst room now (Some coming) later s t buffer after answer = EmptiedFirst room now coming later s t buffer after answer
