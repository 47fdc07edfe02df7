-- What a socket finds as it is looked at, and what the answers of the system say of that.
use Rattle.std.specs.Prelude.{◌≡◌, ℕ, min, ◌==◌, ◌≤◌, Bool, true, false, if◌then◌else◌, List, [], ◌∷◌, ◌++◌, Option, None, Some, Result, Ok, Err, length, take, drop, ◌&&◌, slice_index}
use Rattle.std.specs.IoError.{error_kind}
use Rattle.std.specs.declared.io.Error.{Error}
use Rattle.std.specs.declared.io.ErrorKind.{ErrorKind}
use Rattle.std.specs.declared.io.ErrorKind.TheVariants as kinds
use Rattle.std.specs.declared.net.SocketAddr.{SocketAddr}
use Rattle.std.specs.declared.net.SocketAddr.TheVariants as address
use Rattle.std.specs.Net.Addr.{ipv4_octets}
use Rattle.std.specs.Net.Socket.{v4_ip, v4_port}
use Rattle.edges.specs.declared.socket.Found.{Found}
use Rattle.edges.specs.declared.socket.Found.TheVariants as found

-- ---- what comes

-- A datagram from this port; nothing; or the call fails.
pub data Arrival : Type 0 where
  Came : (port : ℕ) (bytes : List ℕ) → Arrival
  Quiet : Arrival
  Broken : Arrival

-- the next, and nothing where none is to come
abbrev pub next_arrival : List Arrival → Arrival
next_arrival [] = Quiet
next_arrival (arrival ∷ later) = arrival

-- what is found where this comes next: of a datagram as much as there is room for
abbrev pub found_of : Arrival → ℕ → Found
found_of (Came port bytes) room = found.Datagram port (min (length bytes) room)
found_of Quiet room = found.Nothing
found_of Broken room = found.Failed

-- the buffer after that
abbrev pub lying : Arrival → List ℕ → List ℕ
lying (Came port bytes) buffer = take (length buffer) bytes ++ drop (length bytes) buffer
lying Quiet buffer = buffer
lying Broken buffer = buffer

-- The next is found, and a datagram lies in front of the buffer.
pub record FindsNext (coming : List Arrival) (after : Option (List Arrival)) (buffer filled : List ℕ) (answer : Found) : Type 0 where
  pub answered : answer ≡ found_of (next_arrival coming) (length buffer)
  pub lies : filled ≡ lying (next_arrival coming) buffer
  pub left : after ≡ Some (drop 1 coming)

-- A socket that is modelled stays so, and one that is not does not begin to be.
abbrev pub Finds : Option (List Arrival) → Option (List Arrival) → List ℕ → List ℕ → Found → Type 0
Finds None after buffer filled answer = after ≡ None
Finds (Some coming) after buffer filled answer = FindsNext coming after buffer filled answer

-- no more bytes than the buffer holds
abbrev pub FoundAtMost : Found → ℕ → Type 0
FoundAtMost (found.Datagram port count) room = count ≤ room
FoundAtMost found.Nothing room = Unit {0}
FoundAtMost found.Failed room = Unit {0}

-- ---- what the system answers

-- the octets are 127.0.0.1
abbrev pub is_here : List ℕ → Bool
is_here octets = (slice_index octets 0 == 127) && (slice_index octets 1 == 0) && (slice_index octets 2 == 0) && (slice_index octets 3 == 1)

-- the port of a datagram of this machine, and 0 of any other
abbrev pub port_from : SocketAddr → ℕ
port_from (address.V4 at) = if is_here (ipv4_octets (v4_ip at)) then v4_port at else 0
port_from (address.V6 at) = 0

-- nothing is there, or a signal interrupted the call
abbrev pub is_quiet : ErrorKind → Bool
is_quiet kinds.WouldBlock = true
is_quiet kinds.Interrupted = true
is_quiet _ = false

abbrev pub found_from : Result (ℕ × SocketAddr) Error → Found
found_from (Ok answer) = found.Datagram (port_from answer.1) answer.0
found_from (Err error) = if is_quiet (error_kind error) then found.Nothing else found.Failed
