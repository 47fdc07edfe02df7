-- Who is expected to send from which port, and whom a datagram names as its sender.
use Rattle.std.specs.Prelude.{ℕ, ◌+◌, ◌*◌, ◌&&◌, ◌||◌, Bool, false, ◌==◌, nat_lt, not, if◌then◌else◌, List, Option, Some, None, length, find, position, slice_index}
use Rattle.link_queues.specs.declared.senders.Expected.{Expected}

-- the kind of a ping, a pong or a summary, of which a wide one has a kind of its own
abbrev pub is_unsigned_kind : ℕ → Bool
is_unsigned_kind kind = nat_lt 0 kind && nat_lt kind 4 || (kind == 5)

-- The sender that a ping, a pong or a summary names: these datagrams carry no signature. They begin with the letters FF,
-- the version 1 and the kind; the sender's number comes next.
abbrev pub is_unsigned : List ℕ → Bool
is_unsigned bytes = nat_lt 5 (length bytes) && (slice_index bytes 0 == 70) && (slice_index bytes 1 == 70)
    && (slice_index bytes 2 == 1) && is_unsigned_kind (slice_index bytes 3)

abbrev pub named_sender : List ℕ → Option ℕ
named_sender bytes = if is_unsigned bytes then Some (256 * slice_index bytes 4 + slice_index bytes 5) else None

-- the queue of a port: 0 is that of all ports at which nobody is expected
abbrev pub queue_at : Option ℕ → ℕ
queue_at None = 0
queue_at (Some place) = place + 1

abbrev pub queue_of : List Expected → ℕ → ℕ
queue_of expected port = queue_at (position (λ e. e.port == port) expected)

-- the member is expected at another port
abbrev pub is_elsewhere : Option Expected → ℕ → Bool
is_elsewhere None port = false
is_elsewhere (Some e) port = not (e.port == port)

abbrev pub names_another : List Expected → ℕ → Option ℕ → Bool
names_another expected port None = false
names_another expected port (Some member) = is_elsewhere (find (λ e. e.member == member) expected) port

-- the datagram names a sender that is expected at another port
abbrev pub is_borrowed : List Expected → ℕ → List ℕ → Bool
is_borrowed expected port bytes = names_another expected port (named_sender bytes)
