-- The queues of a link: one for each port at which a member is expected, and one for all other ports.
use Rattle.std.specs.Prelude.{ℕ, zero, suc, ◌+◌, ◌-◌, ◌%◌, ◌&&◌, ◌||◌, Bool, ◌==◌, nat_lt, not, min, replicate, if◌then◌else◌, List, [], ◌∷◌, ◌++◌, Option, Some, None, length, slice_get, slice_set}
use Rattle.std.specs.List.{list_any}
use Rattle.ports.specs.Count.{last_count}
use Rattle.link_queues.specs.declared.senders.Expected.{Expected}
use Rattle.link_queues.specs.declared.queues.Sizes.{Sizes}
use Rattle.link_queues.specs.Waiting.{Waiting, with_one, without_oldest}
use Rattle.link_queues.specs.Senders.{queue_of, is_borrowed}

-- Who is expected where, in the order in which that was told; the queues, of which the first is that of all other ports
-- and the next ones are those of the expected, in that order; the queue that was served last; the reading of the clock
-- from which on the first queue is served again, and how long that takes; and how many datagrams were lost.
pub record QueuesState : Type 0 where
  pub expected : List Expected
  pub queues : List Waiting
  pub last : ℕ
  pub ready : ℕ
  pub gap : ℕ
  pub lost : ℕ

-- Nobody is expected yet, and there is room for so many members, and in each queue for so many datagrams of so many bytes.
abbrev pub empty_queue : Sizes → Waiting
empty_queue sizes = record { held = []; slots = sizes.slots; room = sizes.room }

abbrev pub nothing_yet : Sizes → QueuesState
nothing_yet sizes = record {
  expected = [];
  queues = replicate (sizes.members + 1) (empty_queue sizes);
  last = 0;
  ready = 0;
  gap = sizes.gap;
  lost = 0;
}

-- ---- what comes

-- the queue of this number
abbrev pub no_queue : Waiting
no_queue = record { held = []; slots = 0; room = 0 }

abbrev pub queue_or : Option Waiting → Waiting
queue_or None = no_queue
queue_or (Some q) = q

abbrev pub queue_in : List Waiting → ℕ → Waiting
queue_in queues place = queue_or (slice_get queues place)

-- so many more were lost
abbrev pub lost_after : ℕ → ℕ → ℕ
lost_after lost more = min (lost + more) last_count

-- after a datagram came for the queue of this number: what doesn't fit there is lost, the oldest first
abbrev pub queued_at : ℕ → List ℕ → QueuesState → QueuesState
queued_at place bytes s =
    let q = queue_in s.queues place in
    let after = with_one bytes q in record s {
      queues = slice_set s.queues place after;
      lost = lost_after s.lost (length q.held + 1 - length after.held);
    }

-- After these bytes came from the port. What names a sender that is expected at another port is lost.
abbrev pub put : ℕ → List ℕ → QueuesState → QueuesState
put port bytes s = if is_borrowed s.expected port bytes then record s { lost = lost_after s.lost 1 } else
    queued_at (queue_of s.expected port) bytes s

-- ---- who is expected

-- The member is expected at the port. A member that is expected already stays where it is, and there is a queue for as
-- many as were given room.
abbrev pub expecting : ℕ → ℕ → QueuesState → QueuesState
expecting member port s = if list_any (λ e. e.member == member) s.expected then s else
    (if nat_lt (length s.expected + 1) (length s.queues) then record s { expected = s.expected ++ record { member = member; port = port } ∷ [] } else s)

-- ---- what is handed on

abbrev pub holds_any : Waiting → Bool
holds_any q = nat_lt 0 (length q.held)

-- The queue has something, and is served at this reading: the first one only so long after it was served last.
abbrev pub is_due : ℕ → QueuesState → ℕ → Bool
is_due now s place = holds_any (queue_in s.queues place) && (nat_lt 0 place || not (nat_lt now s.ready))

-- the first of the queues that is due, counted round from the one behind the last, of which so many are left to look at
abbrev pub due_from : ℕ → QueuesState → ℕ → ℕ → Option ℕ
due_from now s count zero = None
due_from now s count (suc left) = let place = (s.last + (count - left)) % count in if is_due now s place then Some place else due_from now s count left

-- the queue that is served next
abbrev pub next_due : ℕ → QueuesState → Option ℕ
next_due now s = due_from now s (length s.expected + 1) (length s.expected + 1)

-- what is handed on: the oldest of that queue
abbrev pub oldest_in : QueuesState → Option ℕ → Option (List ℕ)
oldest_in s None = None
oldest_in s (Some place) = slice_get (queue_in s.queues place).held 0

abbrev pub handed_on : ℕ → QueuesState → Option (List ℕ)
handed_on now s = oldest_in s (next_due now s)

-- from when on the first queue is served again
abbrev pub ready_after : ℕ → QueuesState → ℕ → ℕ
ready_after now s place = if place == 0 then min (now + s.gap) last_count else s.ready

-- after that
abbrev pub served_at : ℕ → QueuesState → Option ℕ → QueuesState
served_at now s None = s
served_at now s (Some place) = record s {
  queues = slice_set s.queues place (without_oldest (queue_in s.queues place));
  last = place;
  ready = ready_after now s place;
}

abbrev pub after_handing : ℕ → QueuesState → QueuesState
after_handing now s = served_at now s (next_due now s)
