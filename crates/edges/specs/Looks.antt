-- What a link does with what its socket finds: it empties the socket into its queues, and hands on what is next in turn.
use Rattle.std.specs.Prelude.{◌≡◌, ℕ, zero, suc, Bool, true, false, if◌then◌else◌, List, Option, None, Some, Result, Ok, Err, take, drop}
use Rattle.std.specs.List.{list_all}
use Rattle.ports.specs.declared.Failed.{Failed}
use Rattle.link_queues.specs.Queues.{QueuesState, put}
use Rattle.link_queues.specs.Runs.{Call, Comes, Asks, Expects, after_all}
use Rattle.edges.specs.declared.socket.Found.{Found}
use Rattle.edges.specs.declared.socket.Found.TheVariants as found
use Rattle.edges.specs.Sockets.{Arrival, Came, Quiet, Broken, next_arrival}

-- ---- one look

-- the queues after this was found, of which so much lies in the buffer
abbrev pub kept_found : Found → List ℕ → QueuesState → QueuesState
kept_found (found.Datagram port count) buffer s = put port (take count buffer) s
kept_found found.Nothing buffer s = s
kept_found found.Failed buffer s = s

-- a datagram was found; none; or the look failed
abbrev pub answer_of : Found → Result Bool Failed
answer_of (found.Datagram port count) = Ok true
answer_of found.Nothing = Ok false
answer_of found.Failed = Err (record {})

-- the queues after this came, of a datagram as much as there is room for
abbrev pub kept : ℕ → Arrival → QueuesState → QueuesState
kept room (Came port bytes) s = put port (take room bytes) s
kept room Quiet s = s
kept room Broken s = s

abbrev pub answer_to : Arrival → Result Bool Failed
answer_to (Came port bytes) = Ok true
answer_to Quiet = Ok false
answer_to Broken = Err (record {})

-- The next that comes was put into its queue.
pub record Looked (room : ℕ) (coming : List Arrival) (after : Option (List Arrival)) (s t : QueuesState) (answer : Result Bool Failed) : Type 0 where
  pub answered : answer ≡ answer_to (next_arrival coming)
  pub queues : t ≡ kept room (next_arrival coming) s
  pub left : after ≡ Some (drop 1 coming)

abbrev pub Looks : ℕ → Option (List Arrival) → Option (List Arrival) → QueuesState → QueuesState → Result Bool Failed → Type 0
Looks room None after s t answer = after ≡ None
Looks room (Some coming) after s t answer = Looked room coming after s t answer

-- ---- what any looks do to the queues

-- it is told nobody anew
abbrev pub is_served : Call → Bool
is_served (Comes port bytes) = true
is_served (Asks now) = true
is_served (Expects member port) = false

-- Datagrams came, and some were handed on.
pub record Reaches (s t : QueuesState) : Type 0 where
  pub calls : List Call
  pub served : list_all is_served calls ≡ true
  pub is : t ≡ after_all calls s

-- ---- as long as something is there

-- what is to come behind a row of looks, the queues, and whether none of them failed
pub record Left : Type 0 where
  pub coming : List Arrival
  pub queues : QueuesState
  pub works : Bool

abbrev pub left_with : List Arrival → QueuesState → Bool → Left
left_with coming queues works = record { coming = coming; queues = queues; works = works }

abbrev pub is_ok : Result Bool Failed → Bool
is_ok (Ok came) = true
is_ok (Err failed) = false

abbrev pub has_come : Result Bool Failed → Bool
has_come (Ok came) = came
has_come (Err failed) = false

-- Up to so many looks, until nothing is there or one fails.
abbrev pub emptied : ℕ → ℕ → List Arrival → QueuesState → Left
emptied room zero coming s = left_with coming s true
emptied room (suc looks) coming s = if has_come (answer_to (next_arrival coming)) then emptied room looks (drop 1 coming) (kept room (next_arrival coming) s)
    else left_with (drop 1 coming) s (is_ok (answer_to (next_arrival coming)))

-- the most looks in a row
abbrev pub batch : ℕ
batch = 512

abbrev pub did : Result (Unit {0}) Failed → Bool
did (Ok done) = true
did (Err failed) = false

pub record Emptied (room : ℕ) (coming : List Arrival) (after : Option (List Arrival)) (s t : QueuesState) (answer : Result (Unit {0}) Failed) : Type 0 where
  pub later : List Arrival
  pub left : after ≡ Some later
  pub is : emptied room batch coming s ≡ left_with later t (did answer)

abbrev pub Empties : ℕ → Option (List Arrival) → Option (List Arrival) → QueuesState → QueuesState → Result (Unit {0}) Failed → Type 0
Empties room None after s t answer = after ≡ None
Empties room (Some coming) after s t answer = Emptied room coming after s t answer
