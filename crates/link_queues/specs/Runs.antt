-- Calls of the queues, one after another: what came for a queue, and what was handed on from it.
use Rattle.std.specs.Prelude.{◌≡◌, ◌<◌, ◌+◌, sum_by, length, ◌⊎◌, ℕ, ◌==◌, if◌then◌else◌, List, [], ◌∷◌, ◌++◌, Option, Some, None, slice_get, option_to_list}
use Rattle.ports.specs.Count.{last_count}
use Rattle.link_queues.specs.Senders.{queue_of, is_borrowed}
use Rattle.link_queues.specs.Queues.{QueuesState, queue_in, put, expecting, after_handing, handed_on, next_due}

-- a call of the queues
pub data Call : Type 0 where
  Comes : (port : ℕ) (bytes : List ℕ) → Call
  Asks : (now : ℕ) → Call
  Expects : (member port : ℕ) → Call

abbrev pub after : Call → QueuesState → QueuesState
after (Comes port bytes) s = put port bytes s
after (Asks now) s = after_handing now s
after (Expects member port) s = expecting member port s

-- the queues after all of the calls
abbrev pub after_all : List Call → QueuesState → QueuesState
after_all [] s = s
after_all (c ∷ later) s = after_all later (after c s)

-- what came in a call for the queue of this number
abbrev pub came_for : ℕ → Call → QueuesState → List (List ℕ)
came_for place (Comes port bytes) s = if is_borrowed s.expected port bytes then [] else (if queue_of s.expected port == place then bytes ∷ [] else [])
came_for place (Asks now) s = []
came_for place (Expects member port) s = []

-- what was handed on in a call from the queue of this number
abbrev pub served_from : ℕ → QueuesState → Option ℕ → List (List ℕ)
served_from place s None = []
served_from place s (Some served) = if served == place then option_to_list (slice_get (queue_in s.queues served).held 0) else []

abbrev pub handed_from : ℕ → Call → QueuesState → List (List ℕ)
handed_from place (Comes port bytes) s = []
handed_from place (Asks now) s = served_from place s (next_due now s)
handed_from place (Expects member port) s = []

-- the same of all the calls
abbrev pub over_all : (Call → QueuesState → List (List ℕ)) → List Call → QueuesState → List (List ℕ)
over_all of_call [] s = []
over_all of_call (c ∷ later) s = of_call c s ++ over_all of_call later (after c s)

-- The first are some of the second, in their order, each once: the second's oldest was left out, or it is the first's oldest.
abbrev pub IsAmong : List (List ℕ) → List (List ℕ) → Type 0
IsAmong xs [] = xs ≡ []
IsAmong xs (d ∷ ys) = IsAmong xs ys ⊎ ((rest : List (List ℕ)) × (xs ≡ d ∷ rest) × IsAmong rest ys)

-- What was handed on from a queue, and then what waits there, had come for it or waited there before: in order, each once,
-- and nothing else.
abbrev pub HandsOnWhatCame : Type 0
HandsOnWhatCame = (calls : List Call) (s : QueuesState) (place : ℕ)
    → IsAmong (over_all (handed_from place) calls s ++ (queue_in (after_all calls s).queues place).held)
    ((queue_in s.queues place).held ++ over_all (came_for place) calls s)

-- ---- how many

abbrev pub came_in : Call → ℕ
came_in (Comes port bytes) = 1
came_in (Asks now) = 0
came_in (Expects member port) = 0

abbrev pub count_of : Option (List ℕ) → ℕ
count_of None = 0
count_of (Some bytes) = 1

abbrev pub handed_in : Call → QueuesState → ℕ
handed_in (Comes port bytes) s = 0
handed_in (Asks now) s = count_of (handed_on now s)
handed_in (Expects member port) s = 0

-- how many came, and how many were handed on, in all the calls
abbrev pub all_came : List Call → ℕ
all_came [] = 0
all_came (c ∷ later) = came_in c + all_came later

abbrev pub all_handed : List Call → QueuesState → ℕ
all_handed [] s = 0
all_handed (c ∷ later) s = handed_in c s + all_handed later (after c s)

-- how many wait
abbrev pub waiting : QueuesState → ℕ
waiting s = sum_by (λ q. length q.held) s.queues

-- As long as the count is below its top, it rises by those that came or waited and were neither handed on nor wait.
abbrev pub CountsWhatIsLost : Type 0
CountsWhatIsLost = (calls : List Call) (s : QueuesState) → (after_all calls s).lost < last_count
    → (after_all calls s).lost + all_handed calls s + waiting (after_all calls s) ≡ s.lost + all_came calls + waiting s
