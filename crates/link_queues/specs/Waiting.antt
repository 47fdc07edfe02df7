-- Datagrams that wait in one queue, the oldest first.
use Rattle.std.specs.Prelude.{ℕ, ◌+◌, ◌||◌, Bool, nat_lt, if◌then◌else◌, List, [], ◌∷◌, ◌++◌, Option, Some, None, length, take, drop}

-- What waits, the oldest first; how many datagrams there is room for, and how many bytes.
pub record Waiting : Type 0 where
  pub held : List (List ℕ)
  pub slots : ℕ
  pub room : ℕ

-- the bytes of all of them
abbrev pub total : List (List ℕ) → ℕ
total [] = 0
total (d ∷ later) = length d + total later

-- they are more, or longer, than there is room for
abbrev pub is_over : ℕ → ℕ → List (List ℕ) → Bool
is_over slots room ds = nat_lt slots (length ds) || nat_lt room (total ds)

-- the newest of them, as many as fit: the oldest are dropped until there is room
abbrev pub fitting : ℕ → ℕ → List (List ℕ) → List (List ℕ)
fitting slots room [] = []
fitting slots room (d ∷ later) = if is_over slots room (d ∷ later) then fitting slots room later else d ∷ later

-- the queue after this datagram came
abbrev pub with_one : List ℕ → Waiting → Waiting
with_one bytes q = record q { held = fitting q.slots q.room (q.held ++ bytes ∷ []) }

-- the queue after its oldest was taken
abbrev pub without_oldest : Waiting → Waiting
without_oldest q = record q { held = drop 1 q.held }

-- a buffer after this datagram was copied to its front, as much as it has room for
abbrev pub filled : Option (List ℕ) → List ℕ → List ℕ
filled None buffer = buffer
filled (Some bytes) buffer = take (length buffer) bytes ++ drop (length bytes) buffer

-- Bytes in pieces of these lengths.
abbrev pub pieces : List ℕ → List ℕ → List (List ℕ)
pieces [] bytes = []
pieces (n ∷ later) bytes = take n bytes ∷ pieces later (drop n bytes)
