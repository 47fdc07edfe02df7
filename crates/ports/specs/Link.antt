-- A link: the port bound to it, what receives are answered, which sends fail, and what was given to it to send.
use Rattle.std.specs.Prelude.{◌≡◌, ℕ, min, Bool, true, false, List, [], ◌∷◌, ◌++◌, Option, Some, None, length, take, drop}
use Rattle.ports.specs.declared.Opened as opened
use Rattle.ports.specs.declared.Received as received
use Rattle.ports.specs.declared.Sent as sent
use Rattle.ports.specs.declared.link.LinkAnswer.{LinkAnswer}
use Rattle.ports.specs.declared.link.LinkAnswer.TheVariants as answers
use Rattle.ports.specs.Memory.{is_failing}

-- The port bound, the answers to the receives to come, the numbers of the sends that fail, counted from 0, and the
-- datagrams that were given to be sent, each with its port, the first one first.
pub record LinkState : Type 0 where
  pub bound : Option ℕ
  pub coming : List LinkAnswer
  pub failing : List ℕ
  pub given : List (ℕ × List ℕ)

-- ---- bind

-- the link after that answer: the port is bound where it was opened
abbrev pub after_bind : ℕ → LinkState → opened.Opened → LinkState
after_bind port link opened.TheVariants.Done = record link { bound = Some port }
after_bind port link opened.TheVariants.Failed = link
after_bind port link opened.TheVariants.OutOfMemory = link

-- A link that is modelled stays so, and one that is not does not begin to be.
abbrev pub Binds : ℕ → Option LinkState → Option LinkState → opened.Opened → Type 0
Binds port None after answer = after ≡ None
Binds port (Some link) after answer = after ≡ Some (after_bind port link answer)

-- ---- receive

-- the next of the answers, and nothing where none is to come
abbrev pub next_of : List LinkAnswer → LinkAnswer
next_of [] = answers.Nothing
next_of (answer ∷ later) = answer

-- what is answered where this comes next: of a datagram as much as the buffer has room for
abbrev pub answer_of : LinkAnswer → ℕ → received.Received
answer_of (answers.Got bytes) room = received.TheVariants.Got (min (length bytes) room)
answer_of answers.Nothing room = received.TheVariants.Nothing
answer_of answers.Failed room = received.TheVariants.Failed

-- the buffer after that
abbrev pub buffer_of : LinkAnswer → List ℕ → List ℕ
buffer_of (answers.Got bytes) buffer = take (length buffer) bytes ++ drop (length bytes) buffer
buffer_of answers.Nothing buffer = buffer
buffer_of answers.Failed buffer = buffer

-- the link after a receive
abbrev pub received_from : LinkState → LinkState
received_from link = record link { coming = drop 1 link.coming }

-- The next answer is given, and a datagram lies in front of the buffer.
pub record TakesNext (link : LinkState) (after : Option LinkState) (buffer filled : List ℕ) (answer : received.Received) : Type 0 where
  pub answered : answer ≡ answer_of (next_of link.coming) (length buffer)
  pub lies : filled ≡ buffer_of (next_of link.coming) buffer
  pub taken : after ≡ Some (received_from link)

-- What a receive does to a link, by its answer; unknown contents stay unknown.
abbrev pub Receives : Option LinkState → Option LinkState → List ℕ → List ℕ → received.Received → Type 0
Receives None after buffer filled answer = after ≡ None
Receives (Some link) after buffer filled answer = TakesNext link after buffer filled answer

-- ---- send

-- the link after this datagram was given to it for that port
abbrev pub with_given : ℕ → List ℕ → LinkState → LinkState
with_given port bytes link = record link { given = link.given ++ (port, bytes) ∷ [] }

-- A datagram is given to the link also where its send fails, but where memory is refused. A send fails where its
-- number is one of those.
abbrev pub after_send : ℕ → List ℕ → LinkState → sent.Sent → LinkState
after_send port bytes link sent.TheVariants.Done = with_given port bytes link
after_send port bytes link sent.TheVariants.Failed = with_given port bytes link
after_send port bytes link sent.TheVariants.OutOfMemory = link

-- the send of this number ends so, where memory isn't refused
abbrev pub EndsSend : Bool → sent.Sent → Type 0
EndsSend fails sent.TheVariants.OutOfMemory = Unit {0}
EndsSend fails sent.TheVariants.Done = fails ≡ false
EndsSend fails sent.TheVariants.Failed = fails ≡ true

pub record GivesOne (port : ℕ) (bytes : List ℕ) (link : LinkState) (after : Option LinkState) (answer : sent.Sent) : Type 0 where
  pub ends : EndsSend (is_failing link.failing (length link.given)) answer
  pub told : after ≡ Some (after_send port bytes link answer)

-- What a send does to a link, by its answer; unknown contents stay unknown.
abbrev pub Sends : ℕ → List ℕ → Option LinkState → Option LinkState → sent.Sent → Type 0
Sends port bytes None after answer = after ≡ None
Sends port bytes (Some link) after answer = GivesOne port bytes link after answer
