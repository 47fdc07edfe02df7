-- Rows worked by hand: members 1 at port 7001 and 2 at port 7002, and room for two datagrams of ten bytes together in each
-- queue; the queue of all other ports is served once in 100.
use Rattle.std.proofs.Common.{◌≡◌, ℕ, List, [], ◌∷◌, Some, None, refl}
use Rattle.link_queues.specs.declared.queues.Sizes.{Sizes}
use Rattle.link_queues.specs.Waiting.{fitting}
use Rattle.link_queues.specs.Senders.{named_sender}
use Rattle.link_queues.specs.Queues.{QueuesState, nothing_yet, put, expecting, handed_on, after_handing, queue_in}

abbrev sizes : Sizes
sizes = record { members = 2; slots = 2; room = 10; gap = 100 }

abbrev start : QueuesState
start = expecting 2 7002 (expecting 1 7001 (nothing_yet sizes))

-- ---- what fits

too-many : fitting 2 10 ((1 ∷ []) ∷ (2 ∷ []) ∷ (3 ∷ []) ∷ []) ≡ (2 ∷ []) ∷ (3 ∷ []) ∷ []
too-many = refl

too-long : fitting 3 4 ((1 ∷ []) ∷ (2 ∷ 2 ∷ []) ∷ (3 ∷ 3 ∷ 3 ∷ []) ∷ []) ≡ (3 ∷ 3 ∷ 3 ∷ []) ∷ []
too-long = refl

just-fits : fitting 3 6 ((1 ∷ []) ∷ (2 ∷ 2 ∷ []) ∷ (3 ∷ 3 ∷ 3 ∷ []) ∷ []) ≡ (1 ∷ []) ∷ (2 ∷ 2 ∷ []) ∷ (3 ∷ 3 ∷ 3 ∷ []) ∷ []
just-fits = refl

never-fits : fitting 3 2 ((1 ∷ []) ∷ (3 ∷ 3 ∷ 3 ∷ []) ∷ []) ≡ []
never-fits = refl

-- ---- who is named

-- a ping, a summary, a wide one, datagrams of no kind and one of records of member 258, and a ping that is cut short
ping-names : named_sender (70 ∷ 70 ∷ 1 ∷ 1 ∷ 1 ∷ 2 ∷ 0 ∷ []) ≡ Some 258
ping-names = refl

summary-names : named_sender (70 ∷ 70 ∷ 1 ∷ 3 ∷ 1 ∷ 2 ∷ []) ≡ Some 258
summary-names = refl

wide-summary-names : named_sender (70 ∷ 70 ∷ 1 ∷ 5 ∷ 1 ∷ 2 ∷ []) ≡ Some 258
wide-summary-names = refl

no-kind-names-none : (named_sender (70 ∷ 70 ∷ 1 ∷ 0 ∷ 1 ∷ 2 ∷ 0 ∷ []) ≡ None) × (named_sender (70 ∷ 70 ∷ 1 ∷ 6 ∷ 1 ∷ 2 ∷ 0 ∷ []) ≡ None)
no-kind-names-none = (refl, refl)

records-name-none : named_sender (70 ∷ 70 ∷ 1 ∷ 4 ∷ 1 ∷ 2 ∷ 0 ∷ []) ≡ None
records-name-none = refl

short-names-none : named_sender (70 ∷ 70 ∷ 1 ∷ 1 ∷ 1 ∷ []) ≡ None
short-names-none = refl

-- a ping of member 1
abbrev ping : List ℕ
ping = 70 ∷ 70 ∷ 1 ∷ 1 ∷ 0 ∷ 1 ∷ 9 ∷ []

-- a ping of member 3, whom nobody expects
abbrev other_ping : List ℕ
other_ping = 70 ∷ 70 ∷ 1 ∷ 1 ∷ 0 ∷ 3 ∷ 9 ∷ []

own-port : handed_on 0 (put 7001 ping start) ≡ Some ping
own-port = refl

another-port : put 7002 ping start ≡ record start { lost = 1 }
another-port = refl

strange-port : put 9999 ping start ≡ record start { lost = 1 }
strange-port = refl

unknown-member : handed_on 0 (put 7002 other_ping start) ≡ Some other_ping
unknown-member = refl

-- a second port of a member is not taken, and there is no queue for a third member
first-port : expecting 1 7003 start ≡ start
first-port = refl

no-third : expecting 3 7003 start ≡ start
no-third = refl

-- ---- turns

abbrev come : QueuesState
come = put 9999 (7 ∷ []) (put 7002 (5 ∷ []) (put 7001 (4 ∷ []) (put 9999 (6 ∷ []) (put 7001 (3 ∷ []) start))))

first-turn : handed_on 50 come ≡ Some (3 ∷ [])
first-turn = refl

second-turn : handed_on 50 (after_handing 50 come) ≡ Some (5 ∷ [])
second-turn = refl

third-turn : handed_on 50 (after_handing 50 (after_handing 50 come)) ≡ Some (6 ∷ [])
third-turn = refl

fourth-turn : handed_on 50 (after_handing 50 (after_handing 50 (after_handing 50 come))) ≡ Some (4 ∷ [])
fourth-turn = refl

-- the one of another port waits until 150, also where the clock goes back
abbrev served_all : QueuesState
served_all = after_handing 50 (after_handing 50 (after_handing 50 (after_handing 50 come)))

too-soon : handed_on 149 served_all ≡ None
too-soon = refl

gone-back : handed_on 20 served_all ≡ None
gone-back = refl

in-time : handed_on 150 served_all ≡ Some (7 ∷ [])
in-time = refl

-- a third one of other ports pushes out the oldest of them, and nothing of a member
flooded : (queue_in (put 9998 (8 ∷ []) come).queues 0).held ≡ (7 ∷ []) ∷ (8 ∷ []) ∷ []
flooded = refl

flood-counted : (put 9998 (8 ∷ []) come).lost ≡ 1
flood-counted = refl

member-kept : (queue_in (put 9998 (8 ∷ []) come).queues 1).held ≡ (3 ∷ []) ∷ (4 ∷ []) ∷ []
member-kept = refl
