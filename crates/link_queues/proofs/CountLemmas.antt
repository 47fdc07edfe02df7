-- The count of what was lost, over calls.
use Rattle.std.proofs.Common.{◌≡◌, ◌≤◌, ◌<◌, ℕ, ◌+◌, ◌-◌, min, Bool, true, false, ◌==◌, nat_lt, if◌then◌else◌, List, [], ◌∷◌, ◌++◌, Option, Some, None, length, drop, refl, ap, ◌∙◌, arith}
use Rattle.std.specs.Prelude.{slice_get, slice_set, sum_by}
use Rattle.std.specs.List.{list_any}
use Rattle.std.proofs.lemmas.Bool.{ltb-true, ltb-false}
use Rattle.std.proofs.lemmas.List.{set_past}
use Rattle.std.proofs.lemmas.List.Sums.{sum_by-set}
use Rattle.std.proofs.lemmas.Option.{slice_get_past, slice_get-get_or}
use Rattle.ports.specs.Count.{last_count}
use Rattle.link_queues.specs.Waiting.{Waiting, fitting, is_over, with_one, without_oldest}
use Rattle.link_queues.specs.Senders.{queue_of, is_borrowed}
use Rattle.link_queues.specs.Queues.{QueuesState, lost_after, no_queue, oldest_in, queue_in, queue_or, queued_at, served_at, next_due}
use Rattle.link_queues.specs.Runs.{Call, Comes, Asks, Expects, after, after_all, came_in, count_of, handed_in, waiting, CountsWhatIsLost}
use Rattle.link_queues.proofs.WaitingLemmas.{length-one}

fewer-by : (slots room : ℕ) (d : List ℕ) (ds : List (List ℕ)) (over : Bool) → length (fitting slots room ds) ≤ length ds
    → length (if over then fitting slots room ds else d ∷ ds) ≤ length ds + 1
fewer-by slots room d ds true h = omega (arith, h)
fewer-by slots room d ds false h = omega arith

fitting-fewer : (slots room : ℕ) (ds : List (List ℕ)) → length (fitting slots room ds) ≤ length ds
fitting-fewer slots room [] = omega arith
fitting-fewer slots room (d ∷ ds) = let h = fewer-by slots room d ds (is_over slots room (d ∷ ds)) (fitting-fewer slots room ds) in omega (arith, h)

one-fewer : (q : Waiting) (bytes : List ℕ) → length (with_one bytes q).held ≤ length q.held + 1
one-fewer q bytes =
    let h = fitting-fewer q.slots q.room (q.held ++ bytes ∷ []) in
    let e = length-one q.held bytes in
    omega (arith, h, e)

-- what waits in all queues after one was written: there is none of the number, or its own share changed
sum-within : (queues : List Waiting) (place : ℕ) (q : Waiting) → place < length queues
    → sum_by (λ k. length k.held) (slice_set queues place q) + length (queue_in queues place).held ≡ sum_by (λ k. length k.held) queues + length q.held
sum-within queues place q h =
    ap (λ k. sum_by (λ k. length k.held) (slice_set queues place q) + length k.held) (ap queue_or (slice_get-get_or queues place no_queue h))
    ∙ sum_by-set (λ k. length k.held) queues place q no_queue h

-- a queue that takes as much from none as it gives
sum-written : (queues : List Waiting) (place : ℕ) (f : Waiting → Waiting) (within : Bool) → nat_lt place (length queues) ≡ within → length (f no_queue).held ≡ 0
    → sum_by (λ k. length k.held) (slice_set queues place (f (queue_in queues place))) + length (queue_in queues place).held
    ≡ sum_by (λ k. length k.held) queues + length (f (queue_in queues place)).held
sum-written queues place f true is none = sum-within queues place (f (queue_in queues place)) (ltb-true place (length queues) is)
sum-written queues place f false is none =
    let past = ltb-false place (length queues) is in
    let empty = ap queue_or (slice_get_past queues place past) in
    let same = ap (sum_by (λ k. length k.held)) (set_past queues place (f (queue_in queues place)) past) in
    let mine = ap (λ q. length q.held) empty in
    let yours = ap (λ q. length (f q).held) empty ∙ none in
    omega (arith, same, mine, yours)

-- ---- one call

-- a queue that isn't there has no room
none-of-none : (bytes : List ℕ) → length (with_one bytes no_queue).held ≡ 0
none-of-none bytes = refl

queued-sum : (l held after more sum_old sum_new top : ℕ) → more ≡ held + 1 - after → after ≤ held + 1 → sum_new + held ≡ sum_old + after → min (l + more) top < top
    → (l < top) × (min (l + more) top + 0 + sum_new ≡ l + 1 + sum_old)
queued-sum l held after more sum_old sum_new top is fewer sums below = (omega (arith, is, fewer, sums, below), omega (arith, is, fewer, sums, below))

-- what a call did to the count, where it is below its top behind it
abbrev Counted : Call → QueuesState → QueuesState → ℕ → Type 0
Counted c s t handed = (s.lost < last_count) × (t.lost + handed + waiting t ≡ s.lost + came_in c + waiting s)

comes-counted : (port : ℕ) (bytes : List ℕ) (s : QueuesState) (b : Bool)
    → (if b then record s { lost = lost_after s.lost 1 } else queued_at (queue_of s.expected port) bytes s).lost < last_count
    → Counted (Comes port bytes) s (if b then record s { lost = lost_after s.lost 1 } else queued_at (queue_of s.expected port) bytes s) 0
comes-counted port bytes s true below = queued-sum s.lost 0 0 1 (waiting s) (waiting s) last_count refl (omega arith) refl below
comes-counted port bytes s false below =
    let place = queue_of s.expected port in
    let q = queue_in s.queues place in
    let sums = sum-written s.queues place (with_one bytes) (nat_lt place (length s.queues)) refl (none-of-none bytes) in
    queued-sum s.lost (length q.held) (length (with_one bytes q).held) (length q.held + 1 - length (with_one bytes q).held) (waiting s)
    (sum_by (λ k. length k.held) (slice_set s.queues place (with_one bytes q))) last_count refl (one-fewer q bytes) sums below

oldest-counted : (ds : List (List ℕ)) → length ds ≡ count_of (slice_get ds 0) + length (drop 1 ds)
oldest-counted [] = refl
oldest-counted (d ∷ ds) = omega arith

asks-counted : (now : ℕ) (s : QueuesState) (due : Option ℕ) → (served_at now s due).lost < last_count
    → Counted (Asks now) s (served_at now s due) (count_of (oldest_in s due))
asks-counted now s None below = (below, refl)
asks-counted now s (Some place) below =
    let sums = sum-written s.queues place without_oldest (nat_lt place (length s.queues)) refl refl in
    let oldest = oldest-counted (queue_in s.queues place).held in
    (below, omega (arith, sums, oldest))

expects-counted : (member port : ℕ) (s : QueuesState) (known room : Bool)
    → (if known then s else (if room then record s { expected = s.expected ++ record { member = member; port = port } ∷ [] } else s)).lost < last_count
    → Counted (Expects member port) s (if known then s else (if room then record s { expected = s.expected ++ record { member = member; port = port } ∷ [] } else s)) 0
expects-counted member port s true room below = (below, refl)
expects-counted member port s false true below = (below, refl)
expects-counted member port s false false below = (below, refl)

call-counted : (c : Call) (s : QueuesState) → (after c s).lost < last_count → Counted c s (after c s) (handed_in c s)
call-counted (Comes port bytes) s below = comes-counted port bytes s (is_borrowed s.expected port bytes) below
call-counted (Asks now) s below = asks-counted now s (next_due now s) below
call-counted (Expects member port) s below =
    expects-counted member port s (list_any (λ e. e.member == member) s.expected) (nat_lt (length s.expected + 1) (length s.queues)) below

-- ---- all calls

below-all : (calls : List Call) (s : QueuesState) → (after_all calls s).lost < last_count → s.lost < last_count
below-all [] s below = below
below-all (c ∷ calls) s below = (call-counted c s (below-all calls (after c s) below)).0

pub counts-what-is-lost : CountsWhatIsLost
counts-what-is-lost [] s below = refl
counts-what-is-lost (c ∷ calls) s below =
    let one = (call-counted c s (below-all calls (after c s) below)).1 in
    let all = counts-what-is-lost calls (after c s) below in
    omega (arith, one, all)
