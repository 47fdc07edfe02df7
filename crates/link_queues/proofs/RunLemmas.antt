-- What is handed on from a queue had come for it.
use Rattle.std.proofs.Common.{◌≡◌, ◌≢◌, ◌≤◌, ◌<◌, ℕ, ◌+◌, Bool, true, false, ◌==◌, inl, inr, nat_lt, if◌then◌else◌, List, [], ◌∷◌, ◌++◌, Option, Some, None, length, drop, refl, sym, ap, ◌∙◌, arith, subst}
use Rattle.std.specs.Prelude.{slice_get, slice_set, option_to_list}
use Rattle.std.specs.List.{list_any}
use Rattle.std.proofs.lemmas.Bool.{eqb-true, eqb-false, eq-eqb, ltb-true, ltb-false}
use Rattle.std.proofs.lemmas.List.{append_assoc, append-nil, get_or-set_same, get_or-set_other, length-set}
use Rattle.std.proofs.lemmas.Option.{slice_get_past, slice_get-get_or}
use Rattle.link_queues.specs.Waiting.{Waiting, fitting, is_over, with_one, without_oldest}
use Rattle.link_queues.specs.Senders.{queue_of, is_borrowed}
use Rattle.link_queues.specs.Queues.{QueuesState, lost_after, no_queue, queue_in, queue_or, queued_at, served_at, next_due}
use Rattle.link_queues.specs.Runs.{Call, Comes, Asks, Expects, after, after_all, came_for, handed_from, served_from, over_all, IsAmong, HandsOnWhatCame}

-- ---- some of a list

among-more : (zs xs ys : List (List ℕ)) → IsAmong xs ys → IsAmong xs (zs ++ ys)
among-more [] xs ys h = h
among-more (z ∷ zs) xs ys h = inl (among-more zs xs ys h)

among-refl : (xs : List (List ℕ)) → IsAmong xs xs
among-refl [] = refl
among-refl (x ∷ xs) = inr (xs, refl, among-refl xs)

-- more came between what was there and what comes later
among-between : (hs zs xs ys : List (List ℕ)) → IsAmong xs (hs ++ ys) → IsAmong xs (hs ++ (zs ++ ys))
among-between [] zs xs ys h = among-more zs xs ys h
among-between (d ∷ hs) zs xs ys (inl h) = inl (among-between hs zs xs ys h)
among-between (d ∷ hs) zs xs ys (inr (rest, is, h)) = inr (rest, is, among-between hs zs rest ys h)

-- what was dropped stays away
among-kept : (slots room : ℕ) (d : List ℕ) (ds xs ys : List (List ℕ)) (over : Bool) → IsAmong xs ((if over then fitting slots room ds else d ∷ ds) ++ ys)
    → (IsAmong xs (fitting slots room ds ++ ys) → IsAmong xs (ds ++ ys)) → IsAmong xs (d ∷ (ds ++ ys))
among-kept slots room d ds xs ys true h later = inl (later h)
among-kept slots room d ds xs ys false h later = h

among-fitting : (slots room : ℕ) (ds xs ys : List (List ℕ)) → IsAmong xs (fitting slots room ds ++ ys) → IsAmong xs (ds ++ ys)
among-fitting slots room [] xs ys h = h
among-fitting slots room (d ∷ ds) xs ys h = among-kept slots room d ds xs ys (is_over slots room (d ∷ ds)) h (among-fitting slots room ds xs ys)

-- the oldest was handed on
among-oldest : (hs xs ys : List (List ℕ)) → IsAmong xs (drop 1 hs ++ ys) → IsAmong (option_to_list (slice_get hs 0) ++ xs) (hs ++ ys)
among-oldest [] xs ys h = h
among-oldest (d ∷ hs) xs ys h = inr (xs, refl, h)

-- ---- a queue that is written

-- the queue of this number after another value was written there
same-written : (queues : List Waiting) (place : ℕ) (q : Waiting) → place < length queues → queue_in (slice_set queues place q) place ≡ q
same-written queues place q h =
    let long = length-set queues place q in
    ap queue_or (slice_get-get_or (slice_set queues place q) place no_queue (omega (arith, h, long))) ∙ get_or-set_same queues place q no_queue h

-- a queue of another number
other-within : (queues : List Waiting) (place i : ℕ) (q : Waiting) → i ≢ place → i < length queues → queue_in (slice_set queues place q) i ≡ queue_in queues i
other-within queues place i q other h =
    let long = length-set queues place q in
    ap queue_or (slice_get-get_or (slice_set queues place q) i no_queue (omega (arith, h, long)))
    ∙ get_or-set_other queues place i q no_queue other
    ∙ sym (ap queue_or (slice_get-get_or queues i no_queue h))

-- none has this number
past : (queues : List Waiting) (i : ℕ) → length queues ≤ i → queue_in queues i ≡ no_queue
past queues i h = ap queue_or (slice_get_past queues i h)

past-written : (queues : List Waiting) (place i : ℕ) (q : Waiting) → length queues ≤ i → queue_in (slice_set queues place q) i ≡ no_queue
past-written queues place i q h = let long = length-set queues place q in past (slice_set queues place q) i (omega (arith, h, long))

-- What a write does to the queue of a number: it is the one written, or as before, and then empty where it has the number.
data IsWritten (queues : List Waiting) (place : ℕ) (q : Waiting) (i : ℕ) : Type 0 where
  here : place ≡ i → queue_in (slice_set queues place q) i ≡ q → IsWritten queues place q i
  nowhere : queue_in (slice_set queues place q) i ≡ queue_in queues i → queue_in queues i ≡ no_queue → IsWritten queues place q i
  elsewhere : (place == i) ≡ false → queue_in (slice_set queues place q) i ≡ queue_in queues i → IsWritten queues place q i

written-past : (queues : List Waiting) (place : ℕ) (q : Waiting) (i : ℕ) → length queues ≤ i → IsWritten queues place q i
written-past queues place q i h = nowhere (past-written queues place i q h ∙ sym (past queues i h)) (past queues i h)

written-same : (queues : List Waiting) (place : ℕ) (q : Waiting) (i : ℕ) → place ≡ i → i < length queues → IsWritten queues place q i
written-same queues place q i is h =
    here is (ap (λ k. queue_in (slice_set queues k q) i) is ∙ same-written queues i q h)

written-within : (queues : List Waiting) (place : ℕ) (q : Waiting) (i : ℕ) → i < length queues → (b : Bool) → (place == i) ≡ b → IsWritten queues place q i
written-within queues place q i h true is = written-same queues place q i (eqb-true place i is) h
written-within queues place q i h false is =
    elsewhere is (other-within queues place i q (λ same. eqb-false place i is (sym same)) h)

written : (queues : List Waiting) (place : ℕ) (q : Waiting) (i : ℕ) (b : Bool) → nat_lt i (length queues) ≡ b → IsWritten queues place q i
written queues place q i true h = written-within queues place q i (ltb-true i (length queues) h) (place == i) refl
written queues place q i false h = written-past queues place q i (ltb-false i (length queues) h)

-- ---- one call

queued-at-own : (queues : List Waiting) (place : ℕ) (bytes : List ℕ) (xs ys : List (List ℕ)) → IsAmong xs ((with_one bytes (queue_in queues place)).held ++ ys)
    → IsAmong xs ((queue_in queues place).held ++ ((if place == place then bytes ∷ [] else []) ++ ys))
queued-at-own queues place bytes xs ys h =
    let q = queue_in queues place in
    let kept = among-fitting q.slots q.room (q.held ++ bytes ∷ []) xs ys h in
    let P1 : List (List ℕ) → Type 0 = λ zs. IsAmong xs zs in
    let P2 : Bool → Type 0 = λ b. IsAmong xs (q.held ++ ((if b then bytes ∷ [] else []) ++ ys)) in
    subst P2 (sym (eq-eqb place place refl)) (subst P1 (append_assoc q.held (bytes ∷ []) ys) kept)

queued-by : (queues : List Waiting) (place i : ℕ) (bytes : List ℕ) (xs ys : List (List ℕ)) → IsWritten queues place (with_one bytes (queue_in queues place)) i
    → IsAmong xs ((queue_in (slice_set queues place (with_one bytes (queue_in queues place))) i).held ++ ys)
    → IsAmong xs ((queue_in queues i).held ++ ((if place == i then bytes ∷ [] else []) ++ ys))
queued-by queues place i bytes xs ys (here is eq) h =
    let P1 : Waiting → Type 0 = λ q. IsAmong xs (q.held ++ ys) in
    let P2 : ℕ → Type 0 = λ k. IsAmong xs ((queue_in queues k).held ++ ((if place == k then bytes ∷ [] else []) ++ ys)) in
    subst P2 is (queued-at-own queues place bytes xs ys (subst P1 eq h))
queued-by queues place i bytes xs ys (nowhere eq none) h =
    let P : Waiting → Type 0 = λ q. IsAmong xs (q.held ++ ys) in
    among-between (queue_in queues i).held (if place == i then bytes ∷ [] else []) xs ys (subst P eq h)
queued-by queues place i bytes xs ys (elsewhere apart eq) h =
    let P : Waiting → Type 0 = λ q. IsAmong xs (q.held ++ ys) in
    among-between (queue_in queues i).held (if place == i then bytes ∷ [] else []) xs ys (subst P eq h)

comes-by : (i port : ℕ) (bytes : List ℕ) (s : QueuesState) (xs ys : List (List ℕ)) (b : Bool)
    → IsAmong xs ((queue_in (if b then record s { lost = lost_after s.lost 1 } else queued_at (queue_of s.expected port) bytes s).queues i).held ++ ys)
    → IsAmong xs ((queue_in s.queues i).held ++ ((if b then [] else (if queue_of s.expected port == i then bytes ∷ [] else [])) ++ ys))
comes-by i port bytes s xs ys true h = h
comes-by i port bytes s xs ys false h =
    let place = queue_of s.expected port in
    queued-by s.queues place i bytes xs ys (written s.queues place (with_one bytes (queue_in s.queues place)) i (nat_lt i (length s.queues)) refl) h

served-at-own : (queues : List Waiting) (place : ℕ) (xs ys : List (List ℕ)) → IsAmong xs (drop 1 (queue_in queues place).held ++ ys)
    → IsAmong ((if place == place then option_to_list (slice_get (queue_in queues place).held 0) else []) ++ xs) ((queue_in queues place).held ++ ys)
served-at-own queues place xs ys h =
    let hs = (queue_in queues place).held in
    let P : Bool → Type 0 = λ b. IsAmong ((if b then option_to_list (slice_get hs 0) else []) ++ xs) (hs ++ ys) in
    subst P (sym (eq-eqb place place refl)) (among-oldest hs xs ys h)

served-nowhere : (queues : List Waiting) (place i : ℕ) (xs ys : List (List ℕ)) (b : Bool) → (place == i) ≡ b → queue_in queues i ≡ no_queue → IsAmong xs ((queue_in queues i).held ++ ys)
    → IsAmong ((if b then option_to_list (slice_get (queue_in queues place).held 0) else []) ++ xs) ((queue_in queues i).held ++ ys)
served-nowhere queues place i xs ys true is none h =
    let empty = ap (queue_in queues) (eqb-true place i is) ∙ none in
    let P : Waiting → Type 0 = λ q. IsAmong (option_to_list (slice_get q.held 0) ++ xs) ((queue_in queues i).held ++ ys) in
    subst P (sym empty) h
served-nowhere queues place i xs ys false is none h = h

served-by : (queues : List Waiting) (place i : ℕ) (xs ys : List (List ℕ)) → IsWritten queues place (without_oldest (queue_in queues place)) i
    → IsAmong xs ((queue_in (slice_set queues place (without_oldest (queue_in queues place))) i).held ++ ys)
    → IsAmong ((if place == i then option_to_list (slice_get (queue_in queues place).held 0) else []) ++ xs) ((queue_in queues i).held ++ ys)
served-by queues place i xs ys (here is eq) h =
    let P1 : Waiting → Type 0 = λ q. IsAmong xs (q.held ++ ys) in
    let P2 : ℕ → Type 0 = λ k. IsAmong ((if place == k then option_to_list (slice_get (queue_in queues place).held 0) else []) ++ xs) ((queue_in queues k).held ++ ys) in
    subst P2 is (served-at-own queues place xs ys (subst P1 eq h))
served-by queues place i xs ys (nowhere eq none) h =
    let P : Waiting → Type 0 = λ q. IsAmong xs (q.held ++ ys) in
    served-nowhere queues place i xs ys (place == i) refl none (subst P eq h)
served-by queues place i xs ys (elsewhere apart eq) h =
    let P1 : Waiting → Type 0 = λ q. IsAmong xs (q.held ++ ys) in
    let P2 : Bool → Type 0 = λ b. IsAmong ((if b then option_to_list (slice_get (queue_in queues place).held 0) else []) ++ xs) ((queue_in queues i).held ++ ys) in
    subst P2 (sym apart) (subst P1 eq h)

asks-by : (i now : ℕ) (s : QueuesState) (xs ys : List (List ℕ)) (due : Option ℕ) → IsAmong xs ((queue_in (served_at now s due).queues i).held ++ ys)
    → IsAmong (served_from i s due ++ xs) ((queue_in s.queues i).held ++ ys)
asks-by i now s xs ys None h = h
asks-by i now s xs ys (Some place) h =
    served-by s.queues place i xs ys (written s.queues place (without_oldest (queue_in s.queues place)) i (nat_lt i (length s.queues)) refl) h

-- whoever is expected, the queues stay
expects-by : (member port : ℕ) (s : QueuesState) (known room : Bool)
    → (if known then s else (if room then record s { expected = s.expected ++ record { member = member; port = port } ∷ [] } else s)).queues ≡ s.queues
expects-by member port s true room = refl
expects-by member port s false true = refl
expects-by member port s false false = refl

call-hands-on : (i : ℕ) (c : Call) (s : QueuesState) (xs ys : List (List ℕ)) → IsAmong xs ((queue_in (after c s).queues i).held ++ ys)
    → IsAmong (handed_from i c s ++ xs) ((queue_in s.queues i).held ++ (came_for i c s ++ ys))
call-hands-on i (Comes port bytes) s xs ys h = comes-by i port bytes s xs ys (is_borrowed s.expected port bytes) h
call-hands-on i (Asks now) s xs ys h = asks-by i now s xs ys (next_due now s) h
call-hands-on i (Expects member port) s xs ys h =
    let P : List Waiting → Type 0 = λ queues. IsAmong xs ((queue_in queues i).held ++ ys) in
    subst P (expects-by member port s (list_any (λ e. e.member == member) s.expected) (nat_lt (length s.expected + 1) (length s.queues))) h

-- ---- all calls

pub hands-on-what-came : HandsOnWhatCame
hands-on-what-came [] s i =
    let P : List (List ℕ) → Type 0 = λ zs. IsAmong (queue_in s.queues i).held zs in
    subst P (sym (append-nil (queue_in s.queues i).held)) (among-refl (queue_in s.queues i).held)
hands-on-what-came (c ∷ calls) s i =
    let handed = over_all (handed_from i) calls (after c s) in
    let came = over_all (came_for i) calls (after c s) in
    let last = (queue_in (after_all calls (after c s)).queues i).held in
    let P : List (List ℕ) → Type 0 = λ zs. IsAmong zs ((queue_in s.queues i).held ++ (came_for i c s ++ came)) in
    subst P (sym (append_assoc (handed_from i c s) handed last)) (call-hands-on i c s (handed ++ last) came (hands-on-what-came calls (after c s) i))
