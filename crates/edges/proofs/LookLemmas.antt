-- Looks at a socket, one after another, and what they do to the queues.
use Rattle.std.proofs.Common.{◌≡◌, ℕ, suc, ◌+◌, ◌-◌, ◌<◌, min, Bool, true, false, ◌&&◌, ◌≤◌, if◌then◌else◌, List, [], ◌∷◌, ◌++◌, Option, None, Some, Result, Ok, Err, IsErr, length, take, drop, refl, sym, ap, ◌∙◌, subst, arith}
use Rattle.std.specs.List.{list_all}
use Rattle.std.proofs.Math.Seq.{take-append_seam}
use Rattle.std.proofs.lemmas.Bool.{true≢false}
use Rattle.std.proofs.lemmas.List.{length-take}
use Rattle.std.proofs.lemmas.List.Folds.{list_all-append}
use Rattle.ports.specs.declared.Failed.{Failed}
use Rattle.link_queues.specs.Queues.{QueuesState, after_handing, put}
use Rattle.link_queues.specs.Runs.{Call, Comes, Asks, after as after_one, after_all}
use Rattle.edges.specs.declared.socket.Found.{Found}
use Rattle.edges.specs.declared.socket.Found.TheVariants as found
use Rattle.edges.specs.Sockets.{Arrival, Came, Quiet, Broken, Finds, found_of, lying, next_arrival}
use Rattle.edges.specs.Looks.{Empties, Looked, Looks, Reaches, answer_of, answer_to, batch, did, emptied, has_come, is_ok, is_served, kept, kept_found, left_with}

-- ---- what any calls reach

pub after_all-append : (xs ys : List Call) (s : QueuesState) → after_all (xs ++ ys) s ≡ after_all ys (after_all xs s)
after_all-append [] ys s = refl
after_all-append (c ∷ xs) ys s = after_all-append xs ys (after_one c s)

pub reaches-refl : (s : QueuesState) → Reaches s s
reaches-refl s = record { calls = []; served = refl; is = refl }

pub reaches-same : (s t : QueuesState) → t ≡ s → Reaches s t
reaches-same s t is = subst (λ x. Reaches s x) (sym is) (reaches-refl s)

pub reaches-trans : (s t u : QueuesState) → Reaches s t → Reaches t u → Reaches s u
reaches-trans s t u a b = record {
  calls = a.calls ++ b.calls;
  served = list_all-append is_served a.calls b.calls ∙ ap (λ x. x && list_all is_served b.calls) a.served ∙ b.served;
  is = b.is ∙ ap (after_all b.calls) a.is ∙ sym (after_all-append a.calls b.calls s);
}

pub reaches-next : (now : ℕ) (s : QueuesState) → Reaches s (after_handing now s)
reaches-next now s = record { calls = Asks now ∷ []; served = refl; is = refl }

reaches-put : (port : ℕ) (bytes : List ℕ) (s : QueuesState) → Reaches s (put port bytes s)
reaches-put port bytes s = record { calls = Comes port bytes ∷ []; served = refl; is = refl }

pub reaches-found : (f : Found) (buffer : List ℕ) (s : QueuesState) → Reaches s (kept_found f buffer s)
reaches-found (found.Datagram port count) buffer s = reaches-put port (take count buffer) s
reaches-found found.Nothing buffer s = reaches-refl s
reaches-found found.Failed buffer s = reaches-refl s

pub reaches-kept : (f : Found) (buffer : List ℕ) (s t : QueuesState) → t ≡ kept_found f buffer s → Reaches s t
reaches-kept f buffer s t is = subst (λ x. Reaches s x) (sym is) (reaches-found f buffer s)

-- ---- one look

-- a buffer that was lent is what was written to it
pub lent : (n : ℕ) (xs ys : List ℕ) → n ≡ length xs → take n (xs ++ ys) ≡ xs
lent n xs ys is = ap (λ k. take k (xs ++ ys)) is ∙ take-append_seam xs ys

answer-found : (a : Arrival) (room : ℕ) → answer_of (found_of a room) ≡ answer_to a
answer-found (Came port bytes) room = refl
answer-found Quiet room = refl
answer-found Broken room = refl

take-lying : (bytes buffer : List ℕ) → take (min (length bytes) (length buffer)) (take (length buffer) bytes ++ drop (length bytes) buffer) ≡ take (length buffer) bytes
take-lying bytes buffer =
    let xs = take (length buffer) bytes in
    let h = length-take (length buffer) bytes in
    let e : min (length bytes) (length buffer) ≡ length xs = omega (arith, h) in
    ap (λ k. take k (xs ++ drop (length bytes) buffer)) e ∙ take-append_seam xs (drop (length bytes) buffer)

kept-found : (a : Arrival) (buffer : List ℕ) (s : QueuesState) → kept_found (found_of a (length buffer)) (lying a buffer) s ≡ kept (length buffer) a s
kept-found (Came port bytes) buffer s = ap (λ b. put port b s) (take-lying bytes buffer)
kept-found Quiet buffer s = refl
kept-found Broken buffer s = refl

pub looks-found : (coming after : Option (List Arrival)) (buffer filled : List ℕ) (f : Found) (s t : QueuesState) → Finds coming after buffer filled f → t ≡ kept_found f filled s
    → Looks (length buffer) coming after s t (answer_of f)
looks-found None after buffer filled f s t h is = h
looks-found (Some coming) after buffer filled f s t h is =
    let a = next_arrival coming in
    record {
      answered = ap answer_of h.answered ∙ answer-found a (length buffer);
      queues = is ∙ ap (λ x. kept_found x filled s) h.answered ∙ ap (λ b. kept_found (found_of a (length buffer)) b s) h.lies ∙ kept-found a buffer s;
      left = h.left;
    }

pub looks-as : (coming after : Option (List Arrival)) (room : ℕ) (s t : QueuesState) (x y : Result Bool Failed) → x ≡ y → Looks room coming after s t x → Looks room coming after s t y
looks-as coming after room s t x y is h = subst (λ z. Looks room coming after s t z) is h

-- ---- looks in a row

-- So many looks are left.
pub record StillOn (room left : ℕ) (coming : List Arrival) (now : Option (List Arrival)) (s t : QueuesState) : Type 0 where
  pub later : List Arrival
  pub is : now ≡ Some later
  pub same : emptied room batch coming s ≡ emptied room left later t

abbrev pub RunsOn : ℕ → ℕ → Option (List Arrival) → Option (List Arrival) → QueuesState → QueuesState → Type 0
RunsOn room left None now s t = now ≡ None
RunsOn room left (Some coming) now s t = StillOn room left coming now s t

pub on-start : (room : ℕ) (coming : Option (List Arrival)) (s : QueuesState) → RunsOn room batch coming coming s s
on-start room None s = refl
on-start room (Some coming) s = record { later = coming; is = refl; same = refl }

pub on-left : (room m n : ℕ) (coming now : Option (List Arrival)) (s t : QueuesState) → m ≡ n → RunsOn room m coming now s t → RunsOn room n coming now s t
on-left room m n coming now s t is h = subst (λ k. RunsOn room k coming now s t) is h

step-by : (room left : ℕ) (later : List Arrival) (t : QueuesState) (x : Result Bool Failed) → x ≡ answer_to (next_arrival later)
    → emptied room (suc left) later t ≡ (if has_come x then emptied room left (drop 1 later) (kept room (next_arrival later) t) else left_with (drop 1 later) t (is_ok x))
step-by room left later t x is =
    ap (λ y. if has_come y then emptied room left (drop 1 later) (kept room (next_arrival later) t) else left_with (drop 1 later) t (is_ok y)) (sym is)

kept-none : (room : ℕ) (a : Arrival) (t : QueuesState) → has_come (answer_to a) ≡ false → kept room a t ≡ t
kept-none room (Came port bytes) t h = absurd (true≢false h)
kept-none room Quiet t h = refl
kept-none room Broken t h = refl

pub on-more : (room left : ℕ) (coming now after : Option (List Arrival)) (s t u : QueuesState) → RunsOn room (suc left) coming now s t → Looks room now after t u (Ok true)
    → RunsOn room left coming after s u
on-more room left None now after s t u h l = let P : Option (List Arrival) → Type 0 = λ o. Looks room o after t u (Ok true) in subst P h l
on-more room left (Some coming) now after s t u h l =
    let P : Option (List Arrival) → Type 0 = λ o. Looks room o after t u (Ok true) in
    let l1 : Looked room h.later after t u (Ok true) = subst P h.is l in
    record {
      later = drop 1 h.later;
      is = l1.left;
      same = h.same ∙ step-by room left h.later t (Ok true) l1.answered ∙ ap (emptied room left (drop 1 h.later)) (sym l1.queues);
    }

ends-by : (room left : ℕ) (coming now after : Option (List Arrival)) (s t u : QueuesState) (x : Result Bool Failed) (answer : Result (Unit {0}) Failed) → has_come x ≡ false → is_ok x ≡ did answer
    → RunsOn room (suc left) coming now s t → Looks room now after t u x → Empties room coming after s u answer
ends-by room left None now after s t u x answer none ok h l = let P : Option (List Arrival) → Type 0 = λ o. Looks room o after t u x in subst P h l
ends-by room left (Some coming) now after s t u x answer none ok h l =
    let P : Option (List Arrival) → Type 0 = λ o. Looks room o after t u x in
    let l1 : Looked room h.later after t u x = subst P h.is l in
    let more = emptied room left (drop 1 h.later) (kept room (next_arrival h.later) t) in
    let stays = kept-none room (next_arrival h.later) t (ap has_come (sym l1.answered) ∙ none) in
    record {
      later = drop 1 h.later;
      left = l1.left;
      is = h.same ∙ step-by room left h.later t x l1.answered
          ∙ ap (λ b. if b then more else left_with (drop 1 h.later) t (is_ok x)) none
          ∙ ap (left_with (drop 1 h.later) t) ok
          ∙ ap (λ q. left_with (drop 1 h.later) q (did answer)) (sym (l1.queues ∙ stays));
    }

pub on-quiet : (room left : ℕ) (coming now after : Option (List Arrival)) (s t u : QueuesState) → RunsOn room (suc left) coming now s t → Looks room now after t u (Ok false)
    → Empties room coming after s u (Ok tt)
on-quiet room left coming now after s t u h l = ends-by room left coming now after s t u (Ok false) (Ok tt) refl refl h l

pub on-broken : (room left : ℕ) (coming now after : Option (List Arrival)) (s t u : QueuesState) (e f : Failed) → RunsOn room (suc left) coming now s t → Looks room now after t u (Err e)
    → Empties room coming after s u (Err f)
on-broken room left coming now after s t u e f h l = ends-by room left coming now after s t u (Err e) (Err f) refl refl h l

pub on-end : (room : ℕ) (coming now : Option (List Arrival)) (s t : QueuesState) → RunsOn room 0 coming now s t → Empties room coming now s t (Ok tt)
on-end room None now s t h = h
on-end room (Some coming) now s t h = record { later = h.later; left = h.is; is = h.same }

-- ---- the same, by the count of the looks that were made

one-more : (k : ℕ) → k < batch → batch - k ≡ suc (batch - (k + 1))
one-more k lt = omega (arith, lt)

pub more-by : (room held k : ℕ) (coming now after : Option (List Arrival)) (s t u : QueuesState) (b : Bool) → held ≡ room → k < batch → b ≡ true → RunsOn room (batch - k) coming now s t
    → Looks held now after t u (Ok b) → RunsOn room (batch - (k + 1)) coming after s u
more-by room held k coming now after s t u true is lt came h l =
    on-more room (batch - (k + 1)) coming now after s t u (on-left room (batch - k) (suc (batch - (k + 1))) coming now s t (one-more k lt) h) (subst (λ n. Looks n now after t u (Ok true)) is l)
more-by room held k coming now after s t u false is lt came h l = absurd (true≢false (sym came))

pub quiet-by : (room held k : ℕ) (coming now after : Option (List Arrival)) (s t u : QueuesState) (b : Bool) → held ≡ room → k < batch → b ≡ false → RunsOn room (batch - k) coming now s t
    → Looks held now after t u (Ok b) → Empties room coming after s u (Ok tt)
quiet-by room held k coming now after s t u true is lt none h l = absurd (true≢false none)
quiet-by room held k coming now after s t u false is lt none h l =
    on-quiet room (batch - (k + 1)) coming now after s t u (on-left room (batch - k) (suc (batch - (k + 1))) coming now s t (one-more k lt) h) (subst (λ n. Looks n now after t u (Ok false)) is l)

pub broken-by : (room held k : ℕ) (coming now after : Option (List Arrival)) (s t u : QueuesState) (e : Failed) (answer : Result (Unit {0}) Failed) → held ≡ room → k < batch → IsErr answer
    → RunsOn room (batch - k) coming now s t → Looks held now after t u (Err e) → Empties room coming after s u answer
broken-by room held k coming now after s t u e (Ok x) is lt failed h l = absurd (true≢false (sym failed))
broken-by room held k coming now after s t u e (Err f) is lt failed h l =
    on-broken room (batch - (k + 1)) coming now after s t u e f (on-left room (batch - k) (suc (batch - (k + 1))) coming now s t (one-more k lt) h) (subst (λ n. Looks n now after t u (Err e)) is l)

pub end-by : (room k : ℕ) (coming now : Option (List Arrival)) (s t : QueuesState) → batch ≤ k → RunsOn room (batch - k) coming now s t → Empties room coming now s t (Ok tt)
end-by room k coming now s t le h = let e : batch - k ≡ 0 = omega (arith, le) in on-end room coming now s t (on-left room (batch - k) 0 coming now s t e h)
