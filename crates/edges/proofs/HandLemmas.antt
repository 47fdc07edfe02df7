-- What is handed on, by what the queues say of it.
use Rattle.std.proofs.Common.{◌≡◌, ℕ, min, Bool, true, false, if◌then◌else◌, List, Option, None, Some, Result, Ok, Err, IsErr, length, refl, sym, ap, ◌∙◌, subst}
use Rattle.std.specs.Option.{option_map}
use Rattle.std.proofs.lemmas.Bool.{true≢false}
use Rattle.ports.specs.declared.Failed.{Failed}
use Rattle.link_queues.specs.Waiting.{filled}
use Rattle.link_queues.specs.Queues.{QueuesState, after_handing, handed_on}
use Rattle.edges.specs.Sockets.{Arrival}
use Rattle.edges.specs.Looks.{Empties, Reaches}
use Rattle.edges.specs.UdpLinks.{EmptiesFirst, HandsNext, HandsNothing}
use Rattle.edges.proofs.LookLemmas.{reaches-next, reaches-refl, reaches-same, reaches-trans}

hands-by : (s mid t : QueuesState) (now : ℕ) (buffer after : List ℕ) (got : Option ℕ) (d : Option (List ℕ)) → handed_on now mid ≡ d → Reaches s mid → got ≡ option_map (λ x. min (length x) (length buffer)) d
    → after ≡ filled d buffer → t ≡ after_handing now mid → HandsNext s t buffer after (Ok got)
hands-by s mid t now buffer after got None is reached counted lies left =
    subst (λ g. HandsNext s t buffer after (Ok g)) (sym counted) (record {
      reached = reaches-trans s mid t reached (subst (λ x. Reaches mid x) (sym left) (reaches-next now mid));
      same = lies;
    })
hands-by s mid t now buffer after got (Some d) is reached counted lies left =
    subst (λ g. HandsNext s t buffer after (Ok g)) (sym counted) (record {
      now = now;
      between = mid;
      reached = reached;
      datagram = d;
      turn = is;
      counted = refl;
      lies = lies;
      left = left;
    })

-- the queues were asked
pub hands-next : (s mid t : QueuesState) (now : ℕ) (buffer after : List ℕ) (got : Option ℕ) → Reaches s mid → got ≡ option_map (λ x. min (length x) (length buffer)) (handed_on now mid)
    → after ≡ filled (handed_on now mid) buffer → t ≡ after_handing now mid → HandsNext s t buffer after (Ok got)
hands-next s mid t now buffer after got reached counted lies left = hands-by s mid t now buffer after got (handed_on now mid) refl reached counted lies left

-- a look failed before that
pub hands-none : (s t : QueuesState) (buffer after : List ℕ) (answer : Result (Option ℕ) Failed) → IsErr answer → HandsNothing s t buffer after → HandsNext s t buffer after answer
hands-none s t buffer after (Ok x) failed h = absurd (true≢false (sym failed))
hands-none s t buffer after (Err e) failed h = h

-- what waited was reached before
pub hands-later : (s mid t : QueuesState) (buffer between after : List ℕ) (answer : Result (Option ℕ) Failed) → Reaches s mid → between ≡ buffer → HandsNext mid t between after answer → HandsNext s t buffer after answer
hands-later s mid t buffer between after (Ok None) reached same h = record { reached = reaches-trans s mid t reached h.reached; same = h.same ∙ same }
hands-later s mid t buffer between after (Err e) reached same h = record { reached = reaches-trans s mid t reached h.reached; same = h.same ∙ same }
hands-later s mid t buffer between after (Ok (Some n)) reached same h = record {
  now = h.now;
  between = h.between;
  reached = reaches-trans s mid h.between reached h.reached;
  datagram = h.datagram;
  turn = h.turn;
  counted = h.counted ∙ ap (λ b. min (length h.datagram) (length b)) same;
  lies = h.lies ∙ ap (filled (Some h.datagram)) same;
  left = h.left;
}

-- nothing was handed on, and what waits then was reached
pub reaches-none : (s t : QueuesState) (buffer after : List ℕ) (answer : Result (Option ℕ) Failed) → answer ≡ Ok None → HandsNext s t buffer after answer → HandsNothing s t buffer after
reaches-none s t buffer after answer is h = subst (λ a. HandsNext s t buffer after a) is h

-- what was handed on at once, where that was in time
pub at-once : (s t : QueuesState) (now : ℕ) (b : Bool) (buffer after : List ℕ) (got : Option ℕ)
    → got ≡ (if b then option_map (λ x. min (length x) (length buffer)) (handed_on now s) else None) → after ≡ (if b then filled (handed_on now s) buffer else buffer)
    → t ≡ (if b then after_handing now s else s) → HandsNext s t buffer after (Ok got)
at-once s t now true buffer after got counted lies left = hands-next s s t now buffer after got (reaches-refl s) counted lies left
at-once s t now false buffer after got counted lies left =
    subst (λ g. HandsNext s t buffer after (Ok g)) (sym counted) (record { reached = reaches-same s t left; same = lies })

-- nothing was handed on, twice
pub nothing-then : (s mid t : QueuesState) (buffer between after : List ℕ) → HandsNothing s mid buffer between → HandsNothing mid t between after → HandsNothing s t buffer after
nothing-then s mid t buffer between after a b = record { reached = reaches-trans s mid t a.reached b.reached; same = b.same ∙ a.same }

-- nothing was handed on at once, nor in the looks behind that
pub so-far : (s first t : QueuesState) (now : ℕ) (b : Bool) (buffer between after : List ℕ) (got : Option ℕ) → got ≡ None
    → got ≡ (if b then option_map (λ x. min (length x) (length buffer)) (handed_on now s) else None) → between ≡ (if b then filled (handed_on now s) buffer else buffer)
    → first ≡ (if b then after_handing now s else s) → Reaches first t → after ≡ between → HandsNothing s t buffer after
so-far s first t now b buffer between after got none counted lies left reached same =
    nothing-then s first t buffer between after (reaches-none s first buffer between (Ok got) (ap Ok none) (at-once s first now b buffer between got counted lies left))
    (record { reached = reached; same = same })

-- ---- over a socket that is modelled

pub empties-next : (room now : ℕ) (coming later : Option (List Arrival)) (s mid t : QueuesState) (buffer after : List ℕ) (got : Option ℕ) → Empties room coming later s mid (Ok tt)
    → got ≡ option_map (λ d. min (length d) (length buffer)) (handed_on now mid) → after ≡ filled (handed_on now mid) buffer → t ≡ after_handing now mid
    → EmptiesFirst room now coming later s t buffer after (Ok got)
empties-next room now None later s mid t buffer after got h counted lies left = h
empties-next room now (Some coming) later s mid t buffer after got h counted lies left =
    record { left = h.later; is = h.left; between = mid; looks = h.is; hands = (counted, lies, left) }

pub empties-none : (room now : ℕ) (coming later : Option (List Arrival)) (s t : QueuesState) (buffer after : List ℕ) (e : Failed) (answer : Result (Option ℕ) Failed) → IsErr answer
    → Empties room coming later s t (Err e) → after ≡ buffer → EmptiesFirst room now coming later s t buffer after answer
empties-none room now coming later s t buffer after e (Ok got) failed h same = absurd (true≢false (sym failed))
empties-none room now None later s t buffer after e (Err f) failed h same = h
empties-none room now (Some coming) later s t buffer after e (Err f) failed h same =
    record { left = h.later; is = h.left; between = t; looks = h.is; hands = (same, refl) }
