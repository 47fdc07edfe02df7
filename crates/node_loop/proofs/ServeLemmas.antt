-- How acts are served, some behind others.
use Rattle.std.proofs.Common.{◌≡◌, ◌⊎◌, inl, inr, List, [], ◌∷◌, ◌++◌, Result, Ok, Err, refl, sym, ap, ◌∙◌, subst, append_assoc, append-nil}
use Rattle.node_rules.specs.Nodes.{Setting}
use Rattle.node_rules.specs.OnDisks.{IsCut}
use Rattle.node_rules.specs.Lives.{call_of}
use Rattle.node_loop.specs.declared.fault.ServeFault.{ServeFault}
use Rattle.node_loop.specs.declared.fault.ServeFault.TheVariants as faults
use Rattle.turn_rules.specs.Turns.{Act, Calls}
use Rattle.node_loop.specs.Courses.{ServeState, gives, served, tells_all}
use Rattle.node_loop.specs.Writing.{Before, IsBeyond, IsWithin, Standing, Stands}
use Rattle.node_loop.specs.Serving.{IsStopped, IsWhole, BreaksOff, IsStarved, KeepsHeld, Serves, starves}
use Rattle.node_loop.proofs.CourseLemmas.{Grows, grows-refl, grows-served, served-append, served-nil}
use Rattle.node_loop.proofs.TellLemmas.{within-grows}

-- acts before and behind
split-within : (first acts last done later : List Act) (act : Act) → acts ≡ done ++ act ∷ later
    → first ++ (acts ++ last) ≡ (first ++ done) ++ act ∷ (later ++ last)
split-within first acts last done later act e =
    ap (λ xs. first ++ (xs ++ last)) e ∙ ap (λ xs. first ++ xs) (append_assoc done (act ∷ later) last) ∙ sym (append_assoc first done (act ∷ (later ++ last)))

stopped-within : (s : Setting) (first acts last : List Act) (start whole : ServeState) → IsStopped s acts (served s first start) whole → IsStopped s (first ++ (acts ++ last)) start whole
stopped-within s first acts last start whole h = record {
  done = first ++ h.done;
  input = h.input;
  later = h.later ++ last;
  call = h.call;
  split = split-within first acts last h.done h.later (Calls h.input) h.split;
  cut = subst (λ (r : ServeState). IsCut s r.node h.input h.call) (sym (served-append s first h.done start)) h.cut;
  is = h.is ∙ ap (gives h.call) (sym (served-append s first h.done start));
}

-- a course is within a longer one
record Lengthened (s : Setting) (acts : List Act) (start whole : ServeState) : Type 0 where
  longer : ServeState
  is : IsWhole s acts start longer
  grows : Grows whole longer

whole-within : (s : Setting) (first acts last : List Act) (start whole : ServeState) → IsWhole s acts (served s first start) whole → Lengthened s (first ++ (acts ++ last)) start whole
whole-within s first acts last start whole (inl e) = record {
  longer = served s (first ++ (acts ++ last)) start;
  is = inl refl;
  grows = subst (λ r. Grows whole r) (sym (served-append s first (acts ++ last) start ∙ served-append s acts last (served s first start)))
      (subst (λ r. Grows r (served s last (served s acts (served s first start)))) (sym e) (grows-served s last (served s acts (served s first start))));
}
whole-within s first acts last start whole (inr h) = record {
  longer = whole;
  is = inr (stopped-within s first acts last start whole h);
  grows = grows-refl whole;
}

breaks-within : (s : Setting) (before : Before) (first acts last : List Act) (start : ServeState) (w : Standing)
    → BreaksOff s before acts (served s first start) w → BreaksOff s before (first ++ (acts ++ last)) start w
breaks-within s before first acts last start w h =
    let l = whole-within s first acts last start h.whole h.is in
    record { whole = l.longer; is = l.is; within = within-grows before w h.whole l.longer h.within l.grows }

starved-within : (s : Setting) (before : Before) (first acts last : List Act) (start : ServeState) (w : Standing)
    → IsStarved s before acts (served s first start) w → IsStarved s before (first ++ (acts ++ last)) start w
starved-within s before first acts last start w h = record {
  done = first ++ h.done;
  input = h.input;
  later = h.later ++ last;
  split = split-within first acts last h.done h.later (Calls h.input) h.split;
  over = h.over;
  beyond = subst (λ r. IsBeyond before w r) (sym (served-append s first h.done start)) h.beyond;
  there = h.there;
  knows = h.knows;
  holds = subst (λ (r : ServeState). KeepsHeld r w) (sym (served-append s first h.done start)) h.holds;
  spent = h.spent;
  within = subst (λ (r : ServeState). IsWithin before w (tells_all (call_of s r.node h.input).told (starves h.there h.spent r))) (sym (served-append s first h.done start)) h.within;
}

either-within : (s : Setting) (before : Before) (first acts last : List Act) (start : ServeState) (w : Standing)
    → BreaksOff s before acts (served s first start) w ⊎ IsStarved s before acts (served s first start) w
    → BreaksOff s before (first ++ (acts ++ last)) start w ⊎ IsStarved s before (first ++ (acts ++ last)) start w
either-within s before first acts last start w (inl h) = inl (breaks-within s before first acts last start w h)
either-within s before first acts last start w (inr h) = inr (starved-within s before first acts last start w h)

-- what ended among some acts ended among all
pub serves-within : (s : Setting) (before : Before) (first acts last : List Act) (start : ServeState) (w : Standing) (e : ServeFault)
    → Serves s before acts (served s first start) w (Err e) → Serves s before (first ++ (acts ++ last)) start w (Err e)
serves-within s before first acts last start w faults.StoreFault h = record {
  whole = h.whole;
  stopped = stopped-within s first acts last start h.whole h.stopped;
  at = h.at;
}
serves-within s before first acts last start w faults.WriteFault h = either-within s before first acts last start w h
serves-within s before first acts last start w faults.OutOfMemory h = either-within s before first acts last start w h

-- and so did what ended among the first of them
pub serves-first : (s : Setting) (before : Before) (acts last : List Act) (start : ServeState) (w : Standing) (e : ServeFault)
    → Serves s before acts start w (Err e) → Serves s before (acts ++ last) start w (Err e)
serves-first s before acts last start w e h = serves-within s before [] acts last start w e (subst (λ r. Serves s before acts r w (Err e)) (sym (served-nil s start)) h)

-- the last of the acts
pub serves-last : (s : Setting) (before : Before) (first acts : List Act) (start : ServeState) (w : Standing) (answer : Result (Unit {0}) ServeFault)
    → Serves s before acts (served s first start) w answer → Serves s before (first ++ acts) start w answer
serves-last s before first acts start w (Ok x) h = subst (λ r. Stands s before w r) (sym (served-append s first acts start)) h
serves-last s before first acts start w (Err e) h =
    let P : List Act → Type 0 = λ xs. Serves s before (first ++ xs) start w (Err e) in
    subst P (append-nil acts) (serves-within s before first acts [] start w e h)

-- a front of what the acts write and give
pub breaks-off : (s : Setting) (before : Before) (acts : List Act) (start r : ServeState) (w : Standing) → IsWithin before w r → Grows r (served s acts start)
    → BreaksOff s before acts start w
breaks-off s before acts start r w h g = record {
  whole = served s acts start;
  is = inl refl;
  within = within-grows before w r (served s acts start) h g;
}
