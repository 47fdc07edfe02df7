-- Parts of a line, one after another: what each adds to what was reported, and how they go together.
use Rattle.std.proofs.Common.{◌≡◌, ℕ, List, [], ◌∷◌, ◌++◌, Option, None, refl, ap, sym, ◌∙◌, subst, append_assoc, length, take, drop, take-append-drop}
use Rattle.std.specs.Prelude.{Result, Ok, Err}
use Rattle.node_core.specs.Told.{IsPrefix}
use Rattle.signer.proofs.OnwardLemmas.{front-trans}
use Rattle.node_rules.specs.Lives.{Delivers}
use Rattle.world_rules.specs.Settings.{Setting}
use Rattle.world_rules.specs.Forgeries.{Forgery, forgery}
use Rattle.world_rules.specs.Steps.{Execution, NodeEvent, and_then, answered, calls, hands, quiet, unless_forged}
use Rattle.world.specs.declared.fault.WorldFault.{WorldFault}
use Rattle.world.specs.declared.fault.WorldFault.TheVariants as faults
use Rattle.world.specs.Telling.{told_lines}
use Rattle.world.specs.Holding.{Kept}
use Rattle.world.specs.Courses.{At, Goes, Replies, Tests}

-- ---- fronts

nil-right : {A : Type 0} (xs : List A) → xs ++ [] ≡ xs
nil-right [] = refl
nil-right (x ∷ xs) = ap (λ ys. x ∷ ys) (nil-right xs)

pub front-refl : {X : Type 0} (xs : List X) → IsPrefix xs xs
front-refl xs = record { more = []; is = sym (nil-right xs) }

pub front-more : {X : Type 0} (xs ys : List X) → IsPrefix xs (xs ++ ys)
front-more xs ys = record { more = ys; is = refl }

-- what begins with a text has it in front
pub front-began : (xs ys : List ℕ) → take (length xs) ys ≡ xs → IsPrefix xs ys
front-began xs ys began = record { more = drop (length xs) ys; is = sym (take-append-drop (length xs) ys) ∙ ap (λ (z : List ℕ). z ++ drop (length xs) ys) began }

abbrev pub the_ok : Execution → Result Execution Forgery
the_ok c = Ok c

abbrev pub OkIs : Execution → Execution → Type 0
OkIs c d = the_ok c ≡ Ok d

-- ---- one part after another

pub goes-then : (s : Setting) (before : List NodeEvent) (base : List ℕ) (v w : Kept) (out later : List ℕ) (r : Result Execution Forgery) (f : Execution → Result Execution Forgery) (result : Result (Unit {0}) WorldFault) → Goes s before base v out r (Ok tt)
    → ((c : Execution) → At s before base v out c → Goes s before base w later (f c) result) → Goes s before base w later (and_then r f) result
goes-then s before base v w out later r f result h next =
    subst (λ (x : Result Execution Forgery). Goes s before base w later (and_then x f) result) (sym h.1) (next h.0 h.2)

-- a fault of the first part is the fault of both
pub goes-not : (s : Setting) (before : List NodeEvent) (base : List ℕ) (v : Kept) (out : List ℕ) (r : Result Execution Forgery) (f : Execution → Result Execution Forgery) (fault : WorldFault) → Goes s before base v out r (Err fault)
    → Goes s before base v out (and_then r f) (Err fault)
goes-not s before base v out r f (faults.Forged who body) h = (ap (λ (x : Result Execution Forgery). and_then x f) h.0, h.1)
goes-not s before base v out r f faults.OutOfMemory h = h

-- what is written begins with what was there before the line
pub front-at : (s : Setting) (before : List NodeEvent) (base : List ℕ) (v : Kept) (out : List ℕ) (c : Execution) → At s before base v out c → IsPrefix base out
front-at s before base v out c h = subst (IsPrefix base) (sym h.written) (front-more base (told_lines c.told))

pub front-on : (s : Setting) (before : List NodeEvent) (base : List ℕ) (v : Kept) (out later : List ℕ) (c : Execution) → At s before base v out c → IsPrefix out later → IsPrefix base later
front-on s before base v out later c h more = front-trans base out later (front-at s before base v out c h) more

-- ---- courses as answers

-- a line that only ends, and then goes on as a course
pub answers-course : (s : Setting) (before : List NodeEvent) (v : Kept) (old out : List ℕ) (r : Result Execution Forgery) (result : Result (Unit {0}) WorldFault) → Goes s before (old ++ 10 ∷ []) v out r result → Replies s before v old out (answered r) result
answers-course s before v old out r (Ok done) h =
    (quiet h.0, ap answered h.1, record { holds = h.2.holds; written = h.2.written ∙ append_assoc old (10 ∷ []) (told_lines h.0.told) })
answers-course s before v old out r (Err (faults.Forged who body)) h =
    (ap answered h.0, front-trans old (old ++ 10 ∷ []) out (front-more old (10 ∷ [])) h.1)
answers-course s before v old out r (Err faults.OutOfMemory) h =
    front-trans old (old ++ 10 ∷ []) out (front-more old (10 ∷ [])) h

-- ---- datagrams

-- nothing in it is forged
pub goes-hands : (s : Setting) (before : List NodeEvent) (base : List ℕ) (v : Kept) (out : List ℕ) (c : Execution) (m : ℕ) (bytes : List ℕ) (result : Result (Unit {0}) WorldFault) → forgery s c.world bytes ≡ None
    → Goes s before base v out (Ok (calls s m (Delivers bytes) c)) result → Goes s before base v out (hands s m bytes c) result
unfolding hands
goes-hands s before base v out c m bytes result none h =
    subst (λ (x : Option Forgery). Goes s before base v out (unless_forged x (calls s m (Delivers bytes) c)) result) (sym none) h

-- something in it is forged, or memory was refused in the test
pub not-hands : (s : Setting) (before : List NodeEvent) (base : List ℕ) (v w : Kept) (out : List ℕ) (c : Execution) (m : ℕ) (bytes : List ℕ) (fault : WorldFault) → At s before base v out c
    → Tests s c.world (before ++ c.told) w (forgery s c.world bytes) (Err fault) → Goes s before base w out (hands s m bytes c) (Err fault)
unfolding hands
not-hands s before base v w out c m bytes (faults.Forged who body) h t =
    (ap (λ (x : Option Forgery). unless_forged x (calls s m (Delivers bytes) c)) t, front-at s before base v out c h)
not-hands s before base v w out c m bytes faults.OutOfMemory h t = front-at s before base v out c h
