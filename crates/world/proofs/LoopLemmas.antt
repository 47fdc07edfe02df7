-- Turns of the loops that play a line.
use Rattle.std.proofs.Common.{◌≡◌, ℕ, suc, true, false, List, ◌∷◌, Option, Some, refl, ap, sym, ◌∙◌, subst}
use Rattle.std.specs.Prelude.{Result, Ok, Err, is_err}
use Rattle.std.proofs.lemmas.Bool.{false≢true}
use Rattle.std.specs.List.{slice_get}
use Rattle.node_rules.specs.Lives.{Ticks}
use Rattle.world_rules.specs.Settings.{Setting}
use Rattle.world_rules.specs.Forgeries.{Forgery}
use Rattle.world_rules.specs.Worlds.{is_running}
use Rattle.world_rules.specs.Steps.{Execution, NodeEvent, and_then, calls, flows, flows_next, flows_one, ticks}
use Rattle.world.specs.declared.fault.WorldFault.{WorldFault}
use Rattle.world.specs.Holding.{Kept}
use Rattle.world.specs.Courses.{At, FlowsOne, Goes, hands_each, hands_if}
use Rattle.world.proofs.CourseLemmas.{goes-not}

-- Some of it is done, and this is left.
pub record Sofar (s : Setting) (before : List NodeEvent) (base : List ℕ) (v : Kept) (out : List ℕ) (whole : Result Execution Forgery) (rest : Execution → Result Execution Forgery) : Type 0 where
  pub course : Execution
  pub same : whole ≡ rest course
  pub at : At s before base v out course

pub sofar-begins : (s : Setting) (before : List NodeEvent) (base : List ℕ) (v : Kept) (out : List ℕ) (c : Execution) (rest : Execution → Result Execution Forgery) → At s before base v out c → Sofar s before base v out (rest c) rest
sofar-begins s before base v out c rest h = record { course = c; same = refl; at = h }

-- nothing is left
pub sofar-ends : (s : Setting) (before : List NodeEvent) (base : List ℕ) (v : Kept) (out : List ℕ) (whole : Result Execution Forgery) (rest : Execution → Result Execution Forgery) → ((c : Execution) → rest c ≡ Ok c) → Sofar s before base v out whole rest
    → Goes s before base v out whole (Ok tt)
sofar-ends s before base v out whole rest none h = (h.course, h.same ∙ none h.course, h.at)

-- ---- flows

flows-turn : (s : Setting) (n k : ℕ) (c : Execution) (next : ℕ × List ℕ) → n ≡ suc k → slice_get c.world.sent c.world.flowed ≡ Some next → flows s n c ≡ and_then (flows_one s next c) (flows s k)
flows-turn s n k c next more is = ap (λ (z : ℕ). flows s z c) more ∙ ap (λ (d : Option (ℕ × List ℕ)). flows_next s d (flows s k) c) is

pub flow-more : (s : Setting) (before : List NodeEvent) (base : List ℕ) (v later : Kept) (out written : List ℕ) (whole : Result Execution Forgery) (n k : ℕ) → n ≡ suc k → (h : Sofar s before base v out whole (flows s n))
    → FlowsOne s before base later written h.course (slice_get h.course.world.sent h.course.world.flowed) (Ok true) → Sofar s before base later written whole (flows s k)
flow-more s before base v later out written whole n k more h f =
    record {
      course = f.2.0;
      same = h.same ∙ flows-turn s n k h.course f.0 more f.1 ∙ ap (λ (z : Result Execution Forgery). and_then z (flows s k)) f.2.1;
      at = f.2.2;
    }

pub flow-none : (s : Setting) (before : List NodeEvent) (base : List ℕ) (v later : Kept) (out written : List ℕ) (whole : Result Execution Forgery) (n k : ℕ) → n ≡ suc k → (h : Sofar s before base v out whole (flows s n))
    → FlowsOne s before base later written h.course (slice_get h.course.world.sent h.course.world.flowed) (Ok false) → Goes s before base later written whole (Ok tt)
flow-none s before base v later out written whole n k more h f =
    (h.course, h.same ∙ ap (λ (z : ℕ). flows s z h.course) more ∙ ap (λ (d : Option (ℕ × List ℕ)). flows_next s d (flows s k) h.course) f.0, f.1)

pub flow-fault : (s : Setting) (before : List NodeEvent) (base : List ℕ) (v later : Kept) (out written : List ℕ) (whole : Result Execution Forgery) (n k : ℕ) (fault : WorldFault) → n ≡ suc k → (h : Sofar s before base v out whole (flows s n))
    → FlowsOne s before base later written h.course (slice_get h.course.world.sent h.course.world.flowed) (Err fault) → Goes s before base later written whole (Err fault)
flow-fault s before base v later out written whole n k fault more h f =
    subst (λ (z : Result Execution Forgery). Goes s before base later written z (Err fault)) (sym (h.same ∙ flows-turn s n k h.course f.0 more f.1))
    (goes-not s before base later written (flows_one s f.0 h.course) (flows s k) fault f.2)

-- ---- ticks

abbrev pub ticks_left : Setting → ℕ → ℕ → Execution → Result Execution Forgery
ticks_left s m n c = Ok (ticks s m n c)

pub tick-more : (s : Setting) (before : List NodeEvent) (base : List ℕ) (v later : Kept) (out written : List ℕ) (whole : Result Execution Forgery) (m n k : ℕ) → n ≡ suc k → (h : Sofar s before base v out whole (ticks_left s m n))
    → Goes s before base later written (Ok (calls s m Ticks h.course)) (Ok tt) → Sofar s before base later written whole (ticks_left s m k)
tick-more s before base v later out written whole m n k more h g =
    record {
      course = g.0;
      same = h.same ∙ ap (λ (z : ℕ). ticks_left s m z h.course) more ∙ ap (λ (z : Result Execution Forgery). and_then z (ticks_left s m k)) g.1;
      at = g.2;
    }

pub tick-fault : (s : Setting) (before : List NodeEvent) (base : List ℕ) (v later : Kept) (out written : List ℕ) (whole : Result Execution Forgery) (m n k : ℕ) (fault : WorldFault) → n ≡ suc k → (h : Sofar s before base v out whole (ticks_left s m n))
    → Goes s before base later written (Ok (calls s m Ticks h.course)) (Err fault) → Goes s before base later written whole (Err fault)
tick-fault s before base v later out written whole m n k fault more h g =
    subst (λ (z : Result Execution Forgery). Goes s before base later written z (Err fault)) (sym (h.same ∙ ap (λ (z : ℕ). ticks_left s m z h.course) more))
    (goes-not s before base later written (Ok (calls s m Ticks h.course)) (ticks_left s m k) fault g)

-- ---- each node in turn

pub each-more : (s : Setting) (before : List NodeEvent) (base : List ℕ) (v later : Kept) (out written : List ℕ) (whole : Result Execution Forgery) (ms rest bytes : List ℕ) (m : ℕ) → ms ≡ m ∷ rest → (h : Sofar s before base v out whole (hands_each s ms bytes))
    → Goes s before base later written (hands_if s m (is_running h.course.world m) bytes h.course) (Ok tt) → Sofar s before base later written whole (hands_each s rest bytes)
each-more s before base v later out written whole ms rest bytes m more h g =
    record {
      course = g.0;
      same = h.same ∙ ap (λ (z : List ℕ). hands_each s z bytes h.course) more ∙ ap (λ (z : Result Execution Forgery). and_then z (hands_each s rest bytes)) g.1;
      at = g.2;
    }

pub each-fault : (s : Setting) (before : List NodeEvent) (base : List ℕ) (v later : Kept) (out written : List ℕ) (whole : Result Execution Forgery) (ms rest bytes : List ℕ) (m : ℕ) (fault : WorldFault) → ms ≡ m ∷ rest → (h : Sofar s before base v out whole (hands_each s ms bytes))
    → Goes s before base later written (hands_if s m (is_running h.course.world m) bytes h.course) (Err fault) → Goes s before base later written whole (Err fault)
each-fault s before base v later out written whole ms rest bytes m fault more h g =
    subst (λ (z : Result Execution Forgery). Goes s before base later written z (Err fault)) (sym (h.same ∙ ap (λ (z : List ℕ). hands_each s z bytes h.course) more))
    (goes-not s before base later written (hands_if s m (is_running h.course.world m) bytes h.course) (hands_each s rest bytes) fault g)

-- ---- by whether a turn answered a fault

pub goes-fine : (s : Setting) (before : List NodeEvent) (base : List ℕ) (v : Kept) (out : List ℕ) (r : Result Execution Forgery) (result : Result (Unit {0}) WorldFault) → is_err result ≡ false → Goes s before base v out r result → Goes s before base v out r (Ok tt)
goes-fine s before base v out r (Ok done) fine h = h
goes-fine s before base v out r (Err fault) fine h = absurd (false≢true (sym fine))

pub each-faults : (s : Setting) (before : List NodeEvent) (base : List ℕ) (v later : Kept) (out written : List ℕ) (whole : Result Execution Forgery) (ms rest bytes : List ℕ) (m : ℕ) (result : Result (Unit {0}) WorldFault) → is_err result ≡ true → ms ≡ m ∷ rest
    → (h : Sofar s before base v out whole (hands_each s ms bytes)) → Goes s before base later written (hands_if s m (is_running h.course.world m) bytes h.course) result → Goes s before base later written whole result
each-faults s before base v later out written whole ms rest bytes m (Ok done) err more h g = absurd (false≢true err)
each-faults s before base v later out written whole ms rest bytes m (Err fault) err more h g = each-fault s before base v later out written whole ms rest bytes m fault more h g

pub tick-faults : (s : Setting) (before : List NodeEvent) (base : List ℕ) (v later : Kept) (out written : List ℕ) (whole : Result Execution Forgery) (m n k : ℕ) (result : Result (Unit {0}) WorldFault) → is_err result ≡ true → n ≡ suc k → (h : Sofar s before base v out whole (ticks_left s m n))
    → Goes s before base later written (Ok (calls s m Ticks h.course)) result → Goes s before base later written whole result
tick-faults s before base v later out written whole m n k (Ok done) err more h g = absurd (false≢true err)
tick-faults s before base v later out written whole m n k (Err fault) err more h g = tick-fault s before base v later out written whole m n k fault more h g
