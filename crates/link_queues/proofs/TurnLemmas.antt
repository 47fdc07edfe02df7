-- One step of the search for the queue that is due.
use Rattle.std.proofs.Common.{◌≡◌, ◌<◌, ℕ, suc, ◌+◌, ◌-◌, ◌%◌, true, false, if◌then◌else◌, [], ◌∷◌, ◌++◌, Some, replicate, sym, ap, ◌∙◌, arith}
use Rattle.std.proofs.lemmas.List.{replicate-append-replicate}
use Rattle.link_queues.specs.Queues.{QueuesState, due_from, is_due}

-- the place that is looked at in this step
abbrev pub place_at : QueuesState → ℕ → ℕ → ℕ
place_at s count step = (s.last + 1 + step) % count

pub due-step : (now : ℕ) (s : QueuesState) (count step : ℕ) → step < count
    → due_from now s count (count - step) ≡ (if is_due now s (place_at s count step) then Some (place_at s count step) else due_from now s count (count - (step + 1)))
due-step now s count step h =
    let left : ℕ = count - (step + 1) in
    let more : count - step ≡ suc left = omega (arith, h) in
    let there : s.last + (count - left) ≡ s.last + 1 + step = omega (arith, h) in
    ap (due_from now s count) more
    ∙ ap (λ k. if is_due now s (k % count) then Some (k % count) else due_from now s count left) there

pub due-found : (now : ℕ) (s : QueuesState) (count step : ℕ) → step < count → is_due now s (place_at s count step) ≡ true
    → due_from now s count (count - step) ≡ Some (place_at s count step)
due-found now s count step h is =
    due-step now s count step h ∙ ap (λ b. if b then Some (place_at s count step) else due_from now s count (count - (step + 1))) is

pub due-later : (now : ℕ) (s : QueuesState) (count step : ℕ) → step < count → is_due now s (place_at s count step) ≡ false
    → due_from now s count (count - step) ≡ due_from now s count (count - (step + 1))
due-later now s count step h is =
    due-step now s count step h ∙ ap (λ b. if b then Some (place_at s count step) else due_from now s count (count - (step + 1))) is

pub replicate-one : {X : Type 0} (n : ℕ) (x : X) → replicate (n + 1) x ≡ replicate n x ++ x ∷ []
replicate-one n x = sym (replicate-append-replicate n 1 x)
