-- The state after one more event.
use Rattle.std.proofs.Common.{◌≡◌, ℕ, zero, suc, ◌+◌, ◌<◌, List, [], ◌∷◌, Some, length, refl, ap, arith}
use Rattle.std.specs.List.{slice_get}
use Rattle.ff_ids.specs.declared.Group.{Group}
use Rattle.ff_ids.specs.Views.{State}
use Rattle.ff_ids.specs.Steps.{Event, Report, step}
use Rattle.ff_ids.specs.Lives.{reports, state_at}

pub state_at-next : (g : Group) (s : State) (events : List Event) (j : ℕ) (e : Event) → slice_get events j ≡ Some e → state_at g s events (j + 1) ≡ (step g (state_at g s events j) e).state
state_at-next g s [] j e h = cc
state_at-next g s (x ∷ events) zero e h = let same : x ≡ e = cc in ap (λ v. (step g s v).state) same
state_at-next g s (x ∷ events) (suc j) e h =
    let more : suc j + 1 ≡ suc (j + 1) = omega arith in
    rw more (state_at-next g (step g s x).state events j e h)

pub reports-at : (g : Group) (s : State) (events : List Event) (j : ℕ) (r : Report) → slice_get (reports g s events) j ≡ Some r → (e : Event) × ((slice_get events j ≡ Some e) × ((step g (state_at g s events j) e).report ≡ r))
reports-at g s [] j r h = cc
reports-at g s (x ∷ events) zero r h = (x, (refl, cc))
reports-at g s (x ∷ events) (suc j) r h = reports-at g (step g s x).state events j r h

pub event_at : (events : List Event) (j : ℕ) → j < length events → (e : Event) × (slice_get events j ≡ Some e)
event_at [] j l = absurd (omega arith)
event_at (x ∷ events) zero l = (x, refl)
event_at (x ∷ events) (suc j) l = event_at events j (omega arith)
