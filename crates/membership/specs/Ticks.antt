-- Ticks, one after another.
use Rattle.std.specs.Prelude.{ℕ, zero, suc}
use Rattle.ff_ids.specs.Views.{State}
use Rattle.ff_ids.specs.Steps.{after_tick}

-- The state after so many ticks.
abbrev pub after_ticks : ℕ → ℕ → State → State
after_ticks timeout zero s = s
after_ticks timeout (suc n) s = (after_tick timeout (after_ticks timeout n s)).state
