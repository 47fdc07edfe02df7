-- A member on a ring as a search sees it.
use Rattle.std.specs.Prelude.{ℕ}

-- The hint of its place, and its number.
pub record Ranked : Type 0 where
  pub hint : ℕ
  pub number : ℕ
