-- A link in memory.
use Rattle.std.specs.Prelude.{ℕ, Bool}
use Rattle.ports.specs.Link.{LinkState}

-- what it holds as a link, whether a bind of it fails, and how many calls failed
pub record MemoryLinkState : Type 0 where
  pub link : LinkState
  pub bind_fails : Bool
  pub failures : ℕ
