-- How nodes that lost each other come together again, where their group has this option.
use Rattle.std.specs.Prelude.{◌≡◌, ℕ, ◌≤◌}

-- Of so many rounds of gossip one goes to a member out of the view. And within one timeout a node signs at most so many
-- notes, as answers and to come back; any number of them where that is 0.
pub record Heal : Type 0 where
  pub every : ℕ
  pub most : ℕ

pub record IsWithinRanges (h : Heal) : Type 0 where
  pub some : 2 ≤ h.every
  pub few : h.every ≤ 1000
  pub bounded : h.most ≤ 1000
