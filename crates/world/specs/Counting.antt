-- How the counts that are kept stand for those of the definitions.
use Rattle.std.specs.Prelude.{◌≡◌, ℕ, Bool, false, min}
use Rattle.journal.specs.declared.event.What.{What}
use Rattle.journal.specs.declared.event.What.TheVariants as happened
use Rattle.world_rules.specs.Settings.{Setting, is_node}
use Rattle.world_rules.specs.Counts.{Counts as Counted}
use Rattle.world.specs.declared.counts.Counts.{Counts}

-- What is kept of a count: it stands still at its type's end.
abbrev pub kept : ℕ → ℕ
kept n = min n 18446744073709551615

-- The counts are kept, each up to the top of its type.
pub record AreKept (k : Counts) (c : Counted) : Type 0 where
  pub sent : k.sent ≡ kept c.sent
  pub notes : k.notes ≡ kept c.notes
  pub accusations : k.accusations ≡ kept c.accusations
  pub refused : k.refused ≡ kept c.refused
  pub removed : k.removed ≡ kept c.removed
  pub removed_correct : k.removed_correct ≡ kept c.removed_correct
  pub spent : k.spent ≡ kept c.spent

-- It reports the removal of a node.
abbrev pub removes_node : Setting → What → Bool
removes_node s (happened.Removed m) = is_node s m
removes_node s other = false
