-- Public keys of two levels.
use Rattle.std.specs.Prelude.{Bool, true, false}
use Rattle.lms_ots.specs.declared.kind.OtsKind.{OtsKind}
use Rattle.lms_ots.specs.declared.kind.OtsKind.TheVariants.{W1, W2, W4, W8}
use Rattle.lms_tree.specs.declared.key.PublicKey.{PublicKey}

-- W4 or W8
abbrev pub is_in_profile : OtsKind → Bool
is_in_profile W1 = false
is_in_profile W2 = false
is_in_profile W4 = true
is_in_profile W8 = true

-- the public half of a two-level key: that of its top tree
pub record TwoLevelKey : Type 0 where
  pub top : PublicKey
