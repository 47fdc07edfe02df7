-- How many indexes keys have: at most those of the tallest tree.
use Rattle.std.proofs.Common.{◌≡◌, ◌+◌, ◌^◌, ◌≤◌, true, nat_le, List, ℕ, Option, Some, None, arith}
use Rattle.std.proofs.lemmas.Bool.{and_parts, leb-true}
use Rattle.lms_ots.specs.declared.kind.OtsKind.{OtsKind}
use Rattle.lms_tree.specs.declared.kind.TreeKind.{TreeKind}
use Rattle.lms_tree.specs.declared.kind.TreeKind.TheVariants.{H5, H10, H15}
use Rattle.lms_tree.specs.Kinds.{height, leaf_count}
use Rattle.hss.specs.Keys as pairs
use Rattle.sign_keys.specs.declared.kinds.Kinds.{Kinds}
use Rattle.sign_keys.specs.Kinds.{fits, is_in_profile}
use Rattle.sign_keys.specs.Keys.{index_count, key_of, key_of_kinds}

pub leaf_count_small : (tree : TreeKind) → leaf_count tree ≤ 32768
leaf_count_small H5 = omega arith
leaf_count_small H10 = omega arith
leaf_count_small H15 = omega arith

pub pair_small : (top bottom : TreeKind) → height top + height bottom ≤ 15 → 2 ^ (height top + height bottom) ≤ 32768
pair_small H5 H5 low = omega arith
pair_small H5 H10 low = omega arith
pair_small H5 H15 low = omega (arith, low)
pair_small H10 H5 low = omega arith
pair_small H10 H10 low = omega (arith, low)
pair_small H10 H15 low = omega (arith, low)
pair_small H15 H5 low = omega (arith, low)
pair_small H15 H10 low = omega (arith, low)
pair_small H15 H15 low = omega (arith, low)

-- of two levels: the one-time signatures are of W4 or W8, and the heights at most 15 together
pub pair_fits : (ots : OtsKind) (top bottom : TreeKind) → fits ots top (Some bottom) ≡ true → (pairs.is_in_profile ots ≡ true) × (height top + height bottom ≤ 15)
pair_fits ots top bottom fit =
    let parts = and_parts (pairs.is_in_profile ots) (nat_le (height top + height bottom) 15) fit in
    (parts.0, leb-true (height top + height bottom) 15 parts.1)

count-small : (ots : OtsKind) (tree : TreeKind) (bottom : Option TreeKind) (id seed : List ℕ) → fits ots tree bottom ≡ true → index_count (key_of ots tree bottom id seed) ≤ 32768
count-small ots tree None id seed fit = leaf_count_small tree
count-small ots tree (Some bottom) id seed fit = pair_small tree bottom (pair_fits ots tree bottom fit).1

-- a key of kinds within the profile
pub count_small : (kinds : Kinds) (id seed : List ℕ) → is_in_profile kinds ≡ true → index_count (key_of_kinds kinds id seed) ≤ 32768
count_small kinds id seed fit = count-small kinds.ots kinds.tree kinds.bottom id seed fit
