-- The kinds of keys that a world may have, by the numbers that a schedule gives them.
use Rattle.std.proofs.Common.{◌≡◌, ℕ, eqb, Option, Some, None, refl}
use Rattle.std.specs.Prelude.{◌==◌, if◌then◌else◌}
use Rattle.lms_ots.specs.declared.kind.OtsKind.{OtsKind}
use Rattle.lms_ots.specs.declared.kind.OtsKind.TheVariants.{W1, W2, W4, W8}
use Rattle.lms_ots.specs.Ots as ots
use Rattle.lms_tree.specs.declared.kind.TreeKind.{TreeKind}
use Rattle.lms_tree.specs.declared.kind.TreeKind.TheVariants.{H5, H10}
use Rattle.lms_tree.specs.Kinds as trees
use Rattle.lms_tree.proofs.KindTables.{no_kind, picked}

-- the kind of one-time signatures that has the width
abbrev pub ots_of : ℕ → Option OtsKind
ots_of n = if n == 1 then Some W1 else (if n == 2 then Some W2 else (if n == 4 then Some W4 else (if n == 8 then Some W8 else None)))

-- the kind of trees that has the height, among those of a world
abbrev pub tree_of : ℕ → Option TreeKind
tree_of n = if n == 5 then Some H5 else (if n == 10 then Some H10 else None)

-- The kind of a width has the width.
pub ots_of-width : (n : ℕ) (k : OtsKind) → ots_of n ≡ Some k → ots.width k ≡ n
ots_of-width n k =
    picked ots.width n 1 W1 k _ (eqb n 1) refl refl
    (picked ots.width n 2 W2 k _ (eqb n 2) refl refl
    (picked ots.width n 4 W4 k _ (eqb n 4) refl refl
    (picked ots.width n 8 W8 k None (eqb n 8) refl refl (no_kind ots.width n k))))

-- The kind of a height has the height.
pub tree_of-height : (n : ℕ) (k : TreeKind) → tree_of n ≡ Some k → trees.height k ≡ n
tree_of-height n k =
    picked trees.height n 5 H5 k _ (eqb n 5) refl refl
    (picked trees.height n 10 H10 k None (eqb n 10) refl refl (no_kind trees.height n k))
