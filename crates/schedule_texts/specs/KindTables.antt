-- The kinds of a key by the width and the height that a text gives them.
use Rattle.std.proofs.Common.{◌≡◌, ℕ, true, eqb, Option, Some, None, refl, subst}
use Rattle.std.specs.Prelude.{◌==◌, if◌then◌else◌, is_some}
use Rattle.lms_ots.specs.declared.kind.OtsKind.{OtsKind}
use Rattle.lms_ots.specs.declared.kind.OtsKind.TheVariants.{W1, W2, W4, W8}
use Rattle.lms_ots.specs.Ots as ots
use Rattle.lms_tree.specs.declared.kind.TreeKind.{TreeKind}
use Rattle.lms_tree.specs.declared.kind.TreeKind.TheVariants.{H5, H10, H15}
use Rattle.lms_tree.specs.Kinds.{height}
use Rattle.lms_tree.proofs.KindTables.{no_kind, picked}
use Rattle.line_text.specs.Fields.{is_within}

abbrev pub ots_of_width : ℕ → Option OtsKind
ots_of_width n =
    if n == 1 then Some W1 else (if n == 2 then Some W2 else (if n == 4 then Some W4 else (if n == 8 then Some W8 else None)))

abbrev pub tree_of_height : ℕ → Option TreeKind
tree_of_height n = if n == 5 then Some H5 else (if n == 10 then Some H10 else (if n == 15 then Some H15 else None))

pub tree_high : (n : ℕ) (t : TreeKind) → tree_of_height n ≡ Some t → height t ≡ n
tree_high n t =
    picked height n 5 H5 t _ (eqb n 5) refl refl
    (picked height n 10 H10 t _ (eqb n 10) refl refl
    (picked height n 15 H15 t None (eqb n 15) refl refl (no_kind height n t)))

pub ots_wide : (n : ℕ) (t : OtsKind) → ots_of_width n ≡ Some t → ots.width t ≡ n
ots_wide n t =
    picked ots.width n 1 W1 t _ (eqb n 1) refl refl
    (picked ots.width n 2 W2 t _ (eqb n 2) refl refl
    (picked ots.width n 4 W4 t _ (eqb n 4) refl refl
    (picked ots.width n 8 W8 t None (eqb n 8) refl refl (no_kind ots.width n t))))

width_ranged : (t : OtsKind) → is_within 1 8 (ots.width t) ≡ true
width_ranged W1 = refl
width_ranged W2 = refl
width_ranged W4 = refl
width_ranged W8 = refl

height_ranged : (t : TreeKind) → is_within 5 15 (height t) ≡ true
height_ranged H5 = refl
height_ranged H10 = refl
height_ranged H15 = refl

some_width : (n : ℕ) (o : Option OtsKind) → ots_of_width n ≡ o → is_some o ≡ true → is_within 1 8 n ≡ true
some_width n (Some t) is some = subst (λ k. is_within 1 8 k ≡ true) (ots_wide n t is) (width_ranged t)
some_width n None is some = cc

-- a width is 1 to 8
pub width_within : (n : ℕ) → is_some (ots_of_width n) ≡ true → is_within 1 8 n ≡ true
width_within n some = some_width n (ots_of_width n) refl some

some_height : (n : ℕ) (o : Option TreeKind) → tree_of_height n ≡ o → is_some o ≡ true → is_within 5 15 n ≡ true
some_height n (Some t) is some = subst (λ k. is_within 5 15 k ≡ true) (tree_high n t is) (height_ranged t)
some_height n None is some = cc

-- a height is 5 to 15
pub height_within : (n : ℕ) → is_some (tree_of_height n) ≡ true → is_within 5 15 n ≡ true
height_within n some = some_height n (tree_of_height n) refl some
