-- The parameter sets of LMS (RFC 8554, section 5.1) with SHA-256 and m = 32.
use Rattle.std.specs.Prelude.{ℕ, ◌+◌, ◌*◌, ◌^◌}
use Rattle.lms_ots.specs.declared.kind.OtsKind.{OtsKind}
use Rattle.lms_ots.specs.Ots as ots
use Rattle.lms_tree.specs.declared.kind.TreeKind.{TreeKind}
use Rattle.lms_tree.specs.declared.kind.TreeKind.TheVariants.{H5, H10, H15}

-- the type's number (table 2)
abbrev pub type_number : TreeKind → ℕ
type_number H5 = 5
type_number H10 = 6
type_number H15 = 7

-- h: the height of the tree
abbrev pub height : TreeKind → ℕ
height H5 = 5
height H10 = 10
height H15 = 15

-- 2^h: how many leaves the tree has
abbrev pub leaf_count : TreeKind → ℕ
leaf_count tree = 2 ^ height tree

-- the bytes of a signature (5.4)
abbrev pub signature_length : TreeKind → OtsKind → ℕ
signature_length tree kind = 8 + ots.signature_length kind + 32 * height tree
