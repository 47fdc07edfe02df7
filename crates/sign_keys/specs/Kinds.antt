-- The kinds of a key that signs.
use Rattle.std.specs.Prelude.{◌+◌, ◌&&◌, nat_le, Bool, true, Option, Some, None}
use Rattle.lms_ots.specs.declared.kind.OtsKind.{OtsKind}
use Rattle.lms_tree.specs.declared.kind.TreeKind.{TreeKind}
use Rattle.lms_tree.specs.Kinds.{height}
use Rattle.hss.specs.Keys as pairs
use Rattle.sign_keys.specs.declared.kinds.Kinds.{Kinds}

-- Keys of two levels have one-time signatures of W4 or W8, and the heights of both trees are at most 15 together.
abbrev pub fits : OtsKind → TreeKind → Option TreeKind → Bool
fits ots tree None = true
fits ots tree (Some bottom) = pairs.is_in_profile ots && nat_le (height tree + height bottom) 15

-- There are keys of these kinds.
abbrev pub is_in_profile : Kinds → Bool
is_in_profile k = fits k.ots k.tree k.bottom
