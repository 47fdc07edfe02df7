-- A signature with a key that has an index has as many bytes as a record's may.
use Rattle.std.proofs.Common.{◌≡◌, ◌≤◌, ◌<◌, true, Option, Some, None, arith}
use Rattle.std.proofs.lemmas.Bool.{false≢true}
use Rattle.lms_ots.specs.declared.kind.OtsKind.{OtsKind}
use Rattle.lms_ots.specs.declared.kind.OtsKind.TheVariants.{W1, W2, W4, W8}
use Rattle.lms_ots.specs.Ots as ots
use Rattle.lms_tree.specs.declared.kind.TreeKind.{TreeKind}
use Rattle.lms_tree.specs.declared.kind.TreeKind.TheVariants.{H5, H10, H15}
use Rattle.lms_tree.specs.Kinds.{height}
use Rattle.hss.specs.Keys.{is_in_profile}
use Rattle.records.specs.declared.keys.Key.{Key}
use Rattle.records.specs.declared.keys.Key.TheVariants as keys
use Rattle.records.specs.Keys.{IsKey}
use Rattle.audit_rules.specs.Heads.{indexes_of, length_of}
use Rattle.audit_node.specs.Playing.{IsLength}

low : (tree : TreeKind) → height tree ≤ 15
low H5 = omega arith
low H10 = omega arith
low H15 = omega arith

short : (kind : OtsKind) → ots.signature_length kind ≤ 8516
short W1 = omega arith
short W2 = omega arith
short W4 = omega arith
short W8 = omega arith

profile-short : (kind : OtsKind) → is_in_profile kind ≡ true → ots.signature_length kind ≤ 2180
profile-short W1 is = absurd (false≢true is)
profile-short W2 is = absurd (false≢true is)
profile-short W4 is = omega arith
profile-short W8 is = omega arith

pub key-length : (key : Key) (bottom : Option TreeKind) → IsKey key → 0 < indexes_of key bottom → IsLength (length_of key bottom)
key-length (keys.Lms key) bottom is has = record { some = omega arith; few = omega (arith, low key.tree, short key.ots) }
key-length (keys.Hss key) None is has = absurd (omega (arith, has))
key-length (keys.Hss key) (Some tree) is has = record { some = omega arith; few = omega (arith, low key.top.tree, low tree, profile-short key.top.ots is.in_profile) }
