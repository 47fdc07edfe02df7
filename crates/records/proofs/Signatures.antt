-- A signature that verifies has a length that can be written.
use Rattle.std.proofs.Common.{◌≡◌, ℕ, ◌<◌, ◌≤◌, true, List, arith, lit<, lit≤}
use Rattle.lms_ots.specs.declared.kind.OtsKind.{OtsKind}
use Rattle.lms_ots.specs.declared.kind.OtsKind.TheVariants.{W1, W2, W4, W8}
use Rattle.lms_tree.specs.declared.kind.TreeKind.{TreeKind}
use Rattle.lms_tree.specs.declared.kind.TreeKind.TheVariants.{H5, H10, H15}
use Rattle.lms_tree.specs.declared.key.PublicKey.{PublicKey}
use Rattle.lms_tree.specs.Kinds.{signature_length}
use Rattle.lms_tree.specs.Lms as lms
use Rattle.lms_tree.proofs.Verdicts.{verifies-length}
use Rattle.hss.specs.Keys.{TwoLevelKey, is_in_profile}
use Rattle.hss.specs.Hss.{HssVerifies}
use Rattle.hss.proofs.Verdicts.{hss-length}
use Rattle.records.specs.declared.keys.Key.{Key}
use Rattle.records.specs.declared.keys.Key.TheVariants as keys
use Rattle.records.specs.Keys.{Verifies}
use Rattle.records.specs.Spelling.{HasLength}

record IsWithin (n : ℕ) : Type 0 where
  pub some : 0 < n
  pub few : n ≤ 9004

lengths : (tree : TreeKind) (kind : OtsKind) → IsWithin (signature_length tree kind)
lengths H5 W1 = record { some = lit< tt; few = lit≤ tt }
lengths H5 W2 = record { some = lit< tt; few = lit≤ tt }
lengths H5 W4 = record { some = lit< tt; few = lit≤ tt }
lengths H5 W8 = record { some = lit< tt; few = lit≤ tt }
lengths H10 W1 = record { some = lit< tt; few = lit≤ tt }
lengths H10 W2 = record { some = lit< tt; few = lit≤ tt }
lengths H10 W4 = record { some = lit< tt; few = lit≤ tt }
lengths H10 W8 = record { some = lit< tt; few = lit≤ tt }
lengths H15 W1 = record { some = lit< tt; few = lit≤ tt }
lengths H15 W2 = record { some = lit< tt; few = lit≤ tt }
lengths H15 W4 = record { some = lit< tt; few = lit≤ tt }
lengths H15 W8 = record { some = lit< tt; few = lit≤ tt }

lms-length : (key : PublicKey) (message signature : List ℕ) → lms.Verifies key message signature → HasLength signature
lms-length key message signature good =
    let long = verifies-length key message signature good in
    let within = lengths key.tree key.ots in
    record { some = rw long within.some; few = rw long within.few }

-- ---- two levels

record IsShort (n : ℕ) : Type 0 where
  pub some : 0 < n
  pub few : n ≤ 2668

short : (tree : TreeKind) (kind : OtsKind) → is_in_profile kind ≡ true → IsShort (signature_length tree kind)
short tree W1 e = absurd cc
short tree W2 e = absurd cc
short H5 W4 e = record { some = lit< tt; few = lit≤ tt }
short H5 W8 e = record { some = lit< tt; few = lit≤ tt }
short H10 W4 e = record { some = lit< tt; few = lit≤ tt }
short H10 W8 e = record { some = lit< tt; few = lit≤ tt }
short H15 W4 e = record { some = lit< tt; few = lit≤ tt }
short H15 W8 e = record { some = lit< tt; few = lit≤ tt }

two_levels-length : (key : TwoLevelKey) (message signature : List ℕ) → HssVerifies key message signature → HasLength signature
two_levels-length key message signature good =
    let long = hss-length key message signature good in
    let top = short key.top.tree key.top.ots good.key_in_profile in
    let bottom = short good.bottom_key.tree good.bottom_key.ots good.in_profile in
    record { some = omega (arith, long); few = omega (arith, long, top.few, bottom.few) }

pub signed-length : (key : Key) (message signature : List ℕ) → Verifies key message signature → HasLength signature
signed-length (keys.Lms key) message signature good = lms-length key message signature good
signed-length (keys.Hss key) message signature good = two_levels-length key message signature good
