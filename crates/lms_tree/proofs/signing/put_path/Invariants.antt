use Rattle.std.proofs.Common.{◌≡◌, ◌+◌, ◌*◌, ◌/◌, ◌^◌, ◌++◌, take}
use Rattle.lms_ots.specs.Ots as ots
use Rattle.lms_tree.specs.Kinds.{leaf_count}
use Rattle.lms_tree.specs.Lms.{path_of}
use Rattle.lms_tree.proofs.signing.put_path.Given as goal

abbrev pub invariant-loop-height : goal.invariant-loop-height
invariant-loop-height l =
    (l.node ≡ (leaf_count l.secret.tree + l.fn.q) / 2 ^ l.height)
    × (take (l.place + 32 * l.height) l.out ≡ take l.place l.initial.out ++ ots.joined (path_of l.secret l.fn.q) l.height)
