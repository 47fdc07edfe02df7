use Rattle.std.proofs.Common.{◌++◌}
use Rattle.sha2.specs.Hashers.{Holds256}
use Rattle.lms_ots.specs.Ots.{d_pblc, hash_prefix, joined, public_end}
use Rattle.lms_ots.proofs.public_hash.Given as goal

abbrev pub invariant-loop-index : goal.invariant-loop-index
invariant-loop-index l =
    Holds256 l.hasher (hash_prefix l.id l.q d_pblc ++ joined (public_end l.kind l.id l.q l.seed) l.index)
