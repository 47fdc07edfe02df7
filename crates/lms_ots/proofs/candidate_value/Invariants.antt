use Rattle.std.proofs.Common.{◌++◌}
use Rattle.sha2.specs.Hashers.{Holds256}
use Rattle.lms_ots.specs.Ots.{candidate_end, d_pblc, hash_prefix, joined, message_hash, randomizer_in, value_in}
use Rattle.lms_ots.proofs.candidate_value.Given as goal

abbrev pub invariant-loop-index : goal.invariant-loop-index
invariant-loop-index l =
    Holds256 l.hasher (hash_prefix l.id l.q d_pblc
    ++ joined (candidate_end l.kind l.id l.q (message_hash l.id l.q (randomizer_in l.signature) l.message) (value_in l.signature)) l.index)
