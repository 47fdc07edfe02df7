use Rattle.std.proofs.Common.{◌≡◌, ◌+◌, ◌*◌, ◌++◌, take}
use Rattle.std.specs.Int.{w32, to_be_bytes}
use Rattle.lms_ots.specs.Ots.{joined, message_hash, signature_value, type_number}
use Rattle.lms_ots.proofs.sign_into.Given as goal

abbrev pub invariant-loop-index : goal.invariant-loop-index
invariant-loop-index l =
    take (36 + 32 * l.index) l.out
    ≡ to_be_bytes w32 (type_number l.kind) ++ l.c
    ++ joined (signature_value l.kind l.id l.q l.seed (message_hash l.id l.q l.c l.message)) l.index
