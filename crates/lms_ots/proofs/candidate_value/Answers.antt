use Rattle.std.proofs.Common.{◌≡◌, ◌+◌, ◌*◌, ◌++◌, ◌∙◌, ap, arith}
use Rattle.sha2.specs.Sha256.{sha256}
use Rattle.lms_ots.specs.Ots.{candidate_end, candidate_from, candidate_value, chain_count, d_pblc, ends_hash, hash_prefix, joined, message_hash, randomizer_in, value_in, with_checksum}
use Rattle.lms_ots.proofs.Chains.{candidate_end-laid_out, joined-more, joined-none, value_in-range}
use Rattle.lms_ots.proofs.candidate_value.Goals as goal

pub loop-index-init : goal.loop-index-init
loop-index-init c =
    rw (joined-none (hash_prefix c.args.id.now c.args.q d_pblc) _) c.hasher_of-hasher.ensures

pub loop-index-preserved : goal.loop-index-preserved
unfolding value_in randomizer_in
loop-index-preserved c =
    let signature = c.args.signature.now in
    let hash = message_hash c.args.id.now c.args.q (randomizer_in signature) c.args.message.now in
    let digits : c.with_checksum-digits.result ≡ with_checksum c.args.kind hash =
    c.with_checksum-digits.ensures ∙ ap (with_checksum c.args.kind) c.message_hash.ensures
    in
    let end : c.candidate_end.result ≡ candidate_end c.args.kind c.args.id.now c.args.q hash (value_in signature) c.loop-index.index =
    c.candidate_end.ensures
    ∙ candidate_end-laid_out c.args.kind c.args.id.now c.args.q hash c.with_checksum-digits.result _ (value_in signature) c.loop-index.index digits
    (value_in-range signature c.loop-index.index _ (ap (λ n. 36 + 32 * n) c.from.ensures))
    in
    rw (joined-more (hash_prefix c.args.id.now c.args.q d_pblc) (candidate_end c.args.kind c.args.id.now c.args.q hash (value_in signature)) c.loop-index.index c.candidate_end.result end)
    (c.update.ensures _ c.loop-index.invariant)

pub returns : goal.returns
unfolding candidate_value candidate_from ends_hash
returns c =
    let all : c.loop-index.index ≡ chain_count c.args.kind = omega arith in
    let hash = message_hash c.args.id.now c.args.q (randomizer_in c.args.signature.now) c.args.message.now in
    c.finalize.ensures _ c.loop-index.invariant
    ∙ ap (λ n. sha256 (hash_prefix c.args.id.now c.args.q d_pblc
    ++ joined (candidate_end c.args.kind c.args.id.now c.args.q hash (value_in c.args.signature.now)) n)) all
