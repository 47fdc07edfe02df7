use Rattle.std.proofs.Common.{◌≡◌, ◌++◌, ◌∙◌, ap, arith}
use Rattle.sha2.specs.Sha256.{sha256}
use Rattle.lms_ots.specs.Ots.{chain_count, d_pblc, ends_hash, hash_prefix, joined, public_end, public_value}
use Rattle.lms_ots.proofs.Chains.{joined-more, joined-none}
use Rattle.lms_ots.proofs.public_hash.Goals as goal

pub loop-index-init : goal.loop-index-init
loop-index-init c =
    rw (joined-none (hash_prefix c.args.id.now c.args.q d_pblc) (public_end c.args.kind c.args.id.now c.args.q c.args.seed.now))
    c.hasher_of-hasher.ensures

pub loop-index-preserved : goal.loop-index-preserved
loop-index-preserved c =
    let ends = public_end c.args.kind c.args.id.now c.args.q c.args.seed.now in
    rw (joined-more (hash_prefix c.args.id.now c.args.q d_pblc) ends c.loop-index.index c.public_end.result c.public_end.ensures)
    (c.update.ensures _ c.loop-index.invariant)

pub returns : goal.returns
unfolding public_value ends_hash
returns c =
    let ends = public_end c.args.kind c.args.id.now c.args.q c.args.seed.now in
    let all : c.loop-index.index ≡ chain_count c.args.kind = omega arith in
    c.finalize.ensures _ c.loop-index.invariant
    ∙ ap (λ n. sha256 (hash_prefix c.args.id.now c.args.q d_pblc ++ joined ends n)) all
