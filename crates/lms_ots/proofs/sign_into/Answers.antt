use Rattle.std.proofs.Common.{◌≡◌, ◌+◌, ◌*◌, ◌++◌, length, sym, ◌∙◌, ap, arith}
use Rattle.std.specs.Int.{w32, to_be_bytes}
use Rattle.lms_ots.specs.Ots.{chain_count, joined, message_hash, signature_of, signature_value, type_number, with_checksum}
use Rattle.lms_ots.proofs.Buffers.{head_written, value_written}
use Rattle.lms_ots.proofs.Chains.{signature_value-laid_out, joined-more, joined-none, signature_length-is, take_whole}
use Rattle.lms_ots.proofs.sign_into.Goals as goal

pub loop-index-init : goal.loop-index-init
loop-index-init c =
    let kind : c.to_be_bytes.result ≡ to_be_bytes w32 (type_number c.args.kind) =
    c.to_be_bytes.ensures ∙ ap (to_be_bytes w32) c.type_number.ensures
    in
    let head = head_written c.to_be_bytes.result c.args.c.now c.put.new.out c.put-2.new.out (ap length c.to_be_bytes.ensures) (omega arith) c.put.ensures c.put-2.ensures in
    rw (joined-none (to_be_bytes w32 (type_number c.args.kind) ++ c.args.c.now) _)
    (head ∙ ap (λ t. t ++ c.args.c.now) kind)

pub loop-index-preserved : goal.loop-index-preserved
loop-index-preserved c =
    let hash = message_hash c.args.id.now c.args.q c.args.c.now c.args.message.now in
    let digits : c.with_checksum-digits.result ≡ with_checksum c.args.kind hash =
    c.with_checksum-digits.ensures ∙ ap (with_checksum c.args.kind) c.message_hash.ensures
    in
    let value = c.signature_value-value.ensures
    ∙ signature_value-laid_out c.args.kind c.args.id.now c.args.q c.args.seed.now hash c.with_checksum-digits.result c.loop-index.index digits
    in
    rw (joined-more (to_be_bytes w32 (type_number c.args.kind) ++ c.args.c.now) (signature_value c.args.kind c.args.id.now c.args.q c.args.seed.now hash)
    c.loop-index.index c.signature_value-value.result value)
    (value_written _ c.signature_value-value.result c.loop-index.out c.put-in-loop-index.new.out c.loop-index.index c.from.result
    c.from.ensures (omega arith) c.loop-index.invariant c.put-in-loop-index.ensures)

pub returns : goal.returns
unfolding signature_of
returns c =
    let all : c.loop-index.index ≡ chain_count c.args.kind = omega arith in
    let whole : length c.loop-index.out ≡ 36 + 32 * c.loop-index.index = omega (arith, signature_length-is c.args.kind) in
    let hash = message_hash c.args.id.now c.args.q c.args.c.now c.args.message.now in
    sym (take_whole c.loop-index.out (36 + 32 * c.loop-index.index) whole)
    ∙ c.loop-index.invariant
    ∙ ap (λ n. to_be_bytes w32 (type_number c.args.kind) ++ c.args.c.now
    ++ joined (signature_value c.args.kind c.args.id.now c.args.q c.args.seed.now hash) n) all
