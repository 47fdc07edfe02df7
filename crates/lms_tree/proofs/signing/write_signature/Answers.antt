use Rattle.std.proofs.Common.{ap, ◌∙◌, arith}
use Rattle.std.specs.Int.{w32, to_be_bytes}
use Rattle.lms_tree.proofs.Signatures.{signature-written}
use Rattle.lms_tree.proofs.signing.write_signature.Goals as goal

pub returns : goal.returns
returns c =
    signature-written c.args.secret.now c.args.q c.args.message.now _ _ _ _ _ _ _ _
    c.signature_length-path_at.ensures c.randomizer-c.ensures c.to_be_bytes.ensures
    (c.to_be_bytes-2.ensures ∙ ap (to_be_bytes w32) c.type_number.ensures) c.sign_into.ensures (omega arith) (omega arith)
    c.put.ensures c.put-2.ensures c.put_path.ensures
