use Rattle.std.proofs.Common.{◌≡◌, ◌∙◌, ap, length, arith}
use Rattle.std.proofs.lemmas.Grind.{common_steps}
use Rattle.lms_tree.specs.Lms.{key_bytes, key_in}
use Rattle.lms_tree.proofs.Keys.{key_in-key_bytes}
use Rattle.lms_tree.proofs.key.PublicKey.write.Goals as goal

pub returns-clause-read_back : goal.returns-clause-read_back
unfolding key_bytes
returns-clause-read_back c =
    let key = c.args.self.now in
    let bytes : c.put-4.new.out ≡ key_bytes key = grind (arith, common_steps) in
    let id : length key.id ≡ 16 = omega arith in
    let root : length key.root ≡ 32 = omega arith in
    ap key_in bytes ∙ key_in-key_bytes key id root
