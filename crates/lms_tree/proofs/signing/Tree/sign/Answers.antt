use Rattle.lms_tree.proofs.Signatures.{signature-verifies}
use Rattle.lms_tree.proofs.signing.Tree.sign.Goals as goal

pub returns-clause-verifies : goal.returns-clause-verifies
returns-clause-verifies c =
    let within = rw c.requires.key at c.spend-q.ensures.bound in
    rw (c.write_signature.ensures, c.self.view_is) (signature-verifies c.args.self.now c.spend-q.result c.args.message.now within)
