use Rattle.std.proofs.Common.{◌++◌, refl}
use Rattle.std.proofs.lemmas.Result.{on_err_weaker}
use Rattle.gossip.specs.Differ.{certificates_lacking, notes_lacking, accusations_lacking, differ}
use Rattle.gossip.proofs.Fronts.{anyway, front_behind, front_before}
use Rattle.gossip.proofs.lacking.push_lacking.Goals as goal

pub returns-clause-front : goal.returns-clause-front
returns-clause-front c =
    let mine = c.args.mine.now in
    let theirs = c.args.theirs.now in
    on_err_weaker c.push_accusations.result
    (λ f. front_behind c.args.out.now.items c.push_certificates.new.out.items _ (certificates_lacking mine theirs) (notes_lacking mine theirs ++ accusations_lacking mine theirs) (differ mine theirs) c.in_ok-push_certificates.ensures.ok refl
    (front_behind c.push_certificates.new.out.items c.push_notes.new.out.items _ (notes_lacking mine theirs) (accusations_lacking mine theirs) (notes_lacking mine theirs ++ accusations_lacking mine theirs) c.in_ok-push_notes.ensures.ok refl f))
    c.push_accusations.ensures.front

pub returns-in_err-push_certificates-clause-front : goal.returns-in_err-push_certificates-clause-front
returns-in_err-push_certificates-clause-front c =
    let mine = c.args.mine.now in
    let theirs = c.args.theirs.now in
    anyway c.from_residual.result (front_before _ _ (certificates_lacking mine theirs) (notes_lacking mine theirs ++ accusations_lacking mine theirs) (differ mine theirs) refl c.in_err-push_certificates.ensures.front)

pub returns-in_err-push_notes-clause-front : goal.returns-in_err-push_notes-clause-front
returns-in_err-push_notes-clause-front c =
    let mine = c.args.mine.now in
    let theirs = c.args.theirs.now in
    anyway c.from_residual-in_err-push_notes.result
    (front_behind c.args.out.now.items c.push_certificates.new.out.items _ (certificates_lacking mine theirs) (notes_lacking mine theirs ++ accusations_lacking mine theirs) (differ mine theirs) c.in_ok-push_certificates.ensures.ok refl
    (front_before _ _ (notes_lacking mine theirs) (accusations_lacking mine theirs) (notes_lacking mine theirs ++ accusations_lacking mine theirs) refl c.in_err-push_notes.ensures.front))
