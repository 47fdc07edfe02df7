use Rattle.signer.proofs.PlayLemmas.{signs_none, signs_on}
use Rattle.signer.proofs.key_lives.sign_note.Goals as goal

pub returns-in-Ok : goal.returns-in-Ok
returns-in-Ok c = λ under before spent stands.
    signs_on c.args.holder.now under before spent c.in-Some.signer c.sign_note.new.self _ c.in-Ok.record _ _ c.in-Ok.ensures (rw c.in-Some.is at stands)

pub returns-in-Err : goal.returns-in-Err
returns-in-Err c = λ under before spent stands.
    signs_none c.args.holder.now under before spent c.in-Some.signer c.sign_note.new.self _ c.in-Err.field-0 _ _ c.in-Err.ensures (rw c.in-Some.is at stands)
