use Rattle.std.proofs.Common.{◌∙◌, take, drop}
use Rattle.gossip.specs.Differ.{notes_lacking}
use Rattle.gossip.proofs.Fronts.{anyway, front_of, picked}
use Rattle.gossip.proofs.lacking.push_notes.Goals as goal

pub returns-in_err-push-clause-front : goal.returns-in_err-push-clause-front
returns-in_err-push-clause-front c =
    let i = c.loop-here.here-index in
    let mine = c.args.mine.now in
    let theirs = c.args.theirs.now in
    anyway _ (front_of c.args.out.now.items c.push.new.self.items (notes_lacking (take i mine) theirs) (notes_lacking (drop i mine) theirs) (notes_lacking mine theirs) (c.in_err-push.ensures.items ∙ c.loop-here.invariant) (picked _ _ i mine))
