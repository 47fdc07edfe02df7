use Rattle.std.proofs.Common.{◌++◌, ap, ◌∙◌, subst, Option}
use Rattle.ff_ids.specs.declared.summary.SummaryEntry.{SummaryEntry}
use Rattle.gossip.specs.Differ.{rings_lacking, IsFront}
use Rattle.gossip.proofs.Fronts.{anyway, accused_more, accused_front}
use Rattle.gossip.proofs.lacking.push_accusations.Goals as goal

pub loop-here-preserved : goal.loop-here-preserved
loop-here-preserved c =
    let here = c.here-item.result in
    accused_more c.args.out.now.items c.loop-here.out.items c.push_rings.new.out.items c.args.mine.now c.args.theirs.now c.loop-here.here-index here c.loop-here-test.true c.here-item.is c.loop-here.invariant
    (c.in_ok-push_rings.ensures.ok ∙ ap (λ (o : Option SummaryEntry). c.loop-here.out.items ++ rings_lacking o here) c.entry_of.ensures)

pub returns-in_err-push_rings-clause-front : goal.returns-in_err-push_rings-clause-front
returns-in_err-push_rings-clause-front c =
    let here = c.here-item.result in
    let P : Option SummaryEntry → Type 0 = λ o. IsFront c.loop-here.out.items c.push_rings.new.out.items (rings_lacking o here) in
    anyway _ (accused_front c.args.out.now.items c.loop-here.out.items c.push_rings.new.out.items c.args.mine.now c.args.theirs.now c.loop-here.here-index here c.loop-here-test.true c.here-item.is c.loop-here.invariant (subst P c.entry_of.ensures c.in_err-push_rings.ensures.front))
