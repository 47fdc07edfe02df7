use Rattle.std.proofs.Common.{ap}
use Rattle.node_rules.specs.Calls.{begun}
use Rattle.node_rules.specs.Deliveries.{delivered}
use Rattle.audit_node.specs.Owing.{told_by}
use Rattle.audit_node.specs.Told.{Tellings}
use Rattle.audit_node.specs.Playing.{Kept}
use Rattle.audit_node.specs.contracts.Mirror.{the_view}
use Rattle.audit_node.proofs.DeliverLemmas.{begins-at, delivered-is, gives-if}
use Rattle.audit_node.proofs.LearningLemmas.{gives-unasked}
use Rattle.audit_node.proofs.UnpingedLemmas.{delivered-drawn, unpinged-delivered}
use Rattle.audit_node.proofs.Mirror.deliver.Goals as goal

pub returns : goal.returns
returns c =
    let v : Kept = the_view c.self.inside in
    let over = c.over.ensures in
    gives-if c.args.self.now v c.over.result c.hear_read.new.self c.finish.new.self c.args.owed.now.items c.finish.new.owed.items c.finish.result (λ s n. delivered s n c.args.bytes.now) c.self.view_is
    over c.hear_read.ensures.grows c.finish.ensures.events c.finish.ensures.going c.finish.ensures.frame
    (λ s n is fine.
    let plays = delivered-is s (told_by s c.over.result.events) c.hear_read.new.self n c.args.bytes.now (c.hear_read.ensures.plays c.args.bytes.now c.read-heard.ensures.exact s (told_by s c.over.result.events) (begun n) (begins-at s v n c.over.result is (ap (λ (t : Tellings). t.sent) over))) in
    record {
      so_far = delivered s n c.args.bytes.now;
      at = plays.at fine;
      gives = gives-unasked s n c.finish.new.self c.args.owed.now.items c.finish.new.owed.items (delivered s n c.args.bytes.now) (delivered-drawn s n c.args.bytes.now) (unpinged-delivered s n c.args.bytes.now);
    })
