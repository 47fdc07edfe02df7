use Rattle.std.proofs.Common.{ap}
use Rattle.node_rules.specs.Calls.{begun}
use Rattle.node_rules.specs.Leaving.{left}
use Rattle.audit_node.specs.Owing.{told_by}
use Rattle.audit_node.specs.Told.{Tellings}
use Rattle.audit_node.specs.Playing.{Kept}
use Rattle.audit_node.specs.contracts.Mirror.{the_view}
use Rattle.audit_node.proofs.DeliverLemmas.{begins-at, gives-if, left-is}
use Rattle.audit_node.proofs.LearningLemmas.{gives-unasked}
use Rattle.audit_node.proofs.UnpingedLemmas.{left-drawn, unpinged-left}
use Rattle.audit_node.proofs.Mirror.leave.Goals as goal

pub returns : goal.returns
returns c =
    let v : Kept = the_view c.self.inside in
    let over = c.over.ensures in
    gives-if c.args.self.now v c.over.result c.want_note.new.self c.finish.new.self c.args.owed.now.items c.finish.new.owed.items c.finish.result (λ s n. left s n) c.self.view_is
    over c.want_note.ensures.grows c.finish.ensures.events c.finish.ensures.going c.finish.ensures.frame
    (λ s n is fine.
    let plays = left-is s (told_by s c.over.result.events) c.want_note.new.self n (c.want_note.ensures.plays s (told_by s c.over.result.events) (begun n) (begins-at s v n c.over.result is (ap (λ (t : Tellings). t.sent) over))) in
    record {
      so_far = left s n;
      at = plays.at fine;
      gives = gives-unasked s n c.finish.new.self c.args.owed.now.items c.finish.new.owed.items (left s n) (left-drawn s n) (unpinged-left s n);
    })
