use Rattle.std.proofs.Common.{ap}
use Rattle.node_rules.specs.Ticking.{ticked}
use Rattle.audit_node.specs.Owing.{told_by}
use Rattle.audit_node.specs.Told.{Tellings}
use Rattle.audit_node.specs.Playing.{Kept}
use Rattle.audit_node.specs.contracts.Mirror.{the_view}
use Rattle.node_rules.specs.OtherNonces.{ticked_sending}
use Rattle.audit_node.proofs.DeliverLemmas.{begins-at, gives-if}
use Rattle.audit_node.proofs.LearningLemmas.{gives-ticked}
use Rattle.audit_node.proofs.Mirror.tick.Goals as goal

pub returns : goal.returns
returns c =
    let v : Kept = the_view c.self.inside in
    let over = c.over.ensures in
    gives-if c.args.self.now v c.over.result c.pass.new.self c.finish.new.self c.args.owed.now.items c.finish.new.owed.items c.finish.result (λ s n. ticked s n) c.self.view_is
    over c.pass.ensures.grows c.finish.ensures.events c.finish.ensures.going c.finish.ensures.frame
    (λ s n is fine.
    let passed = (c.pass.ensures.passes s (told_by s c.over.result.events) n (begins-at s v n c.over.result is (ap (λ (t : Tellings). t.sent) over))).at fine in
    record {
      so_far = ticked_sending s n passed.sent;
      at = passed.at;
      gives = λ o. gives-ticked s n c.finish.new.self c.args.owed.now.items c.finish.new.owed.items passed.sent passed.to o;
    })
