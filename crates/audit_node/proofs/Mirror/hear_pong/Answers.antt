use Rattle.std.proofs.Common.{subst, sym, ap, ◌∙◌}
use Rattle.detector.specs.Silence.{ponged}
use Rattle.journal.specs.declared.event.What.TheVariants as told
use Rattle.node_rules.specs.Calls.{tells}
use Rattle.audit_node.specs.Playing.{Kept, IsMirror, Plays, Grows}
use Rattle.audit_node.specs.contracts.Mirror.{the_view}
use Rattle.node_rules.specs.Deliveries.{ponged_by}
use Rattle.audit_node.proofs.PlayLemmas.{from-fine}
use Rattle.audit_node.proofs.HearLemmas.{grows-probed, probed-at, with_probes, ponged-is}
use Rattle.audit_node.proofs.Mirror.hear_pong.Goals as goal

pub returns-clause-plays : goal.returns-clause-plays
returns-clause-plays c = λ s es call p.
    let v : Kept = the_view c.self.inside in
    from-fine s es c.args.self.now c.tell.new.self call (ponged_by s c.args.from c.args.nonce call) p (subst (λ (w : Kept). Grows w c.tell.new.self) c.self.view_is (grows-probed v c.tell.new.self c.pong-counted.new.self c.tell.ensures.grows)) (λ at0.
    let p0 = subst (λ v. Plays s es v call) (sym c.self.view_is) p in
    let is = subst (λ v. IsMirror s v call.node) (sym c.self.view_is) at0.is in
    let h = call.node.probes in
    let at = probed-at s es v call c.pong-counted.new.self (ponged h c.args.from c.args.nonce) p0 (λ n. c.pong-counted.ensures.stands h n.probes) in
    let told_it = c.tell.ensures.plays s es (with_probes (ponged h c.args.from c.args.nonce) call) at in
    let same = c.pong-counted.ensures.value h is.probes in
    subst (Plays s es c.tell.new.self) (ap (λ b. tells s (told.Pong c.args.from c.args.nonce b) (with_probes (ponged h c.args.from c.args.nonce) call)) same ∙ sym (ponged-is s c.args.from c.args.nonce call)) told_it)
