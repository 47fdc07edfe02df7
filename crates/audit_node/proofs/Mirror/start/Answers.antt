use Rattle.std.proofs.Common.{◌≡◌, false, List, ap, sym, subst, ◌∙◌}
use Rattle.records.specs.declared.Record.{Record}
use Rattle.node_rules.specs.Starting.{blank, started}
use Rattle.audit_node.specs.declared.owing.OwedEvent.{OwedEvent}
use Rattle.audit_node.specs.Owing.{told_by}
use Rattle.audit_node.specs.Playing.{Kept, IsAt}
use Rattle.audit_node.specs.Rolls.{recs_of}
use Rattle.audit_node.specs.Told.{Tellings, IsPrefix}
use Rattle.audit_node.proofs.DeliverLemmas.{owes-from}
use Rattle.audit_node.proofs.LearningLemmas.{gives-unasked}
use Rattle.audit_node.proofs.UnpingedLemmas.{started-drawn, unpinged-started}
use Rattle.audit_node.proofs.Mirror.start.Goals as goal

pub returns : goal.returns
returns c = λ s nonces setting.
    let certificates : List Record = recs_of c.args.kit.certificates.items in
    let may = c.in_ok-ready.ensures.begins s nonces setting in
    let call = started s nonces certificates c.args.kit.stored in
    let v : Kept = c.begin-mirror.result in
    let fine : v.telling.failed ≡ false = sym (ap (λ (v : Kept). v.telling.failed) c.mirror.view_is) ∙ sym c.give_back.ensures.failed ∙ c.if-give_back.false in
    let at = (c.begin-mirror.ensures.plays s nonces certificates c.args.kit.stored may).at fine in
    let before = ap (λ (t : Tellings). t.events) c.over.ensures in
    gives-unasked s (blank s nonces c.args.kit.stored) _ c.args.owed.now.items c.give_back.new.owed.items call (started-drawn s nonces certificates c.args.kit.stored) (unpinged-started s nonces certificates c.args.kit.stored)
    (owes-from s v _ c.args.owed.now.items c.give_back.new.owed.items call
    (subst (λ (xs : List OwedEvent). IsAt s (told_by s xs) v call) before at)
    (subst (λ (xs : List OwedEvent). IsPrefix xs v.telling.events) before c.begin-mirror.ensures.front)
    (c.give_back.ensures.events ∙ ap (λ (v : Kept). v.telling.events) c.mirror.view_is)
    (ap (λ (x : Kept). record x { telling = c.give_back.new.self }) c.mirror.view_is))
