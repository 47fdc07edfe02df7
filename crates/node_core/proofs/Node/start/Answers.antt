use Rattle.std.proofs.Common.{◌≡◌, List, ◌++◌, false, ap, sym, subst, ◌∙◌}
use Rattle.records.specs.declared.Record.{Record}
use Rattle.journal.specs.declared.event.Event as journal
use Rattle.detector.specs.Silence.{nonce}
use Rattle.node_rules.specs.Starting.{started}
use Rattle.node_core.specs.Told.{IsNoLoss, Tellings}
use Rattle.node_core.specs.Rolls.{recs_of}
use Rattle.node_core.specs.Playing.{Kept, IsNode}
use Rattle.node_core.proofs.BeginLemmas.{other-told, sent-started}
use Rattle.std.specs.Prelude.{All, [], ◌∷◌}
use Rattle.std.proofs.lemmas.List.Elements.{All-take}
use Rattle.records.specs.declared.Body.TheVariants as bodies
use Rattle.node_core.proofs.SpendLemmas.{start-spends, signed-untold}
use Rattle.node_core.proofs.CertificateLemmas.{vouchable}
use Rattle.node_core.proofs.Node.start.Goals as goal

pub returns-clause-starts : goal.returns-clause-starts
returns-clause-starts g c = λ s setting.
    let certificates : List Record = recs_of c.args.kit.certificates.items in
    let may = c.in_ok-ready.ensures.begins s setting in
    let call = started s (nonce c.args.kit.nonce_seed) certificates c.args.signer.state in
    let fine : c.begin-node.result.telling.failed ≡ false = sym (ap (λ (v : Kept). v.telling.failed) c.node.view_is) ∙ sym c.give_back.ensures.failed ∙ c.if-give_back.false in
    let at = (c.begin-node.ensures.plays s (nonce c.args.kit.nonce_seed) certificates c.args.signer.state may).at fine in
    let before = ap (λ (t : Tellings). t.events) c.over.ensures in
    record {
      is = subst (λ (v : Kept). IsNode s (record v { telling = c.give_back.new.self }) call.node) (sym c.node.view_is) (other-told s c.begin-node.result call.node c.give_back.new.self at.is);
      told = c.give_back.ensures.events ∙ ap (λ (v : Kept). v.telling.events) c.node.view_is ∙ at.told ∙ ap (λ (xs : List journal.Event). xs ++ call.told) before;
      sent = sent-started s (nonce c.args.kit.nonce_seed) certificates c.args.signer.state may.sent_none;
    }

pub returns-clause-spends : goal.returns-clause-spends
returns-clause-spends g c =
    let r = c.in_ok-ready.ready in
    let fine : c.begin-node.result.telling.failed ≡ false = sym (ap (λ (v : Kept). v.telling.failed) c.node.view_is) ∙ sym c.give_back.ensures.failed ∙ c.if-give_back.false in
    let before = ap (λ (t : Tellings). t.events) c.over.ensures in
    start-spends c.args.signer r.signer _ _ _ (record { index = r.index; body = bodies.Note r.note } ∷ []) c.over.result.events c.args.events.now c.begin-node.result.telling.events c.give_back.new.events c.begin-node.result.telling.failed
    c.in_ok-ready.ensures.key (ap (λ (v : Kept). v.signer) c.node.view_is ∙ c.begin-node.ensures.signer) before c.begin-node.ensures.spent fine c.begin-node.ensures.front (c.give_back.ensures.events ∙ ap (λ (v : Kept). v.telling.events) c.node.view_is)

pub returns-then-give_back-clause-spends : goal.returns-then-give_back-clause-spends
returns-then-give_back-clause-spends g c =
    let r = c.in_ok-ready.ready in
    signed-untold c.args.signer r.signer _ _ (record { index = r.index; body = bodies.Note r.note }) c.in_ok-ready.ensures.key

pub returns-clause-vouchable : goal.returns-clause-vouchable
returns-clause-vouchable g c = λ s setting. vouchable s c.args.kit c.args.signer setting c.requires.kit c.in_ok-ready.ensures.free

pub returns-clause-seat : goal.returns-clause-seat
returns-clause-seat g c =
    ap (λ (v : Kept). v.signer.seat) c.node.view_is ∙ ap (λ k. k.seat) c.begin-node.ensures.signer ∙ c.in_ok-ready.ensures.seat

pub invariant_of-events : goal.invariant_of-events
invariant_of-events g c = subst (All IsNoLoss) (sym c.truncate.ensures.items) (All-take IsNoLoss c.len-before.result c.events-2.inside.events.items c.events-2.invariant)
