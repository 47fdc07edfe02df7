use Rattle.std.proofs.Common.{◌≡◌, true, false, cond, subst, sym, ◌∙◌}
use Rattle.datagram.specs.declared.Datagram.TheVariants as kinds
use Rattle.journal.specs.declared.event.What.TheVariants as told
use Rattle.node_rules.specs.Calls.{tells, sends}
use Rattle.node_rules.specs.Deliveries.{is_other, pinged}
use Rattle.audit_node.specs.Playing.{Plays}
use Rattle.audit_node.proofs.PlayLemmas.{grows-trans}
use Rattle.audit_node.proofs.PlayLemmas.{from-fine}
use Rattle.audit_node.proofs.Mirror.hear_ping.Goals as goal

pub returns-then-answers-clause-plays : goal.returns-then-answers-clause-plays
returns-then-answers-clause-plays c = λ s es call p.
    let grows = grows-trans c.args.self.now c.tell.new.self c.send_pong.new.self c.tell.ensures.grows c.send_pong.ensures.grows in
    from-fine s es c.args.self.now c.send_pong.new.self call (pinged s c.args.from c.args.nonce call) p grows (λ h.
    let other : is_other s call.node c.args.from ≡ true = sym (c.is_other-answers.ensures s call.node h.is) ∙ c.if-answers.true in
    let after = tells s (told.Ping c.args.from c.args.nonce) call in
    subst (λ b. Plays s es c.send_pong.new.self (cond b (sends s (kinds.Pong s.me c.args.nonce) after c.args.from) after)) (sym other)
    (c.send_pong.ensures.plays s es after (c.tell.ensures.plays s es call p)))

pub returns-else-answers-clause-plays : goal.returns-else-answers-clause-plays
returns-else-answers-clause-plays c = λ s es call p.
    from-fine s es c.args.self.now c.tell.new.self call (pinged s c.args.from c.args.nonce call) p c.tell.ensures.grows (λ h.
    let other : is_other s call.node c.args.from ≡ false = sym (c.is_other-answers.ensures s call.node h.is) ∙ c.if-answers.false in
    let after = tells s (told.Ping c.args.from c.args.nonce) call in
    subst (λ b. Plays s es c.tell.new.self (cond b (sends s (kinds.Pong s.me c.args.nonce) after c.args.from) after)) (sym other)
    (c.tell.ensures.plays s es call p))
