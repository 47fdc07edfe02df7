use Rattle.std.proofs.Common.{◌≡◌, true, false, cond, subst, sym, ◌∙◌}
use Rattle.datagram.specs.declared.Datagram.TheVariants as kinds
use Rattle.journal.specs.declared.event.What.TheVariants as told
use Rattle.node_rules.specs.Calls.{tells, sends}
use Rattle.node_rules.specs.Deliveries.{is_other, pinged}
use Rattle.node_core.specs.Playing.{Plays}
use Rattle.node_core.proofs.PlayLemmas.{grows-trans}
use Rattle.node_core.proofs.ExtendLemmas.{extends-pinged}
use Rattle.node_core.proofs.DueLemmas.{from-fine}
use Rattle.node_core.proofs.Node.hear_ping.Goals as goal

pub returns-then-answers-clause-plays : goal.returns-then-answers-clause-plays
returns-then-answers-clause-plays c = λ s es os call p.
    let grows = grows-trans c.args.self.now c.tell.new.self c.send_pong.new.self c.tell.ensures.grows c.send_pong.ensures.grows in
    from-fine s es os c.args.self.now c.send_pong.new.self call (pinged s c.args.from c.args.nonce call) p grows (extends-pinged s c.args.from c.args.nonce call) (λ h.
    let other : is_other s call.node c.args.from ≡ true = sym (c.is_other-answers.ensures s call.node h.is) ∙ c.if-answers.true in
    let after = tells s (told.Ping c.args.from c.args.nonce) call in
    subst (λ b. Plays s es os c.send_pong.new.self (cond b (sends s (kinds.Pong s.me c.args.nonce) after c.args.from) after)) (sym other)
    (c.send_pong.ensures.plays s es os after (c.tell.ensures.plays s es os call p)))

pub returns-else-answers-clause-plays : goal.returns-else-answers-clause-plays
returns-else-answers-clause-plays c = λ s es os call p.
    from-fine s es os c.args.self.now c.tell.new.self call (pinged s c.args.from c.args.nonce call) p c.tell.ensures.grows (extends-pinged s c.args.from c.args.nonce call) (λ h.
    let other : is_other s call.node c.args.from ≡ false = sym (c.is_other-answers.ensures s call.node h.is) ∙ c.if-answers.false in
    let after = tells s (told.Ping c.args.from c.args.nonce) call in
    subst (λ b. Plays s es os c.tell.new.self (cond b (sends s (kinds.Pong s.me c.args.nonce) after c.args.from) after)) (sym other)
    (c.tell.ensures.plays s es os call p))
