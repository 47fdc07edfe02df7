use Rattle.std.proofs.Common.{◌≡◌, true, false, cond, subst, sym, ◌∙◌}
use Rattle.ff_ids.specs.declared.summary.Summary.{Summary}
use Rattle.journal.specs.declared.event.What.TheVariants as told
use Rattle.node_rules.specs.Pages.{lacking}
use Rattle.node_rules.specs.Calls.{tells}
use Rattle.node_rules.specs.Deliveries.{is_other, gives, replies, exchanges}
use Rattle.audit_node.specs.Playing.{Plays}
use Rattle.audit_node.proofs.PlayLemmas.{grows-trans}
use Rattle.audit_node.proofs.PlayLemmas.{from-fine}
use Rattle.audit_node.proofs.Mirror.hear_summary.Goals as goal

pub returns-then-answers-clause-plays : goal.returns-then-answers-clause-plays
returns-then-answers-clause-plays c = λ s es call p.
    let theirs : Summary = c.args.theirs.now in
    let grows = grows-trans c.args.self.now c.tell.new.self c.reply_page.new.self c.tell.ensures.grows (grows-trans c.tell.new.self c.give_lacking.new.self c.reply_page.new.self c.give_lacking.ensures.grows c.reply_page.ensures.grows) in
    from-fine s es c.args.self.now c.reply_page.new.self call (exchanges s c.args.from c.args.flag theirs call) p grows (λ h.
    let other : is_other s call.node c.args.from ≡ true = sym (c.is_other-answers.ensures s call.node h.is) ∙ c.if-answers.true in
    let after = tells s (told.Summary c.args.from theirs.page c.args.flag) call in
    let given = gives s c.args.from (lacking call.node c.args.from theirs) after in
    subst (λ b. Plays s es c.reply_page.new.self (cond b (replies s c.args.from c.args.flag theirs.page given) after)) (sym other)
    (c.reply_page.ensures.plays s es given (c.give_lacking.ensures.plays s es after (c.tell.ensures.plays s es call p))))

pub returns-else-answers-clause-plays : goal.returns-else-answers-clause-plays
returns-else-answers-clause-plays c = λ s es call p.
    let theirs : Summary = c.args.theirs.now in
    from-fine s es c.args.self.now c.tell.new.self call (exchanges s c.args.from c.args.flag theirs call) p c.tell.ensures.grows (λ h.
    let other : is_other s call.node c.args.from ≡ false = sym (c.is_other-answers.ensures s call.node h.is) ∙ c.if-answers.false in
    let after = tells s (told.Summary c.args.from theirs.page c.args.flag) call in
    let given = gives s c.args.from (lacking call.node c.args.from theirs) after in
    subst (λ b. Plays s es c.tell.new.self (cond b (replies s c.args.from c.args.flag theirs.page given) after)) (sym other)
    (c.tell.ensures.plays s es call p))
