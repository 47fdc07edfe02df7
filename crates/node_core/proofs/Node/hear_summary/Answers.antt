use Rattle.std.proofs.Common.{◌≡◌, true, false, cond, subst, sym, ◌∙◌}
use Rattle.ff_ids.specs.declared.summary.Summary.{Summary}
use Rattle.journal.specs.declared.event.What.TheVariants as told
use Rattle.node_rules.specs.Pages.{lacking}
use Rattle.node_rules.specs.Calls.{tells}
use Rattle.node_rules.specs.Deliveries.{is_other, gives, replies, exchanges}
use Rattle.node_core.specs.Playing.{Plays}
use Rattle.node_core.proofs.PlayLemmas.{grows-trans}
use Rattle.node_core.proofs.ExtendLemmas.{extends-exchanges}
use Rattle.node_core.proofs.DueLemmas.{from-fine}
use Rattle.node_core.proofs.Node.hear_summary.Goals as goal

pub returns-then-answers-clause-plays : goal.returns-then-answers-clause-plays
returns-then-answers-clause-plays c = λ s es os call p.
    let theirs : Summary = c.args.theirs.now in
    let grows = grows-trans c.args.self.now c.tell.new.self c.reply_page.new.self c.tell.ensures.grows (grows-trans c.tell.new.self c.give_lacking.new.self c.reply_page.new.self c.give_lacking.ensures.grows c.reply_page.ensures.grows) in
    from-fine s es os c.args.self.now c.reply_page.new.self call (exchanges s c.args.from c.args.flag theirs call) p grows (extends-exchanges s c.args.from c.args.flag theirs call) (λ h.
    let other : is_other s call.node c.args.from ≡ true = sym (c.is_other-answers.ensures s call.node h.is) ∙ c.if-answers.true in
    let after = tells s (told.Summary c.args.from theirs.page c.args.flag) call in
    let given = gives s c.args.from (lacking call.node c.args.from theirs) after in
    subst (λ b. Plays s es os c.reply_page.new.self (cond b (replies s c.args.from c.args.flag theirs.page given) after)) (sym other)
    (c.reply_page.ensures.plays s es os given (c.give_lacking.ensures.plays s es os after (c.tell.ensures.plays s es os call p))))

pub returns-else-answers-clause-plays : goal.returns-else-answers-clause-plays
returns-else-answers-clause-plays c = λ s es os call p.
    let theirs : Summary = c.args.theirs.now in
    from-fine s es os c.args.self.now c.tell.new.self call (exchanges s c.args.from c.args.flag theirs call) p c.tell.ensures.grows (extends-exchanges s c.args.from c.args.flag theirs call) (λ h.
    let other : is_other s call.node c.args.from ≡ false = sym (c.is_other-answers.ensures s call.node h.is) ∙ c.if-answers.false in
    let after = tells s (told.Summary c.args.from theirs.page c.args.flag) call in
    let given = gives s c.args.from (lacking call.node c.args.from theirs) after in
    subst (λ b. Plays s es os c.tell.new.self (cond b (replies s c.args.from c.args.flag theirs.page given) after)) (sym other)
    (c.tell.ensures.plays s es os call p))
