use Rattle.std.proofs.Common.{◌≡◌, false, subst, sym}
use Rattle.node_rules.specs.Deliveries.{replies}
use Rattle.audit_node.specs.Playing.{Plays}
use Rattle.audit_node.proofs.Mirror.reply_page.Goals as goal

pub returns-then-not-flag-clause-plays : goal.returns-then-not-flag-clause-plays
returns-then-not-flag-clause-plays c = λ s es call p.
    let off : c.args.flag ≡ false = c.if-not-flag.true in
    subst (λ b. Plays s es c.send_page.new.self (replies s c.args.to b c.args.page call)) (sym off) (c.send_page.ensures.plays s es call p)
