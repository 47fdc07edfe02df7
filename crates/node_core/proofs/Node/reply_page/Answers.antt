use Rattle.std.proofs.Common.{◌≡◌, false, subst, sym}
use Rattle.node_rules.specs.Deliveries.{replies}
use Rattle.node_core.specs.Playing.{Plays}
use Rattle.node_core.proofs.Node.reply_page.Goals as goal

pub returns-then-not-flag-clause-plays : goal.returns-then-not-flag-clause-plays
returns-then-not-flag-clause-plays c = λ s es os call p.
    let off : c.args.flag ≡ false = c.if-not-flag.true in
    subst (λ b. Plays s es os c.send_page.new.self (replies s c.args.to b c.args.page call)) (sym off) (c.send_page.ensures.plays s es os call p)
