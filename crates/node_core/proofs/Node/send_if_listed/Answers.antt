use Rattle.std.proofs.Common.{subst, sym, ◌∙◌, cond}
use Rattle.node_rules.specs.Calls.{sends}
use Rattle.node_core.specs.Playing.{Plays}
use Rattle.node_core.proofs.Node.send_if_listed.Goals as goal

pub returns-then-is_listed-clause-plays : goal.returns-then-is_listed-clause-plays
returns-then-is_listed-clause-plays c = λ s es os call d p spelled.
    subst (λ b. Plays s es os c.send_copy.new.self (cond b (sends s d call c.args.to) call)) (sym c.if-is_listed.true ∙ c.is_listed.ensures) (c.send_copy.ensures.plays s es os call d p spelled)
