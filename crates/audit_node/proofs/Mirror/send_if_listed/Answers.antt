use Rattle.std.proofs.Common.{subst, sym, ◌∙◌, cond}
use Rattle.datagram.specs.declared.Datagram.TheVariants as kinds
use Rattle.node_rules.specs.Calls.{sends}
use Rattle.audit_node.specs.Playing.{Plays}
use Rattle.audit_node.proofs.Mirror.send_if_listed.Goals as goal

pub returns-then-is_listed-clause-plays : goal.returns-then-is_listed-clause-plays
returns-then-is_listed-clause-plays c = λ s es call rs p are can.
    subst (λ b. Plays s es c.send_copy.new.self (cond b (sends s (kinds.Records s.me rs) call c.args.to) call)) (sym c.if-is_listed.true ∙ c.is_listed.ensures) (c.send_copy.ensures.plays s es call rs p are can)
