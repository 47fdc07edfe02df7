use Rattle.std.proofs.Common.{List, [], Ok, Err, subst, sym}
use Rattle.journal.specs.declared.event.Event as journal
use Rattle.node_core.specs.Spending.{spent_told}
use Rattle.node_loop.specs.declared.fault.ServeFault.{ServeFault}
use Rattle.node_loop.specs.Courses.{tells_all}
use Rattle.node_loop.specs.Lines.{WritesSpent}
use Rattle.node_loop.specs.Writing.{IsAt, Settles, Standing, standing}
use Rattle.node_loop.proofs.CallLemmas.{settles-at, told-settles}
use Rattle.node_loop.proofs.GatherLemmas.{but-none, owes-none}
use Rattle.node_loop.proofs.LineLemmas.{spent-behind}
use Rattle.node_loop.proofs.SendLemmas.{thrown}
use Rattle.node_loop.proofs.calls.settle.Goals as goal

pub returns-in_err-tell_each-clause-settles : goal.returns-in_err-tell_each-clause-settles
returns-in_err-tell_each-clause-settles g c = λ before moments r at.
    let w : Standing = standing c.args.node.now (g.L.Link.state c.tell_each.new.link).contents (g.O.Sink.state c.tell_each.new.out).taken moments c.tell_each.new.sent in
    let e : ServeFault = c.in_err-tell_each.field-0.0 in
    subst (λ x. Settles before w (tells_all c.args.events.now r) x) (sym (thrown c.from_residual.result e c.from_residual.ensures.1))
    (subst (λ (es : List journal.Event). Settles before w (tells_all es r) (Err e)) c.without_loss.ensures.same
    (told-settles before w _ (Err e) (c.in_err-tell_each.ensures.tells before moments r (but-none before _ c.clear.new.self.items r c.clear.ensures.items at))))

pub returns-in_err-tell_each-clause-spent : goal.returns-in_err-tell_each-clause-spent
returns-in_err-tell_each-clause-spent g c =
    let before = (g.O.Sink.state c.args.out.now).taken in
    let after = (g.O.Sink.state c.tell_each.new.out).taken in
    let older = (g.L.Link.state c.args.link.now).faults in
    let newer = (g.L.Link.state c.tell_each.new.link).faults in
    let e : ServeFault = c.in_err-tell_each.field-0.0 in
    subst (λ x. WritesSpent (spent_told c.args.events.now) before after older newer x) (sym (thrown c.from_residual.result e c.from_residual.ensures.1))
    (subst (λ (es : List journal.Event). WritesSpent (spent_told es) before after older newer (Err e)) c.without_loss.ensures.same
    (c.in_err-tell_each.ensures.spent [] before older (owes-none before c.clear.new.self.items older c.clear.ensures.items)))

pub returns-in-Ok-clause-settles : goal.returns-in-Ok-clause-settles
returns-in-Ok-clause-settles g c = λ before moments r at.
    let w : Standing = standing c.args.node.now (g.L.Link.state c.tell_each.new.link).contents (g.O.Sink.state c.tell_each.new.out).taken moments c.tell_each.new.sent in
    subst (λ (es : List journal.Event). IsAt before w (tells_all es r)) c.without_loss.ensures.same
    (c.in_ok-tell_each.ensures.tells before moments r (but-none before _ c.clear.new.self.items r c.clear.ensures.items at))

pub returns-in-Ok-clause-spent : goal.returns-in-Ok-clause-spent
returns-in-Ok-clause-spent g c =
    let before = (g.O.Sink.state c.args.out.now).taken in
    let after = (g.O.Sink.state c.tell_each.new.out).taken in
    let older = (g.L.Link.state c.args.link.now).faults in
    let newer = (g.L.Link.state c.tell_each.new.link).faults in
    subst (λ (es : List journal.Event). WritesSpent (spent_told es) before after older newer (Ok tt)) c.without_loss.ensures.same
    (c.in_ok-tell_each.ensures.spent [] before older (owes-none before c.clear.new.self.items older c.clear.ensures.items))

pub returns-in-Err-clause-settles : goal.returns-in-Err-clause-settles
returns-in-Err-clause-settles g c = λ before moments r at.
    let w : Standing = standing c.args.node.now (g.L.Link.state c.tell_each.new.link).contents (g.O.Sink.state c.tell_each.new.out).taken moments c.tell_each.new.sent in
    settles-at before w (tells_all c.args.events.now r) (Err c.fault_of.result)
    (subst (λ (es : List journal.Event). IsAt before w (tells_all es r)) c.without_loss.ensures.same
    (c.in_ok-tell_each.ensures.tells before moments r (but-none before _ c.clear.new.self.items r c.clear.ensures.items at)))

pub returns-in-Err-clause-spent : goal.returns-in-Err-clause-spent
returns-in-Err-clause-spent g c =
    let before = (g.O.Sink.state c.args.out.now).taken in
    let after = (g.O.Sink.state c.tell_each.new.out).taken in
    let older = (g.L.Link.state c.args.link.now).faults in
    let newer = (g.L.Link.state c.tell_each.new.link).faults in
    spent-behind (spent_told c.args.events.now) before after older newer (Err c.fault_of.result)
    (subst (λ (es : List journal.Event). WritesSpent (spent_told es) before after older newer (Ok tt)) c.without_loss.ensures.same
    (c.in_ok-tell_each.ensures.spent [] before older (owes-none before c.clear.new.self.items older c.clear.ensures.items)))
