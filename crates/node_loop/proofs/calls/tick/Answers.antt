use Rattle.std.proofs.Common.{ℕ, List, Ok, refl, subst, ap, arith}
use Rattle.journal.specs.declared.event.Event as journal
use Rattle.node_core.specs.Answers.{CallerBuffers, GivesCall}
use Rattle.node_rules.specs.OnDisks.{Ticks}
use Rattle.node_core.specs.Playing.{Kept}
use Rattle.node_core.specs.Spending.{SpendsIn}
use Rattle.node_loop.proofs.CallLemmas.{lent, lent-none, may-count, may-not, no-tick, serves-call, tick-acted}
use Rattle.node_loop.proofs.LineLemmas.{goes-by, goes-same}
use Rattle.node_loop.proofs.calls.tick.Goals as goal

pub returns-then-now-eq18446744073709551615-clause-spends : goal.returns-then-now-eq18446744073709551615-clause-spends
returns-then-now-eq18446744073709551615-clause-spends g c = goes-same c.args.node.now.signer (g.D.Disk.state c.args.disk.now).moments (g.O.Sink.state c.args.out.now).taken _ _ (Ok tt) refl

pub returns-then-now-eq18446744073709551615-clause-serves : goal.returns-then-now-eq18446744073709551615-clause-serves
returns-then-now-eq18446744073709551615-clause-serves g c = λ s before r at.
    let moment = ap (λ x. x.moment) c.membership.ensures.kept in
    no-tick s before _ r (may-not s before _ r at (omega (arith, moment, c.now.ensures.moment, c.if-now-eq18446744073709551615.true))) at

pub settle-requires-clause-cause : goal.settle-requires-clause-cause
settle-requires-clause-cause g c = c.tick-done.ensures.stops c.requires.going

pub returns-clause-spends : goal.returns-clause-spends
returns-clause-spends g c =
    let v : Kept = c.tick-done.new.self in
    let events : List journal.Event = c.tick-done.new.events in
    let done = c.tick-done.result in
    let older = (g.D.Disk.state c.args.disk.now).moments in
    let newer = (g.D.Disk.state c.tick-done.new.disk).moments in
    let spends = subst (λ (es : List journal.Event). SpendsIn done c.args.node.now.signer v.signer older newer es events) c.new-events.ensures c.tick-done.ensures.spends in
    goes-by done c.args.node.now.signer v.signer older newer events (g.O.Sink.state c.args.out.now).taken (g.O.Sink.state c.settle.new.out).taken _ _ c.settle.result spends c.settle.ensures.answers c.settle.ensures.spent

pub returns-clause-serves : goal.returns-clause-serves
returns-clause-serves g c = λ s before r at.
    let v : Kept = c.tick-done.new.self in
    let events : List journal.Event = c.tick-done.new.events in
    let out : List (ℕ × List ℕ) = c.tick-done.new.out in
    let done = c.tick-done.result in
    let older = (g.D.Disk.state c.args.disk.now).moments in
    let newer = (g.D.Disk.state c.tick-done.new.disk).moments in
    let step = lent-none (λ (l : CallerBuffers). GivesCall s r.node Ticks v l (lent events out) done) c.new-events.result c.new-outbox.result c.new-events.ensures c.new-outbox.ensures (c.tick-done.ensures.step s r.node at.node c.requires.going) in
    let spends = subst (λ (es : List journal.Event). SpendsIn done c.args.node.now.signer v.signer older newer es events) c.new-events.ensures c.tick-done.ensures.spends in
    let moment = ap (λ x. x.moment) c.membership.ensures.kept in
    let may = may-count s before _ r at (omega (arith, moment, c.now.ensures.moment, c.if-now-eq18446744073709551615.false, c.now.type_inv)) in
    serves-call s before c.args.node.now v (g.L.Link.state c.args.link.now).contents (g.L.Link.state c.settle.new.link).contents (g.O.Sink.state c.args.out.now).taken (g.O.Sink.state c.settle.new.out).taken older newer c.args.sent.now c.settle.new.sent r Ticks
    events out done c.settle.result at (tick-acted s r may) step c.tick-done.ensures.kept c.tick-done.ensures.ended spends c.settle.ensures.answers c.settle.ensures.extends (λ r1 at1. c.settle.ensures.settles before newer r1 at1)
