use Rattle.std.proofs.Common.{ℕ, List, refl, subst}
use Rattle.journal.specs.declared.event.Event as journal
use Rattle.node_core.specs.Answers.{CallerBuffers, GivesCall}
use Rattle.node_rules.specs.OnDisks.{Leaves}
use Rattle.node_core.specs.Playing.{Kept}
use Rattle.node_core.specs.Spending.{SpendsIn}
use Rattle.node_loop.proofs.CallLemmas.{lent, lent-none, serves-call}
use Rattle.node_loop.proofs.LineLemmas.{goes-by}
use Rattle.node_loop.proofs.calls.leave.Goals as goal

pub settle-requires-clause-cause : goal.settle-requires-clause-cause
settle-requires-clause-cause g c = c.leave-done.ensures.stops c.requires.going

pub returns-clause-spends : goal.returns-clause-spends
returns-clause-spends g c =
    let v : Kept = c.leave-done.new.self in
    let events : List journal.Event = c.leave-done.new.events in
    let done = c.leave-done.result in
    let older = (g.D.Disk.state c.args.disk.now).moments in
    let newer = (g.D.Disk.state c.leave-done.new.disk).moments in
    let spends = subst (λ (es : List journal.Event). SpendsIn done c.args.node.now.signer v.signer older newer es events) c.new-events.ensures c.leave-done.ensures.spends in
    goes-by done c.args.node.now.signer v.signer older newer events (g.O.Sink.state c.args.out.now).taken (g.O.Sink.state c.settle.new.out).taken _ _ c.settle.result spends c.settle.ensures.answers c.settle.ensures.spent

pub returns-clause-serves : goal.returns-clause-serves
returns-clause-serves g c = λ s before r at.
    let v : Kept = c.leave-done.new.self in
    let events : List journal.Event = c.leave-done.new.events in
    let out : List (ℕ × List ℕ) = c.leave-done.new.out in
    let done = c.leave-done.result in
    let older = (g.D.Disk.state c.args.disk.now).moments in
    let newer = (g.D.Disk.state c.leave-done.new.disk).moments in
    let step = lent-none (λ (l : CallerBuffers). GivesCall s r.node Leaves v l (lent events out) done) c.new-events.result c.new-outbox.result c.new-events.ensures c.new-outbox.ensures (c.leave-done.ensures.step s r.node at.node c.requires.going) in
    let spends = subst (λ (es : List journal.Event). SpendsIn done c.args.node.now.signer v.signer older newer es events) c.new-events.ensures c.leave-done.ensures.spends in
    serves-call s before c.args.node.now v (g.L.Link.state c.args.link.now).contents (g.L.Link.state c.settle.new.link).contents (g.O.Sink.state c.args.out.now).taken (g.O.Sink.state c.settle.new.out).taken older newer c.args.sent.now c.settle.new.sent r Leaves
    events out done c.settle.result at refl step c.leave-done.ensures.kept c.leave-done.ensures.ended spends c.settle.ensures.answers c.settle.ensures.extends (λ r1 at1. c.settle.ensures.settles before newer r1 at1)
