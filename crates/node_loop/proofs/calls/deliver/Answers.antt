use Rattle.std.proofs.Common.{ℕ, List, [], ◌∷◌, refl, ap, subst, sym}
use Rattle.journal.specs.declared.event.Event as journal
use Rattle.ports.specs.Outside.{OfLink}
use Rattle.node_core.specs.Answers.{CallerBuffers, GivesCall}
use Rattle.node_core.specs.Playing.{Kept}
use Rattle.node_rules.specs.OnDisks.{Delivers}
use Rattle.node_core.specs.Spending.{SpendsIn}
use Rattle.turn_rules.specs.Turns.{Calls}
use Rattle.node_loop.specs.Serving.{Serves}
use Rattle.node_loop.specs.Writing.{standing}
use Rattle.node_loop.proofs.CallLemmas.{lent, lent-none, serves-call}
use Rattle.node_loop.proofs.LineLemmas.{goes-by, goes-to}
use Rattle.node_loop.proofs.calls.deliver.Goals as goal

pub settle-settled-requires-clause-cause : goal.settle-settled-requires-clause-cause
settle-settled-requires-clause-cause g c = c.deliver-done.ensures.stops c.requires.going

pub returns-clause-spends : goal.returns-clause-spends
returns-clause-spends g c =
    let v : Kept = c.deliver-done.new.self in
    let events : List journal.Event = c.deliver-done.new.events in
    let done = c.deliver-done.result in
    let older = (g.D.Disk.state c.args.disk.now).moments in
    let newer = (g.D.Disk.state c.deliver-done.new.disk).moments in
    let spends = subst (λ (es : List journal.Event). SpendsIn done c.args.node.now.signer v.signer older newer es events) c.new-events.ensures c.deliver-done.ensures.spends in
    goes-to _ _ _ _ _ _ _ _ _ c.settle-settled.result (ap (λ (l : OfLink). l.faults) c.expect_newly_certified.ensures.same)
    (goes-by done c.args.node.now.signer v.signer older newer events (g.O.Sink.state c.args.out.now).taken (g.O.Sink.state c.settle-settled.new.out).taken _ _ c.settle-settled.result spends c.settle-settled.ensures.answers c.settle-settled.ensures.spent)

pub returns-clause-serves : goal.returns-clause-serves
returns-clause-serves g c = λ s before r at.
    let v : Kept = c.deliver-done.new.self in
    let events : List journal.Event = c.deliver-done.new.events in
    let out : List (ℕ × List ℕ) = c.deliver-done.new.out in
    let done = c.deliver-done.result in
    let older = (g.D.Disk.state c.args.disk.now).moments in
    let newer = (g.D.Disk.state c.deliver-done.new.disk).moments in
    let step = lent-none (λ (l : CallerBuffers). GivesCall s r.node (Delivers c.args.bytes.now) v l (lent events out) done) c.new-events.result c.new-outbox.result c.new-events.ensures c.new-outbox.ensures (c.deliver-done.ensures.step s r.node at.node c.requires.going) in
    let spends = subst (λ (es : List journal.Event). SpendsIn done c.args.node.now.signer v.signer older newer es events) c.new-events.ensures c.deliver-done.ensures.spends in
    subst (λ (k : OfLink). Serves s before (Calls (Delivers c.args.bytes.now) ∷ []) r (standing v k.contents (g.O.Sink.state c.settle-settled.new.out).taken newer c.settle-settled.new.sent) c.settle-settled.result) (sym c.expect_newly_certified.ensures.same)
    (serves-call s before c.args.node.now v (g.L.Link.state c.args.link.now).contents (g.L.Link.state c.settle-settled.new.link).contents (g.O.Sink.state c.args.out.now).taken (g.O.Sink.state c.settle-settled.new.out).taken older newer c.args.sent.now c.settle-settled.new.sent r (Delivers c.args.bytes.now)
    events out done c.settle-settled.result at refl step c.deliver-done.ensures.kept c.deliver-done.ensures.ended spends c.settle-settled.ensures.answers c.settle-settled.ensures.extends (λ r1 at1. c.settle-settled.ensures.settles before newer r1 at1))
