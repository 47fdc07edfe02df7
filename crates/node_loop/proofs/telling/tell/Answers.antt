use Rattle.std.proofs.Common.{◌≡◌, ℕ, Bool, List, ◌++◌, Some, append-nil, subst, sym, ap, ◌∙◌}
use Rattle.ports.specs.Count.{counted}
use Rattle.signer.specs.Lives.{Spent}
use Rattle.turn_rules.specs.Courses.{datagram_in}
use Rattle.turn_rules.specs.Lines.{line_of}
use Rattle.node_loop.specs.Courses.{sends_one, writes}
use Rattle.node_loop.specs.Gathering.{SpentBut}
use Rattle.node_loop.specs.Writing.{Standing, standing}
use Rattle.node_loop.proofs.GatherLemmas.{extends-gathered, gathered, spent-gathered}
use Rattle.node_loop.proofs.SendLemmas.{tells-sends, tells-writes, told-as}
use Rattle.node_loop.proofs.LineLemmas.{sent-none}
use Rattle.node_loop.proofs.telling.tell.Goals as goal

pub returns-in-Some-clause-tells : goal.returns-in-Some-clause-tells
returns-in-Some-clause-tells g c = λ before moments r at.
    let e = c.args.event.now in
    let w : Standing = standing c.args.node.now (g.L.Link.state c.send_one.new.link).contents (g.O.Sink.state c.send_one.new.out).taken moments c.send_one.new.sent in
    let d : ℕ × List ℕ = (c.in-Some.datagram.0, c.as_slice.result.now) in
    let is : datagram_in e.what ≡ Some d = c.in-Some.ensures ∙ ap (λ (xs : List ℕ). Some (c.in-Some.datagram.0, xs)) (sym c.as_slice.ensures) in
    told-as before w c.send_one.new.lines.items (sends_one e.moment d.0 d.1 r) _ c.send_one.result (tells-sends e d r is) (c.send_one.ensures.tells before moments r at)

pub returns-in-None-clause-tells : goal.returns-in-None-clause-tells
returns-in-None-clause-tells g c = λ before moments r at.
    let e = c.args.event.now in
    let w : Standing = standing c.args.node.now (g.L.Link.state c.args.link.now).contents (g.O.Sink.state c.gather.new.out).taken moments c.args.sent.now in
    told-as before w c.gather.new.lines.items (writes (line_of e) r) _ c.gather.result (tells-writes e r c.in-None.ensures)
    (gathered before c.args.node.now (g.L.Link.state c.args.link.now).contents (g.O.Sink.state c.args.out.now).taken (g.O.Sink.state c.gather.new.out).taken moments c.args.sent.now
    c.args.lines.now.items c.gather.new.lines.items (line_of e) r c.gather.result at c.gather.ensures.gathers c.gather.ensures.cause)

pub returns-in-None-clause-extends : goal.returns-in-None-clause-extends
returns-in-None-clause-extends g c =
    extends-gathered (g.O.Sink.state c.args.out.now).taken (g.O.Sink.state c.gather.new.out).taken (g.L.Link.state c.args.link.now).contents
    c.args.lines.now.items c.gather.new.lines.items (line_of c.args.event.now) c.gather.result c.gather.ensures.gathers

pub returns-in-Some-clause-spent : goal.returns-in-Some-clause-spent
returns-in-Some-clause-spent g c = λ spent before count owes.
    let none = sent-none c.args.event.now.what _ c.in-Some.ensures in
    subst (λ (s : List Spent). SpentBut s before (g.O.Sink.state c.send_one.new.out).taken c.send_one.new.lines.items count (g.L.Link.state c.send_one.new.link).faults c.send_one.result)
    (sym (append-nil spent) ∙ ap (λ (s : List Spent). spent ++ s) (sym none)) (c.send_one.ensures.spent spent before count owes)

pub returns-in-None-clause-spent : goal.returns-in-None-clause-spent
returns-in-None-clause-spent g c = λ spent before count owes.
    let faults = (g.L.Link.state c.args.link.now).faults in
    spent-gathered spent before (g.O.Sink.state c.args.out.now).taken (g.O.Sink.state c.gather.new.out).taken c.args.lines.now.items c.gather.new.lines.items count faults faults
    c.args.event.now c.gather.result owes c.gather.ensures.gathers c.gather.ensures.cause (ap (λ (b : Bool). counted b faults) (sym c.requires.no_loss))
