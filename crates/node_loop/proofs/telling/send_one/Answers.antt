use Rattle.std.proofs.Common.{◌≡◌, Bool, List, [], ◌++◌, true, false, Ok, Err, inl, inr, refl, ap, append-nil, subst, sym, ◌∙◌}
use Rattle.std.proofs.KnownBytes.{Appends-nil, Appends-trans}
use Rattle.ports.specs.Count.{counted}
use Rattle.journal.specs.declared.event.What.TheVariants as kinds
use Rattle.signer.specs.Lives.{Spent}
use Rattle.node_loop.specs.declared.fault.ServeFault.{ServeFault}
use Rattle.node_loop.specs.Courses.{ServeState, fails_next, hands_over, sends_one, writes_event}
use Rattle.turn_rules.specs.Lines.{line_of}
use Rattle.node_loop.specs.Gathering.{SpentBut, TellsBut}
use Rattle.node_loop.specs.Writing.{IsAt, Standing, standing}
use Rattle.node_loop.proofs.TellLemmas.{extends-handed, extends-trans, handed, lost-is, not-given, not-handed}
use Rattle.node_loop.proofs.GatherLemmas.{but-none, extends-behind, extends-gathered, owes-same, spent-gathered, spent-refused, spent-with}
use Rattle.node_loop.proofs.SendLemmas.{got-lost, sent-line, thrown, unsent, went-out, within-sent}
use Rattle.node_loop.proofs.telling.send_one.Goals as goal

pub returns-in_err-write_with_sent-clause-tells : goal.returns-in_err-write_with_sent-clause-tells
returns-in_err-write_with_sent-clause-tells g c = λ before moments r at.
    let w : Standing = standing c.args.node.now (g.L.Link.state c.args.link.now).contents (g.O.Sink.state c.write_with_sent.new.out).taken moments c.args.sent.now in
    let e : ServeFault = c.in_err-write_with_sent.field-0.0 in
    let line = sent-line before c.args.node.now (g.L.Link.state c.args.link.now).contents (g.O.Sink.state c.args.out.now).taken (g.O.Sink.state c.write_with_sent.new.out).taken moments c.args.sent.now
    c.args.moment c.args.to c.args.bytes.now c.args.lines.now.items r (Err e) at c.in_err-write_with_sent.ensures.wrote c.in_err-write_with_sent.ensures.cause in
    subst (λ x. TellsBut before w c.write_with_sent.new.lines.items (sends_one c.args.moment c.args.to c.args.bytes.now r) x) (sym (thrown c.from_residual.result e c.from_residual.ensures.1))
    (unsent before w c.args.moment c.args.to c.args.bytes.now r e line)

pub returns-in_err-write_with_sent-clause-extends : goal.returns-in_err-write_with_sent-clause-extends
returns-in_err-write_with_sent-clause-extends g c =
    extends-behind (g.O.Sink.state c.args.out.now).taken (g.O.Sink.state c.write_with_sent.new.out).taken (g.L.Link.state c.args.link.now).contents c.args.lines.now.items
    (line_of (record { moment = c.args.moment; what = kinds.Sent c.args.sent.now c.args.to c.args.bytes.now })) (Err c.in_err-write_with_sent.field-0.0) c.in_err-write_with_sent.ensures.wrote

pub returns-then-lost-clause-tells : goal.returns-then-lost-clause-tells
returns-then-lost-clause-tells g c = λ before moments r at.
    let v = c.args.node.now in
    let l0 = (g.L.Link.state c.args.link.now).contents in
    let l1 = (g.L.Link.state c.hand_over.new.link).contents in
    let t1 = (g.O.Sink.state c.write_with_sent.new.out).taken in
    let line = sent-line before v l0 (g.O.Sink.state c.args.out.now).taken t1 moments c.args.sent.now c.args.moment c.args.to c.args.bytes.now c.args.lines.now.items r
    (Ok c.in_ok-write_with_sent.field-0) at c.in_ok-write_with_sent.ensures.wrote tt in
    let r1 : ServeState = writes_event c.args.moment (kinds.Sent r.sent c.args.to c.args.bytes.now) r in
    let given = handed before v l0 l1 t1 moments c.args.sent.now c.args.to c.args.bytes.now r1 c.in-Ok.lost line c.in-Ok.ensures.given in
    let counted = subst (λ k. IsAt before (standing v l1 t1 moments k) (hands_over c.args.to c.args.bytes.now r1)) (sym c.saturating_add.ensures) given in
    let lost : true ≡ fails_next r.link = sym c.if-lost.true ∙ lost-is before v l0 l1 t1 moments c.args.sent.now _ c.args.bytes.now r1 c.in-Ok.lost line c.in-Ok.ensures.given in
    got-lost before v l1 t1 (g.O.Sink.state c.gather.new.out).taken moments c.saturating_add.result c.args.sent.now c.args.moment c.args.to c.args.bytes.now c.write_with_sent.new.lines.items c.gather.new.lines.items r
    c.gather.result lost at.sent c.write_with_sent.ensures.empty counted c.gather.ensures.gathers c.gather.ensures.cause

pub returns-then-lost-clause-extends : goal.returns-then-lost-clause-extends
returns-then-lost-clause-extends g c =
    let l0 = (g.L.Link.state c.args.link.now).contents in
    let l1 = (g.L.Link.state c.hand_over.new.link).contents in
    let t0 = (g.O.Sink.state c.args.out.now).taken in
    let t1 = (g.O.Sink.state c.write_with_sent.new.out).taken in
    let t2 = (g.O.Sink.state c.gather.new.out).taken in
    let first = extends-behind t0 t1 l0 c.args.lines.now.items (line_of (record { moment = c.args.moment; what = kinds.Sent c.args.sent.now c.args.to c.args.bytes.now })) (Ok c.in_ok-write_with_sent.field-0) c.in_ok-write_with_sent.ensures.wrote in
    let given = extends-handed t1 _ c.args.bytes.now l0 l1 (Ok c.in-Ok.lost) c.in-Ok.ensures.given in
    let last = extends-gathered t1 t2 l1 c.write_with_sent.new.lines.items c.gather.new.lines.items (line_of (record { moment = c.args.moment; what = kinds.Lost c.args.sent.now })) c.gather.result c.gather.ensures.gathers in
    extends-trans t0 t1 t2 l0 l1 l1 (extends-trans t0 t1 t1 l0 l0 l1 first given) last

pub returns-else-lost-clause-tells : goal.returns-else-lost-clause-tells
returns-else-lost-clause-tells g c = λ before moments r at.
    let v = c.args.node.now in
    let l0 = (g.L.Link.state c.args.link.now).contents in
    let l1 = (g.L.Link.state c.hand_over.new.link).contents in
    let t1 = (g.O.Sink.state c.write_with_sent.new.out).taken in
    let line = sent-line before v l0 (g.O.Sink.state c.args.out.now).taken t1 moments c.args.sent.now c.args.moment c.args.to c.args.bytes.now c.args.lines.now.items r
    (Ok c.in_ok-write_with_sent.field-0) at c.in_ok-write_with_sent.ensures.wrote tt in
    let r1 : ServeState = writes_event c.args.moment (kinds.Sent r.sent c.args.to c.args.bytes.now) r in
    let given = handed before v l0 l1 t1 moments c.args.sent.now c.args.to c.args.bytes.now r1 c.in-Ok.lost line c.in-Ok.ensures.given in
    let counted = subst (λ k. IsAt before (standing v l1 t1 moments k) (hands_over c.args.to c.args.bytes.now r1)) (sym c.saturating_add.ensures) given in
    let works : false ≡ fails_next r.link = sym c.if-lost.false ∙ lost-is before v l0 l1 t1 moments c.args.sent.now _ c.args.bytes.now r1 c.in-Ok.lost line c.in-Ok.ensures.given in
    let w : Standing = standing v l1 t1 moments c.saturating_add.result in
    but-none before w c.write_with_sent.new.lines.items (sends_one c.args.moment c.args.to c.args.bytes.now r) c.write_with_sent.ensures.empty (went-out before w c.args.moment c.args.to c.args.bytes.now r works counted)

pub returns-in-Err-clause-tells : goal.returns-in-Err-clause-tells
returns-in-Err-clause-tells g c = λ before moments r at.
    let v = c.args.node.now in
    let l0 = (g.L.Link.state c.args.link.now).contents in
    let l1 = (g.L.Link.state c.hand_over.new.link).contents in
    let t1 = (g.O.Sink.state c.write_with_sent.new.out).taken in
    let line = sent-line before v l0 (g.O.Sink.state c.args.out.now).taken t1 moments c.args.sent.now c.args.moment c.args.to c.args.bytes.now c.args.lines.now.items r
    (Ok c.in_ok-write_with_sent.field-0) at c.in_ok-write_with_sent.ensures.wrote tt in
    let r1 : ServeState = writes_event c.args.moment (kinds.Sent r.sent c.args.to c.args.bytes.now) r in
    within-sent before (standing v l1 t1 moments c.args.sent.now) c.args.moment c.args.to c.args.bytes.now r
    (not-handed before v l0 l1 t1 moments c.args.sent.now _ c.args.bytes.now r1 c.in-Err.field-0 line c.in-Err.ensures.given)

pub returns-in_err-write_with_sent-clause-spent : goal.returns-in_err-write_with_sent-clause-spent
returns-in_err-write_with_sent-clause-spent g c = λ spent before count owes.
    let e : ServeFault = c.in_err-write_with_sent.field-0.0 in
    let t0 = (g.O.Sink.state c.args.out.now).taken in
    let t1 = (g.O.Sink.state c.write_with_sent.new.out).taken in
    let faults = (g.L.Link.state c.args.link.now).faults in
    subst (λ x. SpentBut spent before t1 c.write_with_sent.new.lines.items count faults x) (sym (thrown c.from_residual.result e c.from_residual.ensures.1))
    (subst (λ (s : List Spent). SpentBut s before t1 c.write_with_sent.new.lines.items count faults (Err e)) (append-nil spent)
    (spent-with spent before t0 t1 c.args.lines.now.items count faults faults (record { moment = c.args.moment; what = kinds.Sent c.args.sent.now c.args.to c.args.bytes.now }) (Err e)
    owes c.in_err-write_with_sent.ensures.wrote c.in_err-write_with_sent.ensures.cause refl))

pub returns-then-lost-clause-spent : goal.returns-then-lost-clause-spent
returns-then-lost-clause-spent g c = λ spent before count owes.
    let t0 = (g.O.Sink.state c.args.out.now).taken in
    let t1 = (g.O.Sink.state c.write_with_sent.new.out).taken in
    let t2 = (g.O.Sink.state c.gather.new.out).taken in
    let f0 = (g.L.Link.state c.args.link.now).faults in
    let f1 = (g.L.Link.state c.hand_over.new.link).faults in
    let none = c.write_with_sent.ensures.empty in
    let first = owes-same spent before t1 c.write_with_sent.new.lines.items count f0 none
    (spent-with spent before t0 t1 c.args.lines.now.items count f0 f0 (record { moment = c.args.moment; what = kinds.Sent c.args.sent.now c.args.to c.args.bytes.now }) (Ok c.in_ok-write_with_sent.field-0)
    owes c.in_ok-write_with_sent.ensures.wrote tt refl) in
    subst (λ (s : List Spent). SpentBut s before t2 c.gather.new.lines.items count f1 c.gather.result) (append-nil spent)
    (spent-gathered spent before t1 t2 c.write_with_sent.new.lines.items c.gather.new.lines.items count f0 f1 (record { moment = c.args.moment; what = kinds.Lost c.args.sent.now }) c.gather.result
    first c.gather.ensures.gathers c.gather.ensures.cause (c.in-Ok.ensures.faults ∙ ap (λ (b : Bool). counted b f0) c.if-lost.true))

pub returns-else-lost-clause-spent : goal.returns-else-lost-clause-spent
returns-else-lost-clause-spent g c = λ spent before count owes.
    let t1 = (g.O.Sink.state c.write_with_sent.new.out).taken in
    let f0 = (g.L.Link.state c.args.link.now).faults in
    let f1 = (g.L.Link.state c.hand_over.new.link).faults in
    owes-same spent before t1 c.write_with_sent.new.lines.items count f1 c.write_with_sent.ensures.empty
    (spent-with spent before (g.O.Sink.state c.args.out.now).taken t1 c.args.lines.now.items count f0 f1
    (record { moment = c.args.moment; what = kinds.Sent c.args.sent.now c.args.to c.args.bytes.now }) (Ok c.in_ok-write_with_sent.field-0) owes c.in_ok-write_with_sent.ensures.wrote tt
    (c.in-Ok.ensures.faults ∙ ap (λ (b : Bool). counted b f0) c.if-lost.false))

pub returns-in-Err-clause-spent : goal.returns-in-Err-clause-spent
returns-in-Err-clause-spent g c = λ spent before count owes.
    let t1 = (g.O.Sink.state c.write_with_sent.new.out).taken in
    let f0 = (g.L.Link.state c.args.link.now).faults in
    let f1 = (g.L.Link.state c.hand_over.new.link).faults in
    spent-refused spent before t1 count f1
    (owes-same spent before t1 [] count f1 refl
    (spent-with spent before (g.O.Sink.state c.args.out.now).taken t1 c.args.lines.now.items count f0 f1
    (record { moment = c.args.moment; what = kinds.Sent c.args.sent.now c.args.to c.args.bytes.now }) (Ok c.in_ok-write_with_sent.field-0) owes c.in_ok-write_with_sent.ensures.wrote tt c.in-Err.ensures.faults))

pub returns-in_err-write_with_sent-clause-behind : goal.returns-in_err-write_with_sent-clause-behind
returns-in_err-write_with_sent-clause-behind g c = inl refl

pub returns-then-lost-clause-behind : goal.returns-then-lost-clause-behind
returns-then-lost-clause-behind g c =
    let t0 = (g.O.Sink.state c.args.out.now).taken in
    let t1 = (g.O.Sink.state c.write_with_sent.new.out).taken in
    let t2 = (g.O.Sink.state c.gather.new.out).taken in
    let line = c.args.lines.now.items ++ line_of (record { moment = c.args.moment; what = kinds.Sent c.args.sent.now c.args.to c.args.bytes.now }) in
    let last = extends-gathered t1 t2 (g.L.Link.state c.hand_over.new.link).contents c.write_with_sent.new.lines.items c.gather.new.lines.items (line_of (record { moment = c.args.moment; what = kinds.Lost c.args.sent.now }))
    c.gather.result c.gather.ensures.gathers in
    inr (last.text, Appends-trans t0 t1 t2 line last.text c.in_ok-write_with_sent.ensures.wrote last.written)

pub returns-else-lost-clause-behind : goal.returns-else-lost-clause-behind
returns-else-lost-clause-behind g c =
    let t0 = (g.O.Sink.state c.args.out.now).taken in
    let t1 = (g.O.Sink.state c.write_with_sent.new.out).taken in
    let line = c.args.lines.now.items ++ line_of (record { moment = c.args.moment; what = kinds.Sent c.args.sent.now c.args.to c.args.bytes.now }) in
    inr ([], Appends-trans t0 t1 t1 line [] c.in_ok-write_with_sent.ensures.wrote (Appends-nil t1))

pub returns-in-Err-clause-behind : goal.returns-in-Err-clause-behind
returns-in-Err-clause-behind g c =
    inl (not-given _ c.args.bytes.now (g.L.Link.state c.args.link.now).contents (g.L.Link.state c.hand_over.new.link).contents c.in-Err.field-0 c.in-Err.ensures.given)
