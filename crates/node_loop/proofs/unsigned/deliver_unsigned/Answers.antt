use Rattle.std.proofs.Common.{◌≡◌, ℕ, List, [], ◌∷◌, Ok, Err, refl, ap, ◌∙◌, subst, sym}
use Rattle.ports.specs.Outside.{OfDisk}
use Rattle.journal.specs.declared.event.Event as journal
use Rattle.journal.specs.declared.turn.Turn.{Turn}
use Rattle.journal.specs.Turns.{turn_text}
use Rattle.node_core.specs.Answers.{CallerBuffers, GivesCall}
use Rattle.node_core.specs.Playing.{Kept}
use Rattle.node_core.specs.Spending.{SpendsIn, spent_told}
use Rattle.node_rules.specs.OnDisks.{Delivers}
use Rattle.node_loop.specs.declared.fault.ServeFault.{ServeFault}
use Rattle.turn_rules.specs.Turns.{Writes, delivery_of}
use Rattle.node_loop.specs.Courses.{ServeState, tells_all, writes}
use Rattle.turn_rules.specs.Lines.{with_feed}
use Rattle.node_loop.specs.Gathering.{IsAtBut}
use Rattle.node_loop.specs.Lines.{WritesSpent}
use Rattle.node_loop.specs.Serving.{Serves}
use Rattle.node_loop.specs.Writing.{Stands, Standing, Tells, WritesLine, standing}
use Rattle.node_loop.proofs.CallLemmas.{lent, lent-none, serves-call}
use Rattle.node_loop.proofs.LineLemmas.{goes-as, goes-by, goes-same, goes-trans}
use Rattle.node_loop.proofs.SendLemmas.{thrown}
use Rattle.node_loop.proofs.TellLemmas.{at-within, written}
use Rattle.node_loop.proofs.TurnLemmas.{unheard-turn}
use Rattle.node_loop.proofs.UnsignedLemmas.{goes-quiet, owes-turn, quiet-broke, quiet-serves, serves-gathered, told-answers, where-ok}
use Rattle.node_loop.proofs.unsigned.deliver_unsigned.Goals as goal

-- memory was refused for the line

pub returns-then-is_err-clause-spends : goal.returns-then-is_err-clause-spends
returns-then-is_err-clause-spends g c = goes-same c.args.node.now.signer (g.D.Disk.state c.args.disk.now).moments (g.O.Sink.state c.args.out.now).taken _ _ _ refl

pub returns-then-is_err-clause-serves : goal.returns-then-is_err-clause-serves
returns-then-is_err-clause-serves g c = λ s before r at. unheard-turn s before _ r _ (at-within before _ r at.at)

-- the delivery is answered

pub returns-in-Ok-clause-spends : goal.returns-in-Ok-clause-spends
returns-in-Ok-clause-spends g c =
    let is : c.gather_turn.new.lines.items ≡ with_feed (turn_text c.args.turn.now) =
    where-ok c.gather_turn.result (c.gather_turn.new.lines.items ≡ with_feed (turn_text c.args.turn.now)) c.gather_turn.ensures (sym c.is_err.ensures.value ∙ c.if-is_err.false) in
    let v : Kept = c.deliver.new.self in
    let events : List journal.Event = c.deliver.new.events in
    let older = (g.D.Disk.state c.args.disk.now).moments in
    let newer = (g.D.Disk.state c.deliver.new.disk).moments in
    let t0 = (g.O.Sink.state c.args.out.now).taken in
    let t1 = (g.O.Sink.state c.tell_each.new.out).taken in
    let f0 = (g.L.Link.state c.args.link.now).faults in
    let f1 = (g.L.Link.state c.tell_each.new.link).faults in
    let spends = subst (λ (es : List journal.Event). SpendsIn {T = Unit {0}} (Ok tt) c.args.node.now.signer v.signer older newer es events) c.new-events.ensures c.in-Ok.ensures.spends in
    let told = subst (λ (es : List journal.Event). WritesSpent (spent_told es) t0 t1 f0 f1 c.tell_each.result) c.without_loss.ensures.same
    (c.tell_each.ensures.spent [] t0 f0 (owes-turn c.args.turn.now c.args.bytes.now c.gather_turn.new.lines.items t0 f0 c.requires.quiet is)) in
    goes-by (Ok tt) c.args.node.now.signer v.signer older newer events t0 t1 f0 f1 c.tell_each.result spends (told-answers tt c.tell_each.result c.tell_each.ensures.cause) told

pub returns-in-Ok-clause-serves : goal.returns-in-Ok-clause-serves
returns-in-Ok-clause-serves g c = λ s before r at.
    let is : c.gather_turn.new.lines.items ≡ with_feed (turn_text c.args.turn.now) =
    where-ok c.gather_turn.result (c.gather_turn.new.lines.items ≡ with_feed (turn_text c.args.turn.now)) c.gather_turn.ensures (sym c.is_err.ensures.value ∙ c.if-is_err.false) in
    let v : Kept = c.deliver.new.self in
    let events : List journal.Event = c.deliver.new.events in
    let out : List (ℕ × List ℕ) = c.deliver.new.out in
    let bytes : List ℕ = c.args.bytes.now in
    let turn : Turn = c.args.turn.now in
    let l0 = (g.L.Link.state c.args.link.now).contents in
    let l1 = (g.L.Link.state c.tell_each.new.link).contents in
    let t0 = (g.O.Sink.state c.args.out.now).taken in
    let t1 = (g.O.Sink.state c.tell_each.new.out).taken in
    let older = (g.D.Disk.state c.args.disk.now).moments in
    let newer = (g.D.Disk.state c.deliver.new.disk).moments in
    let mid : Standing = standing v l0 t0 newer c.args.sent.now in
    let w : Standing = standing v l1 t1 newer c.tell_each.new.sent in
    let step = lent-none (λ (l : CallerBuffers). GivesCall s r.node (Delivers bytes) v l (lent events out) (Ok tt)) c.new-events.result c.new-outbox.result c.new-events.ensures c.new-outbox.ensures (c.in-Ok.ensures.step s r.node at.node c.requires.going) in
    let spends = subst (λ (es : List journal.Event). SpendsIn {T = Unit {0}} (Ok tt) c.args.node.now.signer v.signer older newer es events) c.new-events.ensures c.in-Ok.ensures.spends in
    quiet-serves s before w r turn bytes c.tell_each.result c.requires.quiet
    (serves-gathered s before c.args.node.now v l0 l1 t0 t1 older newer c.args.sent.now c.tell_each.new.sent r (with_feed (turn_text turn)) bytes events out tt c.tell_each.result at step spends c.tell_each.ensures.cause
    (λ r1 at1.
    subst (λ (es : List journal.Event). Tells before w (tells_all es r1) c.tell_each.result) c.without_loss.ensures.same
    (c.tell_each.ensures.tells before newer r1 (subst (λ (xs : List ℕ). IsAtBut before mid xs r1) (sym is) at1))))

-- the write of the line failed

pub returns-in_err-write_gathered-in-Err-clause-spends : goal.returns-in_err-write_gathered-in-Err-clause-spends
returns-in_err-write_gathered-in-Err-clause-spends g c =
    let is : c.gather_turn.new.lines.items ≡ with_feed (turn_text c.args.turn.now) =
    where-ok c.gather_turn.result (c.gather_turn.new.lines.items ≡ with_feed (turn_text c.args.turn.now)) c.gather_turn.ensures (sym c.is_err.ensures.value ∙ c.if-is_err.false) in
    let e : ServeFault = c.in_err-write_gathered-in-Err.field-0.0 in
    let same = c.in-Err.ensures.unsigned c.requires.quiet.plain in
    goes-as _ _ _ _ _ _ _ _ c.from_residual.result (Err e) (thrown c.from_residual.result e c.from_residual.ensures.1)
    (goes-quiet c.args.node.now.signer c.deliver.new.self.signer (g.D.Disk.state c.args.disk.now).moments (g.D.Disk.state c.deliver.new.disk).moments (g.O.Sink.state c.args.out.now).taken (g.O.Sink.state c.write_gathered.new.out).taken
    (g.L.Link.state c.args.link.now).faults c.args.turn.now c.args.bytes.now c.gather_turn.new.lines.items (Err e) c.requires.quiet is c.in_err-write_gathered-in-Err.ensures.wrote same.0 (ap (λ (d : OfDisk). d.moments) same.1))

pub returns-in_err-write_gathered-in-Err-clause-serves : goal.returns-in_err-write_gathered-in-Err-clause-serves
returns-in_err-write_gathered-in-Err-clause-serves g c = λ s before r at.
    let is : c.gather_turn.new.lines.items ≡ with_feed (turn_text c.args.turn.now) =
    where-ok c.gather_turn.result (c.gather_turn.new.lines.items ≡ with_feed (turn_text c.args.turn.now)) c.gather_turn.ensures (sym c.is_err.ensures.value ∙ c.if-is_err.false) in
    let e : ServeFault = c.in_err-write_gathered-in-Err.field-0.0 in
    let same = c.in-Err.ensures.unsigned c.requires.quiet.plain in
    let v : Kept = c.deliver.new.self in
    let turn : Turn = c.args.turn.now in
    let l0 = (g.L.Link.state c.args.link.now).contents in
    let t0 = (g.O.Sink.state c.args.out.now).taken in
    let t1 = (g.O.Sink.state c.write_gathered.new.out).taken in
    let older = (g.D.Disk.state c.args.disk.now).moments in
    let newer = (g.D.Disk.state c.deliver.new.disk).moments in
    let w : Standing = standing v l0 t1 newer c.args.sent.now in
    subst (λ x. Serves s before (Writes turn ∷ delivery_of turn.heard) r w x) (sym (thrown c.from_residual.result e c.from_residual.ensures.1))
    (quiet-broke s before c.args.node.now v l0 t0 t1 older newer c.args.sent.now r turn c.gather_turn.new.lines.items e at same.0 (ap (λ (d : OfDisk). d.moments) same.1) is
    c.in_err-write_gathered-in-Err.ensures.wrote c.in_err-write_gathered-in-Err.ensures.cause)

-- the delivery ended in a fault

pub settle-requires-clause-cause : goal.settle-requires-clause-cause
settle-requires-clause-cause g c = c.in-Err.ensures.stops c.requires.going

pub returns-clause-spends : goal.returns-clause-spends
returns-clause-spends g c =
    let is : c.gather_turn.new.lines.items ≡ with_feed (turn_text c.args.turn.now) =
    where-ok c.gather_turn.result (c.gather_turn.new.lines.items ≡ with_feed (turn_text c.args.turn.now)) c.gather_turn.ensures (sym c.is_err.ensures.value ∙ c.if-is_err.false) in
    let v : Kept = c.deliver.new.self in
    let events : List journal.Event = c.deliver.new.events in
    let older = (g.D.Disk.state c.args.disk.now).moments in
    let newer = (g.D.Disk.state c.deliver.new.disk).moments in
    let t0 = (g.O.Sink.state c.args.out.now).taken in
    let t1 = (g.O.Sink.state c.write_gathered.new.out).taken in
    let t2 = (g.O.Sink.state c.settle.new.out).taken in
    let f0 = (g.L.Link.state c.args.link.now).faults in
    let spends = subst (λ (es : List journal.Event). SpendsIn {T = Unit {0}} (Err c.in-Err.fault) c.args.node.now.signer v.signer older newer es events) c.new-events.ensures c.in-Err.ensures.spends in
    let line = goes-quiet c.args.node.now.signer c.args.node.now.signer older older t0 t1 f0 c.args.turn.now c.args.bytes.now c.gather_turn.new.lines.items (Ok c.in_ok-write_gathered-in-Err.field-0) c.requires.quiet is
    c.in_ok-write_gathered-in-Err.ensures.wrote refl refl in
    goes-trans _ _ _ _ _ _ _ _ _ _ _ _ _ line
    (goes-by (Err c.in-Err.fault) c.args.node.now.signer v.signer older newer events t1 t2 f0 _ c.settle.result spends c.settle.ensures.answers c.settle.ensures.spent)

pub returns-clause-serves : goal.returns-clause-serves
returns-clause-serves g c = λ s before r at.
    let is : c.gather_turn.new.lines.items ≡ with_feed (turn_text c.args.turn.now) =
    where-ok c.gather_turn.result (c.gather_turn.new.lines.items ≡ with_feed (turn_text c.args.turn.now)) c.gather_turn.ensures (sym c.is_err.ensures.value ∙ c.if-is_err.false) in
    let v : Kept = c.deliver.new.self in
    let events : List journal.Event = c.deliver.new.events in
    let out : List (ℕ × List ℕ) = c.deliver.new.out in
    let bytes : List ℕ = c.args.bytes.now in
    let turn : Turn = c.args.turn.now in
    let line : List ℕ = with_feed (turn_text turn) in
    let r1 : ServeState = writes line r in
    let l0 = (g.L.Link.state c.args.link.now).contents in
    let l1 = (g.L.Link.state c.settle.new.link).contents in
    let t0 = (g.O.Sink.state c.args.out.now).taken in
    let t1 = (g.O.Sink.state c.write_gathered.new.out).taken in
    let t2 = (g.O.Sink.state c.settle.new.out).taken in
    let older = (g.D.Disk.state c.args.disk.now).moments in
    let newer = (g.D.Disk.state c.deliver.new.disk).moments in
    let sent : ℕ = c.args.sent.now in
    let wrote = subst (λ (xs : List ℕ). WritesLine t0 t1 xs (Ok c.in_ok-write_gathered-in-Err.field-0)) is c.in_ok-write_gathered-in-Err.ensures.wrote in
    let at1 : Stands s before (standing c.args.node.now l0 t1 older sent) r1 = record { node = at.node; at = written before c.args.node.now l0 t0 t1 older sent line r (Ok c.in_ok-write_gathered-in-Err.field-0) at.at wrote } in
    let step = lent-none (λ (l : CallerBuffers). GivesCall s r.node (Delivers bytes) v l (lent events out) (Err c.in-Err.fault)) c.new-events.result c.new-outbox.result c.new-events.ensures c.new-outbox.ensures (c.in-Err.ensures.step s r.node at.node c.requires.going) in
    let spends = subst (λ (es : List journal.Event). SpendsIn {T = Unit {0}} (Err c.in-Err.fault) c.args.node.now.signer v.signer older newer es events) c.new-events.ensures c.in-Err.ensures.spends in
    quiet-serves s before (standing v l1 t2 newer c.settle.new.sent) r turn bytes c.settle.result c.requires.quiet
    (serves-call s before c.args.node.now v l0 l1 t1 t2 older newer sent c.settle.new.sent r1 (Delivers bytes) events out (Err c.in-Err.fault) c.settle.result at1 refl step c.in-Err.ensures.kept c.in-Err.ensures.ended spends
    c.settle.ensures.answers c.settle.ensures.extends (λ r2 at2. c.settle.ensures.settles before newer r2 at2))
