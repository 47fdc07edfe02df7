use Rattle.std.proofs.Common.{Option, Some, Ok, ◌==◌, ◌∙◌, ap, refl, subst, ℕ}
use Rattle.edges.specs.UdpLinks.{HandsNext, HandsNothing}
use Rattle.edges.proofs.HandLemmas.{hands-later, hands-next, hands-none, nothing-then, reaches-none, so-far}
use Rattle.edges.proofs.LookLemmas.{reaches-refl, reaches-trans}
use Rattle.edges.proofs.udp_link.receive.Goals as goal

pub returns-in_err-count-clause-hands : goal.returns-in_err-count-clause-hands
returns-in_err-count-clause-hands g c =
    let so =
    so-far c.args.bound.now.queues c.next_at_once.new.self.queues c.loop-look.bound.queues c.now-start.result (c.now-start.result == c.args.bound.now.emptied) c.args.buf.now c.next_at_once.new.buf c.loop-look.buf
    c.next_at_once.result c.in_default.is c.next_at_once.ensures.handed c.next_at_once.ensures.lies c.next_at_once.ensures.after c.loop-look.invariant.reaches c.loop-look.invariant.same in
    hands-later c.args.bound.now.queues c.loop-look.bound.queues c.next_emptied.new.self.queues c.args.buf.now c.loop-look.buf c.next_emptied.new.buf c.from_residual.result so.reached so.same
    (hands-none c.loop-look.bound.queues c.next_emptied.new.self.queues c.loop-look.buf c.next_emptied.new.buf c.from_residual.result c.from_residual.ensures.0 c.in_err-count.ensures.hands)

pub returns-in-Some-2-clause-hands : goal.returns-in-Some-2-clause-hands
returns-in-Some-2-clause-hands g c =
    let so =
    so-far c.args.bound.now.queues c.next_at_once.new.self.queues c.loop-look.bound.queues c.now-start.result (c.now-start.result == c.args.bound.now.emptied) c.args.buf.now c.next_at_once.new.buf c.loop-look.buf
    c.next_at_once.result c.in_default.is c.next_at_once.ensures.handed c.next_at_once.ensures.lies c.next_at_once.ensures.after c.loop-look.invariant.reaches c.loop-look.invariant.same in
    let P : Option ℕ → Type 0 = λ x. HandsNext c.loop-look.bound.queues c.next_emptied.new.self.queues c.loop-look.buf c.next_emptied.new.buf (Ok x) in
    hands-later c.args.bound.now.queues c.loop-look.bound.queues c.next_emptied.new.self.queues c.args.buf.now c.loop-look.buf c.next_emptied.new.buf (Ok (Some c.in-Some-2.count)) so.reached so.same
    (subst P c.in-Some-2.is c.in_ok-count.ensures.hands)

pub returns-in_err-wait-clause-hands : goal.returns-in_err-wait-clause-hands
returns-in_err-wait-clause-hands g c =
    let so =
    so-far c.args.bound.now.queues c.next_at_once.new.self.queues c.loop-look.bound.queues c.now-start.result (c.now-start.result == c.args.bound.now.emptied) c.args.buf.now c.next_at_once.new.buf c.loop-look.buf
    c.next_at_once.result c.in_default.is c.next_at_once.ensures.handed c.next_at_once.ensures.lies c.next_at_once.ensures.after c.loop-look.invariant.reaches c.loop-look.invariant.same in
    let none =
    reaches-none c.loop-look.bound.queues c.next_emptied.new.self.queues c.loop-look.buf c.next_emptied.new.buf (Ok c.in_ok-count.field-0) (ap Ok c.in_default-2.is) c.in_ok-count.ensures.hands in
    let waited : HandsNothing c.next_emptied.new.self.queues c.wait.new.self.queues c.next_emptied.new.buf c.next_emptied.new.buf = record { reached = c.wait.ensures.reaches; same = refl } in
    hands-none c.args.bound.now.queues c.wait.new.self.queues c.args.buf.now c.next_emptied.new.buf c.from_residual-in_err-wait.result c.from_residual-in_err-wait.ensures.0
    (nothing-then c.args.bound.now.queues c.loop-look.bound.queues c.wait.new.self.queues c.args.buf.now c.loop-look.buf c.next_emptied.new.buf so
    (nothing-then c.loop-look.bound.queues c.next_emptied.new.self.queues c.wait.new.self.queues c.loop-look.buf c.next_emptied.new.buf c.next_emptied.new.buf none waited))

pub returns-in-Some-next-clause-hands : goal.returns-in-Some-next-clause-hands
returns-in-Some-next-clause-hands g c =
    let so =
    so-far c.args.bound.now.queues c.next_at_once.new.self.queues c.loop-look.bound.queues c.now-start.result (c.now-start.result == c.args.bound.now.emptied) c.args.buf.now c.next_at_once.new.buf c.loop-look.buf
    c.next_at_once.result c.in_default.is c.next_at_once.ensures.handed c.next_at_once.ensures.lies c.next_at_once.ensures.after c.loop-look.invariant.reaches c.loop-look.invariant.same in
    let none =
    reaches-none c.loop-look.bound.queues c.next_emptied.new.self.queues c.loop-look.buf c.next_emptied.new.buf (Ok c.in_ok-count.field-0) (ap Ok c.in_default-2.is) c.in_ok-count.ensures.hands in
    let asked =
    hands-next c.wait.new.self.queues c.wait.new.self.queues c.next.new.self c.now-now.result c.next_emptied.new.buf c.next.new.buf c.next.result
    (reaches-refl c.wait.new.self.queues) c.next.ensures.handed c.next.ensures.filled c.next.ensures.after in
    let P : Option ℕ → Type 0 = λ x. HandsNext c.wait.new.self.queues c.next.new.self c.next_emptied.new.buf c.next.new.buf (Ok x) in
    hands-later c.args.bound.now.queues c.wait.new.self.queues c.next.new.self c.args.buf.now c.next_emptied.new.buf c.next.new.buf (Ok (Some c.in-Some-next.count))
    (reaches-trans c.args.bound.now.queues c.loop-look.bound.queues c.wait.new.self.queues so.reached (reaches-trans c.loop-look.bound.queues c.next_emptied.new.self.queues c.wait.new.self.queues none.reached c.wait.ensures.reaches))
    (none.same ∙ so.same) (subst P c.in-Some-next.is asked)

pub loop-look-preserved : goal.loop-look-preserved
loop-look-preserved g c =
    let none =
    reaches-none c.loop-look.bound.queues c.next_emptied.new.self.queues c.loop-look.buf c.next_emptied.new.buf (Ok c.in_ok-count.field-0) (ap Ok c.in_default-2.is) c.in_ok-count.ensures.hands in
    let waited : HandsNothing c.next_emptied.new.self.queues c.wait.new.self.queues c.next_emptied.new.buf c.next_emptied.new.buf = record { reached = c.wait.ensures.reaches; same = refl } in
    let asked =
    hands-next c.wait.new.self.queues c.wait.new.self.queues c.next.new.self c.now-now.result c.next_emptied.new.buf c.next.new.buf c.next.result
    (reaches-refl c.wait.new.self.queues) c.next.ensures.handed c.next.ensures.filled c.next.ensures.after in
    let later = reaches-none c.wait.new.self.queues c.next.new.self c.next_emptied.new.buf c.next.new.buf (Ok c.next.result) (ap Ok c.in_default-next.is) asked in
    let begun : HandsNothing c.next_at_once.new.self.queues c.loop-look.bound.queues c.next_at_once.new.buf c.loop-look.buf = record { reached = c.loop-look.invariant.reaches; same = c.loop-look.invariant.same } in
    let all =
    nothing-then c.next_at_once.new.self.queues c.loop-look.bound.queues c.next.new.self c.next_at_once.new.buf c.loop-look.buf c.next.new.buf begun
    (nothing-then c.loop-look.bound.queues c.next_emptied.new.self.queues c.next.new.self c.loop-look.buf c.next_emptied.new.buf c.next.new.buf none
    (nothing-then c.next_emptied.new.self.queues c.wait.new.self.queues c.next.new.self c.next_emptied.new.buf c.next_emptied.new.buf c.next.new.buf waited later)) in
    record { reaches = all.reached; same = all.same }

pub returns-after-loop-look-clause-hands : goal.returns-after-loop-look-clause-hands
returns-after-loop-look-clause-hands g c =
    let so =
    so-far c.args.bound.now.queues c.next_at_once.new.self.queues c.loop-look.bound.queues c.now-start.result (c.now-start.result == c.args.bound.now.emptied) c.args.buf.now c.next_at_once.new.buf c.loop-look.buf
    c.next_at_once.result c.in_default.is c.next_at_once.ensures.handed c.next_at_once.ensures.lies c.next_at_once.ensures.after c.loop-look.invariant.reaches c.loop-look.invariant.same in
    so

pub returns-then-waited-ge-PATIENCE-clause-hands :
    goal.returns-then-waited-ge-PATIENCE-clause-hands
returns-then-waited-ge-PATIENCE-clause-hands g c =
    let so =
    so-far c.args.bound.now.queues c.next_at_once.new.self.queues c.loop-look.bound.queues c.now-start.result (c.now-start.result == c.args.bound.now.emptied) c.args.buf.now c.next_at_once.new.buf c.loop-look.buf
    c.next_at_once.result c.in_default.is c.next_at_once.ensures.handed c.next_at_once.ensures.lies c.next_at_once.ensures.after c.loop-look.invariant.reaches c.loop-look.invariant.same in
    let none =
    reaches-none c.loop-look.bound.queues c.next_emptied.new.self.queues c.loop-look.buf c.next_emptied.new.buf (Ok c.in_ok-count.field-0) (ap Ok c.in_default-2.is) c.in_ok-count.ensures.hands in
    nothing-then c.args.bound.now.queues c.loop-look.bound.queues c.next_emptied.new.self.queues c.args.buf.now c.loop-look.buf c.next_emptied.new.buf so none
