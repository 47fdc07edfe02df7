use Rattle.std.proofs.Common.{◌≡◌, ◌∙◌, ◌<◌, sym, ap, arith}
use Rattle.ff_ids.specs.declared.TheConstants.{MEMBERS}
use Rattle.ff_ids.specs.declared.Group.{Group}
use Rattle.ff_ids.specs.Masks.{ring_count}
use Rattle.detector.specs.Successors.{watched_below}
use Rattle.detector.proofs.WatchLemmas.{watched-successors, watched-nobody}
use Rattle.detector.proofs.watch.watch_all.Goals as goal

pub returns-then-not-in_view-clause-items : goal.returns-then-not-in_view-clause-items
returns-then-not-in_view-clause-items c = λ s held.
    c.clear.ensures.items ∙ sym (watched-nobody c.args.membership.now.group.t s c.args.me (sym (c.in_view.ensures s held) ∙ c.if-not-in_view.true))

pub returns-clause-items : goal.returns-clause-items
returns-clause-items c = λ s held.
    let t = ap (λ (g : Group). g.t) c.group.ensures in
    let all : c.loop-ring.ring ≡ ring_count c.args.membership.now.group.t = omega (arith, t, c.loop-ring-test.false, c.loop-ring.auto.ring-end) in
    let below : c.args.me < MEMBERS = omega (arith, c.get-number.ensures.value, c.get-number.ensures.range) in
    c.loop-ring.invariant.items s held ∙ ap (watched_below s c.args.me) all ∙ watched-successors c.args.membership.now.group.t s c.args.me below (sym (c.in_view.ensures s held) ∙ c.if-not-in_view.false)
