use Rattle.std.proofs.Common.{ℕ, List, subst, sym, take}
use Rattle.signer.proofs.OnwardLemmas.{front-trans}
use Rattle.node_core.specs.Told.{IsPrefix}
use Rattle.world.specs.Telling.{call_lines}
use Rattle.world.proofs.CourseLemmas.{front-began, front-more}
use Rattle.world.proofs.telling.add_events.Goals as goal

pub returns-in_err-add_event-clause-front : goal.returns-in_err-add_event-clause-front
returns-in_err-add_event-clause-front c =
    let old : List ℕ = c.args.out.now.items in
    let so_far : List ℕ = call_lines c.args.who c.args.before (take c.loop-event.event-index c.args.events.now) in
    let first : IsPrefix old c.loop-event.out.items = subst (IsPrefix old) (sym c.loop-event.invariant) (front-more old so_far) in
    front-trans old c.loop-event.out.items c.add_event.new.out.items first (front-began c.loop-event.out.items c.add_event.new.out.items c.in_err-add_event.ensures.refused)
