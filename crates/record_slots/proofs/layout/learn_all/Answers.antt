use Rattle.std.proofs.Common.{ap, ◌∙◌, set, get_or, arith, ◌<◌, length}
use Rattle.std.specs.Option.{option_map}
use Rattle.std.proofs.lemmas.List.{get_or_default}
use Rattle.std.proofs.lemmas.List.Edits.{map_over_more}
use Rattle.record_slots.proofs.layout.learn_all.Goals as goal

pub loop-slot-preserved : goal.loop-slot-preserved
loop-slot-preserved g c =
    let i = c.loop-slot.slot-index in
    let slots = c.loop-slot.slots in
    let o = get_or slots i c.slot-item.result in
    let below : i < length slots = omega (arith, c.loop-slot-test.true, c.loop-slot.auto.slots) in
    ap (set slots i) c.learn_in.ensures ∙ map_over_more (option_map (g.R.Learns.learned c.args.news.now)) c.args.slots.now slots i o c.loop-slot-test.true c.loop-slot.invariant (get_or_default slots i c.slot-item.result o below)
