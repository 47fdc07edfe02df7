use Rattle.std.proofs.Common.{◌<◌, Some, length, set, length-set, ◌∙◌, arith}
use Rattle.std.proofs.lemmas.List.Elements.{AllWithin-more_set, All-set}
use Rattle.monitor_rule.specs.Sorted.{RingOrder, IsRow}
use Rattle.monitor_rule.proofs.KeptLemmas.{found_left, left_more, rings_more}
use Rattle.monitor_rule.proofs.join_each.Goals as goal

pub loop-index-preserved : goal.loop-index-preserved
loop-index-preserved c =
    let within : c.loop-index.index < length c.loop-index.rows = omega (arith, c.loop-index-test.true, c.loop-index.auto.rows) in
    record {
      done = AllWithin-more_set c.loop-index.rows c.loop-index.index c.join.new.self within (IsRow (set c.args.slots.now c.args.member (Some c.args.places.now))) c.loop-index.invariant.done c.join.ensures.in_order;
      left = left_more (IsRow c.args.slots.now) c.loop-index.rows c.loop-index.index c.join.new.self c.loop-index.invariant.left;
      placed = All-set (λ (r : RingOrder). r.ring < length c.args.places.now) c.loop-index.rows c.loop-index.index c.join.new.self (omega (arith, c.join.ensures.ring, c.loop-index.invariant.placed c.loop-index.index c.index-rows-index.result within)) c.loop-index.invariant.placed;
      rings = rings_more c.loop-index.rows c.args.rows.now c.loop-index.index c.join.new.self c.index-rows-index.result c.join.ensures.ring c.loop-index.invariant.rings;
      found = found_left c.args.slots.now c.args.places.now c.args.member c.places_on-found.result c.loop-index.rows c.loop-index.index c.join.new.self c.loop-index.invariant.found;
      long = length-set c.loop-index.rows c.loop-index.index c.join.new.self ∙ c.loop-index.invariant.long;
    }
