use Rattle.std.proofs.Common.{◌<◌, None, length, set, length-set, ◌∙◌, arith}
use Rattle.std.proofs.lemmas.List.Elements.{AllWithin-more_set}
use Rattle.monitor_rule.specs.Sorted.{IsRow}
use Rattle.monitor_rule.proofs.KeptLemmas.{found_left, left_more, rings_more}
use Rattle.monitor_rule.proofs.leave_each.Goals as goal

pub loop-index-preserved : goal.loop-index-preserved
loop-index-preserved c =
    let within : c.loop-index.index < length c.loop-index.rows = omega (arith, c.loop-index-test.true, c.loop-index.auto.rows) in
    record {
      done = AllWithin-more_set c.loop-index.rows c.loop-index.index c.leave.new.self within (IsRow (set c.args.slots.now c.args.member None)) c.loop-index.invariant.done c.leave.ensures.in_order;
      left = left_more (IsRow c.args.slots.now) c.loop-index.rows c.loop-index.index c.leave.new.self c.loop-index.invariant.left;
      rings = rings_more c.loop-index.rows c.args.rows.now c.loop-index.index c.leave.new.self c.index-rows-index.result c.leave.ensures.ring c.loop-index.invariant.rings;
      found = found_left c.args.slots.now c.args.places.now c.args.member c.places_on-found.result c.loop-index.rows c.loop-index.index c.leave.new.self c.loop-index.invariant.found;
      long = length-set c.loop-index.rows c.loop-index.index c.leave.new.self ∙ c.loop-index.invariant.long;
    }
