use Rattle.std.proofs.Common.{◌<◌, length, length-set, sym, ◌∙◌, arith}
use Rattle.std.proofs.lemmas.List.{get_or_default}
use Rattle.monitor_rule.proofs.KeptLemmas.{found_more}
use Rattle.monitor_rule.proofs.places_on.Goals as goal

pub loop-index-preserved : goal.loop-index-preserved
loop-index-preserved c =
    let within : c.loop-index.index < length c.loop-index.found = omega (arith, c.loop-index.invariant.0, c.loop-index-test.true, c.requires.few) in (
      length-set c.loop-index.found c.loop-index.index c.place_of.result ∙ c.loop-index.invariant.0,
      found_more c.args.slots.now c.args.places.now c.args.member c.loop-index.found c.args.rows.now c.loop-index.index c.place_of.result c.index-rows-index.result c.loop-index.invariant.1 (λ d. get_or_default c.args.rows.now c.loop-index.index d c.index-rows-index.result c.loop-index-test.true ∙ sym c.index-rows-index.is) within c.place_of.ensures,
    )
