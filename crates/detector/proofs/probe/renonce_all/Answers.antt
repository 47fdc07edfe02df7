use Rattle.std.proofs.Common.{ap, ◌∙◌, set, sym}
use Rattle.std.proofs.lemmas.List.Edits.{map_over_more}
use Rattle.detector.specs.Slots.{nonced_where}
use Rattle.detector.proofs.probe.renonce_all.Goals as goal

pub loop-probe-preserved : goal.loop-probe-preserved
loop-probe-preserved c =
    let i = c.loop-probe.probe-index in
    let f = nonced_where c.args.to c.args.nonce in
    let now = c.renonce_to.ensures ∙ ap f (sym c.probe-item.is) in
    ap (set c.loop-probe.probes i) now ∙ map_over_more f c.args.probes.now c.loop-probe.probes i c.probe-item.result c.loop-probe-test.true c.loop-probe.invariant c.probe-item.is
