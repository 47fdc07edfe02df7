use Rattle.std.proofs.Common.{set, ap, ◌∙◌, sym}
use Rattle.std.proofs.lemmas.List.Edits.{map_over_more}
use Rattle.monitor_rule.specs.Sorted.{emptied}
use Rattle.monitor_rule.proofs.clear_each.Goals as goal

pub loop-row-preserved : goal.loop-row-preserved
loop-row-preserved c =
    let i = c.loop-row.row-index in
    let now = c.clear.ensures ∙ ap emptied (sym c.row-item.is) in
    ap (set c.loop-row.rows i) now ∙ map_over_more emptied c.args.rows.now c.loop-row.rows i c.row-item.result c.loop-row-test.true c.loop-row.invariant c.row-item.is
