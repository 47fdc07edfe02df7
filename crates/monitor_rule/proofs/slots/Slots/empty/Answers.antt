use Rattle.std.proofs.Common.{None, set, ap, ◌∙◌, arith}
use Rattle.monitor_rule.proofs.SlotLemmas.{Slots}
use Rattle.monitor_rule.proofs.SlotsLemmas.{slots_of-emptied, slots_of-emptied_past}
use Rattle.monitor_rule.proofs.slots.Slots.empty.Goals as goal

pub returns-then-index-len-clause-value : goal.returns-then-index-len-clause-value
returns-then-index-len-clause-value c =
    let s = c.self.inside in
    let has = c.self.invariant in
    slots_of-emptied s.hinted.items s.whole.items c.get-index.result (omega (arith, has.few, has.long)) (omega (arith, c.get-index.ensures.value, c.get-index.ensures.range, has.long)) (omega (arith, c.if-index-len.true, c.len.ensures, s.whole.ok.0))
    ∙ ap (λ (xs : Slots). set xs c.get-index.result None) c.self.view_is ∙ ap (λ n. set c.args.self.now n None) c.get-index.ensures.value

pub returns-else-index-len-clause-value : goal.returns-else-index-len-clause-value
returns-else-index-len-clause-value c =
    let s = c.self.inside in
    let has = c.self.invariant in
    slots_of-emptied_past s.hinted.items s.whole.items c.get-index.result (omega (arith, has.few, has.long)) (omega (arith, c.get-index.ensures.value, c.get-index.ensures.range, has.long)) (omega (arith, c.if-index-len.false, c.len.ensures, s.whole.ok.0))
    ∙ ap (λ (xs : Slots). set xs c.get-index.result None) c.self.view_is ∙ ap (λ n. set c.args.self.now n None) c.get-index.ensures.value
