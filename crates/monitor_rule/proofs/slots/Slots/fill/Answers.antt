use Rattle.std.proofs.Common.{ℕ, List, Some, None, set, get_or, ap, ◌∙◌, arith}
use Rattle.monitor_rule.proofs.SlotLemmas.{Slots}
use Rattle.monitor_rule.proofs.SlotsLemmas.{slots_of-hinted, slots_of-whole}
use Rattle.monitor_rule.proofs.slots.Slots.fill.Goals as goal

pub returns-in-Some-clause-value : goal.returns-in-Some-clause-value
returns-in-Some-clause-value c =
    let s = c.self.inside in
    let has = c.self.invariant in
    slots_of-hinted s.hinted.items s.whole.items c.get-index.result c.in-Some.hints (omega (arith, has.few, has.long)) (omega (arith, c.get-index.ensures.value, c.get-index.ensures.range, has.long))
    ∙ ap (λ (xs : Slots). set xs c.get-index.result (Some c.in-Some.hints)) c.self.view_is ∙ ap (λ n. set c.args.self.now n (Some c.in-Some.hints)) c.get-index.ensures.value
    ∙ ap (λ (p : List (List ℕ)). set c.args.self.now c.args.member (Some p)) c.in-Some.ensures

pub returns-in-None-clause-value : goal.returns-in-None-clause-value
returns-in-None-clause-value c =
    let s = c.self.inside in
    let has = c.self.invariant in
    let free = ap (λ (xs : Slots). get_or xs c.get-index.result None) c.self.view_is ∙ ap (λ n. get_or c.args.self.now n None) c.get-index.ensures.value ∙ c.requires.free in
    slots_of-whole s.hinted.items s.whole.items c.reach.new.slots.items c.get-index.result c.args.places.now (omega (arith, has.few, has.long)) (omega (arith, c.reach.ensures.few, has.long)) c.reach.ensures.reached c.reach.ensures.same free
    ∙ ap (λ (xs : Slots). set xs c.get-index.result (Some c.args.places.now)) c.self.view_is ∙ ap (λ n. set c.args.self.now n (Some c.args.places.now)) c.get-index.ensures.value
