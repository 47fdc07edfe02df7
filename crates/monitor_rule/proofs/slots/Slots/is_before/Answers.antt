use Rattle.std.proofs.Common.{◌<◌, None, is_some, get_or, length, vec_capacity, sym, ap, ◌∙◌, arith}
use Rattle.ff_ids.specs.Rings.{is_below}
use Rattle.ff_ids.specs.Views.{key_at}
use Rattle.monitor_rule.proofs.OrderLemmas.{key_here}
use Rattle.monitor_rule.proofs.SlotLemmas.{Slots}
use Rattle.monitor_rule.proofs.SlotsLemmas.{found_hinted, found_whole, joined_at, reached, some_joined}
use Rattle.monitor_rule.proofs.slots.Slots.is_before.Goals as goal

pub key_before-requires-clause-a_placed : goal.key_before-requires-clause-a_placed
key_before-requires-clause-a_placed g c =
    let s = c.self.inside in
    let found = found_hinted s.hinted.items s.whole.items c.args.self.now (vec_capacity s.whole) c.get-index.result c.args.joined c.index.result.now c.in-Some.hints c.self.view_is c.self.invariant c.get-index.ensures.value c.get-index.ensures.range c.index.ensures c.in-Some.is in
    let long = joined_at (λ own. c.args.ring.0 < length own) c.args.self.now c.args.joined c.in-Some.hints c.requires.joined found in
    omega (arith, long, ap length c.places.ensures)

pub filled_at-own-requires-clause-filled : goal.filled_at-own-requires-clause-filled
filled_at-own-requires-clause-filled g c =
    let s = c.self.inside in
    let found = (found_whole s.hinted.items s.whole.items c.args.self.now (vec_capacity s.whole) c.get-index.result c.args.joined c.index.result.now c.self.view_is c.self.invariant c.get-index.ensures.value c.get-index.ensures.range c.index.ensures c.in-None.is ∙ ap (λ (xs : Slots). get_or xs c.get-index.result None) (sym c.deref.ensures.value)) in
    ap is_some (sym found) ∙ some_joined (λ own. c.args.ring.0 < length own) c.args.self.now c.args.joined c.requires.joined

pub filled_at-own-requires-clause-within : goal.filled_at-own-requires-clause-within
filled_at-own-requires-clause-within g c = reached c.deref.result.now c.get-index.result (filled_at-own-requires-clause-filled g c)

pub key_before-requires-in-None-clause-a_placed : goal.key_before-requires-in-None-clause-a_placed
key_before-requires-in-None-clause-a_placed g c =
    let s = c.self.inside in
    let found = (found_whole s.hinted.items s.whole.items c.args.self.now (vec_capacity s.whole) c.get-index.result c.args.joined c.index.result.now c.self.view_is c.self.invariant c.get-index.ensures.value c.get-index.ensures.range c.index.ensures c.in-None.is ∙ ap (λ (xs : Slots). get_or xs c.get-index.result None) (sym c.deref.ensures.value)) in
    joined_at (λ own. c.args.ring.0 < length own) c.args.self.now c.args.joined c.filled_at-own.result.now c.requires.joined (found ∙ c.filled_at-own.ensures)

pub returns-in-Some-clause-value : goal.returns-in-Some-clause-value
returns-in-Some-clause-value g c =
    let s = c.self.inside in
    let q = key_at c.args.ring.0 c.args.places.now c.args.member in
    let found = found_hinted s.hinted.items s.whole.items c.args.self.now (vec_capacity s.whole) c.get-index.result c.args.joined c.index.result.now c.in-Some.hints c.self.view_is c.self.invariant c.get-index.ensures.value c.get-index.ensures.range c.index.ensures c.in-Some.is in
    c.key_before.ensures.value ∙ ap (λ p. is_below (key_at c.args.ring.0 p c.args.joined) q) c.places.ensures ∙ ap (λ k. is_below k q) (sym (key_here c.args.self.now c.args.ring.0 c.args.joined c.in-Some.hints found))

pub returns-in-None-clause-value : goal.returns-in-None-clause-value
returns-in-None-clause-value g c =
    let s = c.self.inside in
    let q = key_at c.args.ring.0 c.args.places.now c.args.member in
    let found = (found_whole s.hinted.items s.whole.items c.args.self.now (vec_capacity s.whole) c.get-index.result c.args.joined c.index.result.now c.self.view_is c.self.invariant c.get-index.ensures.value c.get-index.ensures.range c.index.ensures c.in-None.is ∙ ap (λ (xs : Slots). get_or xs c.get-index.result None) (sym c.deref.ensures.value)) in
    c.key_before-in-None.ensures.value ∙ ap (λ k. is_below k q) (sym (key_here c.args.self.now c.args.ring.0 c.args.joined c.filled_at-own.result.now (found ∙ c.filled_at-own.ensures)))
