use Rattle.std.proofs.Common.{◌≡◌, ◌<◌, length, ap, ◌∙◌, arith}
use Rattle.std.proofs.lemmas.Bool.Decides.{nat_tests}
use Rattle.ff_ids.specs.Views.{key_at}
use Rattle.monitor_rule.specs.Sorted.{RingOrder}
use Rattle.monitor_rule.proofs.NeighbourLemmas.{nearest_before-found, nearest_before-nobody, first_other, back}
use Rattle.monitor_rule.proofs.row.Row.before.Goals as goal

pub returns-then-is_empty-clause-value : goal.returns-then-is_empty-clause-value
returns-then-is_empty-clause-value g c =
    let row = c.args.self.now in
    let none : length row.order ≡ 0 = grind (arith, nat_tests, ap (λ (r : RingOrder). length r.order) c.self.view_is, c.self.inside.order.ok.0) in
    nearest_before-nobody c.args.slots.now row (key_at row.ring c.args.places.now c.args.member) c.requires.in_order none

pub returns-clause-value : goal.returns-clause-value
returns-clause-value g c =
    let row = c.args.self.now in
    let n = length row.order in
    let m = c.args.member in
    let place = c.search-place.result in
    let some : 0 < n = omega (arith, c.back-first.ensures.range) in
    let first : c.back-first.result ≡ back n place = c.back-first.ensures.value in
    let second : c.back.result ≡ back n (back n place) = c.back.ensures.value ∙ ap (λ i. back n i) first in
    c.first_other.ensures ∙ ap (λ i. first_other row.order i c.back.result m) first ∙ ap (λ i. first_other row.order (back n place) i m) second ∙ nearest_before-found c.args.slots.now row (key_at row.ring c.args.places.now m) place c.requires.in_order c.search-place.ensures.place some
