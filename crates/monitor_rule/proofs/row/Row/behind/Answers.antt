use Rattle.std.proofs.Common.{◌≡◌, ◌+◌, ◌<◌, length, sym, ap, ◌∙◌, arith}
use Rattle.std.proofs.lemmas.Bool.Decides.{nat_tests}
use Rattle.monitor_rule.specs.Sorted.{RingOrder}
use Rattle.monitor_rule.proofs.NeighbourLemmas.{nearest_after-found, nearest_after-nobody, first_other, wrapped}
use Rattle.monitor_rule.proofs.row.Row.behind.Goals as goal

pub returns-then-is_empty : goal.returns-then-is_empty
returns-then-is_empty c = λ slots q in_order between named.
    let row = c.args.self.now in
    let none : length row.order ≡ 0 = grind (arith, nat_tests, ap (λ (r : RingOrder). length r.order) c.self.view_is, c.self.inside.order.ok.0) in
    nearest_after-nobody slots row q in_order none

pub returns : goal.returns
returns c = λ slots q in_order between named.
    let row = c.args.self.now in
    let n = length row.order in
    let m = c.args.member in
    let place = c.args.place in
    let some : 0 < n = omega (arith, c.round-first.ensures.range) in
    let first : c.round-first.result ≡ wrapped n place = c.round-first.ensures.value in
    let second : c.round.result ≡ wrapped n (wrapped n place + 1) = c.round.ensures.value ∙ ap (λ i. wrapped n (i + 1)) first in
    c.first_other.ensures ∙ ap (λ i. first_other row.order i c.round.result m) first ∙ ap (λ i. first_other row.order (wrapped n place) i m) second
    ∙ ap (first_other row.order (wrapped n place) (wrapped n (wrapped n place + 1))) (sym named) ∙ nearest_after-found slots row q place in_order between some
