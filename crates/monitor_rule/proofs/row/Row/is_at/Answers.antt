use Rattle.std.proofs.Common.{◌≡◌, ◌<◌, true, length, ap, sym, ◌∙◌, subst, arith, rules}
use Rattle.std.proofs.lemmas.Bool.{eqb-true}
use Rattle.std.specs.Option.{IsSomeAnd}
use Rattle.ff_ids.specs.Views.{key_at}
use Rattle.ring_order.specs.Ranks.{Ranked}
use Rattle.monitor_rule.specs.Sorted.{RingOrder, places_at, hint_on}
use Rattle.monitor_rule.proofs.FoundLemmas.{found-here, same-key}
use Rattle.monitor_rule.proofs.OrderLemmas.{number_here, rank_here, rank_there, tells_here}
use Rattle.monitor_rule.proofs.row.Row.is_at.Goals as goal

pub index-requires-then-eq : goal.index-requires-then-eq
index-requires-then-eq c =
    let slots = c.args.slots.now in
    let row = c.args.self.now in
    let other = c.index.result.now in
    let order = ap (λ (r : RingOrder). r.order) c.self.view_is in
    let within : c.args.index < length row.order = omega (arith, ap length order, c.len.ensures, c.if-len-index.false) in
    let here = number_here c.self.inside.order.items row c.args.index other order within c.index.ensures in
    let some = subst (λ n. IsSomeAnd (places_at slots n) (λ p. row.ring < length p)) here (c.requires.in_order.joined c.args.index within) in
    omega (arith, c.self.inside.ranks.ok.0, rank_there slots c.self.inside.ranks.items row c.get.result other (ap (λ (r : RingOrder). r.ranks) c.self.view_is) c.get.ensures.value c.requires.in_order some)

pub returns-then-eq : goal.returns-then-eq
returns-then-eq c = λ yes.
    let slots = c.args.slots.now in
    let row = c.args.self.now in
    let other = c.index.result.now in
    let order = ap (λ (r : RingOrder). r.order) c.self.view_is in
    let within : c.args.index < length row.order = omega (arith, ap length order, c.len.ensures, c.if-len-index.false) in
    let here = number_here c.self.inside.order.items row c.args.index other order within c.index.ensures in
    let some = subst (λ n. IsSomeAnd (places_at slots n) (λ p. row.ring < length p)) here (c.requires.in_order.joined c.args.index within) in
    let rank = rank_here slots c.self.inside.ranks.items row c.get.result other c.index-then-eq.result.now (ap (λ (r : RingOrder). r.ranks) c.self.view_is) c.get.ensures.value c.index-then-eq.ensures c.requires.in_order some in
    let own = c.hint.ensures ∙ ap (λ (r : Ranked). r.hint) rank in
    let told : row.told ≡ true = sym (ap (λ (r : RingOrder). r.told) c.self.view_is) ∙ search (rules, c.if-not-self.false) in
    let is : other ≡ c.args.member = eqb-true other c.args.member (sym c.if-eq.ensures) in
    let hinted = eqb-true c.hint.result c.hint-then-eq.result yes ∙ c.hint-then-eq.ensures ∙ ap (λ (r : RingOrder). hint_on r.ring c.args.places.now) c.self.view_is in
    let tells = tells_here slots row other c.hint.result c.requires.in_order told own some in
    found-here slots row (key_at row.ring c.args.places.now c.args.member) c.args.index c.requires.in_order within (same-key slots row c.args.places.now c.args.member other c.hint.result c.args.index here is own tells hinted)
