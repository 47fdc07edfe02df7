use Rattle.std.proofs.Common.{cond, refl, ap, sym, ◌∙◌, subst, arith, ◌<◌, length}
use Rattle.std.specs.Option.{IsSomeAnd}
use Rattle.ff_ids.specs.Rings.{is_below}
use Rattle.ff_ids.specs.Views.{key_at}
use Rattle.ring_order.specs.Ranks.{Ranked}
use Rattle.monitor_rule.specs.Sorted.{RingOrder, places_at, key_in}
use Rattle.monitor_rule.proofs.OrderLemmas.{rank_here, rank_there, tells_here}
use Rattle.monitor_rule.proofs.row.Row.is_number_behind.Goals as goal

pub index-requires : goal.index-requires
index-requires g c =
    let row = c.args.self.now in
    let some = subst (λ n. IsSomeAnd (places_at c.args.slots.now n) (λ p. row.ring < length p)) (sym c.requires.at) (c.requires.in_order.joined c.args.index c.requires.within) in
    omega (arith, rank_there c.args.slots.now c.self.inside.ranks.items row c.args.other c.args.other (ap (λ (r : RingOrder). r.ranks) c.self.view_is) refl c.requires.in_order some)

pub precedes-requires-clause-own_tells : goal.precedes-requires-clause-own_tells
precedes-requires-clause-own_tells g c =
    let row = c.args.self.now in
    let some = subst (λ n. IsSomeAnd (places_at c.args.slots.now n) (λ p. row.ring < length p)) (sym c.requires.at) (c.requires.in_order.joined c.args.index c.requires.within) in
    let rank = rank_here c.args.slots.now c.self.inside.ranks.items row c.args.other c.args.other c.index.result.now (ap (λ (r : RingOrder). r.ranks) c.self.view_is) refl c.index.ensures c.requires.in_order some in
    tells_here c.args.slots.now row c.args.other c.index.result.now.hint c.requires.in_order c.requires.told (ap (λ (r : Ranked). r.hint) rank) some

pub returns-clause-value : goal.returns-clause-value
returns-clause-value g c =
    let row = c.args.self.now in
    let q = key_at row.ring c.args.places.now c.args.member in
    let some = subst (λ n. IsSomeAnd (places_at c.args.slots.now n) (λ p. row.ring < length p)) (sym c.requires.at) (c.requires.in_order.joined c.args.index c.requires.within) in
    let rank = rank_here c.args.slots.now c.self.inside.ranks.items row c.args.other c.args.other c.index.result.now (ap (λ (r : RingOrder). r.ranks) c.self.view_is) refl c.index.ensures c.requires.in_order some in
    c.precedes.ensures.value (key_in c.args.slots.now row.ring c.args.other) q (ap (λ (r : Ranked). r.hint) rank) (ap (λ (r : Ranked). r.number) rank) (ap (λ (r : Ranked). r.hint) c.new-own.ensures ∙ c.requires.hinted) (ap (λ (r : Ranked). r.number) c.new-own.ensures)
    ∙ ap (λ n. cond (is_below (key_in c.args.slots.now row.ring n) q) 1 0) c.requires.at
