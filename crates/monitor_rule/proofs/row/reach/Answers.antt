use Rattle.std.proofs.Common.{List, get_or, refl, ap, ◌∙◌, length, length-append, ◌∷◌, [], arith}
use Rattle.std.proofs.lemmas.List.{get_or_append_left}
use Rattle.ring_order.specs.Ranks.{Ranked}
use Rattle.monitor_rule.proofs.row.reach.Goals as goal

pub growing-init : goal.growing-init
growing-init c = record { few = c.requires.few; more = omega arith; room = c.requires.room; same = λ k d lt. refl }

pub growing-preserved : goal.growing-preserved
growing-preserved c =
    let one : Ranked = c.new.result in
    let longer = length-append c.growing.ranks.items (one ∷ []) in
    record {
      few = omega (arith, ap length c.push_reserved.ensures.items, longer, c.growing-test.true);
      more = omega (arith, ap length c.push_reserved.ensures.items, longer, c.growing.invariant.more);
      room = omega (arith, c.push_reserved.ensures.capacity, c.growing.invariant.room);
      same = λ k d lt. ap (λ (xs : List Ranked). get_or xs k d) c.push_reserved.ensures.items ∙ get_or_append_left c.growing.ranks.items (one ∷ []) d k (omega (arith, lt, c.growing.invariant.more)) ∙ c.growing.invariant.same k d lt;
    }
