use Rattle.std.proofs.Common.{◌≡◌, is_ok, vec_capacity, arith}
use Rattle.std.specs.List.Sorted.{IsNonDecreasing}
use Rattle.monitor_rule.specs.Listed.{with_number}
use Rattle.monitor_rule.proofs.NumberLemmas.{put_in}
use Rattle.monitor_rule.proofs.numbers.Numbers.put.Goals as goal

is_put : (c : goal.After-insert) → (c.insert.new.self.items ≡ with_number c.args.number c.args.self.now) × IsNonDecreasing c.insert.new.self.items
is_put c =
    put_in c.args.self.now c.self.inside.list.items c.deref.result.now c.insert.new.self.items c.args.number c.place_among-place.result (vec_capacity c.self.inside.list) (is_ok c.insert.result) c.self.view_is c.deref.ensures.value c.place_among-place.ensures.range c.place_among-place.ensures.place c.self.invariant.0 c.requires c.self.invariant.1 c.insert.ensures.items (λ h. c.insert.ensures.succeeds (omega (arith, h, c.self.inside.list.ok.0)))

pub invariant_of-self : goal.invariant_of-self
invariant_of-self c = ((is_put c).1, omega (arith, c.self.invariant.1, c.insert.ensures.capacity))

pub returns : goal.returns
returns c = (is_put c).0
