use Rattle.std.proofs.Common.{arith}
use Rattle.monitor_rule.proofs.NumberLemmas.{taken_within, taken_out}
use Rattle.monitor_rule.proofs.numbers.Numbers.take_out.Goals as goal

pub remove-requires : goal.remove-requires
remove-requires c =
    let within = taken_within c.args.self.now c.self.inside.list.items c.deref.result.now c.args.number c.place_among-place.result c.self.view_is c.deref.ensures.value c.place_among-place.ensures.place c.requires in
    omega (arith, within, c.self.inside.list.ok.0)

pub invariant_of-self : goal.invariant_of-self
invariant_of-self c =
    ((taken_out c.args.self.now c.self.inside.list.items c.deref.result.now c.remove.new.self.items c.args.number c.place_among-place.result c.self.view_is c.deref.ensures.value c.place_among-place.ensures.place c.self.invariant.0 c.requires c.remove.ensures.items).1, omega (arith, c.self.invariant.1, c.remove.ensures.capacity))

pub returns : goal.returns
returns c =
    (taken_out c.args.self.now c.self.inside.list.items c.deref.result.now c.remove.new.self.items c.args.number c.place_among-place.result c.self.view_is c.deref.ensures.value c.place_among-place.ensures.place c.self.invariant.0 c.requires c.remove.ensures.items).0
