use Rattle.std.proofs.Common.{◌≤◌, length, map, ap, sym, subst, ◌∙◌, arith}
use Rattle.std.specs.Option.{option_map}
use Rattle.std.proofs.lemmas.List.{length-map, with_items_is}
use Rattle.record_slots.specs.declared.layout.TheConstants.{SLOTS}
use Rattle.record_slots.specs.Held.{changed}
use Rattle.record_slots.specs.Slots.{held_in, IsReady}
use Rattle.record_slots.proofs.SlotLemmas.{held_in-changed}
use Rattle.record_slots.proofs.ReadyLemmas.{ready-changed}
use Rattle.record_slots.proofs.Slots.learn.Goals as goal

pub invariant_of-self : goal.invariant_of-self
invariant_of-self g c =
    let slots = c.self.inside.slots.items in
    let f = g.R.Learns.learned c.args.news.now in
    let written = with_items_is c.self.inside.slots c.learn_all.new.slots (omega (arith, c.learn_all.auto.slots, c.deref_mut.ensures.len)) in
    let made = written ∙ c.learn_all.ensures ∙ ap (map (option_map f)) c.deref_mut.ensures.value in
    let few : length (map (option_map f) slots) ≤ SLOTS = omega (arith, length-map slots (option_map f), c.self.invariant.0.slots_few) in (
      subst (λ ss. IsReady g.R.Slotted.body ss c.self.inside.entries.items) (sym made) (ready-changed g.R.Slotted.body f slots c.self.inside.entries.items (g.met.R.Learns.same_body c.args.news.now) few c.self.invariant.0),
      c.self.invariant.1,
    )

pub returns : goal.returns
returns g c =
    let slots = c.self.inside.slots.items in
    let f = g.R.Learns.learned c.args.news.now in
    let written = with_items_is c.self.inside.slots c.learn_all.new.slots (omega (arith, c.learn_all.auto.slots, c.deref_mut.ensures.len)) in
    let made = written ∙ c.learn_all.ensures ∙ ap (map (option_map f)) c.deref_mut.ensures.value in
    let few : length (map (option_map f) slots) ≤ SLOTS = omega (arith, length-map slots (option_map f), c.self.invariant.0.slots_few) in
    ap held_in made ∙ held_in-changed f slots c.self.invariant.0.slots_few few ∙ ap (changed f) c.self.view_is
