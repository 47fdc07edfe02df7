use Rattle.std.proofs.Common.{◌≡◌, ℕ, List, Option, ◌++◌, length, map, take, drop, refl, ap, ◌∙◌, subst}
use Rattle.std.specs.Option.{IfSome}
use Rattle.monitor_rule.specs.Sorted.{RingOrder}
use Rattle.monitor_rule.specs.Joined.{without_member}
use Rattle.monitor_rule.proofs.KeptLemmas.{Rekept, written, own_places, All-rings_below, listed_number, Rekept-left}
use Rattle.monitor_rule.proofs.Rings.leave.Goals as goal

pub leave_each-requires-clause-placed : goal.leave_each-requires-clause-placed
leave_each-requires-clause-placed c =
    let there = own_places c.self.inside.slots (length c.self.inside.rows.items) c.args.member c.args.self.now c.args.places.now c.self.view_is c.requires.joined c.requires.placed in
    let long : length c.args.places.now ≡ length c.self.inside.rows.items = subst (λ (o : Option (List (List ℕ))). IfSome o (λ p. length p ≡ length c.self.inside.rows.items)) there (c.self.invariant.0.placed c.args.member) in
    rw (c.deref_mut.ensures.value, long) (All-rings_below c.self.inside.rows.items (length c.self.inside.rows.items) c.self.invariant.0.numbered refl)

pub leave_each-requires-clause-there : goal.leave_each-requires-clause-there
leave_each-requires-clause-there c =
    own_places c.self.inside.slots (length c.self.inside.rows.items) c.args.member c.args.self.now c.args.places.now c.self.view_is c.requires.joined c.requires.placed

pub take_out-requires : goal.take_out-requires
take_out-requires c =
    listed_number c.self.inside.slots (length c.self.inside.rows.items) c.args.member c.self.inside.numbers c.args.self.now c.self.view_is c.self.invariant.1 c.requires.joined

abbrev after : goal.After-take_out → Type 0
after c =
    Rekept c.empty.new.self (take c.self.inside.rows.len (c.leave_each.new.rows ++ drop (length c.leave_each.new.rows) c.self.inside.rows.items)) c.take_out.new.self (record c.args.self.now { members = without_member c.args.member c.args.self.now.members })

is_after : (c : goal.After-take_out) → after c
is_after c =
    let rings : map (λ (r : RingOrder). r.ring) c.leave_each.new.rows ≡ map (λ (r : RingOrder). r.ring) c.self.inside.rows.items = c.leave_each.ensures.rings ∙ ap (map (λ (r : RingOrder). r.ring)) c.deref_mut.ensures.value in
    let put_rows = written c.self.inside.rows.len c.self.inside.rows.items c.leave_each.new.rows (c.leave_each.auto.rows ∙ ap length c.deref_mut.ensures.value) c.self.inside.rows.ok.0 in
    rw (c.empty.ensures.value, put_rows, c.take_out.ensures) (Rekept-left c.self.inside.slots c.self.inside.rows.items c.leave_each.new.rows c.self.inside.numbers c.args.self.now c.args.member (record { kept = c.self.invariant.0; numbers_same = c.self.invariant.1; view = c.self.view_is }) c.requires.joined c.empty.ensures.range c.leave_each.ensures.in_order rings)

pub invariant_of-self : goal.invariant_of-self
invariant_of-self c = ((is_after c).kept, (is_after c).numbers_same)

pub returns : goal.returns
returns c = (is_after c).view
