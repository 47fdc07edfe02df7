use Rattle.std.proofs.Common.{◌≡◌, ◌++◌, ◌<◌, List, length, map, take, drop, ap, ◌∙◌, sym, subst}
use Rattle.std.specs.List.{All}
use Rattle.monitor_rule.specs.Sorted.{RingOrder}
use Rattle.monitor_rule.specs.Joined.{Joined, with_member}
use Rattle.monitor_rule.proofs.KeptLemmas.{Rekept, written, free_slot, numbers-few, All-rings_below, Rekept-joined}
use Rattle.monitor_rule.proofs.Rings.join.Goals as goal

pub join_each-requires-clause-free : goal.join_each-requires-clause-free
join_each-requires-clause-free c =
    free_slot c.self.inside.slots (length c.self.inside.rows.items) c.args.member c.args.self.now c.self.view_is c.requires.absent

pub join_each-requires-clause-placed : goal.join_each-requires-clause-placed
join_each-requires-clause-placed c =
    let P : List RingOrder → Type 0 = λ rows. All (λ r. r.ring < length c.args.places.now) rows in
    subst P (sym c.deref_mut.ensures.value) (All-rings_below c.self.inside.rows.items (length c.args.places.now) c.self.invariant.0.numbered (ap (λ (j : Joined). j.rings) c.self.view_is ∙ sym c.requires.placed))

pub fill-requires : goal.fill-requires
fill-requires c = record { free = free_slot c.self.inside.slots (length c.self.inside.rows.items) c.args.member c.args.self.now c.self.view_is c.requires.absent }

pub put-requires : goal.put-requires
put-requires c =
    numbers-few c.self.inside.slots c.self.inside.numbers c.args.member c.self.invariant.1 (free_slot c.self.inside.slots (length c.self.inside.rows.items) c.args.member c.args.self.now c.self.view_is c.requires.absent) c.fill.ensures.range c.self.invariant.0.long

abbrev after : goal.After-put → Type 0
after c =
    Rekept c.fill.new.self (take c.self.inside.rows.len (c.join_each.new.rows ++ drop (length c.join_each.new.rows) c.self.inside.rows.items)) c.put.new.self (record c.args.self.now { members = with_member (record { number = c.args.member; places = c.args.places.now }) c.args.self.now.members })

is_after : (c : goal.After-put) → after c
is_after c =
    let rings : map (λ (r : RingOrder). r.ring) c.join_each.new.rows ≡ map (λ (r : RingOrder). r.ring) c.self.inside.rows.items = c.join_each.ensures.rings ∙ ap (map (λ (r : RingOrder). r.ring)) c.deref_mut.ensures.value in
    let put_rows = written c.self.inside.rows.len c.self.inside.rows.items c.join_each.new.rows (c.join_each.auto.rows ∙ ap length c.deref_mut.ensures.value) c.self.inside.rows.ok.0 in
    rw (c.fill.ensures.value, put_rows, c.put.ensures) (Rekept-joined c.self.inside.slots c.self.inside.rows.items c.join_each.new.rows c.self.inside.numbers c.args.self.now c.args.member c.args.places.now (record { kept = c.self.invariant.0; numbers_same = c.self.invariant.1; view = c.self.view_is }) c.requires.absent c.fill.ensures.range c.requires.placed c.join_each.ensures.in_order rings)

pub invariant_of-self : goal.invariant_of-self
invariant_of-self c = ((is_after c).kept, (is_after c).numbers_same)

pub returns : goal.returns
returns c = (is_after c).view
