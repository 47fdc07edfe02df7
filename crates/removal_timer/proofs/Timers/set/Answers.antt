use Rattle.std.proofs.Common.{◌≡◌, ◌<◌, List, Some, set, vec_capacity, ap, sym, subst, ◌∙◌, arith}
use Rattle.ff_ids.specs.Steps.{with_kept}
use Rattle.removal_timer.specs.Kept.{Kept, IsOwn, entries_in}
use Rattle.removal_timer.specs.Tally.{is_against, is_by, AreTallied}
use Rattle.removal_timer.proofs.SlotLemmas.{Entry}
use Rattle.removal_timer.proofs.TallyLemmas.{count-few, AreTallied-more}
use Rattle.removal_timer.proofs.MarkLemmas.{marks-room}
use Rattle.removal_timer.proofs.HeldLemmas.{IsSet, IsSet-of, IsReached-of}
use Rattle.removal_timer.proofs.Timers.set.Goals as goal

pub push-requires-clause-absent : goal.push-requires-clause-absent
push-requires-clause-absent c =
    let s = c.self.inside in
    (IsSet-of s.rings s.timeout (vec_capacity s.slots) s.slots.items c.reach.new.slots.items s.queue s.tallies c.args.self.now c.slot_of-number.result (c.args.acc, c.args.now) c.self.invariant c.self.view_is c.reach.ensures.few c.reach.ensures.same c.slot_of-number.ensures.value c.reach.ensures.reached c.requires.free c.requires.ring c.requires.in_time).0.absent

is_set : (c : goal.After-push) → IsSet c.self.inside.rings c.reach.new.slots.items c.self.inside.queue c.slot_of-number.result (c.args.acc, c.args.now) × (entries_in c.reach.new.slots.items ≡ c.args.self.now.entries)
is_set c =
    let s = c.self.inside in
    IsSet-of s.rings s.timeout (vec_capacity s.slots) s.slots.items c.reach.new.slots.items s.queue s.tallies c.args.self.now c.slot_of-number.result (c.args.acc, c.args.now) c.self.invariant c.self.view_is c.reach.ensures.few c.reach.ensures.same c.slot_of-number.ensures.value c.reach.ensures.reached c.requires.free c.requires.ring c.requires.in_time

pub add-requires-clause-against : goal.add-requires-clause-against
add-requires-clause-against c = λ lt.
    let s = c.self.inside in
    omega (arith, c.self.invariant.tallied.against c.args.acc.accused lt, count-few (is_against c.args.acc.accused) s.slots.items, c.self.invariant.queued.few)

pub add-requires-clause-by : goal.add-requires-clause-by
add-requires-clause-by c = λ lt.
    let s = c.self.inside in
    omega (arith, c.self.invariant.tallied.by c.args.acc.accuser lt, count-few (is_by c.args.acc.accuser) s.slots.items, c.self.invariant.queued.few)

pub add-requires-clause-ring : goal.add-requires-clause-ring
add-requires-clause-ring c =
    omega (arith, c.requires.ring, ap (λ (k : Kept). k.rings) c.self.view_is, c.self.invariant.few)

pub add-requires-clause-room : goal.add-requires-clause-room
add-requires-clause-room c = λ lt.
    let s = c.self.inside in
    let slots = c.reach.new.slots.items in
    let n = c.slot_of-number.result in
    let p : Entry = (c.args.acc, c.args.now) in
    let ring : c.args.acc.ring.0 < s.rings = omega (arith, c.requires.ring, ap (λ (k : Kept). k.rings) c.self.view_is) in
    let own : IsOwn s.rings n p = record { few = c.self.invariant.few; ring = ring; number = sym c.slot_of-number.ensures.value } in
    let is = IsSet-of s.rings s.timeout (vec_capacity s.slots) s.slots.items slots s.queue s.tallies c.args.self.now n p c.self.invariant c.self.view_is c.reach.ensures.few c.reach.ensures.same c.slot_of-number.ensures.value c.reach.ensures.reached c.requires.free c.requires.ring c.requires.in_time in
    let reached = IsReached-of s.rings s.slots.items slots s.queue c.self.invariant.queued c.reach.ensures.few c.reach.ensures.same in
    let before : AreTallied (entries_in slots) s.tallies = subst (λ (es : List Entry). AreTallied es s.tallies) (sym reached.entries) c.self.invariant.tallied in
    marks-room s.rings slots n p s.tallies.marks before.marks reached.queued.own own is.0.free c.reach.ensures.reached lt

is_tallied : (c : goal.After-push) → AreTallied (entries_in (set c.reach.new.slots.items c.slot_of-number.result (Some (c.args.acc, c.args.now)))) c.add.new.self
is_tallied c =
    let s = c.self.inside in
    let is = is_set c in
    let slots = c.reach.new.slots.items in
    let reached = IsReached-of s.rings s.slots.items slots s.queue c.self.invariant.queued c.reach.ensures.few c.reach.ensures.same in
    let before : AreTallied (entries_in slots) s.tallies = subst (λ (es : List Entry). AreTallied es s.tallies) (sym reached.entries) c.self.invariant.tallied in
    let ring : c.args.acc.ring.0 < s.rings = omega (arith, c.requires.ring, ap (λ (k : Kept). k.rings) c.self.view_is) in
    let own : IsOwn s.rings c.slot_of-number.result (c.args.acc, c.args.now) = record { few = c.self.invariant.few; ring = ring; number = sym c.slot_of-number.ensures.value } in
    rw c.add.ensures.value (AreTallied-more s.rings c.reach.new.slots.items c.slot_of-number.result (c.args.acc, c.args.now) s.tallies before reached.queued.own is.0.queued.own own is.0.free c.reach.ensures.reached c.add.ensures.accused c.add.ensures.accuser)

pub invariant_of-self : goal.invariant_of-self
invariant_of-self c =
    record { few = c.self.invariant.few; room = c.reach.ensures.room; queued = rw c.push.ensures (is_set c).0.queued; tallied = is_tallied c }

pub returns : goal.returns
returns c =
    let s = c.self.inside in
    let is = is_set c in
    ap (λ (es : List Entry). record { rings = s.rings; timeout = s.timeout; entries = es }) (is.0.entries ∙ ap (with_kept (c.args.acc, c.args.now)) is.1)
    ∙ ap (λ (k : Kept). record k { entries = with_kept (c.args.acc, c.args.now) c.args.self.now.entries }) c.self.view_is
