use Rattle.std.proofs.Common.{◌≡◌, ◌<◌, ◌++◌, ℕ, true, length, List, take, drop, ap, ◌∙◌, subst, arith}
use Rattle.removal_timer.specs.declared.queue.Link.{Link}
use Rattle.removal_timer.specs.Queue.{order_of, is_queued, without, IsLinked, previous_at, next_at}
use Rattle.removal_timer.proofs.QueueLemmas.{AreNowJoined, AreWritten, AreWritten-all, AreWritten-joined, IsLinked-below, IsLinked-around, IsLinked-removed, IsLinked-order, order_of_is, read_next, read_previous}
use Rattle.removal_timer.proofs.queue.Queue.remove.Goals as goal

pub index-link-requires : goal.index-link-requires
index-link-requires c =
    let order = order_of c.self.inside.links.items in
    let there : is_queued order c.args.number ≡ true = ap (λ (q : List ℕ). is_queued q c.args.number) c.self.view_is ∙ c.requires in
    let low = IsLinked-below c.self.inside.links.items order c.args.number c.self.invariant there in
    omega (arith, low, c.self.invariant.long, c.self.inside.links.ok.0)

is_there : (c : goal.After-deref_mut) → is_queued (order_of c.self.inside.links.items) c.args.number ≡ true
is_there c = ap (λ (q : List ℕ). is_queued q c.args.number) c.self.view_is ∙ c.requires

is_below : (c : goal.After-deref_mut) → c.args.number < length c.self.inside.links.items
is_below c = omega (arith, IsLinked-below c.self.inside.links.items (order_of c.self.inside.links.items) c.args.number c.self.invariant (is_there c), c.self.invariant.long)

pub join-requires-clause-first : goal.join-requires-clause-first
join-requires-clause-first c =
    let links = c.self.inside.links.items in
    let around = IsLinked-around links (order_of links) c.args.number c.self.invariant (is_there c) in
    let read = read_previous links c.args.number c.index-link.result.now c.index-link.ensures (is_below c) in
    omega (arith, read, around.0, ap length c.deref_mut.ensures.value)

pub join-requires-clause-second : goal.join-requires-clause-second
join-requires-clause-second c =
    let links = c.self.inside.links.items in
    let around = IsLinked-around links (order_of links) c.args.number c.self.invariant (is_there c) in
    let read = read_next links c.args.number c.index-link.result.now c.index-link.ensures (is_below c) in
    omega (arith, read, around.1, ap length c.deref_mut.ensures.value)

is_removed : (c : goal.After-self-1) → IsLinked (take c.self.inside.links.len (c.join.new.links ++ drop (length c.join.new.links) c.self.inside.links.items)) (without c.args.number c.args.self.now)
is_removed c =
    let links = c.self.inside.links.items in
    let there : is_queued (order_of links) c.args.number ≡ true = ap (λ (q : List ℕ). is_queued q c.args.number) c.self.view_is ∙ c.requires in
    let below : c.args.number < length links = omega (arith, IsLinked-below links (order_of links) c.args.number c.self.invariant there, c.self.invariant.long) in
    let link : Link = c.index-link.result.now in
    let previous : link.previous ≡ previous_at links c.args.number = read_previous links c.args.number link c.index-link.ensures below in
    let next : link.next ≡ next_at links c.args.number = read_next links c.args.number link c.index-link.ensures below in
    let write : AreWritten c.self.inside.links.len links c.deref_mut.result.now c.join.new.links link.previous link.next =
    record { all = c.self.inside.links.ok.0; same = c.deref_mut.ensures.value; long = c.join.auto.links; joined = record { next = c.join.ensures.next; previous = c.join.ensures.previous } } in
    let all = AreWritten-all _ links c.deref_mut.result.now c.join.new.links _ _ write in
    let joined = subst (λ (n : ℕ). AreNowJoined links c.join.new.links (previous_at links c.args.number) n) next (subst (λ (n : ℕ). AreNowJoined links c.join.new.links n link.next) previous (AreWritten-joined _ links c.deref_mut.result.now c.join.new.links _ _ write)) in
    let linked = IsLinked-removed links c.join.new.links (order_of links) c.args.number c.self.invariant there (write.long ∙ ap length write.same) joined in
    rw (all, ← c.self.view_is) linked

pub invariant_of-self : goal.invariant_of-self
invariant_of-self c = IsLinked-order _ _ (is_removed c)

pub returns : goal.returns
returns c = order_of_is _ _ (is_removed c)
