use Rattle.std.proofs.Common.{◌≡◌, ◌++◌, ◌∷◌, ℕ, [], false, length, List, take, drop, ap, sym, ◌∙◌, subst, arith}
use Rattle.removal_timer.specs.declared.queue.TheConstants.{END}
use Rattle.removal_timer.specs.Queue.{order_of, is_queued, IsLinked, previous_at}
use Rattle.removal_timer.proofs.QueueLemmas.{AreNowJoined, AreWritten, AreWritten-all, AreWritten-joined, IsLinked-last, IsLinked-pushed, IsLinked-order, order_of_is, read_previous}
use Rattle.removal_timer.proofs.queue.Queue.push.Goals as goal

last_is : (c : goal.After-deref_mut) → c.index.result.now.previous ≡ previous_at c.self.inside.links.items END
last_is c =
    let links = c.self.inside.links.items in
    read_previous links END c.index.result.now c.index.ensures (omega (arith, c.self.invariant.long))

pub join-requires-clause-first : goal.join-requires-clause-first
join-requires-clause-first c =
    let last = IsLinked-last c.self.inside.links.items (order_of c.self.inside.links.items) c.self.invariant in
    omega (arith, last_is c, last, ap length c.deref_mut.ensures.value)

is_pushed : (c : goal.After-self-2-1) → IsLinked (take c.self.inside.links.len (c.join-2.new.links ++ drop (length c.join-2.new.links) (take c.self.inside.links.len (c.join.new.links ++ drop (length c.join.new.links) c.self.inside.links.items)))) (c.args.self.now ++ c.args.number ∷ [])
is_pushed c =
    let links = c.self.inside.links.items in
    let last : c.index.result.now.previous ≡ previous_at links END = read_previous links END c.index.result.now c.index.ensures (omega (arith, c.self.invariant.long)) in
    let before : AreWritten c.self.inside.links.len links c.deref_mut.result.now c.join.new.links c.index.result.now.previous c.args.number =
    record { all = c.self.inside.links.ok.0; same = c.deref_mut.ensures.value; long = c.join.auto.links; joined = record { next = c.join.ensures.next; previous = c.join.ensures.previous } } in
    let first_all = AreWritten-all _ links c.deref_mut.result.now c.join.new.links _ _ before in
    let middle_long : length c.join.new.links ≡ length links = before.long ∙ ap length before.same in
    let behind : AreWritten c.self.inside.links.len c.join.new.links c.deref_mut-2.result.now c.join-2.new.links c.args.number END =
    record { all = c.self.inside.links.ok.0 ∙ sym middle_long; same = c.deref_mut-2.ensures.value ∙ first_all; long = c.join-2.auto.links; joined = record { next = c.join-2.ensures.next; previous = c.join-2.ensures.previous } } in
    let second_all = AreWritten-all _ c.join.new.links c.deref_mut-2.result.now c.join-2.new.links _ _ behind in
    let joined : AreNowJoined links c.join.new.links (previous_at links END) c.args.number = subst (λ (n : ℕ). AreNowJoined links c.join.new.links n c.args.number) last (AreWritten-joined _ links c.deref_mut.result.now c.join.new.links _ _ before) in
    let free : is_queued (order_of links) c.args.number ≡ false = ap (λ (q : List ℕ). is_queued q c.args.number) c.self.view_is ∙ c.requires.absent in
    let new_long : length c.join-2.new.links ≡ length links = behind.long ∙ ap length behind.same ∙ middle_long in
    let linked = IsLinked-pushed links c.join.new.links c.join-2.new.links (order_of links) c.args.number c.self.invariant c.requires.range free new_long joined (AreWritten-joined _ c.join.new.links c.deref_mut-2.result.now c.join-2.new.links _ _ behind) in
    rw (first_all, second_all, ← c.self.view_is) linked

pub invariant_of-self : goal.invariant_of-self
invariant_of-self c = IsLinked-order _ _ (is_pushed c)

pub returns : goal.returns
returns c = order_of_is _ _ (is_pushed c)
