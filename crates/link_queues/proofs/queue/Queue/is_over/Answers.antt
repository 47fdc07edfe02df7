use Rattle.std.proofs.Common.{◌≡◌, ◌+◌, length, nat_lt, sym, ap, ◌∙◌, subst, ◌++◌, ◌∷◌, []}
use Rattle.link_queues.specs.Waiting.{is_over}
use Rattle.link_queues.proofs.WaitingLemmas.{first-of, over-is, second-of}
use Rattle.link_queues.proofs.queue.Queue.is_over.Goals as goal

pub returns-then-capacity-len : goal.returns-then-capacity-len
returns-then-capacity-len c =
    let i = c.self.inside in
    let ds = c.args.bytes.now in
    let here = first-of c.capacity.result c.len.result (length i.lengths.items) i.lengths.capacity (nat_lt i.bytes.capacity (length i.bytes.items + length ds))
    c.capacity.ensures.capacity c.len.ensures.len c.if-capacity-len.true in
    subst (λ q. nat_lt c.capacity.result (c.len.result + 1) ≡ is_over q.slots q.room (q.held ++ ds ∷ [])) c.self.view_is
    (here ∙ sym (over-is i.lengths.items i.bytes.items ds i.lengths.capacity i.bytes.capacity c.self.invariant))

pub returns-else-capacity-len : goal.returns-else-capacity-len
returns-else-capacity-len c =
    let i = c.self.inside in
    let ds = c.args.bytes.now in
    let room = c.capacity-else-capacity-len.result in
    let count = c.len-else-capacity-len.result in
    let later = ap (λ k. nat_lt k (count + length ds)) c.capacity-else-capacity-len.ensures.capacity
    ∙ ap (λ k. nat_lt i.bytes.capacity (k + length ds)) c.len-else-capacity-len.ensures.len in
    let here = second-of c.capacity.result c.len.result (length i.lengths.items) i.lengths.capacity (nat_lt room (count + length ds)) (nat_lt i.bytes.capacity (length i.bytes.items + length ds))
    c.capacity.ensures.capacity c.len.ensures.len c.if-capacity-len.false later in
    subst (λ q. nat_lt room (count + length ds) ≡ is_over q.slots q.room (q.held ++ ds ∷ [])) c.self.view_is
    (here ∙ sym (over-is i.lengths.items i.bytes.items ds i.lengths.capacity i.bytes.capacity c.self.invariant))
