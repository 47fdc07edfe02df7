use Rattle.std.proofs.Common.{◌≡◌, ◌<◌, length, arith}
use Rattle.removal_timer.specs.Queue.{order_of, next_at}
use Rattle.removal_timer.specs.declared.queue.TheConstants.{END}
use Rattle.removal_timer.proofs.QueueLemmas.{IsLinked-first, read_next}
use Rattle.removal_timer.proofs.queue.Queue.first.Goals as goal

pub returns-else-number-clause-range : goal.returns-else-number-clause-range
returns-else-number-clause-range c =
    let links = c.self.inside.links.items in
    let first = IsLinked-first links (order_of links) c.self.invariant in
    let within : END < length links = omega (arith, c.self.invariant.long) in
    let read : c.index.result.now.next ≡ next_at links END = read_next links END c.index.result.now c.index.ensures within in
    let other = c.if-number.false in
    omega (arith, read, first.0, other)
