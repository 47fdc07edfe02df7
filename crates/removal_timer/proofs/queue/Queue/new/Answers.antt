use Rattle.std.proofs.Common.{◌≡◌, ◌+◌, [], arith}
use Rattle.removal_timer.specs.declared.queue.TheConstants.{END}
use Rattle.removal_timer.specs.Queue.{IsLinked}
use Rattle.removal_timer.proofs.QueueLemmas.{IsLinked-new, IsLinked-order, order_of_is}
use Rattle.removal_timer.proofs.queue.Queue.new.Goals as goal

linked : (c : goal.After-loop-number) → IsLinked c.loop-number.links.items []
linked c =
    let i = c.loop-number.invariant in
    let all : c.loop-number._number ≡ END + 1 = omega (arith, c.loop-number-test.false) in
    IsLinked-new c.loop-number.links.items (omega (arith, i.count, all)) (λ n low. i.next n (omega (arith, all, low))) (λ n low. i.previous n (omega (arith, all, low)))

pub invariant_of-result : goal.invariant_of-result
invariant_of-result c = IsLinked-order _ [] (linked c)

pub returns : goal.returns
returns c = order_of_is _ [] (linked c)
