use Rattle.std.proofs.Common.{◌≡◌, ◌-◌}
use Rattle.link_queues.specs.Queues.{due_from, next_due}
use Rattle.link_queues.proofs.queues.Queues.next_due.Given as goal

abbrev pub invariant-loop-step : goal.invariant-loop-step
invariant-loop-step l = next_due l.now l.self ≡ due_from l.now l.self l.count (l.count - l.step)
