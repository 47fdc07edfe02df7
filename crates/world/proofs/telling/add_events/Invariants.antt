use Rattle.std.proofs.Common.{◌≡◌, ◌++◌, take}
use Rattle.world.specs.Telling.{call_lines}
use Rattle.world.proofs.telling.add_events.Given as goal

abbrev pub invariant-loop-event : goal.invariant-loop-event
invariant-loop-event l = l.out.items ≡ l.initial.out.items ++ call_lines l.who l.before (take l.event-index l.events)
