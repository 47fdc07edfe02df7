use Rattle.std.proofs.Common.{◌≡◌, ◌++◌, take}
use Rattle.world_host.specs.Answers.{bodies_in}
use Rattle.world_host.proofs.host.Host.keep_bodies.Given as goal

abbrev pub invariant-loop-event : goal.invariant-loop-event
invariant-loop-event l = l.self ≡ record l.initial.self { signed = l.initial.self.signed ++ bodies_in (take l.event-index l.events) }
