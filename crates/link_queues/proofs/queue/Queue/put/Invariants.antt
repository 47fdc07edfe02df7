use Rattle.std.proofs.Common.{◌≡◌, ◌≤◌, ◌∷◌, ◌++◌, [], length}
use Rattle.link_queues.specs.Waiting.{fitting}
use Rattle.link_queues.proofs.queue.Queue.put.Given as goal

abbrev pub invariant-loop-self : goal.invariant-loop-self
invariant-loop-self l = record {
  slots : l.self.slots ≡ l.initial.self.slots;
  room : l.self.room ≡ l.initial.self.room;
  fewer : length l.self.held ≤ length l.initial.self.held;
  fits : fitting l.initial.self.slots l.initial.self.room (l.self.held ++ l.bytes ∷ []) ≡ fitting l.initial.self.slots l.initial.self.room (l.initial.self.held ++ l.bytes ∷ []);
}

abbrev pub decreases-loop-self : goal.decreases-loop-self
decreases-loop-self l = length l.self.held
