use Rattle.std.proofs.Common.{◌≡◌, true}
use Rattle.bench.proofs.receiving.receive_turns.Given as goal

abbrev pub invariant-loop-turn : goal.invariant-loop-turn
invariant-loop-turn g l = (g.O.Sink.state l.out).is_open ≡ true
