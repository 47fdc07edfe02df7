use Rattle.std.proofs.Common.{List, ℕ, subst}
use Rattle.node_loop.specs.Writing.{WritesLine}
use Rattle.node_loop.proofs.turns.write_turn_line.Goals as goal

pub returns-in-Ok-clause-wrote : goal.returns-in-Ok-clause-wrote
returns-in-Ok-clause-wrote g c =
    subst (λ (xs : List ℕ). WritesLine (g.O.Sink.state c.args.out.now).taken (g.O.Sink.state c.write_gathered.new.out).taken xs c.write_gathered.result) c.in-Ok.ensures c.write_gathered.ensures.wrote
