use Rattle.std.proofs.Common.{◌≡◌}
use Rattle.node_loop.specs.Expecting.{Tells, certified_below}
use Rattle.node_loop.proofs.expecting.expect_certified.Given as goal

abbrev pub invariant-loop-number : goal.invariant-loop-number
invariant-loop-number g l = record {
  tells : Tells (g.E.Expects.told l.initial.link) (g.E.Expects.told l.link) (certified_below l.node.roster l.number);
  same : g.E.Expects.held l.link ≡ g.E.Expects.held l.initial.link;
}
