use Rattle.std.proofs.Common.{◌≡◌, take}
use Rattle.node_loop.specs.Expecting.{Tells, newly_certified}
use Rattle.node_loop.proofs.expecting.expect_newly_certified.Given as goal

abbrev pub invariant-loop-event : goal.invariant-loop-event
invariant-loop-event g l = record {
  tells : Tells (g.E.Expects.told l.initial.link) (g.E.Expects.told l.link) (newly_certified (take l.event-index l.events));
  same : g.E.Expects.held l.link ≡ g.E.Expects.held l.initial.link;
}
