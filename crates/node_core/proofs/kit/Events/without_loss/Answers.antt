use Rattle.std.proofs.Common.{subst, sym}
use Rattle.std.specs.Prelude.{All}
use Rattle.node_core.specs.Told.{IsNoLoss}
use Rattle.node_core.proofs.kit.Events.without_loss.Goals as goal

pub returns-clause-no_loss : goal.returns-clause-no_loss
returns-clause-no_loss c = subst (All IsNoLoss) (sym c.as_slice.ensures.value) c.self.invariant
