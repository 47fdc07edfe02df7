use Rattle.std.proofs.Common.{Ok, refl}
use Rattle.node_loop.proofs.LineLemmas.{goes-same}
use Rattle.node_loop.proofs.TurnLemmas.{undelivered}
use Rattle.node_loop.proofs.turns.deliver_heard.Goals as goal

pub returns-in-Nothing-clause-spends : goal.returns-in-Nothing-clause-spends
returns-in-Nothing-clause-spends g c = goes-same c.args.node.now.signer (g.D.Disk.state c.args.disk.now).moments (g.O.Sink.state c.args.out.now).taken _ _ (Ok tt) refl

pub returns-in-Nothing-clause-serves : goal.returns-in-Nothing-clause-serves
returns-in-Nothing-clause-serves g c = λ s before r at. undelivered s before _ r c.args.heard.now c.in-Nothing.is at

pub returns-in-Nothing-2-clause-spends : goal.returns-in-Nothing-2-clause-spends
returns-in-Nothing-2-clause-spends g c = goes-same c.args.node.now.signer (g.D.Disk.state c.args.disk.now).moments (g.O.Sink.state c.args.out.now).taken _ _ (Ok tt) refl

pub returns-in-Nothing-2-clause-serves : goal.returns-in-Nothing-2-clause-serves
returns-in-Nothing-2-clause-serves g c = λ s before r at. undelivered s before _ r c.args.heard.now c.in-Nothing.is at
