use Rattle.node_core.proofs.Node.deliver.Goals as goal

pub returns-clause-step : goal.returns-clause-step
returns-clause-step g c = c.deliver_read.ensures.step c.args.bytes.now c.read-heard.ensures.exact

pub returns-clause-follows : goal.returns-clause-follows
returns-clause-follows g c = c.deliver_read.ensures.follows c.args.bytes.now c.read-heard.ensures.exact

pub returns-clause-unsigned : goal.returns-clause-unsigned
returns-clause-unsigned g c = c.deliver_read.ensures.unsigned c.args.bytes.now c.read-heard.ensures.exact
