use Rattle.std.proofs.Common.{length, sym, ap, ◌∙◌}
use Rattle.link_queues.proofs.WaitingLemmas.{length-pieces}
use Rattle.link_queues.proofs.queue.Queue.len.Goals as goal

pub returns-clause-len : goal.returns-clause-len
returns-clause-len c = c.len.ensures.len ∙ sym (length-pieces c.self.inside.lengths.items c.self.inside.bytes.items) ∙ ap (λ q. length q.held) c.self.view_is
