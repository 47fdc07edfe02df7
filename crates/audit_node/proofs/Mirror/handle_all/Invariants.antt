use Rattle.std.proofs.Common.{All}
use Rattle.records.specs.Spelling.{HasPort}
use Rattle.audit_node.specs.Handled.{Handled}
use Rattle.audit_node.proofs.Mirror.handle_all.Given as goal

abbrev pub invariant-loop-rec : goal.invariant-loop-rec
invariant-loop-rec l = Handled l.initial.self l.self l.fn.records.items l.rec-iterator.rest.items × All (λ r. HasPort r.body) l.rec-iterator.rest.items
