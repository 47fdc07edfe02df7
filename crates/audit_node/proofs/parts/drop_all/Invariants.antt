use Rattle.std.proofs.Common.{◌≡◌, take}
use Rattle.audit_node.specs.Records.{without_all}
use Rattle.audit_node.proofs.parts.drop_all.Given as goal

abbrev pub invariant-loop-acc : goal.invariant-loop-acc
invariant-loop-acc l = l.records ≡ without_all l.initial.records (take l.acc-index l.ended)
