use Rattle.std.proofs.Common.{◌≡◌, take}
use Rattle.audit_node.specs.Records.{retired_all}
use Rattle.audit_node.proofs.parts.retire_all.Given as goal

abbrev pub invariant-loop-acc : goal.invariant-loop-acc
invariant-loop-acc l = l.records ≡ retired_all l.initial.records (take l.acc-index l.expired)
