use Rattle.std.proofs.Common.{All}
use Rattle.records.specs.declared.keys.Key.TheVariants as keys
use Rattle.node_core.specs.Begins.{IsCheckedIn}
use Rattle.example_node.specs.declared.keys.TheConstants.{GROUP}
use Rattle.example_node.proofs.certificates.Directory.check.Given as goal

abbrev pub invariant-loop-bytes : goal.invariant-loop-bytes
invariant-loop-bytes l = All (IsCheckedIn GROUP (keys.Lms l.self.authority)) l.checked.items
