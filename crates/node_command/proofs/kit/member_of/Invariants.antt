use Rattle.std.proofs.Common.{◌≡◌, fold}
use Rattle.std.specs.List.{AllByRecursion}
use Rattle.records.specs.Signing.{IsChecked}
use Rattle.node_command.specs.Members.{set_by, sets}
use Rattle.node_command.proofs.kit.member_of.Given as goal

abbrev pub invariant-loop-line : goal.invariant-loop-line
invariant-loop-line l = record {
  whole : fold sets l.gathered l.line-iterator.rest.items ≡ set_by l.fn.lines.items;
  checked : AllByRecursion IsChecked l.gathered.certificates;
}
