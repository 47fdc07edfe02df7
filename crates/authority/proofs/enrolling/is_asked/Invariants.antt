use Rattle.std.proofs.Common.{◌≡◌}
use Rattle.authority.specs.Settings.{asked_in}
use Rattle.authority.proofs.enrolling.is_asked.Given as goal

abbrev pub invariant-loop-line : goal.invariant-loop-line
invariant-loop-line l = asked_in l.fn.lines.items ≡ asked_in l.line-iterator.rest.items
