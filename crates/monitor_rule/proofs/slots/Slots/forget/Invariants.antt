use Rattle.std.proofs.Common.{◌≡◌, length}
use Rattle.monitor_rule.proofs.NumberLemmas.{IsLeft}
use Rattle.monitor_rule.proofs.slots.Slots.forget.Given as goal

abbrev pub invariant-loop-number : goal.invariant-loop-number
invariant-loop-number l = record { long : length l.self ≡ length l.initial.self; left : IsLeft l.self l.numbers l.number-index }
