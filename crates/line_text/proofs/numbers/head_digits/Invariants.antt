use Rattle.std.proofs.Common.{◌≡◌, ◌<◌, ◌^◌, true, take}
use Rattle.std.specs.Char.{is_ascii_digit}
use Rattle.std.specs.List.{list_all}
use Rattle.line_text.specs.Numbers.{read_digits}
use Rattle.line_text.proofs.numbers.head_digits.Given as goal

abbrev pub invariant-loop-at : goal.invariant-loop-at
invariant-loop-at l = record {
  digits : list_all is_ascii_digit (take l.at l.text) ≡ true;
  value : l.number ≡ read_digits 0 (take l.at l.text);
  below : l.number < 10 ^ l.at;
}
