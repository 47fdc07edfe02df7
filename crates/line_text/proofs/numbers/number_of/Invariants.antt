use Rattle.std.proofs.Common.{◌≡◌, ◌<◌, ◌^◌, true, take, drop}
use Rattle.std.specs.Char.{is_ascii_digit}
use Rattle.std.specs.List.{list_all}
use Rattle.line_text.specs.Numbers.{read_digits}
use Rattle.line_text.proofs.numbers.number_of.Given as goal

abbrev pub invariant-loop-digit : goal.invariant-loop-digit
invariant-loop-digit l = record {
  exact : read_digits l.number (drop l.digit-index l.word) ≡ read_digits 0 l.word;
  digits : list_all is_ascii_digit (take l.digit-index l.word) ≡ true;
  fits : l.number < 2 ^ 64;
}
