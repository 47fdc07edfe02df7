-- The spelling of numbers: decimal digits without a leading zero, or `0`, up to 18446744073709551615.
use Rattle.std.specs.Prelude.{ℕ, Bool, ◌&&◌, not, ◌-◌, ◌+◌, ◌*◌, ◌^◌, nat_lt, ◌==◌, if◌then◌else◌, List, [], ◌∷◌, length, slice_index, Option, Some, None}
use Rattle.std.specs.Char.{is_ascii_digit}
use Rattle.std.specs.List.{list_all}

-- the number that digits stand for, read behind a number
abbrev pub read_digits : ℕ → List ℕ → ℕ
read_digits n [] = n
read_digits n (digit ∷ digits) = read_digits (10 * n + (digit - 48)) digits

-- a 0 before others
abbrev pub has_leading_zero : List ℕ → Bool
has_leading_zero word = nat_lt 1 (length word) && (slice_index word 0 == 48)

-- one or more digits, and no 0 before others
abbrev pub is_numeral : List ℕ → Bool
is_numeral word = not (length word == 0) && (list_all is_ascii_digit word && not (has_leading_zero word))

-- a number that 64 bits hold
abbrev pub fits_64 : ℕ → Option ℕ
fits_64 n = if nat_lt n (2 ^ 64) then Some n else None

-- the number that a word spells
abbrev pub number_of : List ℕ → Option ℕ
number_of word = if is_numeral word then fits_64 (read_digits 0 word) else None
