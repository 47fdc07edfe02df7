-- Hexadecimal digits, byte by byte.
use Rattle.std.proofs.Common.{◌≡◌, ℕ, ◌+◌, ◌<◌, ◌/◌, ◌%◌, List, [], ◌∷◌, ◌++◌, length, get_or, take, refl, ap, arith}
use Rattle.std.specs.Prelude.{nat_lt, true, slice_index}
use Rattle.std.specs.List.{list_all}
use Rattle.std.specs.Str.{IsAscii}
use Rattle.std.specs.Char.{encode_utf8}
use Rattle.std.proofs.lemmas.Str.{encode_ascii}
use Rattle.std.proofs.lemmas.Str.Ascii.{IsAscii-nil, IsAscii-cons}
use Rattle.std.proofs.lemmas.List.{take_more}
use Rattle.hex.specs.Hex.{encode_lower, encode_with, lower_digits}

IsAscii-from_all : (xs : List ℕ) → list_all (λ c. nat_lt c 128) xs ≡ true → IsAscii xs
IsAscii-from_all [] h = IsAscii-nil
IsAscii-from_all (c ∷ xs) h = IsAscii-cons c xs (grind arith) (IsAscii-from_all xs (grind arith))

pub digit_is_one_byte : (v : ℕ) → encode_utf8 (slice_index lower_digits v) ≡ slice_index lower_digits v ∷ []
digit_is_one_byte v = encode_ascii (slice_index lower_digits v) (IsAscii-from_all lower_digits refl v)

encode_with-append : (t xs ys : List ℕ) → encode_with t (xs ++ ys) ≡ encode_with t xs ++ encode_with t ys
unfolding encode_with
encode_with-append t [] ys = refl
encode_with-append t (b ∷ xs) ys = ap (λ (zs : List ℕ). slice_index t (b / 16) ∷ slice_index t (b % 16) ∷ zs) (encode_with-append t xs ys)

pub encode_lower-more : (xs : List ℕ) (i : ℕ) → i < length xs
    → encode_lower (take i xs) ++ (slice_index lower_digits (get_or xs i 0 / 16) ∷ [] ++ slice_index lower_digits (get_or xs i 0 % 16) ∷ []) ≡ encode_lower (take (i + 1) xs)
unfolding encode_with
encode_lower-more xs i lt = rw (take_more xs i 0 lt, encode_with-append lower_digits (take i xs) (get_or xs i 0 ∷ [])) refl
