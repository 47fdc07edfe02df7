-- What a word of a line must be: a number in its range, hexadecimal digits of bytes that fit, a name.
use Rattle.std.specs.Prelude.{ℕ, ◌-◌, ◌^◌, Bool, ◌&&◌, nat_le, ◌==◌, if◌then◌else◌, List, [], length, Option, Some, None, Result, Ok, Err, codes}
use Rattle.std.specs.Str.{bytes_eq}
use Rattle.fields.specs.Names.{is_name}
use Rattle.hex.specs.Hex.{decode_of}
use Rattle.hex.specs.declared.error.FromHexError.{FromHexError}
use Rattle.line_text.specs.declared.bad_word.BadWord.{BadWord}
use Rattle.line_text.specs.declared.bad_word.BadWord.TheVariants as bad
use Rattle.line_text.specs.Numbers.{number_of}

-- A test of a word: the bad word, if it fails.
abbrev pub Test : Type 0
Test = List ℕ → Option BadWord

-- the bad word, where something holds
abbrev pub bad_where : BadWord → Bool → Option BadWord
bad_where word holds = if holds then Some word else None

-- ## Numbers

abbrev pub is_within : ℕ → ℕ → ℕ → Bool
is_within low high n = nat_le low n && nat_le n high

abbrev pub bad_number : (ℕ → Bool) → Option ℕ → Option BadWord
bad_number fits None = Some bad.Number
bad_number fits (Some n) = if fits n then None else Some bad.Limit

-- a number that fits
abbrev pub number_that : (ℕ → Bool) → Test
number_that fits word = bad_number fits (number_of word)

-- a number from low to high
abbrev pub number : ℕ → ℕ → Test
number low high word = number_that (is_within low high) word

-- a number that 32 bits hold
abbrev pub number_32 : Test
number_32 word = number 0 (2 ^ 32 - 1) word

abbrev pub or_zero : Option ℕ → ℕ
or_zero None = 0
or_zero (Some n) = n

-- the number that a word spells, if it spells one
abbrev pub number_in : List ℕ → ℕ
number_in word = or_zero (number_of word)

-- ## Bytes

-- the bytes that a word spells: an even number of hexadecimal digits, in either case
abbrev pub bytes_or_none : Result (List ℕ) FromHexError → Option (List ℕ)
bytes_or_none (Ok bytes) = Some bytes
bytes_or_none (Err fault) = None

abbrev pub hex_of : List ℕ → Option (List ℕ)
hex_of word = bytes_or_none (decode_of word)

-- the same; and `-` for no bytes
abbrev pub hex_or_dash_of : List ℕ → Option (List ℕ)
hex_or_dash_of word = if bytes_eq word (codes "-") then Some [] else hex_of word

abbrev pub bad_bytes : (List ℕ → Bool) → Option (List ℕ) → Option BadWord
bad_bytes fit None = Some bad.Hex
bad_bytes fit (Some bytes) = if fit bytes then None else Some bad.Limit

-- bytes that fit
abbrev pub hex_that : (List ℕ → Bool) → Test
hex_that fit word = bad_bytes fit (hex_of word)

-- exactly so many bytes
abbrev pub hex : ℕ → Test
hex many word = hex_that (λ bytes. length bytes == many) word

-- no more bytes than so many, `-` for none
abbrev pub hex_up_to : ℕ → Test
hex_up_to most word = bad_bytes (λ bytes. nat_le (length bytes) most) (hex_or_dash_of word)

abbrev pub or_nothing : Option (List ℕ) → List ℕ
or_nothing None = []
or_nothing (Some bytes) = bytes

-- the bytes that a word spells, if it spells some
abbrev pub bytes_in : List ℕ → List ℕ
bytes_in word = or_nothing (hex_or_dash_of word)

-- ## Names

-- 1 to 32 of the characters a to z, 0 to 9 and `-`
abbrev pub name : Test
name word = if is_name word then None else Some bad.Name
