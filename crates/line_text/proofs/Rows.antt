-- Worked words: what each is, or its bad word. Each row is computed.
use Rattle.std.proofs.Common.{◌≡◌, ◌^◌, ◌-◌, ◌∷◌, [], Some, None, refl, codes}
use Rattle.hex.proofs.OnLiterals.{hex_on_literals}
use Rattle.line_text.specs.declared.bad_word.BadWord.TheVariants as bad
use Rattle.line_text.specs.Fields.{bytes_in, hex, hex_of, hex_up_to, name, number, number_in}
use Rattle.line_text.specs.Words.{words_of}

numbers : (number 1 15 (codes "15") ≡ None)
    × (number_in (codes "15") ≡ 15)
    × (number 1 15 (codes "16") ≡ Some bad.Limit)
    × (number 1 15 (codes "0") ≡ Some bad.Limit)
    × (number 0 15 (codes "0") ≡ None)
    × (number 0 15 (codes "00") ≡ Some bad.Number)
    × (number 0 15 (codes "07") ≡ Some bad.Number)
    × (number 0 15 (codes "+7") ≡ Some bad.Number)
    × (number 0 15 (codes "7a") ≡ Some bad.Number)
    × (number 1 (2 ^ 64 - 1) (codes "18446744073709551615") ≡ None)
    × (number 1 (2 ^ 64 - 1) (codes "18446744073709551616") ≡ Some bad.Number)
numbers = (refl, refl, refl, refl, refl, refl, refl, refl, refl, refl, refl)

bytes : (hex 2 (codes "00fF") ≡ None)
    × (hex_of (codes "00fF") ≡ Some (0 ∷ 255 ∷ []))
    × (hex 2 (codes "00f") ≡ Some bad.Hex)
    × (hex 2 (codes "0g0000") ≡ Some bad.Hex)
    × (hex 2 (codes "-") ≡ Some bad.Hex)
    × (hex 2 (codes "00") ≡ Some bad.Limit)
    × (hex 2 (codes "000000") ≡ Some bad.Limit)
    × (hex_up_to 1 (codes "-") ≡ None)
    × (bytes_in (codes "-") ≡ [])
    × (hex_up_to 1 (codes "fe") ≡ None)
    × (hex_up_to 1 (codes "fefe") ≡ Some bad.Limit)
    × (hex_up_to 1 (codes "fef") ≡ Some bad.Hex)
    × (hex_up_to 1 (codes "--") ≡ Some bad.Hex)
unfolding hex_on_literals
bytes = (refl, refl, refl, refl, refl, refl, refl, refl, refl, refl, refl, refl, refl)

names : (name (codes "a-1") ≡ None)
    × (name (codes "-") ≡ None)
    × (name (codes "A") ≡ Some bad.Name)
    × (name (codes "a_1") ≡ Some bad.Name)
    × (name (codes "abcdefghijklmnopqrstuvwxyz012345") ≡ None)
    × (name (codes "abcdefghijklmnopqrstuvwxyz0123456") ≡ Some bad.Name)
names = (refl, refl, refl, refl, refl, refl)

words : (words_of (codes "a bc") ≡ Some (codes "a" ∷ codes "bc" ∷ []))
    × (words_of (codes "a  bc") ≡ None)
    × (words_of (codes " a") ≡ None)
    × (words_of (codes "a ") ≡ None)
    × (words_of [] ≡ None)
    × (words_of (9 ∷ []) ≡ None)
    × (words_of (127 ∷ []) ≡ None)
    × (words_of (126 ∷ 33 ∷ []) ≡ Some ((126 ∷ 33 ∷ []) ∷ []))
words = (refl, refl, refl, refl, refl, refl, refl, refl)
