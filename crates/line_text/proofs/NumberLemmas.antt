-- Reading digits from the left.
use Rattle.std.proofs.Common.{◌≡◌, ℕ, ◌+◌, ◌-◌, ◌*◌, ◌^◌, ◌<◌, ◌≤◌, Bool, true, false, if◌then◌else◌, Option, List, [], ◌∷◌, length, drop, get_or, Some, None, sym, ◌∙◌, refl, arith, le-ltb, lt-ltb, add-one, drop-cons}
use Rattle.std.proofs.lemmas.List.{at_drop_all}
use Rattle.line_text.specs.Numbers.{read_digits, fits_64, is_numeral, number_of}

-- one digit more
pub read_digits-drop : (n i : ℕ) (digits : List ℕ) → i < length digits → read_digits n (drop i digits) ≡ read_digits (10 * n + (get_or digits i 0 - 48)) (drop (i + 1) digits)
read_digits-drop n i digits h = rw (add-one, drop-cons digits i 0) refl

pub read_digits-ge : (n : ℕ) (digits : List ℕ) → n ≤ read_digits n digits
read_digits-ge n [] = omega arith
read_digits-ge n (digit ∷ digits) = omega (arith, read_digits-ge (10 * n + (digit - 48)) digits)

pub fits_64-large : (n : ℕ) → 2 ^ 64 ≤ n → fits_64 n ≡ None
fits_64-large n h = rw (le-ltb n (2 ^ 64) h) refl

pub fits_64-all : (n i : ℕ) (digits : List ℕ) → read_digits n (drop i digits) ≡ read_digits 0 digits → n < 2 ^ 64 → length digits ≤ i → Some n ≡ fits_64 (read_digits 0 digits)
fits_64-all n i digits e small h =
    let whole : n ≡ read_digits 0 digits = sym (at_drop_all (read_digits n) digits i h) ∙ e in
    rw (← whole) (rw (lt-ltb n (2 ^ 64) small) refl)

unless-numeral : (b : Bool) (n : Option ℕ) → n ≡ None → (if b then n else None) ≡ None
unless-numeral true n e = e
unless-numeral false n e = refl

-- a word whose digits stand for more spells no number
pub number_of-large : (word : List ℕ) → 2 ^ 64 ≤ read_digits 0 word → number_of word ≡ None
number_of-large word h = unless-numeral (is_numeral word) (fits_64 (read_digits 0 word)) (fits_64-large (read_digits 0 word) h)
