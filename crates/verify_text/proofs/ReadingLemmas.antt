-- A key, read in two steps: bytes, and then a key.
use Rattle.std.proofs.Common.{◌≡◌, ◌≢◌, ℕ, ◌*◌, true, false, Bool, cond, eqb, eq-eqb, refl, List, length, Option, Some, None, Result, Ok, Err, ap, arith}
use Rattle.std.specs.Prelude.{is_ok}
use Rattle.std.proofs.lemmas.Bool.{eqb-false}
use Rattle.hex.specs.Hex.{decode_of}
use Rattle.hex.specs.declared.error.FromHexError.{FromHexError}
use Rattle.hex.proofs.HexLemmas.{decode_of-ok}
use Rattle.records.specs.Keys.{key_in}
use Rattle.records.proofs.KeyParts.{key-long}
use Rattle.line_text.specs.declared.bad_word.BadWord.{BadWord}
use Rattle.line_text.specs.declared.bad_word.BadWord.TheVariants as bad
use Rattle.line_text.specs.Fields.{bad_bytes, bytes_or_none, hex, hex_of}
use Rattle.verify_text.specs.Rows.{key}

abbrev none_bad : Option BadWord
none_bad = None

bytes_are : (x y : List ℕ) → bytes_or_none (Ok x) ≡ Some y → x ≡ y
bytes_are x y e = cc

-- the bytes that digits stand for are half as many
half : (word bytes : List ℕ) (r : Result (List ℕ) FromHexError) → decode_of word ≡ r → bytes_or_none r ≡ Some bytes → length word ≡ 2 * length bytes
half word bytes (Ok b) is e =
    let same : b ≡ bytes = bytes_are b bytes e in
    let twice = (decode_of-ok word b is).2 in
    omega (arith, twice, ap length same)
half word bytes (Err fault) is e = absurd cc

none_else : (b : Bool) (w : BadWord) → b ≡ true → cond b none_bad (Some bad.Limit) ≡ Some w → ⊥
none_else true w is e = absurd cc
none_else false w is e = absurd cc

long_out : (o : Option (List ℕ)) (w : BadWord) → ((b : List ℕ) → o ≡ Some b → length b ≡ 60) → bad_bytes (λ b. eqb (length b) 60) o ≡ Some w → bad_bytes (λ b. is_ok (key_in b)) o ≡ Some w
long_out None w long e = e
long_out (Some b) w long e = absurd (none_else (eqb (length b) 60) w (eq-eqb (length b) 60 (long b refl)) e)

-- a word of 120 digits that has no 60 bytes is no key
pub no_long_key : (word : List ℕ) (w : BadWord) → length word ≡ 120 → hex 60 word ≡ Some w → key word ≡ Some w
no_long_key word w long e =
    long_out (hex_of word) w (λ b is. omega (arith, long, half word b (decode_of word) refl is)) e

other_out : (b ok : Bool) (w : BadWord) → (b ≡ false → ok ≡ false) → cond b none_bad (Some bad.Limit) ≡ Some w → cond ok none_bad (Some bad.Limit) ≡ Some w
other_out true ok w h e = absurd cc
other_out false true w h e = (let no = h refl in absurd cc)
other_out false false w h e = e

short_out : (o : Option (List ℕ)) (w : BadWord) → ((b : List ℕ) → o ≡ Some b → length b ≡ 60 → ⊥) → bad_bytes (λ b. eqb (length b) 56) o ≡ Some w → bad_bytes (λ b. is_ok (key_in b)) o ≡ Some w
short_out None w other e = e
short_out (Some b) w other e =
    other_out (eqb (length b) 56) (is_ok (key_in b)) w (λ no. key-long b (eqb-false (length b) 56 no) (other b refl)) e

-- a word of other than 120 digits that has no 56 bytes is no key
pub no_key : (word : List ℕ) (w : BadWord) → length word ≢ 120 → hex 56 word ≡ Some w → key word ≡ Some w
no_key word w other e =
    short_out (hex_of word) w (λ b is long. other (omega (arith, long, half word b (decode_of word) refl is))) e
