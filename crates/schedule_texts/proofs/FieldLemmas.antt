-- Words that are read in two steps: a number in a range, and then one of a few; bytes, and then a key.
use Rattle.std.proofs.Common.{◌≡◌, ◌≢◌, ℕ, ◌*◌, true, false, Bool, cond, eqb, eq-eqb, refl, List, length, Option, Some, None, Result, Ok, Err, ap, arith}
use Rattle.std.specs.Prelude.{is_ok, is_some}
use Rattle.std.proofs.lemmas.Bool.{eqb-false}
use Rattle.hex.specs.Hex.{decode_of}
use Rattle.hex.specs.declared.error.FromHexError.{FromHexError}
use Rattle.hex.proofs.HexLemmas.{decode_of-ok}
use Rattle.ff_ids.specs.declared.Group.{Group}
use Rattle.lms_ots.specs.declared.kind.OtsKind.{OtsKind}
use Rattle.lms_tree.specs.declared.kind.TreeKind.{TreeKind}
use Rattle.lms_tree.specs.Lms as lms
use Rattle.lms_tree.proofs.Keys as lms_proofs
use Rattle.records.specs.Keys.{key_in}
use Rattle.records.proofs.KeyParts.{key-long}
use Rattle.line_text.specs.declared.bad_word.BadWord.{BadWord}
use Rattle.line_text.specs.declared.bad_word.BadWord.TheVariants as bad
use Rattle.line_text.specs.Fields.{bad_bytes, bad_number, bytes_or_none, hex, hex_of, is_within, number, number_in, number_that, or_zero}
use Rattle.line_text.specs.Numbers.{number_of}
use Rattle.line_text.specs.Shapes.{AllInRange}
use Rattle.line_text.proofs.SpellingLemmas.{no_value}
use Rattle.schedule_texts.specs.Shared.{IsGroup, group_shape, group_values, height, key, lms_key, ots_of_width, tree_of_height, width}
use Rattle.schedule_texts.specs.KindTables.{height_within, width_within}

abbrev none_bad : Option BadWord
none_bad = None

-- ## A number of a few

out_of : (within fits : Bool) (w : BadWord) → (fits ≡ true → within ≡ true) → cond within none_bad (Some bad.Limit) ≡ Some w → cond fits none_bad (Some bad.Limit) ≡ Some w
out_of true fits w h e = absurd cc
out_of false true w h e = (let no = h refl in absurd cc)
out_of false false w h e = e

few_out : (within fits : ℕ → Bool) → ((n : ℕ) → fits n ≡ true → within n ≡ true) → (o : Option ℕ) (w : BadWord) → bad_number within o ≡ Some w → bad_number fits o ≡ Some w
few_out within fits h None w e = e
few_out within fits h (Some n) w e = out_of (within n) (fits n) w (h n) e

-- what is no number of a wider range is none of the few
pub number_out : (low high : ℕ) (fits : ℕ → Bool) → ((n : ℕ) → fits n ≡ true → is_within low high n ≡ true) → (word : List ℕ) (w : BadWord) → number low high word ≡ Some w → number_that fits word ≡ Some w
number_out low high fits h word w e = few_out (is_within low high) fits h (number_of word) w e

few_in : (within fits : ℕ → Bool) (b : Bool) (o : Option ℕ) → bad_number within o ≡ None → fits (or_zero o) ≡ b → bad_number fits o ≡ cond b None (Some bad.Limit)
few_in within fits b None e is = absurd cc
few_in within fits b (Some n) e is = rw is refl

-- of a number in the wider range the few decide
pub number_in_range : (low high : ℕ) (fits : ℕ → Bool) (word : List ℕ) (b : Bool) → number low high word ≡ None → fits (number_in word) ≡ b → number_that fits word ≡ cond b None (Some bad.Limit)
number_in_range low high fits word b e is = few_in (is_within low high) fits b (number_of word) e is

pub no_width : (word : List ℕ) (w : BadWord) → number 1 8 word ≡ Some w → width word ≡ Some w
no_width word w e = number_out 1 8 (λ n. is_some (ots_of_width n)) width_within word w e

pub other_width : (word : List ℕ) → number 1 8 word ≡ None → ots_of_width (number_in word) ≡ None → width word ≡ Some bad.Limit
other_width word e is = number_in_range 1 8 (λ n. is_some (ots_of_width n)) word false e (ap is_some is)

pub a_width : (word : List ℕ) (k : OtsKind) → number 1 8 word ≡ None → ots_of_width (number_in word) ≡ Some k → width word ≡ None
a_width word k e is = number_in_range 1 8 (λ n. is_some (ots_of_width n)) word true e (ap is_some is)

pub no_height : (word : List ℕ) (w : BadWord) → number 5 15 word ≡ Some w → height word ≡ Some w
no_height word w e = number_out 5 15 (λ n. is_some (tree_of_height n)) height_within word w e

pub other_height : (word : List ℕ) → number 5 15 word ≡ None → tree_of_height (number_in word) ≡ None → height word ≡ Some bad.Limit
other_height word e is = number_in_range 5 15 (λ n. is_some (tree_of_height n)) word false e (ap is_some is)

pub a_height : (word : List ℕ) (k : TreeKind) → number 5 15 word ≡ None → tree_of_height (number_in word) ≡ Some k → height word ≡ None
a_height word k e is = number_in_range 5 15 (λ n. is_some (tree_of_height n)) word true e (ap is_some is)

-- ## A key

-- what are no 56 bytes are no key
pub no_lms_key : (word : List ℕ) (w : BadWord) → hex 56 word ≡ Some w → lms_key word ≡ Some w
no_lms_key word w e = no_value lms.key_in 56 lms_proofs.key-long word w e

bytes_are : (x y : List ℕ) → bytes_or_none (Ok x) ≡ Some y → x ≡ y
bytes_are x y e = cc

-- the bytes that digits stand for are half as many
half : (word bytes : List ℕ) (r : Result (List ℕ) FromHexError) → decode_of word ≡ r → bytes_or_none r ≡ Some bytes → length word ≡ 2 * length bytes
half word bytes (Ok b) is e =
    let same : b ≡ bytes = bytes_are b bytes e in
    let twice = (decode_of-ok word b is).2 in
    omega (arith, twice, ap length same)
half word bytes (Err fault) is e = absurd cc

none_else : (b : Bool) (w : BadWord) → b ≡ true → cond b none_bad (Some bad.Limit) ≡ Some w → ⊥
none_else true w is e = absurd cc
none_else false w is e = absurd cc

long_out : (o : Option (List ℕ)) (w : BadWord) → ((b : List ℕ) → o ≡ Some b → length b ≡ 60) → bad_bytes (λ b. eqb (length b) 60) o ≡ Some w → bad_bytes (λ b. is_ok (key_in b)) o ≡ Some w
long_out None w long e = e
long_out (Some b) w long e = absurd (none_else (eqb (length b) 60) w (eq-eqb (length b) 60 (long b refl)) e)

-- a word of 120 digits that has no 60 bytes is no key
pub no_long_key : (word : List ℕ) (w : BadWord) → length word ≡ 120 → hex 60 word ≡ Some w → key word ≡ Some w
no_long_key word w long e =
    long_out (hex_of word) w (λ b is. omega (arith, long, half word b (decode_of word) refl is)) e

other_out : (b ok : Bool) (w : BadWord) → (b ≡ false → ok ≡ false) → cond b none_bad (Some bad.Limit) ≡ Some w → cond ok none_bad (Some bad.Limit) ≡ Some w
other_out true ok w h e = absurd cc
other_out false true w h e = (let no = h refl in absurd cc)
other_out false false w h e = e

short_out : (o : Option (List ℕ)) (w : BadWord) → ((b : List ℕ) → o ≡ Some b → length b ≡ 60 → ⊥) → bad_bytes (λ b. eqb (length b) 56) o ≡ Some w → bad_bytes (λ b. is_ok (key_in b)) o ≡ Some w
short_out None w other e = e
short_out (Some b) w other e =
    other_out (eqb (length b) 56) (is_ok (key_in b)) w (λ no. key-long b (eqb-false (length b) 56 no) (other b refl)) e

-- a word of other than 120 digits that has no 56 bytes is no key
pub no_key : (word : List ℕ) (w : BadWord) → length word ≢ 120 → hex 56 word ≡ Some w → key word ≡ Some w
no_key word w other e =
    short_out (hex_of word) w (λ b is long. other (omega (arith, long, half word b (decode_of word) refl is))) e

-- ## A group

-- a group whose values are in range is one
pub group-is : (g : Group) → AllInRange group_shape (group_values g) → IsGroup g
group-is g h = record {
  t_low = h.0.0;
  t_high = h.0.1;
  timeout_low = h.1.0.0;
  timeout_high = h.1.0.1;
  period_low = h.1.1.0.0;
  period_high = h.1.1.0.1;
  misses_low = h.1.1.1.0.0;
  misses_high = h.1.1.1.0.1;
  tag_long = h.1.1.1.1.0;
}
