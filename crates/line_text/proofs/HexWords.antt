-- Words of hexadecimal digits.
use Rattle.std.proofs.Common.{◌≡◌, ℕ, ◌%◌, ◌/◌, ◌*◌, ◌<◌, ◌≤◌, ◌⊎◌, inl, inr, Bool, true, false, ◌&&◌, eqb, List, length, Some, None, Result, Ok, Err, refl, sym, ◌∙◌, arith}
use Rattle.std.specs.Prelude.{[], bytes_eq, codes, is_ok}
use Rattle.std.specs.List.{list_all}
use Rattle.std.proofs.lemmas.Bool.{eq-eqb, ne_eqb, le-leb, lt-leb}
use Rattle.std.proofs.lemmas.List.Sums.{list_all-from_AllPass}
use Rattle.std.proofs.lemmas.List.Folds.{list_all_at}
use Rattle.hex.specs.Hex.{decode_of, decode_sized, is_hex_digit}
use Rattle.hex.specs.declared.error.FromHexError.{FromHexError}
use Rattle.hex.proofs.HexLemmas.{decode_of-ok, decode_of-err, decode_sized-ok, decode_sized-twice}
use Rattle.line_text.specs.declared.bad_word.BadWord.TheVariants as bad
use Rattle.line_text.specs.Answers.{read_bytes}
use Rattle.line_text.specs.Fields.{bytes_or_none, hex, hex_of}

both_false : (a b : Bool) → (a ≡ false) ⊎ (b ≡ false) → false ≡ (a && b)
both_false true true h = elim h [ inl e ↦ cc | inr e ↦ cc ]
both_false true false h = refl
both_false false b h = refl

odd-false : (n : ℕ) → n % 2 ≡ 1 → eqb (n % 2) 0 ≡ false
odd-false n odd = grind arith

spelled_as : (s : List ℕ) (r : Result (List ℕ) FromHexError) → decode_of s ≡ r → is_ok r ≡ (eqb (length s % 2) 0 && list_all is_hex_digit s)
spelled_as s (Ok bytes) e =
    let p = decode_of-ok s bytes e in
    rw (eq-eqb (length s % 2) 0 p.0, list_all-from_AllPass is_hex_digit s p.1) refl
spelled_as s (Err fault) e =
    both_false _ _ (elim (decode_of-err s fault e) [
      | inl odd ↦ inl (odd-false (length s) odd.0)
      | inr other ↦ inr (list_all_at is_hex_digit s other.0 0 other.2 other.3)
    ])

-- what decodes is an even number of digits
pub is_spelled : (s : List ℕ) → is_ok (decode_of s) ≡ (eqb (length s % 2) 0 && list_all is_hex_digit s)
is_spelled s = spelled_as s (decode_of s) refl

pub bad-hex : (r : Result (List ℕ) FromHexError) → false ≡ is_ok r → bytes_or_none r ≡ None
bad-hex (Ok bytes) e = cc
bad-hex (Err fault) e = refl

-- the bytes of a word that decodes
pub record Spells (word : List ℕ) : Type 0 where
  pub bytes : List ℕ
  pub decoded : decode_of word ≡ Ok bytes
  pub half : length bytes ≡ length word / 2

ok-value : (r : Result (List ℕ) FromHexError) → true ≡ is_ok r → (bytes : List ℕ) × (r ≡ Ok bytes)
ok-value (Ok bytes) e = (bytes, refl)
ok-value (Err fault) e = cc

pub spells : (word : List ℕ) → true ≡ is_ok (decode_of word) → Spells word
spells word ok =
    let v = ok-value (decode_of word) ok in
    let twice = (decode_of-ok word v.0 v.1).2 in
    record { bytes = v.0; decoded = v.1; half = omega arith }

pub decodes : (word bytes : List ℕ) → decode_of word ≡ Ok bytes → hex_of word ≡ Some bytes
decodes word bytes e = rw e refl

sized-decoded : (word : List ℕ) (n : ℕ) (bytes : List ℕ) → decode_sized word n ≡ Ok bytes → decode_of word ≡ Ok bytes
sized-decoded word n bytes e = sym (decode_sized-twice word n (decode_sized-ok word n bytes e)) ∙ e

-- ---- exactly so many bytes

pub many-read : (word : List ℕ) (n : ℕ) (bytes : List ℕ) → decode_sized word n ≡ Ok bytes → hex_of word ≡ Some bytes
many-read word n bytes e = decodes word bytes (sized-decoded word n bytes e)

pub many-fit : (word : List ℕ) (n : ℕ) (bytes : List ℕ) → decode_sized word n ≡ Ok bytes → hex n word ≡ None
many-fit word n bytes e =
    let twice = (decode_of-ok word bytes (sized-decoded word n bytes e)).2 in
    let given = decode_sized-ok word n bytes e in
    let right : length bytes ≡ n = omega (arith, twice, given) in
    rw (sized-decoded word n bytes e) (rw (eq-eqb (length bytes) n right) refl)

pub no-digits : (word : List ℕ) (n : ℕ) → false ≡ is_ok (decode_of word) → hex n word ≡ Some bad.Hex
no-digits word n e = rw (bad-hex (decode_of word) e) refl

pub other-many : (word : List ℕ) (n : ℕ) (fault : FromHexError) → true ≡ is_ok (decode_of word) → decode_sized word n ≡ Err fault → hex n word ≡ Some bad.Limit
other-many word n fault ok e =
    let s = spells word ok in
    let other : length s.bytes ≡ n → ⊥ = λ same.
    let twice : length word ≡ 2 * n = omega (arith, same, (decode_of-ok word s.bytes s.decoded).2) in
    let p = decode_sized-twice word n twice in cc (p, e, s.decoded) in
    rw s.decoded (rw (ne_eqb (length s.bytes) n other) refl)

-- ---- a word that may be `-`

pub dash : (most : ℕ) (word : List ℕ) → bytes_eq word (codes "-") ≡ true → read_bytes most word ≡ Ok []
dash most word e = rw e (rw (le-leb 0 most (omega arith)) refl)

pub up-bad : (most : ℕ) (word : List ℕ) → bytes_eq word (codes "-") ≡ false → false ≡ is_ok (decode_of word) → read_bytes most word ≡ Err bad.Hex
up-bad most word apart e = rw (apart, bad-hex (decode_of word) e) refl

pub up-many : (most : ℕ) (word : List ℕ) → bytes_eq word (codes "-") ≡ false → Spells word → most < length word / 2 → read_bytes most word ≡ Err bad.Limit
up-many most word apart s more =
    let above : most < length s.bytes = omega (arith, s.half) in
    rw (apart, s.decoded) (rw (lt-leb (length s.bytes) most above) refl)

pub up-few : (most : ℕ) (word : List ℕ) → bytes_eq word (codes "-") ≡ false → (s : Spells word) → length word / 2 ≤ most → read_bytes most word ≡ Ok s.bytes
up-few most word apart s few =
    let within : length s.bytes ≤ most = omega (arith, s.half) in
    rw (apart, s.decoded) (rw (le-leb (length s.bytes) most within) refl)
