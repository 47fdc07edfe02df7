-- Words of hexadecimal digits in lower case.
use Rattle.std.proofs.Common.{◌≡◌, ℕ, zero, suc, ◌+◌, ◌*◌, ◌/◌, ◌%◌, ◌<◌, inl, inr, Bool, true, false, cond, ◌&&◌, eqb, List, [], ◌∷◌, length, Option, Some, None, Result, Ok, Err, refl, sym, ap, subst, ◌∙◌, arith}
use Rattle.std.specs.Prelude.{is_ok, not, ◌||◌, nat_lt, slice_index}
use Rattle.std.specs.List.{list_all}
use Rattle.std.proofs.lemmas.Bool.{and_parts, cases_lt, eqb-true, eq-eqb, ltb-true, lt-ltb}
use Rattle.hex.specs.Hex.{◌>>=◌, IsBytes, decode_of, decode_pairs, decode_sized, digit_or_error, encode_lower, encode_with, hex_digit_value, is_hex_digit, lower_digits, pair_value, value_at}
use Rattle.hex.specs.declared.error.FromHexError.{FromHexError}
use Rattle.hex.proofs.HexLemmas.{decode_of-even, decode_of-encode_lower, decode_of-ok, decode_sized-twice, length-encode_with}
use Rattle.line_text.proofs.HexWords.{Spells, is_spelled as decodes_as, spells}
use Rattle.records.specs.declared.keys.Key.{Key}
use Rattle.records.specs.declared.keys.KeyFault.{KeyFault}
use Rattle.records.specs.Keys.{key_in}
use Rattle.records.proofs.KeyParts.{key-long}
use Rattle.journal.specs.Words.{is_lower_digit, is_spelled, bytes_of, bytes_in, bytes_or_none, key_of, key_from, key_or_none}

-- ---- tables

-- a test of all numbers below one
all_below : (ℕ → Bool) → ℕ → Bool
all_below test zero = true
all_below test (suc n) = test n && all_below test n

below_at : (test : ℕ → Bool) (n c : ℕ) → all_below test n ≡ true → c < n → test c ≡ true
unfolding all_below
below_at test zero c h lt = absurd (omega (arith, lt))
below_at test (suc n) c h lt =
    let p : (test n ≡ true) × (all_below test n ≡ true) = and_parts _ _ h in
    elim (cases_lt c n) [
      | inl less ↦ below_at test n c p.1 less
      | inr more ↦ let same : n ≡ c = omega (arith, lt, more) in subst (λ k. test k ≡ true) same p.0
    ]

-- ---- one digit

abbrev or_16 : Option ℕ → ℕ
or_16 None = 16
or_16 (Some v) = v

-- A digit in lower case has a value, of which it is the digit.
abbrev is_fine : ℕ → Bool
is_fine c = not (is_lower_digit c) || (is_hex_digit c && (nat_lt (or_16 (hex_digit_value c)) 16 && eqb (slice_index lower_digits (or_16 (hex_digit_value c))) c))

all_fine : all_below is_fine 103 ≡ true
unfolding all_below
all_fine = refl

all_lower : all_below (λ d. is_lower_digit (slice_index lower_digits d)) 16 ≡ true
unfolding all_below
all_lower = refl

small : (c : ℕ) → is_lower_digit c ≡ true → c < 103
small c h = grind (arith)

implied : (a b : Bool) → a ≡ true → (not a || b) ≡ true → b ≡ true
implied true b e h = h
implied false b e h = absurd cc

lower_fine : (c : ℕ) → is_lower_digit c ≡ true → (is_hex_digit c && (nat_lt (or_16 (hex_digit_value c)) 16 && eqb (slice_index lower_digits (or_16 (hex_digit_value c))) c)) ≡ true
lower_fine c h = implied (is_lower_digit c) _ h (below_at is_fine 103 c all_fine (small c h))

lower_digit : (c v : ℕ) → is_lower_digit c ≡ true → hex_digit_value c ≡ Some v → (v < 16) × (slice_index lower_digits v ≡ c)
lower_digit c v h e =
    let p = and_parts _ _ (and_parts _ _ (lower_fine c h)).1 in
    let is : or_16 (hex_digit_value c) ≡ v = ap or_16 e in
    (subst (λ k. k < 16) is (ltb-true _ _ p.0), subst (λ k. slice_index lower_digits k ≡ c) is (eqb-true _ _ p.1))

lower_is_hex : (w : List ℕ) → list_all is_lower_digit w ≡ true → list_all is_hex_digit w ≡ true
lower_is_hex [] h = refl
lower_is_hex (c ∷ w) h =
    let p = and_parts _ _ h in
    let first : is_hex_digit c ≡ true = (and_parts _ _ (lower_fine c p.0)).0 in
    let others : list_all is_hex_digit w ≡ true = lower_is_hex w p.1 in
    rw (first, others) refl

-- ---- words

spelled_parts : (w : List ℕ) → is_spelled w ≡ true → (0 < length w) × (length w % 2 ≡ 0) × (list_all is_lower_digit w ≡ true)
spelled_parts w h =
    let p = and_parts _ _ h in
    let q = and_parts _ _ p.1 in
    (ltb-true _ _ p.0, eqb-true _ _ q.0, q.1)

decoded : (w : List ℕ) → is_spelled w ≡ true → Spells w
decoded w h =
    let p = spelled_parts w h in
    spells w (sym (decodes_as w ∙ rw (eq-eqb (length w % 2) 0 p.1, lower_is_hex w p.2) refl))

-- a word of digits is read
pub spelled_bytes : (w : List ℕ) → is_spelled w ≡ true → bytes_of w ≡ Some (bytes_in w)
spelled_bytes w h = rw (h, (decoded w h).decoded) refl

pub decodes_to : (w bytes : List ℕ) → is_spelled w ≡ true → decode_of w ≡ Ok bytes → bytes_of w ≡ Some bytes
decodes_to w bytes h e = rw (h, e) refl

-- ---- back

bind_ok : {A B : Type 0} (r : Result A FromHexError) (f : A → Result B FromHexError) (y : B) → (r >>= f) ≡ Ok y → (x : A) × (r ≡ Ok x) × (f x ≡ Ok y)
bind_ok (Ok x) f y e = (x, refl, e)
bind_ok (Err d) f y e = absurd cc

abbrev right : {A : Type 0} → A → Result A FromHexError
right x = Ok x

ok_is : {A : Type 0} (x y : A) → right x ≡ right y → x ≡ y
ok_is x y e = cc

digit_ok : (c i : ℕ) (o : Option ℕ) (v : ℕ) → digit_or_error c i o ≡ Ok v → o ≡ Some v
digit_ok c i (Some x) v e = ap Some (ok_is x v e)
digit_ok c i None v e = absurd cc

two : (a b high low byte : ℕ) → high < 16 → low < 16 → slice_index lower_digits high ≡ a → slice_index lower_digits low ≡ b → high * 16 + low ≡ byte
    → (a ≡ slice_index lower_digits (byte / 16)) × (b ≡ slice_index lower_digits (byte % 16))
two a b high low byte h l ea eb e =
    let upper : high ≡ byte / 16 = omega (arith, h, l, e) in
    let lower : low ≡ byte % 16 = omega (arith, h, l, e) in
    (sym ea ∙ ap (slice_index lower_digits) upper, sym eb ∙ ap (slice_index lower_digits) lower)

two_more : (a b x y : ℕ) (rest others : List ℕ) → a ≡ x → b ≡ y → rest ≡ others → a ∷ b ∷ rest ≡ x ∷ y ∷ others
two_more a b x y rest others ea eb er = ap (λ k. k ∷ b ∷ rest) ea ∙ ap (λ k. x ∷ k ∷ rest) eb ∙ ap (λ (t : List ℕ). x ∷ y ∷ t) er

pairs_back : (i : ℕ) (w bytes : List ℕ) → list_all is_lower_digit w ≡ true → decode_pairs i w ≡ Ok bytes → w ≡ encode_lower bytes
unfolding decode_pairs encode_with
pairs_back i [] bytes h e = ap encode_lower (ok_is [] bytes e)
pairs_back i (a ∷ []) bytes h e = absurd cc
pairs_back i (a ∷ b ∷ rest) bytes h e =
    let p = and_parts _ _ h in
    let q = and_parts _ _ p.1 in
    let pair = bind_ok (pair_value a b i) _ bytes e in
    let high = bind_ok (value_at a i) _ pair.0 pair.1 in
    let low = bind_ok (value_at b (i + 1)) _ pair.0 high.2 in
    let more = bind_ok (decode_pairs (i + 2) rest) _ bytes pair.2 in
    let upper = lower_digit a high.0 p.0 (digit_ok a i (hex_digit_value a) high.0 high.1) in
    let lower = lower_digit b low.0 q.0 (digit_ok b (i + 1) (hex_digit_value b) low.0 low.1) in
    let digits = two a b high.0 low.0 pair.0 upper.0 lower.0 upper.1 lower.1 (ok_is _ _ low.2) in
    let ih = pairs_back (i + 2) rest more.0 q.1 more.1 in
    subst (λ (bs : List ℕ). a ∷ b ∷ rest ≡ encode_lower bs) (ok_is (pair.0 ∷ more.0) bytes more.2)
    (two_more a b _ _ rest _ digits.0 digits.1 ih)

some_decoded : (r : Result (List ℕ) FromHexError) (bytes : List ℕ) → bytes_or_none r ≡ Some bytes → r ≡ Ok bytes
some_decoded (Ok x) bytes e = cc
some_decoded (Err f) bytes e = absurd cc

guarded : {A : Type 0} (b : Bool) (o : Option A) (y : A) → cond b o None ≡ Some y → (b ≡ true) × (o ≡ Some y)
guarded true o y e = (refl, e)
guarded false o y e = absurd cc

-- the bytes of a word are those of which it is the digits
pub bytes_back : (w bytes : List ℕ) → bytes_of w ≡ Some bytes → (w ≡ encode_lower bytes) × (0 < length bytes) × IsBytes bytes
bytes_back w bytes e =
    let g = guarded (is_spelled w) (bytes_or_none (decode_of w)) bytes e in
    let is = some_decoded (decode_of w) bytes g.1 in
    let p = spelled_parts w g.0 in
    let ok = decode_of-ok w bytes is in
    (pairs_back 0 w bytes p.2 (sym (decode_of-even w p.1) ∙ is), omega (arith, p.0, ok.2), ok.3)

pub encoded_lower : (bytes : List ℕ) → IsBytes bytes → list_all is_lower_digit (encode_lower bytes) ≡ true
unfolding encode_with
encoded_lower [] h = refl
encoded_lower (b ∷ rest) h =
    let fits : b < 256 = h 0 in
    let high = below_at (λ d. is_lower_digit (slice_index lower_digits d)) 16 (b / 16) all_lower (omega (arith, fits)) in
    let low = below_at (λ d. is_lower_digit (slice_index lower_digits d)) 16 (b % 16) all_lower (omega arith) in
    rw (high, low, encoded_lower rest (λ i. h (suc i))) refl

-- the digits of bytes are read as these bytes
pub bytes_again : (bytes : List ℕ) → 0 < length bytes → IsBytes bytes → bytes_of (encode_lower bytes) ≡ Some bytes
bytes_again bytes some h =
    let len = length-encode_with lower_digits bytes in
    let longer : nat_lt 0 (length (encode_lower bytes)) ≡ true = lt-ltb _ _ (omega (arith, len, some)) in
    let even : eqb (length (encode_lower bytes) % 2) 0 ≡ true = eq-eqb _ _ (omega (arith, len)) in
    rw (longer, even, encoded_lower bytes h, decode_of-encode_lower bytes h) refl

-- what a word of digits decodes to is its bytes
pub decodes_in : (w bytes : List ℕ) → is_spelled w ≡ true → decode_of w ≡ Ok bytes → bytes ≡ bytes_in w
decodes_in w bytes h e = rw (h, e) refl

no_key_read : (r : Result Key KeyFault) → is_ok r ≡ false → None ≡ key_or_none r
no_key_read (Ok key) e = absurd cc
no_key_read (Err fault) e = refl

-- A word of another length is no key's.
pub no_key : (w : List ℕ) → is_spelled w ≡ true → (length w ≡ 112 → ⊥) → (length w ≡ 120 → ⊥) → None ≡ key_of w
no_key w h one two =
    let s = decoded w h in
    let twice = (decode_of-ok w s.bytes s.decoded).2 in
    let none = key-long s.bytes (λ same. one (omega (arith, twice, same))) (λ same. two (omega (arith, twice, same))) in
    no_key_read (key_in s.bytes) none ∙ ap key_from (sym (decodes_to w s.bytes h s.decoded))

-- The digits of so many bytes are decoded.
pub is_decoded : (w : List ℕ) (n : ℕ) (fault : FromHexError) → is_spelled w ≡ true → length w ≡ 2 * n → decode_sized w n ≡ Err fault → None ≡ key_of w
is_decoded w n fault h long e =
    let s = decoded w h in
    let sized = decode_sized-twice w n (omega (arith, long)) in
    absurd cc (sized, e, s.decoded)
