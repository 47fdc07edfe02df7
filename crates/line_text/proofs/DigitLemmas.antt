-- What decodes is spelled by digits, and what is spelled by digits decodes.
use Rattle.std.proofs.Common.{◌≡◌, ℕ, ◌+◌, ◌-◌, ◌*◌, ◌%◌, ◌<◌, ◌≤◌, inl, inr, Bool, true, false, ◌&&◌, cond, leb, List, [], ◌∷◌, length, Option, Some, None, Result, Ok, Err, refl, ap, sym, subst, ◌∙◌, arith}
use Rattle.std.proofs.lemmas.Bool.{and_parts, le-leb, leb-true, lt-leb}
use Rattle.hex.specs.Hex.{◌>>=◌, decode_of, decode_pairs, digit_or_error, hex_digit_value, pair_value, value_at}
use Rattle.hex.specs.declared.error.FromHexError.{FromHexError}
use Rattle.hex.proofs.HexLemmas.{decode_of-even, decode_of-ok}
use Rattle.line_text.specs.Digits.{IsDigit, IsPair, SpellsBytes}
use Rattle.line_text.specs.Fields.{bytes_or_none, hex_of}

pub digit-value : (c n : ℕ) → IsDigit c n → hex_digit_value c ≡ Some n
digit-value c n (inl h) =
    let a : c < 65 = omega (arith, h.0, h.1) in
    let b : c < 97 = omega (arith, h.0, h.1) in
    let d : 48 ≤ c = omega (arith, h.1) in
    let e : c ≤ 57 = omega (arith, h.0, h.1) in
    let v : c - 48 ≡ n = omega (arith, h.1) in
    rw (lt-leb 65 c a, lt-leb 97 c b, le-leb 48 c d, le-leb c 57 e) (ap Some v)
digit-value c n (inr (inl h)) =
    let a : 65 ≤ c = omega (arith, h.0, h.2) in
    let b : 70 < c = omega (arith, h.0, h.2) in
    let d : 97 ≤ c = omega (arith, h.0, h.2) in
    let e : c ≤ 102 = omega (arith, h.1, h.2) in
    let v : c - 87 ≡ n = omega (arith, h.2) in
    rw (le-leb 65 c a, lt-leb c 70 b, le-leb 97 c d, le-leb c 102 e) (ap Some v)
digit-value c n (inr (inr h)) =
    let a : 65 ≤ c = omega (arith, h.0, h.2) in
    let b : c ≤ 70 = omega (arith, h.1, h.2) in
    let v : c - 55 ≡ n = omega (arith, h.2) in
    rw (le-leb 65 c a, le-leb c 70 b) (ap Some v)

abbrev there : ℕ → Option ℕ
there n = Some n

some_is : (m n : ℕ) → there m ≡ there n → m ≡ n
some_is m n e = cc

third : (c n : ℕ) (b : Bool) → (leb 48 c && leb c 57) ≡ b → cond b (there (c - 48)) None ≡ Some n → IsDigit c n
third c n false is e = cc
third c n true is e =
    let p = and_parts (leb 48 c) (leb c 57) is in
    let low = leb-true 48 c p.0 in
    let high = leb-true c 57 p.1 in
    let v = some_is (c - 48) n e in
    inl (omega (arith, v, low, high), omega (arith, v, low))

second : (c n : ℕ) (b : Bool) → (leb 97 c && leb c 102) ≡ b → cond b (there (c - 87)) (cond (leb 48 c && leb c 57) (there (c - 48)) None) ≡ Some n → IsDigit c n
second c n false is e = third c n (leb 48 c && leb c 57) refl e
second c n true is e =
    let p = and_parts (leb 97 c) (leb c 102) is in
    let low = leb-true 97 c p.0 in
    let high = leb-true c 102 p.1 in
    let v = some_is (c - 87) n e in
    inr (inl (omega (arith, v, low), omega (arith, v, low, high), omega (arith, v, low)))

first : (c n : ℕ) (b : Bool) → (leb 65 c && leb c 70) ≡ b → cond b (there (c - 55)) (cond (leb 97 c && leb c 102) (there (c - 87)) (cond (leb 48 c && leb c 57) (there (c - 48)) None)) ≡ Some n → IsDigit c n
first c n false is e = second c n (leb 97 c && leb c 102) refl e
first c n true is e =
    let p = and_parts (leb 65 c) (leb c 70) is in
    let low = leb-true 65 c p.0 in
    let high = leb-true c 70 p.1 in
    let v = some_is (c - 55) n e in
    inr (inr (omega (arith, v, low), omega (arith, v, low, high), omega (arith, v, low)))

pub value-digit : (c n : ℕ) → hex_digit_value c ≡ Some n → IsDigit c n
value-digit c n e = first c n (leb 65 c && leb c 70) refl e

bind_ok : {A B : Type 0} (r : Result A FromHexError) (f : A → Result B FromHexError) (y : B) → (r >>= f) ≡ Ok y → (x : A) × (r ≡ Ok x) × (f x ≡ Ok y)
bind_ok (Ok x) f y e = (x, refl, e)
bind_ok (Err w) f y e = cc

abbrev good : {A : Type 0} → A → Result A FromHexError
good x = Ok x

ok_is : {A : Type 0} (x y : A) → good x ≡ good y → x ≡ y
ok_is x y e = cc

digit_is : (c i n : ℕ) (o : Option ℕ) → hex_digit_value c ≡ o → digit_or_error c i o ≡ Ok n → IsDigit c n
digit_is c i n None is e = cc
digit_is c i n (Some v) is e = value-digit c n (is ∙ ap there (ok_is v n e))

pair_is : (high low i b : ℕ) → pair_value high low i ≡ Ok b → IsPair high low b
pair_is high low i b e =
    let h = bind_ok (value_at high i) (λ h. value_at low (i + 1) >>= λ l. Ok (h * 16 + l)) b e in
    let l = bind_ok (value_at low (i + 1)) (λ l. Ok (h.0 * 16 + l)) b h.2 in
    record {
      high = h.0;
      low = l.0;
      upper_is = digit_is high i h.0 (hex_digit_value high) refl h.1;
      lower_is = digit_is low (i + 1) l.0 (hex_digit_value low) refl l.1;
      value = sym (ok_is (h.0 * 16 + l.0) b l.2);
    }

pairs-spelled : (i : ℕ) (word bytes : List ℕ) → decode_pairs i word ≡ Ok bytes → SpellsBytes word bytes
unfolding decode_pairs
pairs-spelled i [] bytes e = subst (SpellsBytes []) (ok_is [] bytes e) tt
pairs-spelled i (digit ∷ []) bytes e = cc
pairs-spelled i (high ∷ low ∷ rest) bytes e =
    let b = bind_ok (pair_value high low i) (λ byte. decode_pairs (i + 2) rest >>= λ more. Ok (byte ∷ more)) bytes e in
    let m = bind_ok (decode_pairs (i + 2) rest) (λ more. Ok (b.0 ∷ more)) bytes b.2 in
    subst (SpellsBytes (high ∷ low ∷ rest)) (ok_is (b.0 ∷ m.0) bytes m.2) (pair_is high low i b.0 b.1, pairs-spelled (i + 2) rest m.0 m.1)

spelled-pairs : (i : ℕ) (word bytes : List ℕ) → SpellsBytes word bytes → decode_pairs i word ≡ Ok bytes
unfolding decode_pairs
spelled-pairs i [] [] h = refl
spelled-pairs i [] (b ∷ bytes) h = absurd h
spelled-pairs i (digit ∷ []) [] h = absurd h
spelled-pairs i (digit ∷ []) (b ∷ bytes) h = absurd h
spelled-pairs i (high ∷ low ∷ rest) [] h = absurd h
spelled-pairs i (high ∷ low ∷ rest) (b ∷ bytes) h =
    let x = digit-value high h.0.high h.0.upper_is in
    let y = digit-value low h.0.low h.0.lower_is in
    let more = spelled-pairs (i + 2) rest bytes h.1 in
    rw (x, y, more) (ap (λ (n : ℕ). good (n ∷ bytes)) (sym h.0.value))

even : (word bytes : List ℕ) → SpellsBytes word bytes → length word % 2 ≡ 0
even [] [] h = refl
even [] (b ∷ bytes) h = absurd h
even (digit ∷ []) [] h = absurd h
even (digit ∷ []) (b ∷ bytes) h = absurd h
even (high ∷ low ∷ rest) [] h = absurd h
even (high ∷ low ∷ rest) (b ∷ bytes) h =
    let more = even rest bytes h.1 in
    grind arith

some_bytes : (r : Result (List ℕ) FromHexError) (bytes : List ℕ) → bytes_or_none r ≡ Some bytes → r ≡ Ok bytes
some_bytes (Ok x) bytes e = cc
some_bytes (Err w) bytes e = cc

-- Bytes that a word gives are spelled by it.
pub hex-spelled : (word bytes : List ℕ) → hex_of word ≡ Some bytes → SpellsBytes word bytes
hex-spelled word bytes e =
    let ok = some_bytes (decode_of word) bytes e in
    let whole = (decode_of-ok word bytes ok).0 in
    pairs-spelled 0 word bytes (sym (decode_of-even word whole) ∙ ok)

-- A word gives the bytes that it spells.
pub spelled-hex : (word bytes : List ℕ) → SpellsBytes word bytes → hex_of word ≡ Some bytes
spelled-hex word bytes h = ap bytes_or_none (decode_of-even word (even word bytes h) ∙ spelled-pairs 0 word bytes h)
