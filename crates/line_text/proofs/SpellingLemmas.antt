-- What passes a test is spelled so, and what is spelled so passes.
use Rattle.std.proofs.Common.{◌≡◌, ℕ, zero, suc, ◌<◌, ◌≤◌, ◌^◌, Bool, true, false, cond, eqb, leb, ltb, List, [], ◌∷◌, length, Option, Some, None, Result, Ok, Err, inl, inr, refl, sym, ap, subst, ◌∙◌, arith, codes, eq-eqb, ltb-true}
use Rattle.std.specs.Prelude.{is_ok, is_some}
use Rattle.std.specs.Fmt.{decimal}
use Rattle.std.specs.Str.{bytes_eq}
use Rattle.std.proofs.lemmas.Bool.{and_parts, eqb-true, le-leb, leb-true}
use Rattle.std.proofs.lemmas.Slice.Eq.{bytes_eq-Decides}
use Rattle.fields.specs.Names.{is_name}
use Rattle.line_text.specs.declared.bad_word.BadWord.{BadWord}
use Rattle.line_text.specs.declared.bad_word.BadWord.TheVariants as bad
use Rattle.line_text.specs.Digits.{IsDigit, SpellsBytes}
use Rattle.line_text.specs.Fields.{bad_bytes, bad_number, bytes_in, hex, hex_of, hex_or_dash_of, hex_that, hex_up_to, is_within, name, number, number_in, number_that, or_nothing}
use Rattle.line_text.specs.Numbers.{fits_64, is_numeral, number_of, read_digits}
use Rattle.line_text.specs.Spellings.{AreBytes, Reads, SpellsAs, SpellsBetween, SpellsFitting, SpellsHex, SpellsName, SpellsNumber, SpellsNumbered, SpellsOrDash, SpellsUpTo, if_some, or_any}
use Rattle.line_text.proofs.DigitLemmas.{hex-spelled as digits-spelled, spelled-hex as spelled-digits}
use Rattle.line_text.proofs.FieldLemmas.{number-good, number_of-decimal, number_spelled}

abbrev there : {A : Type 0} → A → Option A
there x = Some x

some_is : {A : Type 0} (x y : A) → there x ≡ there y → x ≡ y
some_is x y e = cc

abbrev none_bad : Option BadWord
none_bad = None

-- the test that let a value pass
let_pass : (b : Bool) (w : BadWord) → cond b none_bad (Some w) ≡ None → b ≡ true
let_pass true w e = refl
let_pass false w e = cc

-- ## Numbers

fits_held : (n : ℕ) (b : Bool) (m : ℕ) → ltb n (2 ^ 64) ≡ b → cond b (there n) None ≡ Some m → m < 2 ^ 64
fits_held n true m is e = subst (λ k. k < 2 ^ 64) (some_is n m e) (ltb-true n (2 ^ 64) is)
fits_held n false m is e = cc

numeral_held : (word : List ℕ) (b : Bool) (m : ℕ) → cond b (fits_64 (read_digits 0 word)) None ≡ Some m → m < 2 ^ 64
numeral_held word true m e = fits_held (read_digits 0 word) (ltb (read_digits 0 word) (2 ^ 64)) m refl e
numeral_held word false m e = cc

-- a number that a word spells is held by 64 bits
held : (word : List ℕ) (o : Option ℕ) → number_of word ≡ o → number_in word < 2 ^ 64
held word None is = rw is (omega arith)
held word (Some n) is = rw is (numeral_held word (is_numeral word) n is)

pub number-spelled : (low high : ℕ) (word : List ℕ) → number low high word ≡ None → SpellsNumber low high word (number_in word)
number-spelled low high word good =
    let h = number-good low high word good in
    record { digits = h.spelled; low = h.low; high = h.high; held = held word (number_of word) refl }

pub number-taken : (low high : ℕ) (word : List ℕ) (n : ℕ) → SpellsNumber low high word n → Reads (number low high) number_in word n
number-taken low high word n h =
    let is : number_of word ≡ Some n = ap number_of h.digits ∙ number_of-decimal n h.held in
    record { good = rw is (rw (le-leb low n h.low, le-leb n high h.high) refl); same = rw is refl }

fitting_spelled : (fits : ℕ → Bool) (word : List ℕ) (o : Option ℕ) → number_of word ≡ o → bad_number fits o ≡ None → SpellsFitting fits word (number_in word)
fitting_spelled fits word None is good = absurd cc
fitting_spelled fits word (Some n) is good =
    let here : number_in word ≡ n = rw is refl in
    let passed : fits n ≡ true = let_pass (fits n) bad.Limit good in
    record {
      digits = number_spelled word n is ∙ ap decimal (sym here);
      fit = subst (λ k. fits k ≡ true) (sym here) passed;
      held = held word (number_of word) refl;
    }

pub fitting-spelled : (fits : ℕ → Bool) (word : List ℕ) → number_that fits word ≡ None → SpellsFitting fits word (number_in word)
fitting-spelled fits word good = fitting_spelled fits word (number_of word) refl good

pub fitting-taken : (fits : ℕ → Bool) (word : List ℕ) (n : ℕ) → SpellsFitting fits word n → Reads (number_that fits) number_in word n
fitting-taken fits word n h =
    let is : number_of word ≡ Some n = ap number_of h.digits ∙ number_of-decimal n h.held in
    record { good = rw is (rw h.fit refl); same = rw is refl }

module _ {V : Type 0} (of : ℕ → Option V) (any : V) (number_for : V → ℕ) where
  numbered_spelled : ((n : ℕ) (v : V) → of n ≡ Some v → number_for v ≡ n) → (word : List ℕ) (n : ℕ) (o : Option V) → word ≡ decimal n → n < 2 ^ 64 → of n ≡ o → is_some o ≡ true → SpellsNumbered of number_for word (if_some any o)
  numbered_spelled own word n None digits small is some = absurd cc
  numbered_spelled own word n (Some v) digits small is some =
      let same = own n v is in
      record {
        digits = digits ∙ ap decimal (sym same);
        is = ap of same ∙ is;
        held = subst (λ k. k < 2 ^ 64) (sym same) small;
      }

  pub numbered-spelled : ((n : ℕ) (v : V) → of n ≡ Some v → number_for v ≡ n) → (word : List ℕ) → number_that (λ n. is_some (of n)) word ≡ None → SpellsNumbered of number_for word (if_some any (of (number_in word)))
  numbered-spelled own word good =
      let h = fitting-spelled (λ n. is_some (of n)) word good in
      numbered_spelled own word (number_in word) (of (number_in word)) h.digits h.held refl h.fit

  pub numbered-taken : (word : List ℕ) (v : V) → SpellsNumbered of number_for word v → Reads (number_that (λ n. is_some (of n))) (λ w. if_some any (of (number_in w))) word v
  numbered-taken word v h =
      let is : number_of word ≡ Some (number_for v) = ap number_of h.digits ∙ number_of-decimal (number_for v) h.held in
      record { good = rw is (rw h.is refl); same = rw is (rw h.is refl) }

-- ## Bytes

between_fits : (least most : ℕ) (word : List ℕ) (o : Option (List ℕ)) → hex_of word ≡ o → bad_bytes (λ b. is_within least most (length b)) o ≡ None → SpellsBetween least most word (or_nothing o)
between_fits least most word None is good = cc
between_fits least most word (Some b) is good =
    let p = and_parts (leb least (length b)) (leb (length b) most) (let_pass (is_within least most (length b)) bad.Limit good) in
    record { digits = digits-spelled word b is; some = leb-true least (length b) p.0; few = leb-true (length b) most p.1 }

pub between-spelled : (least most : ℕ) (word : List ℕ) → hex_that (λ b. is_within least most (length b)) word ≡ None → SpellsBetween least most word (or_nothing (hex_of word))
between-spelled least most word good = between_fits least most word (hex_of word) refl good

pub between-taken : (least most : ℕ) (word b : List ℕ) → SpellsBetween least most word b → Reads (hex_that (λ b. is_within least most (length b))) (λ w. or_nothing (hex_of w)) word b
between-taken least most word b h =
    let is = spelled-digits word b h.digits in
    record { good = rw is (rw (le-leb least (length b) h.some, le-leb (length b) most h.few) refl); same = rw is refl }

hex_fits : (many : ℕ) (word : List ℕ) (o : Option (List ℕ)) → hex_of word ≡ o → bad_bytes (λ b. eqb (length b) many) o ≡ None → SpellsHex many word (or_nothing o)
hex_fits many word None is good = cc
hex_fits many word (Some b) is good = record { digits = digits-spelled word b is; long = eqb-true (length b) many (let_pass (eqb (length b) many) bad.Limit good) }

pub hex-spelled : (many : ℕ) (word : List ℕ) → hex many word ≡ None → SpellsHex many word (or_nothing (hex_of word))
hex-spelled many word good = hex_fits many word (hex_of word) refl good

pub hex-taken : (many : ℕ) (word b : List ℕ) → SpellsHex many word b → Reads (hex many) (λ w. or_nothing (hex_of w)) word b
hex-taken many word b h =
    let is = spelled-digits word b h.digits in
    record { good = rw is (rw (eq-eqb (length b) many h.long) refl); same = rw is refl }

-- ## Bytes, or `-`

dash_or_hex : (word b : List ℕ) (is_dash : Bool) → bytes_eq word (codes "-") ≡ is_dash → cond is_dash (there []) (hex_of word) ≡ Some b → SpellsOrDash word b
dash_or_hex word b true is e = inl ((bytes_eq-Decides word (codes "-")).0 is, sym (some_is [] b e))
dash_or_hex word b false is e = inr (digits-spelled word b e)

up_to_fits : (most : ℕ) (word : List ℕ) (o : Option (List ℕ)) → hex_or_dash_of word ≡ o → bad_bytes (λ b. leb (length b) most) o ≡ None → SpellsUpTo most word (or_nothing o)
up_to_fits most word None is good = cc
up_to_fits most word (Some b) is good = record {
  digits = dash_or_hex word b (bytes_eq word (codes "-")) refl is;
  few = leb-true (length b) most (let_pass (leb (length b) most) bad.Limit good);
}

pub up_to-spelled : (most : ℕ) (word : List ℕ) → hex_up_to most word ≡ None → SpellsUpTo most word (bytes_in word)
up_to-spelled most word good = up_to_fits most word (hex_or_dash_of word) refl good

-- the word `-` spells no bytes in digits
dash_none : (b : List ℕ) → SpellsBytes (codes "-") b → ⊥
dash_none [] h = h
dash_none (x ∷ b) h = h

dash_apart : (word b : List ℕ) (is_dash : Bool) → bytes_eq word (codes "-") ≡ is_dash → SpellsBytes word b → cond is_dash (there []) (hex_of word) ≡ Some b
dash_apart word b true is h = absurd (dash_none b (subst (λ (w : List ℕ). SpellsBytes w b) ((bytes_eq-Decides word (codes "-")).0 is) h))
dash_apart word b false is h = spelled-digits word b h

or_dash_read : (word b : List ℕ) → SpellsOrDash word b → hex_or_dash_of word ≡ Some b
or_dash_read word b (inl h) =
    let is : bytes_eq word (codes "-") ≡ true = (bytes_eq-Decides word (codes "-")).1 h.0 in
    rw is (ap there (sym h.1))
or_dash_read word b (inr h) = dash_apart word b (bytes_eq word (codes "-")) refl h

pub up_to-taken : (most : ℕ) (word b : List ℕ) → SpellsUpTo most word b → Reads (hex_up_to most) bytes_in word b
up_to-taken most word b h =
    let is = or_dash_read word b h.digits in
    record { good = rw is (rw (le-leb (length b) most h.few) refl); same = rw is refl }

-- ## Names

name_good : (b : Bool) → cond b none_bad (Some bad.Name) ≡ None → b ≡ true
name_good b e = let_pass b bad.Name e

pub name-spelled : (word : List ℕ) → name word ≡ None → SpellsName word word
name-spelled word good = record { same = refl; good = name_good (is_name word) good }

pub name-taken : (word called : List ℕ) → SpellsName word called → Reads name (λ w. w) word called
name-taken word called h = record { good = rw (h.same, h.good) refl; same = h.same }

-- ## Values of bytes

digit_below : (c n : ℕ) → IsDigit c n → n ≤ 15
digit_below c n (inl h) = omega (arith, h.0)
digit_below c n (inr (inl h)) = h.1
digit_below c n (inr (inr h)) = h.1

-- bytes that a word spells are bytes
pub below_256 : (word b : List ℕ) → SpellsBytes word b → AreBytes b
below_256 [] [] h k = omega arith
below_256 [] (b ∷ bs) h k = absurd h
below_256 (digit ∷ []) [] h k = absurd h
below_256 (digit ∷ []) (b ∷ bs) h k = absurd h
below_256 (upper ∷ lower ∷ word) [] h k = absurd h
below_256 (upper ∷ lower ∷ word) (b ∷ bs) h zero =
    let high = digit_below upper h.0.high h.0.upper_is in
    let low = digit_below lower h.0.low h.0.lower_is in
    omega (arith, high, low, h.0.value)
below_256 (upper ∷ lower ∷ word) (b ∷ bs) h (suc k) = below_256 word bs h.1 k

none_of_length : (within fits : Bool) (w : BadWord) → (within ≡ false → fits ≡ false) → cond within none_bad (Some bad.Limit) ≡ Some w → cond fits none_bad (Some bad.Limit) ≡ Some w
none_of_length true fits w h e = absurd cc
none_of_length false fits w h e = rw (h refl) e

out_of_length : {V E : Type 0} (read : List ℕ → Result V E) (many : ℕ) → ((b : List ℕ) → eqb (length b) many ≡ false → is_ok (read b) ≡ false) → (o : Option (List ℕ)) (w : BadWord) → bad_bytes (λ b. eqb (length b) many) o ≡ Some w → bad_bytes (λ b. is_ok (read b)) o ≡ Some w
out_of_length read many long None w e = e
out_of_length read many long (Some b) w e = none_of_length (eqb (length b) many) (is_ok (read b)) w (long b) e

-- what are no bytes of this length are no value that has so many
pub no_value : {V E : Type 0} (read : List ℕ → Result V E) (many : ℕ) → ((b : List ℕ) → eqb (length b) many ≡ false → is_ok (read b) ≡ false) → (word : List ℕ) (w : BadWord) → hex many word ≡ Some w → hex_that (λ b. is_ok (read b)) word ≡ Some w
no_value read many long word w e = out_of_length read many long (hex_of word) w e

module _ {V E : Type 0} (read : List ℕ → Result V E) (any : V) (Are : List ℕ → V → Type 0) where
  as_read : ((b : List ℕ) (v : V) → AreBytes b → read b ≡ Ok v → Are b v) → (word b : List ℕ) (r : Result V E) → SpellsBytes word b → read b ≡ r → is_ok r ≡ true → SpellsAs Are word (or_any any r)
  as_read are word b (Ok v) digits is ok = record { bytes = b; digits = digits; are = are b v (below_256 word b digits) is }
  as_read are word b (Err fault) digits is ok = cc

  as_fits : ((b : List ℕ) (v : V) → AreBytes b → read b ≡ Ok v → Are b v) → (word : List ℕ) (o : Option (List ℕ)) → hex_of word ≡ o → bad_bytes (λ b. is_ok (read b)) o ≡ None → SpellsAs Are word (or_any any (read (or_nothing o)))
  as_fits are word None is good = cc
  as_fits are word (Some b) is good = as_read are word b (read b) (digits-spelled word b is) refl (let_pass (is_ok (read b)) bad.Limit good)

  pub as-spelled : ((b : List ℕ) (v : V) → AreBytes b → read b ≡ Ok v → Are b v) → (word : List ℕ) → hex_that (λ b. is_ok (read b)) word ≡ None → SpellsAs Are word (or_any any (read (or_nothing (hex_of word))))
  as-spelled are word good = as_fits are word (hex_of word) refl good

  pub as-taken : ((b : List ℕ) (v : V) → Are b v → read b ≡ Ok v) → (word : List ℕ) (v : V) → SpellsAs Are word v → Reads (hex_that (λ b. is_ok (read b))) (λ w. or_any any (read (or_nothing (hex_of w)))) word v
  as-taken again word v h =
      let is = spelled-digits word h.bytes h.digits in
      let read_as = again h.bytes v h.are in
      record { good = rw is (rw read_as refl); same = rw is (rw read_as refl) }
