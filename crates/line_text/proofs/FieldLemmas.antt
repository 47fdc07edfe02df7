-- Fields: what passes a test is spelled in one way and in range, and what is spelled so passes.
use Rattle.std.proofs.Common.{◌≡◌, ℕ, ◌^◌, ◌<◌, ◌≤◌, Bool, true, false, cond, ltb, leb, eqb, List, [], ◌∷◌, length, get_or, Option, Some, None, Result, Ok, inl, inr, refl, sym, ap, subst, ◌∙◌, arith, rules, lt-ltb, eq-eqb, ltb-true}
use Rattle.std.specs.Char.{is_ascii_digit}
use Rattle.std.specs.Fmt.{decimal}
use Rattle.std.specs.List.{list_all}
use Rattle.std.proofs.lemmas.Bool.{cases_Bool, cases_lt, leb-true, ne_eqb, eqb-true, eqb-false, and_parts, and_right, not-true, not-false}
use Rattle.std.proofs.lemmas.Fmt.{decimal-digits_value, digits_decimal, digits_value-decimal, decimal_nonempty, first_decimal, decimal_digit}
use Rattle.std.proofs.lemmas.Str.Parse.{IsNumeralModel, numerals_by_fold}
use Rattle.line_text.specs.declared.bad_word.BadWord.{BadWord}
use Rattle.line_text.specs.declared.bad_word.BadWord.TheVariants as bad
use Rattle.line_text.specs.Fields.{Test, bad_number, is_within, number, number_in, or_zero}
use Rattle.line_text.specs.Frame.{field_tests, first_of, first_word, second_word, unless_bad, whole_line, word_tests}
use Rattle.line_text.specs.Numbers.{read_digits, has_leading_zero, is_numeral, fits_64, number_of}
use Rattle.line_text.proofs.FrameLemmas.{or_none, passed, unless_ok}

-- ## Numbers

own : IsNumeralModel (λ ds. list_all is_ascii_digit ds ≡ true) (read_digits 0)
own = numerals_by_fold _ (search rules) read_digits (search rules)

some_if : {A : Type 0} (b : Bool) (o : Option A) (y : A) → cond b o None ≡ Some y → (b ≡ true) × (o ≡ Some y)
some_if true o y e = (refl, e)
some_if false o y e = absurd cc

abbrev there : {A : Type 0} → A → Option A
there x = Some x

some_is : {A : Type 0} (x y : A) → there x ≡ there y → x ≡ y
some_is x y e = cc

lone_zero : (word : List ℕ) → has_leading_zero word ≡ false → 0 < length word → get_or word 0 0 ≡ 48 → length word ≡ 1
lone_zero word h full first =
    elim (cases_lt 1 (length word)) [
      | inl lt ↦ (let zero_first = eq-eqb (get_or word 0 0) 48 first in
          let more = lt-ltb 1 (length word) lt in
          absurd cc)
      | inr le ↦ omega arith
    ]

fits : (v n : ℕ) → fits_64 v ≡ Some n → (v < 2 ^ 64) × (v ≡ n)
fits v n e =
    let f = some_if (ltb v (2 ^ 64)) (Some v) n e in
    (ltb-true v (2 ^ 64) f.0, some_is v n f.1)

nonempty : (n : ℕ) → eqb n 0 ≡ false → 0 < n
nonempty n e = elim (cases_lt 0 n) [ inl lt ↦ lt | inr le ↦ absurd (eqb-false n 0 e (omega arith)) ]

-- a number has one spelling
pub number_spelled : (word : List ℕ) (n : ℕ) → number_of word ≡ Some n → word ≡ decimal n
number_spelled word n e =
    let a = some_if (is_numeral word) (fits_64 (read_digits 0 word)) n e in
    let f = fits (read_digits 0 word) n a.1 in
    let b = and_parts _ _ a.0 in
    let d = and_parts _ _ b.1 in
    let empty : eqb (length word) 0 ≡ false = not-true _ b.0 in
    let full = nonempty (length word) empty in
    sym (decimal-digits_value own word d.0 full (lone_zero word (not-true _ d.1) full) f.0) ∙ ap decimal f.1

no_leading_zero : (n : ℕ) → n < 2 ^ 64 → has_leading_zero (decimal n) ≡ false
no_leading_zero n small =
    elim (cases_lt 0 n) [
      | inl full ↦ (let first = first_decimal n full small in
          and_right (ltb 1 (length (decimal n))) (eqb (get_or (decimal n) 0 0) 48) (ne_eqb (get_or (decimal n) 0 0) 48 (λ e. absurd (omega (arith, first, e)))))
      | inr none ↦ (let zero_is : n ≡ 0 = omega arith in
          rw (zero_is, decimal_digit 0 (omega arith)) refl)
    ]

numeral : (n : ℕ) → n < 2 ^ 64 → is_numeral (decimal n) ≡ true
numeral n small =
    let full = decimal_nonempty n small in
    rw (ne_eqb (length (decimal n)) 0 (λ e. absurd (omega (arith, full, e))), digits_decimal own n small, no_leading_zero n small) refl

pub number_of-decimal : (n : ℕ) → n < 2 ^ 64 → number_of (decimal n) ≡ Some n
number_of-decimal n small = rw (numeral n small, digits_value-decimal own n small, lt-ltb n (2 ^ 64) small) refl

-- ## A number in its range

-- The word is the one spelling of its number, which is in the range.
pub record IsNumber (least most : ℕ) (word : List ℕ) : Type 0 where
  pub spelled : word ≡ decimal (number_in word)
  pub low : least ≤ number_in word
  pub high : number_in word ≤ most

within_none : (low high n : ℕ) → cond (is_within low high n) None (Some bad.Limit) ≡ None → (low ≤ n) × (n ≤ high)
within_none low high n e =
    elim (cases_Bool (is_within low high n)) [
      | inl is ↦ (let p = and_parts (leb low n) (leb n high) is in (leb-true low n p.0, leb-true n high p.1))
      | inr isnt ↦ absurd (let o : cond (is_within low high n) None (Some bad.Limit) ≡ Some bad.Limit = rw isnt refl in cc)
    ]

numbered : (low high : ℕ) (word : List ℕ) (o : Option ℕ) → number_of word ≡ o → bad_number (is_within low high) o ≡ None → IsNumber low high word
numbered low high word None is e = cc
numbered low high word (Some n) is e =
    let range = within_none low high n e in
    let here : number_in word ≡ n = ap or_zero is in
    record {
      spelled = number_spelled word n is ∙ ap decimal (sym here);
      low = subst (λ k. low ≤ k) (sym here) range.0;
      high = subst (λ k. k ≤ high) (sym here) range.1;
    }

pub number-good : (low high : ℕ) (word : List ℕ) → number low high word ≡ None → IsNumber low high word
number-good low high word e = numbered low high word (number_of word) refl e

-- ## A row

-- The words pass the row's tests, and are this line.
pub record Passed {L : Type 0} (fields : List Test) (whole_fault : List (List ℕ) → Option BadWord) (line : List (List ℕ) → L) (words : List (List ℕ)) (l : L) : Type 0 where
  pub many : length words ≡ length fields
  pub good : first_of (word_tests fields words) ≡ None
  pub whole : whole_fault words ≡ None
  pub same : line words ≡ l

abbrev right : {L : Type 0} → L → Result L BadWord
right x = Ok x

ok_is : {L : Type 0} (x y : L) → right x ≡ right y → x ≡ y
ok_is x y e = cc

module _ {L : Type 0} (fields : List Test) (whole_fault : List (List ℕ) → Option BadWord) (line : List (List ℕ) → L) (words : List (List ℕ)) where
  pub whole_line-ok : (l : L) → whole_line fields whole_fault line words ≡ Ok l → Passed fields whole_fault line words l
  whole_line-ok l e =
      let u = unless_ok (first_of (field_tests fields words)) (unless_bad (whole_fault words) (right (line words))) l e in
      let v = unless_ok (whole_fault words) (right (line words)) l u.1 in
      let p = or_none _ _ u.0 in
      record {
        many = eqb-true (length words) (length fields) (not-false _ (passed bad.Count _ p.0));
        good = p.1;
        whole = v.0;
        same = ok_is (line words) l v.1;
      }

  pub whole_line-good : length words ≡ length fields → first_of (word_tests fields words) ≡ None → whole_fault words ≡ None → whole_line fields whole_fault line words ≡ Ok (line words)
  whole_line-good many good whole = rw (eq-eqb (length words) (length fields) many) (rw (good, whole) refl)

-- ## So many words

pub no_word : (words : List (List ℕ)) → length words ≡ 0 → words ≡ []
no_word [] e = refl
no_word (w ∷ words) e = absurd (omega arith)

pub one_word : (words : List (List ℕ)) → length words ≡ 1 → words ≡ first_word words ∷ []
one_word [] e = absurd (omega arith)
one_word (w ∷ words) e = ap (λ (more : List (List ℕ)). w ∷ more) (no_word words (omega arith))

pub two_words : (words : List (List ℕ)) → length words ≡ 2 → words ≡ first_word words ∷ second_word words ∷ []
two_words [] e = absurd (omega arith)
two_words (w ∷ words) e = ap (λ (more : List (List ℕ)). w ∷ more) (one_word words (omega arith))
