-- Words, their places, and the numbers that they are.
use Rattle.std.proofs.Common.{rules, ◌*◌, ◌≡◌, ℕ, ◌+◌, ◌-◌, ◌^◌, ◌<◌, ◌≤◌, Bool, true, false, cond, ◌&&◌, List, [], ◌∷◌, length, Option, Some, None, refl, sym, ap, subst, ◌∙◌, arith, lt-ltb}
use Rattle.std.specs.Prelude.{decimal, nat_lt}
use Rattle.std.specs.Str.{bytes_eq}
use Rattle.std.specs.Str.Parse.{digits_value}
use Rattle.std.specs.Char.{is_ascii_digit}
use Rattle.std.specs.List.{list_all}
use Rattle.std.proofs.lemmas.Fmt.{decimal_is_IsNumeral, digits_decimal}
use Rattle.std.proofs.lemmas.Str.Parse.{IsNumeralModel, numerals_by_fold}
use Rattle.std.specs.Prelude.{MatchOption}
use Rattle.std.specs.Borrow.{Bor}
use Rattle.std.proofs.lemmas.Bool.{and_parts, ltb-true}
use Rattle.std.proofs.lemmas.Slice.Eq.{bytes_eq-Decides}
use Rattle.std.proofs.lemmas.List.Splits.{length-slice_split}
use Rattle.line_text.specs.Words.{is_space, parts, parts_left}
use Rattle.journal.specs.Words.{passed, place_of, number_of}

-- ---- places

passed-more : (place total : ℕ) (word : List ℕ) (rest : List (List ℕ)) → 0 < length rest → total ≡ place + length word + 1
    → record { place = total; words = rest } ≡ passed place word rest
passed-more place total word [] some is = absurd (omega (arith, some))
passed-more place total word (next ∷ rest) some is = ap (λ n. record { place = n; words = next ∷ rest }) is

-- what a reader has left behind a word of a text
pub passed_on : (whole : ℕ) (text word : List ℕ) (rest : Option (Bor (List ℕ))) → length text ≤ whole
    → MatchOption rest (length word ≡ length text) (λ r. length text ≡ length word + 1 + length r.now)
    → record { place = place_of whole rest; words = parts_left rest } ≡ passed (whole - length text) word (parts_left rest)
passed_on whole text word None fits same = ap (λ n. record { place = n; words = [] }) (omega (arith, fits, same))
passed_on whole text word (Some r) fits longer =
    passed-more (whole - length text) (whole - length r.now) word (parts r.now) (omega (arith, length-slice_split is_space r.now)) (omega (arith, fits, longer))

-- ---- numbers

-- what a test let through
pub picked : {A : Type 0} (b : Bool) (x y : A) → cond b (Some x) None ≡ Some y → (b ≡ true) × (x ≡ y)
picked true x y e = (refl, cc)
picked false x y e = absurd cc

test-decimal : (n : ℕ) → n < 2 ^ 64 → nat_lt (digits_value 10 (decimal n)) (2 ^ 64) && bytes_eq (decimal n) (decimal (digits_value 10 (decimal n))) ≡ true
test-decimal n lt = rw ((decimal_is_IsNumeral n lt).1, lt-ltb n (2 ^ 64) lt, (bytes_eq-Decides (decimal n) (decimal n)).1 refl) refl

-- the digits of a number are read as that number
pub number_of-decimal : (n : ℕ) → n < 2 ^ 64 → number_of (decimal n) ≡ Some n
number_of-decimal n lt = rw (test-decimal n lt) (ap Some (decimal_is_IsNumeral n lt).1)

-- what is read as a number is its digits
pub number_of-back : (word : List ℕ) (n : ℕ) → number_of word ≡ Some n → (word ≡ decimal n) × (n < 2 ^ 64)
number_of-back word n e =
    let p = picked (nat_lt (digits_value 10 word) (2 ^ 64) && bytes_eq word (decimal (digits_value 10 word))) (digits_value 10 word) n e in
    let t = and_parts _ _ p.0 in
    subst (λ (m : ℕ). (word ≡ decimal m) × (m < 2 ^ 64)) p.1 ((bytes_eq-Decides word (decimal (digits_value 10 word))).0 t.1, ltb-true _ _ t.0)

pub number_is : (word : List ℕ) (n : ℕ) → n < 2 ^ 64 → word ≡ decimal n → Some n ≡ number_of word
number_is word n lt e = sym (ap number_of e ∙ number_of-decimal n lt)

no_number-from : (word : List ℕ) (o : Option ℕ) → number_of word ≡ o → ((n : ℕ) → n < 2 ^ 64 → word ≡ decimal n → ⊥) → None ≡ o
no_number-from word (Some n) e none = let p = number_of-back word n e in absurd (none n p.1 p.0)
no_number-from word None e none = refl

pub no_number : (word : List ℕ) → ((n : ℕ) → n < 2 ^ 64 → word ≡ decimal n → ⊥) → None ≡ number_of word
no_number word none = no_number-from word (number_of word) refl none

abbrev read_on : ℕ → List ℕ → ℕ
read_on n [] = n
read_on n (c ∷ cs) = read_on (10 * n + (c - 48)) cs

own : IsNumeralModel (λ ds. list_all is_ascii_digit ds ≡ true) (read_on 0)
own = numerals_by_fold _ (search rules) read_on (search rules)

-- the digits of a number are digits
pub digits_all : (n : ℕ) → n < 2 ^ 64 → list_all is_ascii_digit (decimal n) ≡ true
digits_all n lt = digits_decimal own n lt
