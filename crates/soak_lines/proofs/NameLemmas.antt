-- A small letter and the digits of a number are a name.
use Rattle.std.proofs.Common.{◌≡◌, ℕ, ◌+◌, ◌%◌, ◌^◌, ◌<◌, ◌≤◌, Bool, true, leb, List, [], ◌∷◌, ◌++◌, length, refl, ◌∙◌, arith}
use Rattle.std.specs.Prelude.{IsTrue}
use Rattle.std.specs.Fmt.{decimal}
use Rattle.std.specs.List.{list_all}
use Rattle.std.proofs.lemmas.Bool.{le-leb}
use Rattle.std.proofs.lemmas.Bool.Decides.{nat_tests}
use Rattle.std.proofs.lemmas.Fmt.{decimal_by_steps, length-decimal-le}
use Rattle.std.proofs.lemmas.List.Folds.{list_all-append}
use Rattle.ff_ids.specs.declared.TheConstants.{MEMBERS}
use Rattle.fields.specs.Names.{is_name, is_name_byte}

digit_named : (d : ℕ) → d < 10 → is_name_byte (48 + d) ≡ true
digit_named d h = grind (arith, nat_tests)

abbrev are_named : List ℕ → Bool
are_named word = list_all is_name_byte word

one_named : (n : ℕ) → n < 10 → are_named ((48 + n) ∷ []) ≡ true
one_named n h = let e = digit_named n h in rw e refl

more_named : (n : ℕ) (ds : List ℕ) → 10 ≤ n → are_named ds ≡ true → are_named (ds ++ ((48 + n % 10) ∷ [])) ≡ true
more_named n ds h e =
    let last = one_named (n % 10) (omega arith) in
    list_all-append is_name_byte ds ((48 + n % 10) ∷ []) ∙ rw (e, last) refl

digits_named : (n : ℕ) → n < 2 ^ 64 → are_named (decimal n) ≡ true
digits_named n small = decimal_by_steps (λ m ds. are_named ds ≡ true) one_named more_named n small

pub named : (letter n : ℕ) → is_name_byte letter ≡ true → n < MEMBERS → IsTrue (is_name (letter ∷ decimal n))
named letter n small h =
    let short = length-decimal-le 4 n (omega arith) (omega arith) (omega arith) in
    let low : leb 1 (length (letter ∷ decimal n)) ≡ true = le-leb 1 (length (letter ∷ decimal n)) (omega arith) in
    let high : leb (length (letter ∷ decimal n)) 32 ≡ true = le-leb (length (letter ∷ decimal n)) 32 (omega (arith, short)) in
    let digits = digits_named n (omega arith) in
    rw (low, high, small, digits) refl
