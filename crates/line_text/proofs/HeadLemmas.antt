-- The digits at the head of a text.
use Rattle.std.proofs.Common.{◌≡◌, ℕ, ◌+◌, ◌-◌, ◌*◌, ◌^◌, ◌<◌, ◌≤◌, ◌==◌, Bool, true, false, ◌&&◌, not, nat_le, List, [], ◌∷◌, ◌++◌, length, take, drop, get_or, Some, true≢false, lt-ltb, refl, sym, ap, ◌∙◌, arith}
use Rattle.std.specs.Char.{is_ascii_digit}
use Rattle.std.specs.List.{list_all}
use Rattle.std.proofs.lemmas.Bool.{and_parts, leb-true, ne_eqb, eq-eqb}
use Rattle.std.proofs.Math.Nat.{pow-le-pow_right}
use Rattle.std.proofs.lemmas.Grind.{pow_more}
use Rattle.std.proofs.lemmas.List.{take-append-drop, take_more, drop_more}
use Rattle.std.proofs.lemmas.List.Folds.{list_all_more}
use Rattle.std.proofs.lemmas.List.Splits.{slice_split_none, slice_split_at}
use Rattle.std.proofs.lemmas.List.Sums.{AllPass-from_list_all}
use Rattle.line_text.specs.Numbers.{has_leading_zero, number_of, read_digits}
use Rattle.line_text.specs.Words.{is_space, parts}

-- one digit more
pub more_digits : (text : List ℕ) (i : ℕ) → i < length text → list_all is_ascii_digit (take i text) ≡ true → is_ascii_digit (get_or text i 0) ≡ true → list_all is_ascii_digit (take (i + 1) text) ≡ true
more_digits text i lt before here = list_all_more is_ascii_digit text i 0 lt ∙ ap (λ (b : Bool). b && is_ascii_digit (get_or text i 0)) before ∙ here

read_digits-push : (n : ℕ) (digits : List ℕ) (digit : ℕ) → read_digits n (digits ++ digit ∷ []) ≡ 10 * read_digits n digits + (digit - 48)
read_digits-push n [] digit = refl
read_digits-push n (first ∷ digits) digit = read_digits-push (10 * n + (first - 48)) digits digit

pub read_digits-more : (text : List ℕ) (i n : ℕ) → i < length text → n ≡ read_digits 0 (take i text) → 10 * n + (get_or text i 0 - 48) ≡ read_digits 0 (take (i + 1) text)
read_digits-more text i n lt e =
    ap (λ (m : ℕ). 10 * m + (get_or text i 0 - 48)) e ∙ sym (ap (read_digits 0) (take_more text i 0 lt) ∙ read_digits-push 0 (take i text) (get_or text i 0))

-- A digit is no space.
no_space : (byte : ℕ) → is_ascii_digit byte ≡ true → is_space byte ≡ false
no_space byte h = ne_eqb byte 32 (λ e. true≢false (sym h ∙ ap is_ascii_digit e))

-- digits alone are one part
pub parts_digits : (text : List ℕ) → list_all is_ascii_digit text ≡ true → parts text ≡ text ∷ []
parts_digits text h = slice_split_none is_space text (λ k d lt. no_space (get_or text k d) (AllPass-from_list_all is_ascii_digit text h k d lt))

-- digits before a space are the first part
pub parts_head : (text : List ℕ) (end : ℕ) → end < length text → list_all is_ascii_digit (take end text) ≡ true → get_or text end 0 ≡ 32 → parts text ≡ take end text ∷ parts (drop (end + 1) text)
parts_head text end lt h space =
    let cut : text ≡ take end text ++ get_or text end 0 ∷ drop (end + 1) text = sym (take-append-drop end text) ∙ ap (λ l. take end text ++ l) (drop_more text end 0 lt) in
    ap parts cut ∙ slice_split_at is_space (take end text) (get_or text end 0) (drop (end + 1) text) (λ k d inside. no_space (get_or (take end text) k d) (AllPass-from_list_all is_ascii_digit (take end text) h k d inside)) (eq-eqb (get_or text end 0) 32 space)

-- digits are a number, with no 0 before others
pub numeral : (word : List ℕ) (n : ℕ) → (not (length word == 0) && not (has_leading_zero word)) ≡ true → list_all is_ascii_digit word ≡ true → n ≡ read_digits 0 word → n < 2 ^ 64 → number_of word ≡ Some n
numeral word n begins digits value fits =
    let p = and_parts (not (length word == 0)) (not (has_leading_zero word)) begins in
    rw (p.0, digits, p.1) (rw (← value) (rw (lt-ltb n (2 ^ 64) fits) refl))

pub single_digit : (byte : ℕ) → is_ascii_digit byte ≡ true → byte - 48 ≤ 9
single_digit byte h =
    let most : byte ≤ 57 = leb-true byte 57 (and_parts (nat_le 48 byte) (nat_le byte 57) h).1 in
    omega (arith, most)

-- 19 digits are below 2 ^ 64
pub few_digits : (i n : ℕ) → i < 19 → n < 10 ^ i → n < 10 ^ 18
few_digits i n few below =
    let most : 10 ^ i ≤ 10 ^ 18 = pow-le-pow_right {n = 10} (omega arith) {i = i} {j = 18} (omega (arith, few)) in
    omega (arith, most, below)

pub next_digits : (i n digit : ℕ) → n < 10 ^ i → digit ≤ 9 → 10 * n + digit < 10 ^ (i + 1)
next_digits i n digit below single = omega (arith, pow_more 10 i, below, single)
