-- A number is a word.
use Rattle.std.proofs.Common.{◌≡◌, ℕ, ◌==◌, true, ◌&&◌, not, nat_le, List, [], ◌∷◌, length, Option, Some, None, inl, inr, refl, sym, arith, is_none, Bor}
use Rattle.std.specs.Char.{is_ascii_digit}
use Rattle.std.specs.List.{list_all}
use Rattle.std.proofs.lemmas.Bool.{and_parts, leb-true, le-leb, ne_eqb}
use Rattle.line_text.specs.Numbers.{fits_64, has_leading_zero, is_numeral, number_of, read_digits}
use Rattle.line_text.specs.Words.{is_printable, is_word, parts, parts_left}
use Rattle.line_text.proofs.FrameLemmas.{chosen}
use Rattle.line_text.proofs.SpacedLemmas.{some-parts}

digit-printable : (b : ℕ) → is_ascii_digit b ≡ true → is_printable b ≡ true
digit-printable b h =
    let p = and_parts (nat_le 48 b) (nat_le b 57) h in
    let low = leb-true 48 b p.0 in
    let high = leb-true b 57 p.1 in
    rw (le-leb 33 b (omega (arith, low)), le-leb b 126 (omega (arith, high))) refl

digits-printable : (w : List ℕ) → list_all is_ascii_digit w ≡ true → list_all is_printable w ≡ true
digits-printable [] h = refl
digits-printable (b ∷ w) h =
    let p = and_parts (is_ascii_digit b) (list_all is_ascii_digit w) h in
    rw (digit-printable b p.0, digits-printable w p.1) refl

numeral-word : (w : List ℕ) → is_numeral w ≡ true → is_word w ≡ true
numeral-word w h =
    let p = and_parts (not (length w == 0)) (list_all is_ascii_digit w && not (has_leading_zero w)) h in
    let q = and_parts (list_all is_ascii_digit w) (not (has_leading_zero w)) p.1 in
    rw (p.0, digits-printable w q.0) refl

abbrev no_number : Option ℕ
no_number = None

pub number-word : (w : List ℕ) (n : ℕ) → number_of w ≡ Some n → is_word w ≡ true
number-word w n e =
    elim (chosen (is_numeral w) (fits_64 (read_digits 0 w)) no_number (Some n) e) [
      | inl h ↦ numeral-word w h.0
      | inr h ↦ cc
    ]

-- A text has a part.
pub none-left : (left : Option (Bor (List ℕ))) → is_none left ≡ (length (parts_left left) == 0)
none-left None = refl
none-left (Some text) = sym (ne_eqb (length (parts text.now)) 0 (λ e. absurd (omega (arith, e, some-parts text.now))))
