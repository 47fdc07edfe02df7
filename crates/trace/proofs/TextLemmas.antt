-- Texts without a line feed, and how lines part.
use Rattle.std.proofs.Common.{◌≡◌, ℕ, zero, suc, ◌/◌, ◌%◌, ◌≤◌, inl, inr, Bool, true, false, not, eqb, ltb, List, [], ◌∷◌, ◌++◌, get_or, refl, ap, sym, ◌∙◌, subst, arith}
use Rattle.std.specs.Prelude.{codes, flat_map}
use Rattle.std.specs.List.{join_with_byte, list_all}
use Rattle.std.specs.Fmt.{decimal, digit_glyph, digits, digits_onto}
use Rattle.std.proofs.lemmas.Bool.{and_from, and_parts, cases_Bool, false≢true, leb-true, ne_eqb, eq-eqb}
use Rattle.std.proofs.lemmas.List.Folds.{list_all-append}
use Rattle.hex.specs.Hex.{encode_lower, encode_with, lower_digits}
use Rattle.line_text.specs.Words.{is_printable, is_word}
use Rattle.text_trace.specs.Lines.{has_no_feed}

-- ## All bytes pass a test

all-append : (p : ℕ → Bool) (a b : List ℕ) → list_all p a ≡ true → list_all p b ≡ true → list_all p (a ++ b) ≡ true
all-append p a b x y = list_all-append p a b ∙ and_from (list_all p a) (list_all p b) x y

-- each test that passes from 48 on passes of all digits
glyph-high : (d : ℕ) → 48 ≤ digit_glyph false d
glyph-high d =
    elim (cases_Bool (ltb d 10)) [
      | inl low ↦ rw low (omega arith)
      | inr high ↦ rw high (omega arith)
    ]

digits-all : (p : ℕ → Bool) → ((b : ℕ) → 48 ≤ b → p b ≡ true) → (k n : ℕ) (acc : List ℕ) → list_all p acc ≡ true → list_all p (digits_onto k 10 false n acc) ≡ true
digits-all p high zero n acc rest = rest
digits-all p high (suc k) n acc rest =
    let more : list_all p (digit_glyph false (n % 10) ∷ acc) ≡ true = and_from _ _ (high (digit_glyph false (n % 10)) (glyph-high (n % 10))) rest in
    elim (cases_Bool (eqb (n / 10) 0)) [
      | inl last ↦ rw last more
      | inr others ↦ rw others (digits-all p high k (n / 10) (digit_glyph false (n % 10) ∷ acc) more)
    ]

decimal-all : (p : ℕ → Bool) → ((b : ℕ) → 48 ≤ b → p b ≡ true) → (n : ℕ) → list_all p (decimal n) ≡ true
unfolding digits
decimal-all p high n = digits-all p high 64 n [] refl

not-ten : (b : ℕ) → 48 ≤ b → not (eqb b 10) ≡ true
not-ten b high = rw (ne_eqb b 10 (λ e. omega (arith, high, e))) refl

not-space : (b : ℕ) → 48 ≤ b → not (eqb b 32) ≡ true
not-space b high = rw (ne_eqb b 32 (λ e. omega (arith, high, e))) refl

pub clear-append : (a b : List ℕ) → has_no_feed a ≡ true → has_no_feed b ≡ true → has_no_feed (a ++ b) ≡ true
clear-append a b x y = all-append (λ b. not (eqb b 10)) a b x y

-- bytes with a line feed among them are not clear
pub ends-fed : (front more : List ℕ) → has_no_feed (front ++ 10 ∷ more) ≡ true → ⊥
ends-fed front more clear =
    let parts = and_parts (has_no_feed front) (has_no_feed (10 ∷ more)) (sym (list_all-append (λ b. not (eqb b 10)) front (10 ∷ more)) ∙ clear) in
    false≢true parts.1

pub clear-decimal : (n : ℕ) → has_no_feed (decimal n) ≡ true
clear-decimal n = decimal-all (λ b. not (eqb b 10)) not-ten n

-- a decimal has no space
pub unspaced-decimal : (n : ℕ) → list_all (λ b. not (eqb b 32)) (decimal n) ≡ true
unspaced-decimal n = decimal-all (λ b. not (eqb b 32)) not-space n

-- words with one space between two have no line feed
clear-printable : (w : List ℕ) → list_all is_printable w ≡ true → has_no_feed w ≡ true
clear-printable [] h = refl
clear-printable (x ∷ w) h =
    let p = and_parts _ _ h in
    let low = leb-true 33 x (and_parts _ _ p.0).0 in
    let ten : not (eqb x 10) ≡ true = rw (ne_eqb x 10 (λ e. omega (arith, low, e))) refl in
    and_from _ _ ten (clear-printable w p.1)

pub clear-words : (ws : List (List ℕ)) → list_all is_word ws ≡ true → has_no_feed (join_with_byte 32 ws) ≡ true
clear-words [] h = refl
clear-words (w ∷ []) h = clear-printable w (and_parts _ _ (and_parts _ _ h).0).1
clear-words (w ∷ v ∷ ws) h =
    let p = and_parts _ _ h in
    clear-append w (32 ∷ join_with_byte 32 (v ∷ ws)) (clear-printable w (and_parts _ _ p.0).1) (clear-words (v ∷ ws) p.1)

-- numbers with one space between two
pub clear-numbers : (ms : List ℕ) → has_no_feed (flat_map (λ m. codes " " ++ decimal m) ms) ≡ true
clear-numbers [] = refl
clear-numbers (m ∷ ms) = clear-append (codes " " ++ decimal m) (flat_map (λ m. codes " " ++ decimal m) ms) (clear-append (codes " ") (decimal m) refl (clear-decimal m)) (clear-numbers ms)

-- no digit of a table is a line feed, where none of its bytes is
get-all : (p : ℕ → Bool) (xs : List ℕ) (k : ℕ) → list_all p xs ≡ true → p 0 ≡ true → p (get_or xs k 0) ≡ true
get-all p [] k all first = first
get-all p (x ∷ xs) zero all first = (and_parts _ _ all).0
get-all p (x ∷ xs) (suc k) all first = get-all p xs k (and_parts _ _ all).1 first

pub clear-hex : (bytes : List ℕ) → has_no_feed (encode_lower bytes) ≡ true
unfolding encode_with
clear-hex [] = refl
clear-hex (b ∷ bytes) =
    let digit : (k : ℕ) → not (eqb (get_or lower_digits k 0) 10) ≡ true = λ k. get-all (λ b. not (eqb b 10)) lower_digits k refl refl in
    and_from _ _ (digit (b / 16)) (and_from _ _ (digit (b % 16)) (clear-hex bytes))

-- nor a space
pub unspaced-hex : (bytes : List ℕ) → list_all (λ b. not (eqb b 32)) (encode_lower bytes) ≡ true
unfolding encode_with
unspaced-hex [] = refl
unspaced-hex (b ∷ bytes) =
    let digit : (k : ℕ) → not (eqb (get_or lower_digits k 0) 32) ≡ true = λ k. get-all (λ b. not (eqb b 32)) lower_digits k refl refl in
    and_from _ _ (digit (b / 16)) (and_from _ _ (digit (b % 16)) (unspaced-hex bytes))

-- ## The first place of a byte

-- two texts that agree, and have the byte first at the same place
pub record Same (f g x y : List ℕ) : Type 0 where
  pub fronts : f ≡ g
  pub rests : x ≡ y

cons-same : (a b : ℕ) (x y : List ℕ) → a ∷ x ≡ b ∷ y → (a ≡ b) × (x ≡ y)
cons-same a b x y e = (cc, cc)

byte-apart : (c x : ℕ) → not (eqb x c) ≡ true → x ≡ c → ⊥
byte-apart c x apart same =
    let is : eqb x c ≡ true = subst (λ (y : ℕ). eqb x y ≡ true) same (eq-eqb x x refl) in
    false≢true (sym (ap not is) ∙ apart)

pub same-fronts : (c : ℕ) (f g x y : List ℕ) → list_all (λ b. not (eqb b c)) f ≡ true → list_all (λ b. not (eqb b c)) g ≡ true → f ++ c ∷ x ≡ g ++ c ∷ y → Same f g x y
same-fronts c [] [] x y cf cg e = record { fronts = refl; rests = (cons-same c c x y e).1 }
same-fronts c [] (b ∷ g) x y cf cg e = absurd (byte-apart c b (and_parts _ _ cg).0 (sym (cons-same c b x (g ++ c ∷ y) e).0))
same-fronts c (a ∷ f) [] x y cf cg e = absurd (byte-apart c a (and_parts _ _ cf).0 (cons-same a c (f ++ c ∷ x) y e).0)
same-fronts c (a ∷ f) (b ∷ g) x y cf cg e =
    let s = cons-same a b (f ++ c ∷ x) (g ++ c ∷ y) e in
    let rest = same-fronts c f g x y (and_parts _ _ cf).1 (and_parts _ _ cg).1 s.1 in
    record { fronts = ap (λ (h : ℕ). h ∷ f) s.0 ∙ ap (λ (t : List ℕ). b ∷ t) rest.fronts; rests = rest.rests }
