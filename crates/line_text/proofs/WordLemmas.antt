-- The parts of a text between its spaces, part by part.
use Rattle.std.proofs.Common.{◌≡◌, ◌≢◌, ℕ, ◌+◌, ◌<◌, ◌≤◌, inl, inr, Bool, true, false, cond, List, [], ◌∷◌, length, take, drop, get_or, Some, None, refl, subst, lt-ltb, le-ltb, arith, position}
use Rattle.std.proofs.lemmas.List.Splits.{slice_split_none, slice_split_first}
use Rattle.std.proofs.lemmas.List.Sums.{fails_before_first, position_or_len_is}
use Rattle.std.proofs.lemmas.Bool.{ltb-true, ltb-false, cases_lt, eq-eqb, ne_eqb}
use Rattle.line_text.specs.Words.{is_space, parts}

found : (b : Bool) (n at : ℕ) → cond b (Some n) None ≡ Some at → (b ≡ true) × (n ≡ at)
found true n at e = (refl, cc)
found false n at e = cc

missed : (b : Bool) (n : ℕ) → cond b (Some n) None ≡ None → b ≡ false
missed true n e = cc
missed false n e = refl

-- a text with no space is one part
pub parts_alone : (text : List ℕ) → position is_space text ≡ None → parts text ≡ text ∷ []
parts_alone text e =
    let none = ltb-false _ _ (missed _ _ e) in
    slice_split_none is_space text (λ k d lt. fails_before_first is_space text k d (omega arith))

-- the first part ends at the first space
pub parts_at : (text : List ℕ) (at : ℕ) → position is_space text ≡ Some at → parts text ≡ take at text ∷ parts (drop (at + 1) text)
parts_at text at e =
    let f = found _ _ at e in
    let lt = ltb-true _ _ f.0 in
    rw (← f.1) (slice_split_first is_space text 0 lt)

-- none of the first bytes is a space
abbrev pub NoSpace : List ℕ → ℕ → Type 0
NoSpace text i = (k : ℕ) → k < i → is_space (get_or text k 0) ≡ false

pub apart_more : (text : List ℕ) (i : ℕ) → NoSpace text i → get_or text i 0 ≢ 32 → NoSpace text (i + 1)
apart_more text i before here k lt = elim (cases_lt k i) [
  | inl under ↦ before k under
  | inr over ↦ let at : i ≡ k = omega (arith, lt, over) in subst (λ (j : ℕ). is_space (get_or text j 0) ≡ false) at (ne_eqb (get_or text i 0) 32 here)
]

pub first_at : (text : List ℕ) (i : ℕ) → i < length text → NoSpace text i → get_or text i 0 ≡ 32 → Some i ≡ position is_space text
first_at text i lt before here = rw (position_or_len_is is_space text i 0 (omega (arith, lt)) before (λ _. eq-eqb (get_or text i 0) 32 here), lt-ltb i (length text) lt) refl

pub first_none : (text : List ℕ) (i : ℕ) → length text ≤ i → NoSpace text i → None ≡ position is_space text
first_none text i end before =
    rw (position_or_len_is is_space text (length text) 0 (omega arith) (λ k lt. before k (omega (arith, lt, end))) (λ lt. absurd (omega (arith, lt))), le-ltb (length text) (length text) (omega arith)) refl
