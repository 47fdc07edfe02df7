-- Places in lists.
use Rattle.std.proofs.Common.{◌≡◌, ◌⊎◌, ℕ, ◌+◌, zero, suc, List, [], ◌∷◌, ◌++◌, length, Some, inl, inr, refl, ap, sym, ◌∙◌, take, arith}
use Rattle.std.specs.List.{slice_get}
use Rattle.life_laws.proofs.Lists.{In}

pub split-in : {X : Type 0} (xs : List X) (x : X) → In xs x → (before : List X) × ((behind : List X) × (xs ≡ before ++ x ∷ behind))
split-in [] x i = absurd i
split-in (y ∷ ys) x (inl e) = ([], (ys, ap (λ z. z ∷ ys) e))
split-in (y ∷ ys) x (inr i) = let r = split-in ys x i in (y ∷ r.0, (r.1.0, ap (λ zs. y ∷ zs) r.1.1))

-- The element comes in the first list, or in the second behind all of the first.
pub cut-at : {X : Type 0} (xs ys front : List X) (b : X) (behind : List X) → xs ++ ys ≡ front ++ b ∷ behind
    → ((more : List X) × (xs ≡ front ++ b ∷ more)) ⊎ ((gap : List X) × ((front ≡ xs ++ gap) × (ys ≡ gap ++ b ∷ behind)))
cut-at [] ys front b behind e = inr (front, (refl, e))
cut-at (x ∷ xs) ys [] b behind e = let head : x ≡ b = cc in inl (xs, ap (λ z. z ∷ xs) head)
cut-at {X} (x ∷ xs) ys (z ∷ front) b behind e =
    let head : x ≡ z = cc in
    let tail : xs ++ ys ≡ front ++ b ∷ behind = cc in
    elim (cut-at xs ys front b behind tail) [
      | inl here ↦ inl (here.0, ap (λ k. k ∷ xs) head ∙ ap (λ (zs : List X). z ∷ zs) here.1)
      | inr later ↦ inr (later.0, (ap (λ k. k ∷ front) (sym head) ∙ ap (λ (zs : List X). x ∷ zs) later.1.0, later.1.1))
    ]

pub at-length : {X : Type 0} (xs ys : List X) (x : X) → slice_get (xs ++ x ∷ ys) (length xs) ≡ Some x
at-length [] ys x = refl
at-length (y ∷ xs) ys x = at-length xs ys x

pub take-length : {X : Type 0} (xs ys : List X) → take (length xs) (xs ++ ys) ≡ xs
take-length [] [] = refl
take-length [] (y ∷ ys) = refl
take-length (x ∷ xs) ys = ap (λ zs. x ∷ zs) (take-length xs ys)

-- Up to a place of the first list.
pub take-front : {X : Type 0} (xs ys : List X) (n : ℕ) (x : X) → slice_get xs n ≡ Some x → take n (xs ++ ys) ≡ take n xs
take-front [] ys n x h = cc
take-front (z ∷ xs) ys zero x h = refl
take-front (z ∷ xs) ys (suc n) x h = ap (λ zs. z ∷ zs) (take-front xs ys n x h)

-- At a place of the second.
pub get-behind : {X : Type 0} (xs ys : List X) (n : ℕ) → slice_get (xs ++ ys) (length xs + n) ≡ slice_get ys n
get-behind [] ys n = let same : 0 + n ≡ n = omega arith in ap (slice_get ys) same
get-behind (x ∷ xs) ys n =
    let same : length (x ∷ xs) + n ≡ suc (length xs + n) = omega arith in
    ap (slice_get (x ∷ xs ++ ys)) same ∙ get-behind xs ys n

pub take-behind : {X : Type 0} (xs ys : List X) (n : ℕ) → take (length xs + n) (xs ++ ys) ≡ xs ++ take n ys
take-behind [] ys n = let same : 0 + n ≡ n = omega arith in ap (λ k. take k ys) same
take-behind (x ∷ xs) ys n =
    let same : length (x ∷ xs) + n ≡ suc (length xs + n) = omega arith in
    ap (λ k. take k (x ∷ xs ++ ys)) same ∙ ap (λ zs. x ∷ zs) (take-behind xs ys n)
