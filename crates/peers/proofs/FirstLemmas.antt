-- The first ring of which something is so.
use Rattle.std.proofs.Common.{◌≡◌, ℕ, suc, zero, ◌+◌, ◌-◌, ◌<◌, Bool, true, false, cond, List, [], ◌∷◌, ◌++◌, Some, None, refl, ap, sym, ◌∙◌, arith}
use Rattle.std.specs.Prelude.{filter, ◌&&◌, ◌||◌}
use Rattle.std.specs.List.{list_any, range_with_len, slice_get}
use Rattle.peers.proofs.RangeLemmas.{range-more}

-- ---- some of them

any-append : (f : ℕ → Bool) (xs ys : List ℕ) → list_any f (xs ++ ys) ≡ (list_any f xs || list_any f ys)
any-append f [] ys = refl
any-append f (x ∷ xs) ys = ap (λ b. f x || b) (any-append f xs ys) ∙ sym (or-assoc (f x) (list_any f xs) (list_any f ys))
  where
    or-assoc : (a b c : Bool) → ((a || b) || c) ≡ (a || (b || c))
    or-assoc true b c = refl
    or-assoc false b c = refl

from-zero : (n : ℕ) → 0 + n ≡ n
from-zero n = omega arith

or-none : (a b : Bool) → a ≡ false → b ≡ false → (a || (b || false)) ≡ false
or-none a b p q = rw (p, q) refl

-- none of these, nor the next
pub none-next : (f : ℕ → Bool) (n : ℕ) → list_any f (range_with_len 0 n) ≡ false → f n ≡ false → list_any f (range_with_len 0 (n + 1)) ≡ false
none-next f n none fails = ap (list_any f) (range-more n) ∙ any-append f (range_with_len 0 n) (n ∷ []) ∙ or-none _ _ none fails

-- ---- the first of them

or-left : (a b : Bool) → (a || b) ≡ false → a ≡ false
or-left false b h = refl
or-left true b h = h

or-right : (a b : Bool) → (a || b) ≡ false → b ≡ false
or-right false b h = h
or-right true b h = cc

zero-more : (n : ℕ) → zero + suc n ≡ suc n
zero-more n = omega arith

next-more : (n later : ℕ) → suc n + suc later ≡ suc (n + suc later)
next-more n later = omega arith

head-is : (f : ℕ → Bool) (a later : ℕ) → f a ≡ true → slice_get (filter f (range_with_len a (suc later))) 0 ≡ Some a
head-is f a later is = rw is refl

tail-is : (f : ℕ → Bool) (a n : ℕ) → f a ≡ false → slice_get (filter f (range_with_len a (suc n))) 0 ≡ slice_get (filter f (range_with_len (a + 1) n)) 0
tail-is f a n fails = rw fails refl

some-head : (f : ℕ → Bool) (a later : ℕ) → f a ≡ true → list_any f (range_with_len a (suc later)) ≡ true
some-head f a later is = rw is refl

first-from : (f : ℕ → Bool) (a n later : ℕ) → list_any f (range_with_len a n) ≡ false → f (a + n) ≡ true → slice_get (filter f (range_with_len a (n + suc later))) 0 ≡ Some (a + n)
first-from f a zero later none is =
    let same : a + zero ≡ a = omega arith in
    ap (λ (m : ℕ). slice_get (filter f (range_with_len a m)) 0) (zero-more later) ∙ head-is f a later (ap f (sym same) ∙ is) ∙ ap Some (sym same)
first-from f a (suc n) later none is =
    let fails : f a ≡ false = or-left (f a) _ none in
    let rest : list_any f (range_with_len (a + 1) n) ≡ false = or-right (f a) _ none in
    let same : a + 1 + n ≡ a + suc n = omega arith in
    ap (λ (m : ℕ). slice_get (filter f (range_with_len a m)) 0) (next-more n later) ∙ tail-is f a (n + suc later) fails ∙ first-from f (a + 1) n later rest (ap f same ∙ is) ∙ ap Some same

-- The first so many are not so, and the next one is.
pub first-is : (f : ℕ → Bool) (n k : ℕ) → list_any f (range_with_len 0 n) ≡ false → f n ≡ true → n < k → slice_get (filter f (range_with_len 0 k)) 0 ≡ Some n
first-is f n k none is lt =
    let split : n + suc (k - n - 1) ≡ k = omega (arith, lt) in
    ap (λ (m : ℕ). slice_get (filter f (range_with_len 0 m)) 0) (sym split) ∙ first-from f 0 n (k - n - 1) none (ap f (from-zero n) ∙ is) ∙ ap Some (from-zero n)

any-from : (f : ℕ → Bool) (a n later : ℕ) → f (a + n) ≡ true → list_any f (range_with_len a (n + suc later)) ≡ true
any-from f a zero later is =
    let same : a + zero ≡ a = omega arith in
    ap (λ (m : ℕ). list_any f (range_with_len a m)) (zero-more later) ∙ some-head f a later (ap f (sym same) ∙ is)
any-from f a (suc n) later is =
    let same : a + 1 + n ≡ a + suc n = omega arith in
    ap (λ (m : ℕ). list_any f (range_with_len a m)) (next-more n later) ∙ or-true (f a) _ (any-from f (a + 1) n later (ap f same ∙ is))
  where
    or-true : (a b : Bool) → b ≡ true → (a || b) ≡ true
    or-true true b e = refl
    or-true false b e = e

-- It is so of one of them.
pub some-is : (f : ℕ → Bool) (n k : ℕ) → f n ≡ true → n < k → list_any f (range_with_len 0 k) ≡ true
some-is f n k is lt =
    let split : n + suc (k - n - 1) ≡ k = omega (arith, lt) in
    ap (λ (m : ℕ). list_any f (range_with_len 0 m)) (sym split) ∙ any-from f 0 n (k - n - 1) (ap f (from-zero n) ∙ is)

-- ---- none

none-filtered : (f : ℕ → Bool) (xs : List ℕ) → list_any f xs ≡ false → filter f xs ≡ []
none-filtered f [] none = refl
none-filtered f (x ∷ xs) none = rw (or-left (f x) _ none) (none-filtered f xs (or-right (f x) _ none))

pub none-first : (f : ℕ → Bool) (xs : List ℕ) → list_any f xs ≡ false → slice_get (filter f xs) 0 ≡ None
none-first f xs none = ap (λ ys. slice_get ys 0) (none-filtered f xs none)

filter-cond : (p q : ℕ → Bool) (b c : Bool) (x : ℕ) (xs : List ℕ) → p x ≡ b → filter p (cond c (x ∷ xs) xs) ≡ cond (c && b) (x ∷ filter p xs) (filter p xs)
filter-cond p q b true x xs e = ap (λ t. cond t (x ∷ filter p xs) (filter p xs)) e
filter-cond p q b false x xs e = refl

-- Those that pass one test of those that pass another.
pub filter-both : (p q : ℕ → Bool) (xs : List ℕ) → filter p (filter q xs) ≡ filter (λ x. q x && p x) xs
filter-both p q [] = refl
filter-both p q (x ∷ xs) = filter-cond p q (p x) (q x) x (filter q xs) refl ∙ ap (λ ys. cond (q x && p x) (x ∷ ys) ys) (filter-both p q xs)
