-- The order of entries: how many there can be, and what an insert and a filter keep of it.
use Rattle.std.proofs.Common.{◌≡◌, ℕ, suc, ◌+◌, ◌*◌, ◌<◌, ◌≤◌, Bool, true, false, cond, List, [], ◌∷◌, Some, None, length, refl, ap, ◌∙◌, arith, filter}
use Rattle.std.specs.List.{AllByRecursion, insert, prefix_len}
use Rattle.std.proofs.lemmas.Bool.{cond_both}
use Rattle.std.proofs.lemmas.Bool.Decides.{nat_tests}
use Rattle.ff_ids.specs.declared.TheConstants.{MAX_RINGS, MEMBERS, MAX_ACCUSATIONS}
use Rattle.ff_ids.specs.declared.AccBody.{AccBody}
use Rattle.ff_ids.specs.Steps.{precedes, with_kept}
use Rattle.removal_timer.specs.Kept.{is_at, entry_at, IsInOrder}

-- where an accusation comes among all pairs of an accused and a ring
abbrev pub order_of : AccBody → ℕ
order_of a = MAX_RINGS * a.accused + a.ring.0

pub order_of-below : (a b : AccBody) → a.ring.0 < MAX_RINGS → precedes a b ≡ true → order_of a + 1 ≤ order_of b
order_of-below a b low e = grind (arith, nat_tests)

pub comes_first-trans : (a b c : AccBody) → precedes a b ≡ true → precedes b c ≡ true → precedes a c ≡ true
comes_first-trans a b c e f = grind (arith, nat_tests)

pub comes_first-other : (p q : AccBody × ℕ) → precedes q.0 p.0 ≡ false → is_at p.0.accused p.0.ring.0 q ≡ false → precedes p.0 q.0 ≡ true
comes_first-other p q e f = grind (arith, nat_tests)

pub All-weaker : {X : Type 0} (P Q : X → Type 0) → ((x : X) → P x → Q x) → (xs : List X) → AllByRecursion P xs → AllByRecursion Q xs
All-weaker P Q f [] h = tt
All-weaker P Q f (x ∷ xs) h = (f x h.0, All-weaker P Q f xs h.1)

pub All-filter : {X : Type 0} (P : X → Type 0) (f : X → Bool) (xs : List X) → AllByRecursion P xs → AllByRecursion P (filter f xs)
All-filter P f [] h = tt
All-filter P f (x ∷ xs) h =
    elim (f x) as (λ b. AllByRecursion P (cond b (x ∷ filter f xs) (filter f xs))) [
      | true ↦ (h.0, All-filter P f xs h.1)
      | false ↦ All-filter P f xs h.1
    ]

pub All-with_kept : (P : AccBody × ℕ → Type 0) (p : AccBody × ℕ) (xs : List (AccBody × ℕ)) → P p → AllByRecursion P xs → AllByRecursion P (with_kept p xs)
All-with_kept P p [] here h = (here, tt)
All-with_kept P p (q ∷ xs) here h =
    elim (precedes q.0 p.0) as (λ b. AllByRecursion P (cond b (q ∷ with_kept p xs) (p ∷ q ∷ xs))) [
      | true ↦ (h.0, All-with_kept P p xs here h.1)
      | false ↦ (here, h)
    ]

pub length-with_kept : (p : AccBody × ℕ) (xs : List (AccBody × ℕ)) → length (with_kept p xs) ≡ length xs + 1
length-with_kept p [] = refl
length-with_kept p (q ∷ xs) =
    elim (precedes q.0 p.0) as (λ b. length (cond b (q ∷ with_kept p xs) (p ∷ q ∷ xs)) ≡ suc (length xs) + 1) [
      | true ↦ omega (arith, length-with_kept p xs)
      | false ↦ omega arith
    ]

insert-more : {X : Type 0} (q p : X) (xs : List X) (n : ℕ) → insert (q ∷ xs) (1 + n) p ≡ q ∷ insert xs n p
insert-more q p xs n =
    let e : 1 + n ≡ suc n = omega arith in
    rw e refl

-- an insert behind those that come first
pub insert_is : (p : AccBody × ℕ) (xs : List (AccBody × ℕ)) → insert xs (prefix_len (λ q. precedes q.0 p.0) xs) p ≡ with_kept p xs
insert_is p [] = refl
insert_is p (q ∷ xs) =
    elim (precedes q.0 p.0) as (λ b. insert (q ∷ xs) (cond b (1 + prefix_len (λ q. precedes q.0 p.0) xs) 0) p ≡ cond b (q ∷ with_kept p xs) (p ∷ q ∷ xs)) [
      | true ↦ insert-more q p xs _ ∙ ap (λ ys. q ∷ ys) (insert_is p xs)
      | false ↦ refl
    ]

pub IsInOrder-filter : (rings : ℕ) (f : AccBody × ℕ → Bool) (xs : List (AccBody × ℕ)) → IsInOrder rings xs → IsInOrder rings (filter f xs)
IsInOrder-filter rings f [] h = tt
IsInOrder-filter rings f (x ∷ xs) h =
    elim (f x) as (λ b. IsInOrder rings (cond b (x ∷ filter f xs) (filter f xs))) [
      | true ↦ (h.0, h.1, All-filter _ f xs h.2, IsInOrder-filter rings f xs h.3)
      | false ↦ IsInOrder-filter rings f xs h.3
    ]

-- nothing at the place of p: the first isn't there, nor are the others
none-cons : (p q : AccBody × ℕ) (xs : List (AccBody × ℕ)) → entry_at p.0.accused p.0.ring.0 (q ∷ xs) ≡ None → (is_at p.0.accused p.0.ring.0 q ≡ false) × (entry_at p.0.accused p.0.ring.0 xs ≡ None)
none-cons p q xs =
    elim (is_at p.0.accused p.0.ring.0 q) as (λ b. cond b (Some q) (entry_at p.0.accused p.0.ring.0 xs) ≡ None → (b ≡ false) × (entry_at p.0.accused p.0.ring.0 xs ≡ None)) [
      | true ↦ λ e. cc
      | false ↦ λ e. (refl, e)
    ]

pub IsInOrder-with_kept : (rings : ℕ) (p : AccBody × ℕ) (xs : List (AccBody × ℕ)) → entry_at p.0.accused p.0.ring.0 xs ≡ None → p.0.accused < MEMBERS → p.0.ring.0 < rings → IsInOrder rings xs → IsInOrder rings (with_kept p xs)
IsInOrder-with_kept rings p [] free member ring h = (member, ring, tt, tt)
IsInOrder-with_kept rings p (q ∷ xs) free member ring h =
    let none = none-cons p q xs free in
    let yes : precedes q.0 p.0 ≡ true → IsInOrder rings (q ∷ with_kept p xs) = λ e. (h.0, h.1, All-with_kept _ p xs e h.2, IsInOrder-with_kept rings p xs none.1 member ring h.3) in
    let no : precedes q.0 p.0 ≡ false → IsInOrder rings (p ∷ q ∷ xs) = λ e.
    let first = comes_first-other p q e none.0 in
    (member, ring, (first, All-weaker _ _ (λ r f. comes_first-trans p.0 q.0 r.0 first f) xs h.2), h) in
    cond_both (precedes q.0 p.0) (q ∷ with_kept p xs) (p ∷ q ∷ xs) (IsInOrder rings) yes no

-- the rest of the pairs bounds the rest of the entries
length_from : (low rings : ℕ) (xs : List (AccBody × ℕ)) → rings ≤ MAX_RINGS → low ≤ MAX_ACCUSATIONS → IsInOrder rings xs → AllByRecursion (λ q. low ≤ order_of q.0) xs → low + length xs ≤ MAX_ACCUSATIONS
length_from low rings [] few within h from = omega arith
length_from low rings (p ∷ xs) few within h from =
    let small : p.0.ring.0 < MAX_RINGS = omega arith in
    let later = length_from (order_of p.0 + 1) rings xs few (omega arith) h.3 (All-weaker _ _ (λ q e. order_of-below p.0 q.0 small e) xs h.2) in
    omega arith

-- there are no more entries than pairs
pub length-in_order : (rings : ℕ) (xs : List (AccBody × ℕ)) → rings ≤ MAX_RINGS → IsInOrder rings xs → length xs ≤ MAX_ACCUSATIONS
length-in_order rings xs few h =
    let all = length_from 0 rings xs few (omega arith) h (All-low xs) in
    omega arith
  where
    All-low : (xs : List (AccBody × ℕ)) → AllByRecursion (λ q. 0 ≤ order_of q.0) xs
    All-low [] = tt
    All-low (x ∷ xs) = (omega arith, All-low xs)
