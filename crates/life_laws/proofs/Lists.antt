-- Membership in a list by recursion, and what lists with the same elements share.
use Rattle.std.proofs.Common.{◌≡◌, ℕ, zero, suc, ◌<◌, Bool, true, List, [], ◌∷◌, ◌++◌, length, get_or, map, filter, ◌⊎◌, inl, inr, refl, ap, sym, ◌∙◌, subst, arith}
use Rattle.std.specs.List.{Contains, AllByRecursion, list_any}
use Rattle.std.proofs.lemmas.Bool.{cases_Bool, false≢true, or_cases, or_left, or_right, cond_both}

abbrev pub In : {X : Type 0} → List X → X → Type 0
In [] x = ⊥
In (y ∷ ys) x = (y ≡ x) ⊎ In ys x

in_at : {X : Type 0} (xs : List X) (x : X) (k : ℕ) → k < length xs → get_or xs k x ≡ x → In xs x
in_at [] x k l e = absurd (omega arith)
in_at (y ∷ ys) x zero l e = inl e
in_at (y ∷ ys) x (suc k) l e = inr (in_at ys x k (omega arith) e)

pub In-from_Contains : {X : Type 0} (xs : List X) (x : X) → Contains xs x → In xs x
In-from_Contains xs x c = in_at xs x c.0 c.1 c.2

pub Contains-from_In : {X : Type 0} (xs : List X) (x : X) → In xs x → Contains xs x
Contains-from_In [] x h = absurd h
Contains-from_In (y ∷ ys) x (inl e) = (0, omega arith, e)
Contains-from_In (y ∷ ys) x (inr h) =
    let c = Contains-from_In ys x h in
    (suc c.0, omega (arith, c.1), c.2)

pub All-from_In : {X : Type 0} (P : X → Type 0) (xs : List X) → ((x : X) → In xs x → P x) → AllByRecursion P xs
All-from_In P [] h = tt
All-from_In P (x ∷ xs) h = (h x (inl refl), All-from_In P xs (λ y i. h y (inr i)))

pub All-at : {X : Type 0} (P : X → Type 0) (xs : List X) (x : X) → AllByRecursion P xs → In xs x → P x
All-at P [] x h i = absurd i
All-at P (y ∷ ys) x h (inl e) = subst P e h.0
All-at P (y ∷ ys) x h (inr i) = All-at P ys x h.1 i

pub In-filter : {X : Type 0} (p : X → Bool) (xs : List X) (x : X) → In xs x → p x ≡ true → In (filter p xs) x
In-filter p [] x h e = absurd h
In-filter p (y ∷ ys) x h e =
    let P : List _ → Type 0 = λ zs. In zs x in
    cond_both (p y) (y ∷ filter p ys) (filter p ys) P
    (λ yes. elim h [ inl q ↦ inl q | inr i ↦ inr (In-filter p ys x i e) ])
    (λ no. elim h [ inl q ↦ absurd (false≢true (sym no ∙ ap p q ∙ e)) | inr i ↦ In-filter p ys x i e ])

pub In-from_filter : {X : Type 0} (p : X → Bool) (xs : List X) (x : X) → In (filter p xs) x → In xs x × (p x ≡ true)
In-from_filter {X} p [] x = λ h. absurd h
In-from_filter {X} p (y ∷ ys) x =
    let T : List X → Type 0 = λ zs. In zs x → In (y ∷ ys) x × (p x ≡ true) in
    let later : In (filter p ys) x → In (y ∷ ys) x × (p x ≡ true) = λ i. let r = In-from_filter p ys x i in (inr r.0, r.1) in
    cond_both (p y) (y ∷ filter p ys) (filter p ys) T
    (λ yes. λ h. elim h [ inl q ↦ (inl q, sym (ap p q) ∙ yes) | inr i ↦ later i ])
    (λ no. later)

pub In-append_left : {X : Type 0} (xs ys : List X) (x : X) → In xs x → In (xs ++ ys) x
In-append_left [] ys x h = absurd h
In-append_left (z ∷ zs) ys x (inl e) = inl e
In-append_left (z ∷ zs) ys x (inr h) = inr (In-append_left zs ys x h)

pub In-append_right : {X : Type 0} (xs ys : List X) (x : X) → In ys x → In (xs ++ ys) x
In-append_right [] ys x h = h
In-append_right (z ∷ zs) ys x h = inr (In-append_right zs ys x h)

-- a test that some element passes, both ways
pub some_passes : {X : Type 0} (p : X → Bool) (xs : List X) → list_any p xs ≡ true → (x : X) × (In xs x × (p x ≡ true))
some_passes p [] e = absurd (false≢true e)
some_passes p (y ∷ ys) e =
    elim (or_cases (p y) (list_any p ys) e) [
      | inl here ↦ (y, (inl refl, here))
      | inr later ↦ let r = some_passes p ys later in (r.0, (inr r.1.0, r.1.1))
    ]

pub any_from_In : {X : Type 0} (p : X → Bool) (xs : List X) (x : X) → In xs x → p x ≡ true → list_any p xs ≡ true
any_from_In p [] x h e = absurd h
any_from_In p (y ∷ ys) x (inl q) e = or_left (p y) (list_any p ys) (ap p q ∙ e)
any_from_In p (y ∷ ys) x (inr i) e = or_right (p y) (list_any p ys) (any_from_In p ys x i e)

pub any_within : {X : Type 0} (p : X → Bool) (xs ys : List X) → ((x : X) → In xs x → In ys x) → list_any p xs ≡ true → list_any p ys ≡ true
any_within p xs ys onward e = let r = some_passes p xs e in any_from_In p ys r.0 (onward r.0 r.1.0) r.1.1

pub same_any : {X : Type 0} (p : X → Bool) (xs ys : List X) → ((x : X) → In xs x → In ys x) → ((x : X) → In ys x → In xs x) → list_any p xs ≡ list_any p ys
same_any p xs ys onward back =
    elim (cases_Bool (list_any p xs)) [
      | inl e ↦ e ∙ sym (any_within p xs ys onward e)
      | inr e ↦ elim (cases_Bool (list_any p ys)) [
        | inl f ↦ absurd (false≢true (sym e ∙ any_within p ys xs back f))
        | inr f ↦ e ∙ sym f
      ]
    ]

-- what passes is mapped alike by functions that agree there
pub map-filter_agree : {X Y : Type 0} (f h : X → Y) (p : X → Bool) → ((x : X) → p x ≡ true → f x ≡ h x) → (xs : List X) → map f (filter p xs) ≡ map h (filter p xs)
map-filter_agree f h p same [] = refl
map-filter_agree {X} {Y} f h p same (x ∷ xs) =
    let T : List X → Type 0 = λ zs. map f zs ≡ map h zs in
    cond_both (p x) (x ∷ filter p xs) (filter p xs) T
    (λ yes. ap (λ y. y ∷ map f (filter p xs)) (same x yes) ∙ ap (λ ys. h x ∷ ys) (map-filter_agree f h p same xs))
    (λ no. map-filter_agree f h p same xs)

pub In-append_cases : {X : Type 0} (xs ys : List X) (x : X) → In (xs ++ ys) x → In xs x ⊎ In ys x
In-append_cases [] ys x h = inr h
In-append_cases (z ∷ zs) ys x (inl e) = inl (inl e)
In-append_cases (z ∷ zs) ys x (inr h) = elim (In-append_cases zs ys x h) [ inl i ↦ inl (inr i) | inr j ↦ inr j ]

pub In-from_map : {X Y : Type 0} (f : X → Y) (xs : List X) (y : Y) → In (map f xs) y → (x : X) × (In xs x × (f x ≡ y))
In-from_map f [] y h = absurd h
In-from_map f (z ∷ zs) y (inl e) = (z, (inl refl, e))
In-from_map f (z ∷ zs) y (inr h) = let r = In-from_map f zs y h in (r.0, (inr r.1.0, r.1.1))
