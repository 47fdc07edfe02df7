-- Filters of the numbers.
use Rattle.std.proofs.Common.{◌≡◌, ◌≢◌, ℕ, zero, suc, ◌+◌, ◌<◌, ◌≤◌, Bool, true, false, cond, ◌&&◌, ◌||◌, eqb, List, [], ◌∷◌, map, refl, ap, sym, ◌∙◌, arith, ◌⊎◌, ⊎_elim, inl, inr}
use Rattle.std.specs.List.{filter, range_with_len}
use Rattle.std.proofs.lemmas.Bool.{eqb-true, eqb-false, ne_eqb, le-leb, lt-leb}
use Rattle.std.specs.Prelude.{nat_le}
use Rattle.ff_ids.specs.declared.TheConstants.{MEMBERS}
use Rattle.ff_ids.specs.Views.{Member, all_numbers}
use Rattle.monitor_rule.specs.Joined.{with_member, without_member, is_joined}

-- P holds of every number from a on, n of them
pub record AtEach (a n : ℕ) (P : ℕ → Type 0) : Type 0 where
  pub each : (m : ℕ) → a ≤ m → m < a + n → P m

abbrev Numbers : ℕ → ℕ → List ℕ
Numbers a n = range_with_len a n

pub AtEach-next : (a n : ℕ) (P : ℕ → Type 0) → AtEach a (suc n) P → AtEach (a + 1) n P
AtEach-next a n P h = record { each = λ m low high. h.each m (omega arith) (omega arith) }

pub AtEach-here : (a n : ℕ) (P : ℕ → Type 0) → AtEach a (suc n) P → P a
AtEach-here a n P h = h.each a (omega arith) (omega arith)

filter_one_more : (b c : Bool) (x : ℕ) (xs ys : List ℕ) → b ≡ c → xs ≡ ys → cond b (x ∷ xs) xs ≡ cond c (x ∷ ys) ys
filter_one_more b c x xs ys e f = rw (e, f) refl

pub either_bool : (b : Bool) → (b ≡ true) ⊎ (b ≡ false)
either_bool true = inl refl
either_bool false = inr refl

-- two tests that agree on the numbers keep the same
pub filter-range_agree : (p q : ℕ → Bool) (a n : ℕ) → AtEach a n (λ m. p m ≡ q m) → filter p (range_with_len a n) ≡ filter q (range_with_len a n)
filter-range_agree p q a zero h = refl
filter-range_agree p q a (suc n) h =
    filter_one_more (p a) (q a) a _ _ (AtEach-here a n _ h) (filter-range_agree p q (a + 1) n (AtEach-next a n _ h))

map_one_more : {X : Type 0} (f g : ℕ → X) (b c : Bool) (x : ℕ) (xs ys : List ℕ) → b ≡ c → (b ≡ true → f x ≡ g x) → map f xs ≡ map g ys → map f (cond b (x ∷ xs) xs) ≡ map g (cond c (x ∷ ys) ys)
map_one_more f g true c x xs ys e here rest = rw (← e, here refl, rest) refl
map_one_more f g false c x xs ys e here rest = rw (← e) rest

-- so do two functions that agree on what is kept
pub map-filter_range_agree : {X : Type 0} (f g : ℕ → X) (p q : ℕ → Bool) (a n : ℕ) → AtEach a n (λ m. p m ≡ q m) → AtEach a n (λ m. p m ≡ true → f m ≡ g m) → map f (filter p (range_with_len a n)) ≡ map g (filter q (range_with_len a n))
map-filter_range_agree f g p q a zero h k = refl
map-filter_range_agree f g p q a (suc n) h k =
    map_one_more f g (p a) (q a) a _ _ (AtEach-here a n _ h) (AtEach-here a n _ k) (map-filter_range_agree f g p q (a + 1) n (AtEach-next a n _ h) (AtEach-next a n _ k))

-- a test that fails everywhere keeps none
pub filter-range_none : (p : ℕ → Bool) (a n : ℕ) → AtEach a n (λ m. p m ≡ false) → filter p (range_with_len a n) ≡ []
filter-range_none p a zero h = refl
filter-range_none p a (suc n) h =
    rw (AtEach-here a n _ h) (filter-range_none p (a + 1) n (AtEach-next a n _ h))

-- a test that holds of one number keeps that alone
pub filter-range_one : (p : ℕ → Bool) (a n m : ℕ) → a ≤ m → m < a + n → p m ≡ true → AtEach a n (λ k. k ≢ m → p k ≡ false) → filter p (range_with_len a n) ≡ m ∷ []
filter-range_one p a zero m low high here others = absurd (omega arith)
filter-range_one p a (suc n) m low high here others =
    ⊎_elim (λ e.
    let at : a ≡ m = eqb-true a m e in
    let rest : filter p (range_with_len (a + 1) n) ≡ [] = filter-range_none p (a + 1) n (record { each = λ k l h. others.each k (omega arith) (omega arith) (λ same. absurd (omega arith)) }) in
    let now : p a ≡ true = rw at here in
    rw (now, rest, at) refl)
    (λ e.
    let apart : a ≢ m = eqb-false a m e in
    let now : p a ≡ false = AtEach-here a n _ others apart in
    rw now (filter-range_one p (a + 1) n m (omega (arith, apart)) (omega arith) here (AtEach-next a n _ others)))
    (either_bool (eqb a m))

filter-both : {X : Type 0} (b c : Bool) (q : X → Bool) (x : X) (xs : List X) → q x ≡ c → filter q (cond b (x ∷ xs) xs) ≡ cond (b && c) (x ∷ filter q xs) (filter q xs)
filter-both true c q x xs e = rw e refl
filter-both false c q x xs e = refl

-- one filter after another
pub filter-filter : {X : Type 0} (q p : X → Bool) (xs : List X) → filter q (filter p xs) ≡ filter (λ x. p x && q x) xs
filter-filter q p [] = refl
filter-filter q p (x ∷ xs) =
    filter-both (p x) (q x) q x (filter p xs) refl ∙ ap (λ ys. cond (p x && q x) (x ∷ ys) ys) (filter-filter q p xs)

-- a function that gives members of their numbers
pub record Numbered (f : ℕ → Member) : Type 0 where
  pub number : (m : ℕ) → (f m).number ≡ m

with_here : (x y : Member) (ms : List Member) → nat_le x.number y.number ≡ true → with_member x (y ∷ ms) ≡ x ∷ y ∷ ms
with_here x y ms e = ap (λ b. cond b (x ∷ y ∷ ms) (y ∷ with_member x ms)) e

with_later : (x y : Member) (ms : List Member) → nat_le x.number y.number ≡ false → with_member x (y ∷ ms) ≡ y ∷ with_member x ms
with_later x y ms e = ap (λ b. cond b (x ∷ y ∷ ms) (y ∷ with_member x ms)) e

without_here : (m : ℕ) (y : Member) (ms : List Member) → eqb y.number m ≡ true → without_member m (y ∷ ms) ≡ ms
without_here m y ms e = ap (λ b. cond b ms (y ∷ without_member m ms)) e

without_later : (m : ℕ) (y : Member) (ms : List Member) → eqb y.number m ≡ false → without_member m (y ∷ ms) ≡ y ∷ without_member m ms
without_later m y ms e = ap (λ b. cond b ms (y ∷ without_member m ms)) e

joined_here : (m : ℕ) (y : Member) (ms : List Member) → eqb y.number m ≡ true → is_joined (y ∷ ms) m ≡ true
joined_here m y ms e = ap (λ b. b || is_joined ms m) e

joined_later : (m : ℕ) (y : Member) (ms : List Member) → eqb y.number m ≡ false → is_joined (y ∷ ms) m ≡ is_joined ms m
joined_later m y ms e = ap (λ b. b || is_joined ms m) e

abbrev pub kept_from : (ℕ → Member) → (ℕ → Bool) → ℕ → ℕ → List Member
kept_from f p a n = map f (filter p (range_with_len a n))

kept_here : (f : ℕ → Member) (p : ℕ → Bool) (a n : ℕ) → p a ≡ true → kept_from f p a (suc n) ≡ f a ∷ kept_from f p (a + 1) n
kept_here f p a n e = ap (λ b. map f (cond b (a ∷ filter p (range_with_len (a + 1) n)) (filter p (range_with_len (a + 1) n)))) e

kept_not : (f : ℕ → Member) (p : ℕ → Bool) (a n : ℕ) → p a ≡ false → kept_from f p a (suc n) ≡ kept_from f p (a + 1) n
kept_not f p a n e = ap (λ b. map f (cond b (a ∷ filter p (range_with_len (a + 1) n)) (filter p (range_with_len (a + 1) n)))) e

with_member-front : (f : ℕ → Member) (numbered : Numbered f) (p : ℕ → Bool) (x : Member) (a n : ℕ) → x.number ≤ a → with_member x (kept_from f p a n) ≡ x ∷ kept_from f p a n
with_member-front f numbered p x a zero le = refl
with_member-front f numbered p x a (suc n) le =
    ⊎_elim (λ e.
    let below : nat_le x.number (f a).number ≡ true = le-leb x.number (f a).number (rw (numbered.number a) le) in
    ap (with_member x) (kept_here f p a n e) ∙ with_here x (f a) _ below ∙ ap (λ ms. x ∷ ms) (sym (kept_here f p a n e)))
    (λ e.
    ap (with_member x) (kept_not f p a n e) ∙ with_member-front f numbered p x (a + 1) n (omega arith) ∙ ap (λ ms. x ∷ ms) (sym (kept_not f p a n e)))
    (either_bool (p a))

-- a member is put among those that a test keeps
pub with_member-range : (f : ℕ → Member) (numbered : Numbered f) (p q : ℕ → Bool) (m a n : ℕ) → a ≤ m → m < a + n → p m ≡ false → q m ≡ true → AtEach a n (λ k. k ≢ m → q k ≡ p k) → with_member (f m) (kept_from f p a n) ≡ kept_from f q a n
with_member-range f numbered p q m a zero low high before after others = absurd (omega arith)
with_member-range f numbered p q m a (suc n) low high before after others =
    ⊎_elim (λ e.
    let at : a ≡ m = eqb-true a m e in
    let rest : kept_from f p (a + 1) n ≡ kept_from f q (a + 1) n = ap (map f) (filter-range_agree p q (a + 1) n (record { each = λ k l h. sym (others.each k (omega arith) (omega arith) (λ same. absurd (omega arith))) })) in
    let was : p a ≡ false = rw at before in
    let is : q a ≡ true = rw at after in
    let front = with_member-front f numbered p (f m) (a + 1) n (rw (numbered.number m) (omega arith)) in
    let same : f m ≡ f a = ap f (sym at) in
    ap (with_member (f m)) (kept_not f p a n was) ∙ front ∙ ap (λ x. x ∷ kept_from f p (a + 1) n) same ∙ ap (λ ms. f a ∷ ms) rest ∙ sym (kept_here f q a n is))
    (λ e.
    let apart : a ≢ m = eqb-false a m e in
    let same : q a ≡ p a = AtEach-here a n _ others apart in
    let rest = with_member-range f numbered p q m (a + 1) n (omega (arith, apart)) (omega arith) before after (AtEach-next a n _ others) in
    ⊎_elim (λ t.
    let above : nat_le (f m).number (f a).number ≡ false = rw (numbered.number m, numbered.number a) (lt-leb m a (omega (arith, apart))) in
    ap (with_member (f m)) (kept_here f p a n t) ∙ with_later (f m) (f a) _ above ∙ ap (λ ms. f a ∷ ms) rest ∙ sym (kept_here f q a n (same ∙ t)))
    (λ t. ap (with_member (f m)) (kept_not f p a n t) ∙ rest ∙ sym (kept_not f q a n (same ∙ t)))
    (either_bool (p a)))
    (either_bool (eqb a m))

-- and is taken out of them
pub without_member-range : (f : ℕ → Member) (numbered : Numbered f) (p q : ℕ → Bool) (m a n : ℕ) → a ≤ m → m < a + n → p m ≡ true → q m ≡ false → AtEach a n (λ k. k ≢ m → q k ≡ p k) → without_member m (kept_from f p a n) ≡ kept_from f q a n
without_member-range f numbered p q m a zero low high before after others = absurd (omega arith)
without_member-range f numbered p q m a (suc n) low high before after others =
    ⊎_elim (λ e.
    let at : a ≡ m = eqb-true a m e in
    let rest : kept_from f p (a + 1) n ≡ kept_from f q (a + 1) n = ap (map f) (filter-range_agree p q (a + 1) n (record { each = λ k l h. sym (others.each k (omega arith) (omega arith) (λ same. absurd (omega arith))) })) in
    let was : p a ≡ true = rw at before in
    let is : q a ≡ false = rw at after in
    let here : eqb (f a).number m ≡ true = rw (numbered.number a) e in
    ap (without_member m) (kept_here f p a n was) ∙ without_here m (f a) _ here ∙ rest ∙ sym (kept_not f q a n is))
    (λ e.
    let apart : a ≢ m = eqb-false a m e in
    let same : q a ≡ p a = AtEach-here a n _ others apart in
    let rest = without_member-range f numbered p q m (a + 1) n (omega (arith, apart)) (omega arith) before after (AtEach-next a n _ others) in
    ⊎_elim (λ t.
    let there : eqb (f a).number m ≡ false = rw (numbered.number a) e in
    ap (without_member m) (kept_here f p a n t) ∙ without_later m (f a) _ there ∙ ap (λ ms. f a ∷ ms) rest ∙ sym (kept_here f q a n (same ∙ t)))
    (λ t. ap (without_member m) (kept_not f p a n t) ∙ rest ∙ sym (kept_not f q a n (same ∙ t)))
    (either_bool (p a)))
    (either_bool (eqb a m))

is_joined-below : (f : ℕ → Member) (numbered : Numbered f) (p : ℕ → Bool) (m a n : ℕ) → m < a → is_joined (kept_from f p a n) m ≡ false
is_joined-below f numbered p m a zero below = refl
is_joined-below f numbered p m a (suc n) below =
    let rest = is_joined-below f numbered p m (a + 1) n (omega arith) in
    let apart : eqb (f a).number m ≡ false = rw (numbered.number a) (ne_eqb a m (λ same. absurd (omega arith))) in
    ⊎_elim (λ t. ap (λ ms. is_joined ms m) (kept_here f p a n t) ∙ joined_later m (f a) _ apart ∙ rest)
    (λ t. ap (λ ms. is_joined ms m) (kept_not f p a n t) ∙ rest)
    (either_bool (p a))

-- who is among them
pub is_joined-range : (f : ℕ → Member) (numbered : Numbered f) (p : ℕ → Bool) (m a n : ℕ) → a ≤ m → m < a + n → is_joined (kept_from f p a n) m ≡ p m
is_joined-range f numbered p m a zero low high = absurd (omega arith)
is_joined-range f numbered p m a (suc n) low high =
    ⊎_elim (λ e.
    let at : a ≡ m = eqb-true a m e in
    let here : eqb (f a).number m ≡ true = rw (numbered.number a) e in
    let same : p a ≡ p m = ap p at in
    ⊎_elim (λ t. ap (λ ms. is_joined ms m) (kept_here f p a n t) ∙ joined_here m (f a) _ here ∙ sym t ∙ same)
    (λ t. ap (λ ms. is_joined ms m) (kept_not f p a n t) ∙ is_joined-below f numbered p m (a + 1) n (omega arith) ∙ sym t ∙ same)
    (either_bool (p a)))
    (λ e.
    let apart : a ≢ m = eqb-false a m e in
    let there : eqb (f a).number m ≡ false = rw (numbered.number a) e in
    let rest = is_joined-range f numbered p m (a + 1) n (omega (arith, apart)) (omega arith) in
    ⊎_elim (λ t. ap (λ ms. is_joined ms m) (kept_here f p a n t) ∙ joined_later m (f a) _ there ∙ rest)
    (λ t. ap (λ ms. is_joined ms m) (kept_not f p a n t) ∙ rest)
    (either_bool (p a)))
    (either_bool (eqb a m))

-- all numbers, as a range whose length a proof does not compute
pub record AreAll (n : ℕ) : Type 0 where
  pub long : n ≡ MEMBERS
  pub are : all_numbers ≡ range_with_len 0 n

pub AreAll-numbers : AreAll MEMBERS
unfolding all_numbers
AreAll-numbers = record { long = refl; are = refl }

-- some such length
pub all_length : (n : ℕ) × AreAll n
all_length = (MEMBERS, AreAll-numbers)

pub AtEach-all : (n : ℕ) (P : ℕ → Type 0) → n ≡ MEMBERS → ((m : ℕ) → m < MEMBERS → P m) → AtEach 0 n P
AtEach-all n P e h = record { each = λ m low high. h m (omega arith) }
