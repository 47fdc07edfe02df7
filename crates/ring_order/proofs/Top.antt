-- The nearest key of a list under any relation that ranks: it is what a pass over the list keeps, and what a search finds.
use Rattle.std.proofs.Common.{◌≡◌, ◌≢◌, ℕ, zero, suc, Bool, true, false, not, eqb, ◌⊎◌, inl, inr, ⊎_elim, ◌↔◌, List, [], ◌∷◌, Option, Some, None, refl, sym, ap, ◌∙◌, subst, arith}
use Rattle.std.specs.List.{All, Contains, filter, find, list_all, fold}
use Rattle.std.specs.Option.{option_map, MatchOption}
use Rattle.std.specs.Cmp.{IsStrictWeakOrder}
use Rattle.std.specs.Ordering.{is_lt, ordering_reverse}
use Rattle.std.specs.declared.cmp.Ordering.{Ordering}
use Rattle.std.specs.declared.cmp.Ordering.TheVariants.{Less, Equal, Greater}
use Rattle.std.proofs.lemmas.Bool.{cases_Bool, and_parts, and_from, eqb-false, ne_eqb, eqb-true, not-true, true≢false}
use Rattle.std.proofs.lemmas.Cmp.{tied_itself}
use Rattle.std.proofs.lemmas.List.MinMax.{ranks_by}
use Rattle.std.proofs.lemmas.List.Elements.{All-nil, All-cons, All-head, All-tail, All-contains, All-weaker, All-contains_itself, Contains-append_right}
use Rattle.ff_ids.specs.Rings.{Key, others}
use Rattle.ring_order.specs.Nearest.{nearest_so_far}
use Rattle.ring_order.proofs.KeyOrder.{IsRanked}

MatchOption-weaker : (o : Option Key) (P P' : Type 0) (Q Q' : Key → Type 0) → (P → P') → ((v : Key) → Q v → Q' v) → MatchOption o P Q → MatchOption o P' Q'
MatchOption-weaker None P P' Q Q' p q h = p h
MatchOption-weaker (Some v) P P' Q Q' p q h = q v h

-- v is listed, isn't m, and no key other than m's is nearer
pub record IsTop (near : Key → Key → Bool) (m : ℕ) (keys : List Key) (v : Key) : Type 0 where
  pub listed : Contains keys v
  pub other : v.number ≢ m
  pub top : All (λ w. w.number ≢ m → near v w ≡ false) keys

Contains-here : (x : Key) (xs : List Key) → Contains (x ∷ xs) x
Contains-here x xs = (0, omega arith, refl)

Contains-there : (x : Key) (xs : List Key) (v : Key) → Contains xs v → Contains (x ∷ xs) v
Contains-there x xs v h = Contains-append_right (x ∷ []) xs v h

-- ---- what ranks

ranks : (near : Key → Key → Bool) (m : ℕ) → (r : IsRanked near m) → IsStrictWeakOrder (λ v w. is_lt (r.order v w))
ranks near m r = ranks_by r.total (λ (v : Key). v)

near_itself : (near : Key → Key → Bool) (m : ℕ) → IsRanked near m → (v : Key) → v.number ≢ m → near v v ≡ false
near_itself near m r v v_other = r.agrees v v v_other v_other ∙ ap is_lt (tied_itself r.total v)

near_back : (near : Key → Key → Bool) (m : ℕ) → IsRanked near m → (v w : Key) → v.number ≢ m → w.number ≢ m → near v w ≡ true → near w v ≡ false
near_back near m r v w v_other w_other h = r.agrees w v w_other v_other ∙ (ranks near m r).one_way v w (sym (r.agrees v w v_other w_other) ∙ h)

near_chain : (near : Key → Key → Bool) (m : ℕ) → IsRanked near m → (v w x : Key) → v.number ≢ m → w.number ≢ m → x.number ≢ m → near v w ≡ false → near w x ≡ false → near v x ≡ false
near_chain near m r v w x v_other w_other x_other first second =
    r.agrees v x v_other x_other ∙ (ranks near m r).chain v w x (sym (r.agrees v w v_other w_other) ∙ first) (sym (r.agrees w x w_other x_other) ∙ second)

no_less : (a b : Ordering) → b ≡ ordering_reverse a → is_lt a ≡ false → is_lt b ≡ false → a ≡ Equal
no_less Less b h first second = absurd (true≢false first)
no_less Equal b h first second = refl
no_less Greater b h first second = absurd (true≢false (rw h at second))

-- of two keys, none of which is nearer, the numbers are equal
near_tied : (near : Key → Key → Bool) (m : ℕ) → IsRanked near m → (v w : Key) → v.number ≢ m → w.number ≢ m → near v w ≡ false → near w v ≡ false → v.number ≡ w.number
near_tied near m r v w v_other w_other first second =
    r.tied v w (no_less (r.order v w) (r.order w v) (r.total.antisymm w v) (sym (r.agrees v w v_other w_other) ∙ first) (sym (r.agrees w v w_other v_other) ∙ second))

-- there is never a second one
pub IsTop-unique : (near : Key → Key → Bool) (m : ℕ) → IsRanked near m → (keys : List Key) (v w : Key) → IsTop near m keys v → IsTop near m keys w → v.number ≡ w.number
IsTop-unique near m r keys v w first second =
    near_tied near m r v w first.other second.other
    (All-contains (λ x. x.number ≢ m → near v x ≡ false) keys w first.top second.listed second.other)
    (All-contains (λ x. x.number ≢ m → near w x ≡ false) keys v second.top first.listed first.other)

-- ---- what a search finds

-- what passes the first test passes the second
abbrev Passes : (Key → Bool) → (Key → Bool) → Key → Type 0
Passes p q x = p x ≡ true → q x ≡ true

All-filter_from : (p q : Key → Bool) (xs : List Key) → list_all q (filter p xs) ≡ true → All (Passes p q) xs
All-filter_from p q [] h = All-nil (Passes p q)
All-filter_from p q (x ∷ xs) h =
    elim (cases_Bool (p x)) [
      | inl passes ↦
          let both = and_parts (q x) (list_all q (filter p xs)) (rw passes at h) in
          All-cons (Passes p q) x xs (λ _. both.0) (All-filter_from p q xs both.1)
      | inr fails ↦ All-cons (Passes p q) x xs (λ e. absurd (true≢false (sym e ∙ fails))) (All-filter_from p q xs (rw fails at h))
    ]

filter-All_from : (p q : Key → Bool) (xs : List Key) → All (Passes p q) xs → list_all q (filter p xs) ≡ true
filter-All_from p q [] h = refl
filter-All_from p q (x ∷ xs) h =
    let rest = filter-All_from p q xs (All-tail (Passes p q) x xs h) in
    elim (cases_Bool (p x)) [
      | inl passes ↦ rw passes (and_from (q x) (list_all q (filter p xs)) (All-head (Passes p q) x xs h passes) rest)
      | inr fails ↦ rw fails rest
    ]

Contains-cases : (x : Key) (xs : List Key) (v : Key) → Contains (x ∷ xs) v → (x ≡ v) ⊎ Contains xs v
Contains-cases x xs v (zero, below, e) = inl e
Contains-cases x xs v (suc k, below, e) = inr (k, omega arith, e)

Contains-filter_from : (p : Key → Bool) (xs : List Key) (v : Key) → Contains (filter p xs) v → Contains xs v × (p v ≡ true)
Contains-filter_from p [] v h = absurd (omega arith)
Contains-filter_from p (x ∷ xs) v h =
    elim (cases_Bool (p x)) [
      | inl passes ↦
          elim (Contains-cases x (filter p xs) v (rw passes at h)) [
            | inl e ↦ subst (λ (y : Key). Contains (x ∷ xs) y × (p y ≡ true)) e (Contains-here x xs, passes)
            | inr there ↦ let rest = Contains-filter_from p xs v there in (Contains-there x xs v rest.0, rest.1)
          ]
      | inr fails ↦ let rest = Contains-filter_from p xs v (rw fails at h) in (Contains-there x xs v rest.0, rest.1)
    ]

Contains-filter : (p : Key → Bool) (xs : List Key) (v : Key) → Contains xs v → p v ≡ true → Contains (filter p xs) v
Contains-filter p [] v h passes = absurd (omega arith)
Contains-filter p (x ∷ xs) v h passes =
    elim (Contains-cases x xs v h) [
      | inl e ↦ let here : p x ≡ true = ap p e ∙ passes in rw here (subst (λ (y : Key). Contains (x ∷ filter p xs) y) e (Contains-here x (filter p xs)))
      | inr there ↦
          let rest = Contains-filter p xs v there passes in
          elim (cases_Bool (p x)) [
            | inl kept ↦ rw kept (Contains-there x (filter p xs) v rest)
            | inr left_out ↦ rw left_out rest
          ]
    ]

find-Some : (p : Key → Bool) (xs : List Key) (v : Key) → find p xs ≡ Some v → Contains xs v × (p v ≡ true)
find-Some p [] v h = cc
find-Some p (x ∷ xs) v h =
    elim (cases_Bool (p x)) [
      | inl passes ↦
          let first : Some x ≡ Some v = rw passes at h in
          let e : x ≡ v = cc in
          subst (λ (y : Key). Contains (x ∷ xs) y × (p y ≡ true)) e (Contains-here x xs, passes)
      | inr fails ↦ let rest = find-Some p xs v (rw fails at h) in (Contains-there x xs v rest.0, rest.1)
    ]

find-found : (p : Key → Bool) (xs : List Key) (v : Key) → Contains xs v → p v ≡ true → (w : Key) × (find p xs ≡ Some w)
find-found p [] v h passes = absurd (omega arith)
find-found p (x ∷ xs) v h passes =
    elim (cases_Bool (p x)) [
      | inl here ↦ (x, rw here refl)
      | inr fails ↦
          elim (Contains-cases x xs v h) [
            | inl e ↦ absurd (true≢false (sym passes ∙ ap p (sym e) ∙ fails))
            | inr there ↦ rw fails (find-found p xs v there passes)
          ]
    ]

-- the first of the keys other than m's to which none of these is nearer
abbrev pub find_top : (Key → Key → Bool) → ℕ → List Key → Option Key
find_top near m keys = find (λ v. list_all (λ w. not (near v w)) (others m keys)) (others m keys)

is_other : (k : Key) (m : ℕ) → k.number ≢ m → not (eqb k.number m) ≡ true
is_other k m h = ap not (ne_eqb k.number m h)

other_from : (k : Key) (m : ℕ) → not (eqb k.number m) ≡ true → k.number ≢ m
other_from k m h e = eqb-false k.number m (not-true (eqb k.number m) h) e

pub IsTop-find : (near : Key → Key → Bool) (m : ℕ) (keys : List Key) (v : Key) → find_top near m keys ≡ Some v → IsTop near m keys v
IsTop-find near m keys v h =
    let found = find-Some (λ (x : Key). list_all (λ (w : Key). not (near x w)) (others m keys)) (others m keys) v h in
    let listed = Contains-filter_from (λ (k : Key). not (eqb k.number m)) keys v found.0 in
    record {
      listed = listed.0;
      other = other_from v m listed.1;
      top =
          All-weaker (Passes (λ (k : Key). not (eqb k.number m)) (λ (w : Key). not (near v w))) (λ (w : Key). w.number ≢ m → near v w ≡ false)
          (λ w pass w_other. not-true (near v w) (pass (is_other w m w_other)))
          keys (All-filter_from (λ (k : Key). not (eqb k.number m)) (λ (w : Key). not (near v w)) keys found.1);
    }

-- what is nearest is found
pub find_top-is : (near : Key → Key → Bool) (m : ℕ) → IsRanked near m → (keys : List Key) (v : Key) → IsTop near m keys v → option_map (λ (w : Key). w.number) (find_top near m keys) ≡ Some v.number
find_top-is near m r keys v h =
    let passes =
    filter-All_from (λ (k : Key). not (eqb k.number m)) (λ (w : Key). not (near v w)) keys
    (All-weaker (λ (w : Key). w.number ≢ m → near v w ≡ false) (Passes (λ (k : Key). not (eqb k.number m)) (λ (w : Key). not (near v w)))
    (λ w none w_other. ap not (none (other_from w m w_other))) keys h.top)
    in
    let kept = Contains-filter (λ (k : Key). not (eqb k.number m)) keys v h.listed (is_other v m h.other) in
    let found = find-found (λ (x : Key). list_all (λ (w : Key). not (near x w)) (others m keys)) (others m keys) v kept passes in
    let same = IsTop-unique near m r keys found.0 v (IsTop-find near m keys found.0 found.1) h in
    rw found.1 (ap (λ (n : ℕ). Some n) same)

pub option_cases : (o : Option Key) → (o ≡ None) ⊎ ((v : Key) × (o ≡ Some v))
option_cases None = inl refl
option_cases (Some v) = inr (v, refl)

pub find_top-some : (near : Key → Key → Bool) (m : ℕ) (keys : List Key) (n : ℕ) → option_map (λ (w : Key). w.number) (find_top near m keys) ≡ Some n → (v : Key) × (v.number ≡ n) × IsTop near m keys v
find_top-some near m keys n h =
    elim (option_cases (find_top near m keys)) [
      | inl none ↦ let wrong : None ≡ Some n = rw none at h in cc
      | inr found ↦
          let first : Some (found.0).number ≡ Some n = rw found.1 at h in
          let same : (found.0).number ≡ n = cc in
          (found.0, same, IsTop-find near m keys found.0 found.1)
    ]

-- none is found where each key is m's
pub find_top-nobody : (near : Key → Key → Bool) (m : ℕ) (keys : List Key) → All (λ k. k.number ≡ m) keys → find_top near m keys ≡ None
find_top-nobody near m keys h =
    elim (option_cases (find_top near m keys)) [
      | inl none ↦ none
      | inr found ↦
          let top = IsTop-find near m keys found.0 found.1 in
          absurd (top.other (All-contains (λ (k : Key). k.number ≡ m) keys found.0 h top.listed))
    ]

-- ---- what a pass over the list keeps

-- v is the nearest of a and the keys that follow it
record IsTopFrom (near : Key → Key → Bool) (m : ℕ) (a : Key) (keys : List Key) (v : Key) : Type 0 where
  listed : (a ≡ v) ⊎ Contains keys v
  other : v.number ≢ m
  first : near v a ≡ false
  rest : All (λ w. w.number ≢ m → near v w ≡ false) keys

abbrev pub top_of : (Key → Key → Bool) → ℕ → Option Key → List Key → Option Key
top_of near m best keys = fold (nearest_so_far near m) best keys

abbrev NotNearer : (Key → Key → Bool) → ℕ → Key → Key → Type 0
NotNearer near m v w = w.number ≢ m → near v w ≡ false

top_of-some : (near : Key → Key → Bool) (m : ℕ) → IsRanked near m → (a : Key) (keys : List Key) → a.number ≢ m → (v : Key) × (top_of near m (Some a) keys ≡ Some v) × IsTopFrom near m a keys v
top_of-some near m r a [] a_other =
    (a, refl, record { listed = inl refl; other = a_other; first = near_itself near m r a a_other; rest = All-nil (NotNearer near m a) })
top_of-some near m r a (x ∷ keys) a_other =
    elim (cases_Bool (eqb x.number m)) [
      | inl own ↦
          let h = top_of-some near m r a keys a_other in
          let is_m : x.number ≡ m = eqb-true x.number m own in
          rw own (
            h.0,
            h.1,
            record {
              listed = ⊎_elim (λ e. inl e) (λ there. inr (Contains-there x keys h.0 there)) h.2.listed;
              other = h.2.other;
              first = h.2.first;
              rest = All-cons (NotNearer near m h.0) x keys (λ x_other. absurd (x_other is_m)) h.2.rest;
            },
          )
      | inr apart ↦
          let x_other : x.number ≢ m = eqb-false x.number m apart in
          elim (cases_Bool (near a x)) [
            | inl nearer ↦
                let h = top_of-some near m r x keys x_other in
                rw (apart, nearer) (
                  h.0,
                  h.1,
                  record {
                    listed = inr (⊎_elim (λ e. subst (λ (y : Key). Contains (x ∷ keys) y) e (Contains-here x keys)) (λ there. Contains-there x keys h.0 there) h.2.listed);
                    other = h.2.other;
                    first = near_chain near m r h.0 x a h.2.other x_other a_other h.2.first (near_back near m r a x a_other x_other nearer);
                    rest = All-cons (NotNearer near m h.0) x keys (λ _. h.2.first) h.2.rest;
                  },
                )
            | inr farther ↦
                let h = top_of-some near m r a keys a_other in
                rw (apart, farther) (
                  h.0,
                  h.1,
                  record {
                    listed = ⊎_elim (λ e. inl e) (λ there. inr (Contains-there x keys h.0 there)) h.2.listed;
                    other = h.2.other;
                    first = h.2.first;
                    rest = All-cons (NotNearer near m h.0) x keys (λ _. near_chain near m r h.0 a x h.2.other a_other x_other h.2.first farther) h.2.rest;
                  },
                )
          ]
    ]

pub top_of-cases : (near : Key → Key → Bool) (m : ℕ) → IsRanked near m → (keys : List Key) → MatchOption (top_of near m None keys) (All (λ k. k.number ≡ m) keys) (IsTop near m keys)
top_of-cases near m r [] = All-nil (λ (k : Key). k.number ≡ m)
top_of-cases near m r (x ∷ keys) =
    elim (cases_Bool (eqb x.number m)) [
      | inl own ↦
          let is_m : x.number ≡ m = eqb-true x.number m own in
          rw own (MatchOption-weaker (top_of near m None keys) (All (λ k. k.number ≡ m) keys) (All (λ k. k.number ≡ m) (x ∷ keys)) (IsTop near m keys) (IsTop near m (x ∷ keys))
          (λ h. All-cons (λ (k : Key). k.number ≡ m) x keys is_m h)
          (λ v h. record { listed = Contains-there x keys v h.listed; other = h.other; top = All-cons (NotNearer near m v) x keys (λ x_other. absurd (x_other is_m)) h.top })
          (top_of-cases near m r keys))
      | inr apart ↦
          let x_other : x.number ≢ m = eqb-false x.number m apart in
          let h = top_of-some near m r x keys x_other in
          rw (apart, h.1) (record {
            listed = ⊎_elim (λ e. subst (λ (y : Key). Contains (x ∷ keys) y) e (Contains-here x keys)) (λ there. Contains-there x keys h.0 there) h.2.listed;
            other = h.2.other;
            top = All-cons (NotNearer near m h.0) x keys (λ _. h.2.first) h.2.rest;
          })
    ]

-- a pass and a search give the same number
pub top_of-find_top : (near : Key → Key → Bool) (m : ℕ) → IsRanked near m → (keys : List Key) → option_map (λ (w : Key). w.number) (top_of near m None keys) ≡ option_map (λ (w : Key). w.number) (find_top near m keys)
top_of-find_top near m r keys =
    elim (option_cases (top_of near m None keys)) [
      | inl none ↦ rw (none, find_top-nobody near m keys (rw none at (top_of-cases near m r keys))) refl
      | inr kept ↦ rw kept.1 (sym (find_top-is near m r keys kept.0 (rw kept.1 at (top_of-cases near m r keys))))
    ]

pub find_top-none : (near : Key → Key → Bool) (m : ℕ) → IsRanked near m → (keys : List Key) → option_map (λ (w : Key). w.number) (find_top near m keys) ≡ None → All (λ k. k.number ≡ m) keys
find_top-none near m r keys h =
    elim (option_cases (top_of near m None keys)) [
      | inl none ↦ rw none at (top_of-cases near m r keys)
      | inr kept ↦ let is = find_top-is near m r keys kept.0 (rw kept.1 at (top_of-cases near m r keys)) in let wrong : None ≡ Some (kept.0).number = sym h ∙ is in cc
    ]

-- the same keys in another list
IsTop-same : (near : Key → Key → Bool) (m : ℕ) (keys kin : List Key) → ((v : Key) → Contains keys v → Contains kin v) → ((v : Key) → Contains kin v → Contains keys v) → (v : Key) → IsTop near m keys v → IsTop near m kin v
IsTop-same near m keys kin forth back v h =
    record {
      listed = forth v h.listed;
      other = h.other;
      top = All-weaker (Contains kin) (NotNearer near m v) (λ w there. All-contains (NotNearer near m v) keys w h.top (back w there)) kin (All-contains_itself kin);
    }

-- the nearest depends on which keys are listed, and on nothing else
pub find_top-same : (near : Key → Key → Bool) (m : ℕ) → IsRanked near m → (keys kin : List Key) → ((v : Key) → Contains keys v ↔ Contains kin v) → option_map (λ (w : Key). w.number) (find_top near m keys) ≡ option_map (λ (w : Key). w.number) (find_top near m kin)
find_top-same near m r keys kin same =
    elim (option_cases (find_top near m keys)) [
      | inl none ↦
          let nobody = find_top-none near m r keys (rw none refl) in
          rw (none, find_top-nobody near m kin (All-weaker (Contains kin) (λ (k : Key). k.number ≡ m) (λ w there. All-contains (λ (k : Key). k.number ≡ m) keys w nobody ((same w).1 there)) kin (All-contains_itself kin))) refl
      | inr found ↦
          let top = IsTop-same near m keys kin (λ v. (same v).0) (λ v. (same v).1) found.0 (IsTop-find near m keys found.0 found.1) in
          rw found.1 (sym (find_top-is near m r kin found.0 top))
    ]
