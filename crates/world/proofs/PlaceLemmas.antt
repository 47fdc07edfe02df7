-- Where a member has its place among those in order of number.
use Rattle.std.proofs.Common.{◌≡◌, ℕ, zero, suc, ◌+◌, ◌<◌, ◌≤◌, Bool, true, false, ◌||◌, cond, eqb, ltb, List, [], ◌∷◌, Option, Some, None, map, filter, length, inl, inr, refl, ap, sym, ◌∙◌, subst, arith}
use Rattle.std.specs.List.{list_any, range_with_len, slice_get, position, position_or_len}
use Rattle.std.specs.Option.{option_map}
use Rattle.std.proofs.lemmas.Bool.{cases_Bool, cond_both, eqb-true, eq-eqb, false≢true}
use Rattle.std.proofs.lemmas.Bool.Decides.{nat_tests}
use Rattle.std.proofs.lemmas.List.Quantifiers.{position-Some}
use Rattle.std.proofs.lemmas.Option.{slice_get-map, slice_get-get_or}
use Rattle.ff_ids.specs.declared.TheConstants.{MEMBERS}
use Rattle.ff_ids.specs.Views.{all_numbers}
use Rattle.membership.proofs.NumberLemmas.{all_length}
use Rattle.node_rules.specs.Nodes.{in_order}
use Rattle.node_rules.specs.OnRings.{Rises}
use Rattle.world_rules.specs.Settings.{Setting, is_node, nodes}
use Rattle.world.specs.declared.liar.Liar.{Liar}
use Rattle.world_host.specs.Hosts.{HostState}
use Rattle.world.specs.Holding.{Kept, numbers}
use Rattle.world.specs.Courses.{IsLiarPlace, IsNodePlace}

-- ---- the first that has the number

-- There is one there; or there is none.
abbrev pub IsFound : ℕ → List ℕ → Option ℕ → Type 0
IsFound m numbers None = list_any (λ x. eqb x m) numbers ≡ false
IsFound m numbers (Some at) = slice_get numbers at ≡ Some m

found-more : (m x : ℕ) (numbers : List ℕ) (o : Option ℕ) → eqb x m ≡ false → IsFound m numbers o → IsFound m (x ∷ numbers) (option_map suc o)
found-more m x numbers None apart h = rw apart h
found-more m x numbers (Some at) apart h = h

none-passes : {X : Type 0} (f : X → ℕ) (m : ℕ) (xs : List X) → length xs ≤ position_or_len (λ x. eqb (f x) m) xs → list_any (λ y. eqb y m) (map f xs) ≡ false
none-passes f m [] h = refl
none-passes f m (x ∷ xs) h =
    elim (cases_Bool (eqb (f x) m)) [
      | inl here ↦ let low : suc (length xs) ≤ 0 = rw here at h in absurd (omega arith)
      | inr there ↦
          let low : suc (length xs) ≤ 1 + position_or_len (λ x. eqb (f x) m) xs = rw there at h in
          rw there (none-passes f m xs (omega (arith, low)))
    ]

some-passes : {X : Type 0} (f : X → ℕ) (m at : ℕ) (xs : List X) → position (λ x. eqb (f x) m) xs ≡ Some at → slice_get (map f xs) at ≡ Some m
some-passes f m at [] is = cc
some-passes f m at (x ∷ xs) is =
    let h = position-Some (λ y. eqb (f y) m) (x ∷ xs) at x is in
    slice_get-map f (x ∷ xs) at ∙ ap (option_map f) (slice_get-get_or (x ∷ xs) at x h.0) ∙ ap (λ (y : ℕ). Some y) (eqb-true _ m h.1)

-- where the list has no such number, its first place is behind it
none-position : {X : Type 0} (p : X → Bool) (xs : List X) → position p xs ≡ None → length xs ≤ position_or_len p xs
none-position p xs is = by_test (position_or_len p xs) (length xs) is
  where
    by_test : (a b : ℕ) → cond (ltb a b) (Some a) None ≡ None → b ≤ a
    by_test a b e =
        elim (cases_Bool (ltb a b)) [
          | inl low ↦ let some : Some a ≡ None = rw low at e in cc
          | inr high ↦ grind (arith, nat_tests)
        ]

pub found-position : {X : Type 0} (f : X → ℕ) (m : ℕ) (xs : List X) (o : Option ℕ) → o ≡ position (λ x. eqb (f x) m) xs → IsFound m (map f xs) o
found-position f m xs None is = none-passes f m xs (none-position (λ x. eqb (f x) m) xs (sym is))
found-position f m xs (Some at) is = some-passes f m at xs (sym is)

-- ---- numbers in order

any-below : (p : ℕ → Bool) (a n m : ℕ) → m < a → list_any (λ x. eqb x m) (filter p (range_with_len a n)) ≡ false
any-below p a zero m low = refl
any-below p a (suc n) m low =
    let rest : List ℕ = filter p (range_with_len (a + 1) n) in
    let later : list_any (λ x. eqb x m) rest ≡ false = any-below p (a + 1) n m (omega arith) in
    let apart : eqb a m ≡ false = grind (arith, nat_tests) in
    cond_both (p a) (a ∷ rest) rest (λ xs. list_any (λ x. eqb x m) xs ≡ false) (λ holds. rw apart later) (λ fails. later)

any-range : (p : ℕ → Bool) (a n m : ℕ) → a ≤ m → m < a + n → list_any (λ x. eqb x m) (filter p (range_with_len a n)) ≡ p m
any-range p a zero m low high = absurd (omega arith)
any-range p a (suc n) m low high =
    let rest : List ℕ = filter p (range_with_len (a + 1) n) in
    elim (cases_Bool (eqb a m)) [
      | inl here ↦
          let same : a ≡ m = eqb-true a m here in
          cond_both (p a) (a ∷ rest) rest (λ xs. list_any (λ x. eqb x m) xs ≡ p m)
          (λ holds. rw here (sym (ap p (sym same) ∙ holds)))
          (λ fails. any-below p (a + 1) n m (omega arith) ∙ sym (ap p (sym same) ∙ fails))
      | inr apart ↦
          let later : list_any (λ x. eqb x m) rest ≡ p m = any-range p (a + 1) n m (above apart) (omega arith) in
          cond_both (p a) (a ∷ rest) rest (λ xs. list_any (λ x. eqb x m) xs ≡ p m) (λ holds. rw apart later) (λ fails. later)
    ]
  where
    above : eqb a m ≡ false → a + 1 ≤ m
    above apart = grind (arith, nat_tests)

-- a member's number is listed in order exactly where it is listed
pub any-in_order : (listed : List ℕ) (m : ℕ) → m < MEMBERS → list_any (λ x. eqb x m) (in_order listed) ≡ list_any (λ x. eqb x m) listed
any-in_order listed m low =
    let p : ℕ → Bool = λ k. list_any (λ x. eqb x k) listed in
    ap (λ (xs : List ℕ). list_any (λ x. eqb x m) (filter p xs)) all_length.1.are ∙ any-range p 0 all_length.0 m (omega arith) (omega (arith, low, all_length.1.long))

listed-at : (numbers : List ℕ) (m at : ℕ) → slice_get numbers at ≡ Some m → list_any (λ x. eqb x m) numbers ≡ true
listed-at [] m at is = cc
listed-at (x ∷ numbers) m zero is = let same : x ≡ m = some-same x m is in rw same (rw (eq-eqb m m refl) refl)
  where
    some-same : (x m : ℕ) → Some x ≡ Some m → x ≡ m
    some-same x m e = cc
listed-at (x ∷ numbers) m (suc at) is = elim (cases_Bool (eqb x m)) [ inl holds ↦ rw holds refl | inr fails ↦ rw fails (listed-at numbers m at is) ]

-- The member is listed, and has its place there; or it isn't.
abbrev pub IsListed : List ℕ → ℕ → List ℕ → Option ℕ → Type 0
IsListed listed m numbers None = list_any (λ x. eqb x m) listed ≡ false
IsListed listed m numbers (Some at) = (list_any (λ x. eqb x m) listed ≡ true) × (slice_get numbers at ≡ Some m)

pub listed-place : (listed : List ℕ) (m : ℕ) (numbers : List ℕ) (o : Option ℕ) → m < MEMBERS → numbers ≡ in_order listed → IsFound m numbers o → IsListed listed m numbers o
listed-place listed m numbers None low is h = sym (any-in_order listed m low) ∙ ap (list_any (λ x. eqb x m)) (sym is) ∙ h
listed-place listed m numbers (Some at) low is h =
    (sym (any-in_order listed m low) ∙ ap (list_any (λ x. eqb x m)) (sym is) ∙ listed-at numbers m at h, h)

-- ---- they rise

rises-lower : (low lower : ℕ) (xs : List ℕ) → lower ≤ low → Rises low xs → Rises lower xs
rises-lower low lower [] l h = tt
rises-lower low lower (x ∷ xs) l h = (omega (arith, l, h.0), h.1)

rises-range : (p : ℕ → Bool) (a n : ℕ) → Rises a (filter p (range_with_len a n))
rises-range p a zero = tt
rises-range p a (suc n) =
    let rest : List ℕ = filter p (range_with_len (a + 1) n) in
    cond_both (p a) (a ∷ rest) rest (Rises a) (λ holds. (omega arith, rises-range p (a + 1) n)) (λ fails. rises-lower (a + 1) a rest (omega arith) (rises-range p (a + 1) n))

pub rises-in_order : (listed : List ℕ) → Rises 0 (in_order listed)
rises-in_order listed =
    let p : ℕ → Bool = λ m. list_any (λ x. eqb x m) listed in
    subst (λ xs. Rises 0 (filter p xs)) (sym all_length.1.are) (rises-range p 0 all_length.0)

-- what is kept of a list passes
any-kept : (p : ℕ → Bool) (xs : List ℕ) (m : ℕ) → list_any (λ x. eqb x m) (filter p xs) ≡ true → p m ≡ true
any-kept p [] m h = absurd (false≢true h)
any-kept p (x ∷ xs) m h =
    elim (cases_Bool (p x)) [
      | inl holds ↦
          let found : (eqb x m || list_any (λ y. eqb y m) (filter p xs)) ≡ true = rw holds at h in
          elim (cases_Bool (eqb x m)) [
            | inl here ↦ ap p (sym (eqb-true x m here)) ∙ holds
            | inr apart ↦ let later : list_any (λ y. eqb y m) (filter p xs) ≡ true = rw apart at found in any-kept p xs m later
          ]
      | inr fails ↦ let later : list_any (λ y. eqb y m) (filter p xs) ≡ true = rw fails at h in any-kept p xs m later
    ]

pub kept-listed : (listed numbers : List ℕ) (m at : ℕ) → numbers ≡ in_order listed → slice_get numbers at ≡ Some m → list_any (λ x. eqb x m) listed ≡ true
kept-listed listed numbers m at is found = any-kept (λ k. list_any (λ x. eqb x k) listed) all_numbers m (subst (λ (xs : List ℕ). list_any (λ x. eqb x m) xs ≡ true) is (listed-at numbers m at found))

pub nodes-are : (s : Setting) → nodes s ≡ in_order s.correct
unfolding nodes
nodes-are s = refl

pub nodes-rise : (s : Setting) → Rises 0 (nodes s)
nodes-rise s = subst (Rises 0) (sym (nodes-are s)) (rises-in_order s.correct)

pub place-node : (s : Setting) (numbers : List ℕ) (m at : ℕ) → numbers ≡ nodes s → slice_get numbers at ≡ Some m → is_node s m ≡ true
place-node s numbers m at is found = kept-listed s.correct numbers m at (is ∙ nodes-are s) found

pub listed-node : (s : Setting) (numbers : List ℕ) (m : ℕ) → numbers ≡ nodes s → list_any (λ x. eqb x m) numbers ≡ true → is_node s m ≡ true
listed-node s numbers m is found = any-kept (λ k. list_any (λ x. eqb x k) s.correct) all_numbers m (subst (λ (xs : List ℕ). list_any (λ x. eqb x m) xs ≡ true) (is ∙ nodes-are s) found)

pub listed-there : (listed numbers : List ℕ) (m : ℕ) → numbers ≡ in_order listed → list_any (λ x. eqb x m) numbers ≡ true → list_any (λ x. eqb x m) listed ≡ true
listed-there listed numbers m is found = any-kept (λ k. list_any (λ x. eqb x k) listed) all_numbers m (subst (λ (xs : List ℕ). list_any (λ x. eqb x m) xs ≡ true) is found)

-- ---- places of what is kept

node-place : (s : Setting) (v : Kept) (m : ℕ) (o : Option ℕ) → IsListed s.correct m (numbers v) o → IsNodePlace s v m o
node-place s v m None h = h
node-place s v m (Some at) h = h

liar-place : (s : Setting) (v : Kept) (m : ℕ) (o : Option ℕ) → IsListed s.liars m (map (λ x. x.member) v.liars) o → IsLiarPlace s v m o
liar-place s v m None h = h
liar-place s v m (Some at) h = h

pub is-node-place : (s : Setting) (v : Kept) (m : ℕ) (o : Option ℕ) → m < MEMBERS → numbers v ≡ nodes s → o ≡ position (λ x. eqb x.member m) v.hosts → IsNodePlace s v m o
is-node-place s v m o low is found = node-place s v m o (listed-place s.correct m (numbers v) o low (is ∙ nodes-are s) (found-position (λ (x : HostState). x.member) m v.hosts o found))

pub is-liar-place : (s : Setting) (v : Kept) (m : ℕ) (o : Option ℕ) → m < MEMBERS → map (λ x. x.member) v.liars ≡ in_order s.liars → o ≡ position (λ x. eqb x.member m) v.liars → IsLiarPlace s v m o
is-liar-place s v m o low is found = liar-place s v m o (listed-place s.liars m (map (λ x. x.member) v.liars) o low is (found-position (λ (x : Liar). x.member) m v.liars o found))
