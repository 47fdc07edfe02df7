-- Lists of items: what is read of them is spelled so, and what is spelled so is read.
use Rattle.std.proofs.Common.{◌≡◌, ℕ, zero, suc, ◌+◌, ◌-◌, ◌<◌, ◌≤◌, List, [], ◌∷◌, ◌++◌, length, Some, Result, Ok, Err, refl, sym, ap, subst, ◌∙◌, append_assoc, arith}
use Rattle.std.specs.List.{flat_map}
use Rattle.std.proofs.lemmas.List.{append-nil, length-append}
use Rattle.std.proofs.lemmas.Bool.Decides.{nat_tests}
use Rattle.fields.specs.Reading.{Reading}
use Rattle.records.specs.Grammar.{◌>>=◌, byte_at, number_within}
use Rattle.records.proofs.Fields.{IsBytes, bind_ok, ok_is, Takes, Takes-then, byte_takes, byte_again, Again}
use Rattle.datagram.specs.Grammar.{items_at}

-- ---- bytes of a range

within_back : (least most n x : ℕ) → number_within least most n ≡ Some x → (n ≡ x) × (least ≤ x) × (x ≤ most)
within_back least most n x e = grind (arith, nat_tests)

within_again : (least most x : ℕ) → least ≤ x → x ≤ most → number_within least most x ≡ Some x
within_again least most x low high = grind (arith, nat_tests)

pub byte_in_takes : (least most : ℕ) (r : Reading) (x : ℕ) (s : Reading) → IsBytes r.left → byte_at (number_within least most) r ≡ Ok (x, s)
    → Takes r (x ∷ []) s × (least ≤ x) × (x ≤ most)
byte_in_takes least most r x s fits e =
    let b = byte_takes (number_within least most) r x s fits e in
    let w = within_back least most b.0 x b.1 in
    (subst (λ (n : ℕ). Takes r (n ∷ []) s) w.0 b.2, w.1, w.2)

pub byte_in_again : (least most x : ℕ) → least ≤ x → x ≤ most → Again (byte_at (number_within least most)) x (x ∷ [])
byte_in_again least most x low high = byte_again (number_within least most) x x (within_again least most x low high)

-- ---- items

abbrev done : {A : Type 0} → A → Result A ℕ
done x = Ok x

module _ {A : Type 0} (bytes : A → List ℕ) (Good : ℕ → A → Type 0) (next : A → ℕ) where
  -- Each item keeps the rule that rests on the number which the one before it set.
  abbrev pub GoodFrom : ℕ → List A → Type 0
  GoodFrom least [] = Unit {0}
  GoodFrom least (x ∷ xs) = Good least x × GoodFrom (next x) xs

  -- Behind the items before, so many more were read.
  pub record TakesItems (n least : ℕ) (before all : List A) (r s : Reading) : Type 0 where
    pub more : List A
    pub grown : all ≡ before ++ more
    pub many : length more ≡ n
    pub taken : Takes r (flat_map bytes more) s
    pub good : GoodFrom least more

  pub items_take : (step : ℕ → Reading → Result (A × Reading) ℕ)
      → ((least : ℕ) (r : Reading) (x : A) (s : Reading) → IsBytes r.left → step least r ≡ Ok (x, s) → Takes r (bytes x) s × Good least x)
      → (n least : ℕ) (before : List A) (r : Reading) (all : List A) (s : Reading) → IsBytes r.left → items_at step next n least before r ≡ Ok (all, s)
      → TakesItems n least before all r s
  unfolding items_at
  items_take step one zero least before r all s fits e =
      subst (λ (y : List A × Reading). TakesItems zero least before y.0 r y.1) (ok_is (before, r) (all, s) e)
      (record { more = []; grown = sym (append-nil before); many = refl; taken = record { parts = refl; place = omega arith; fits = fits }; good = tt })
  items_take step one (suc n) least before r all s fits e =
      let a = bind_ok (step least r) (λ x. items_at step next n (next x.0) (before ++ x.0 ∷ []) x.1) (all, s) e in
      let t = one least r a.0.0 a.0.1 fits a.1 in
      let rest = items_take step one n (next a.0.0) (before ++ a.0.0 ∷ []) a.0.1 all s t.0.fits a.2 in
      record {
        more = a.0.0 ∷ rest.more;
        grown = rest.grown ∙ append_assoc before (a.0.0 ∷ []) rest.more;
        many = ap suc rest.many;
        taken = Takes-then _ _ _ _ _ t.0 rest.taken;
        good = (t.1, rest.good);
      }

  pub items_again : (step : ℕ → Reading → Result (A × Reading) ℕ) → ((least : ℕ) (x : A) → Good least x → Again (step least) x (bytes x))
      → (xs : List A) (least : ℕ) (before : List A) → GoodFrom least xs → Again (items_at step next (length xs) least before) (before ++ xs) (flat_map bytes xs)
  unfolding items_at
  items_again step one [] least before good r rest left = (r, ap (λ (zs : List A). done (zs, r)) (sym (append-nil before)), record { left = left; place = omega arith })
  items_again step one (x ∷ xs) least before good r rest left =
      let a = one least x good.0 r (flat_map bytes xs ++ rest) (left ∙ append_assoc (bytes x) (flat_map bytes xs) rest) in
      let b = items_again step one xs (next x) (before ++ x ∷ []) good.1 a.0 rest a.2.left in (
        b.0,
        ap (λ (v : Result (A × Reading) ℕ). v >>= λ y. items_at step next (length xs) (next y.0) (before ++ y.0 ∷ []) y.1) a.1 ∙ b.1 ∙ ap (λ (zs : List A). done (zs, b.0)) (append_assoc before (x ∷ []) xs),
        record { left = b.2.left; place = omega (arith, a.2.place, b.2.place, length-append (bytes x) (flat_map bytes xs)) },
      )

-- ---- one step of a list

module _ {A : Type 0} (step : ℕ → Reading → Result (A × Reading) ℕ) (next : A → ℕ) where
  items_end : (n least : ℕ) (before : List A) (r : Reading) → n ≡ 0 → items_at step next n least before r ≡ Ok (before, r)
  unfolding items_at
  items_end n least before r e = ap (λ (k : ℕ). items_at step next k least before r) e

  items_more : (n m least : ℕ) (before : List A) (r : Reading) (x : A) (s : Reading) → n ≡ suc m → step least r ≡ Ok (x, s)
      → items_at step next n least before r ≡ items_at step next m (next x) (before ++ x ∷ []) s
  unfolding items_at
  items_more n m least before r x s e one =
      ap (λ (k : ℕ). items_at step next k least before r) e ∙ ap (λ (v : Result (A × Reading) ℕ). v >>= λ y. items_at step next m (next y.0) (before ++ y.0 ∷ []) y.1) one

  items_fail : (n m least : ℕ) (before : List A) (r : Reading) (place : ℕ) → n ≡ suc m → step least r ≡ Err place → items_at step next n least before r ≡ Err place
  unfolding items_at
  items_fail n m least before r place e one =
      ap (λ (k : ℕ). items_at step next k least before r) e ∙ ap (λ (v : Result (A × Reading) ℕ). v >>= λ y. items_at step next m (next y.0) (before ++ y.0 ∷ []) y.1) one

  -- a loop over the list, so far: it goes on by one item, stops at a fault, or has all
  pub items_on : (count i least : ℕ) (before : List A) (r : Reading) (x : A) (s : Reading) (whole : Result (List A × Reading) ℕ) → i < count → step least r ≡ Ok (x, s)
      → items_at step next (count - i) least before r ≡ whole → items_at step next (count - (i + 1)) (next x) (before ++ x ∷ []) s ≡ whole
  items_on count i least before r x s whole lt one so_far = sym (items_more (count - i) (count - (i + 1)) least before r x s (omega arith) one) ∙ so_far

  pub items_stop : (count i least : ℕ) (before : List A) (r : Reading) (place : ℕ) (whole : Result (List A × Reading) ℕ) → i < count → step least r ≡ Err place
      → items_at step next (count - i) least before r ≡ whole → whole ≡ Err place
  items_stop count i least before r place whole lt one so_far = sym so_far ∙ items_fail (count - i) (count - (i + 1)) least before r place (omega arith) one

  pub items_done : (count i least : ℕ) (before : List A) (r : Reading) (whole : Result (List A × Reading) ℕ) → count ≤ i
      → items_at step next (count - i) least before r ≡ whole → whole ≡ Ok (before, r)
  items_done count i least before r whole le so_far = sym so_far ∙ items_end (count - i) least before r (omega arith)
