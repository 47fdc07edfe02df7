-- Leaves of the authority's key, as a world is opened.
use Rattle.std.proofs.Common.{◌≡◌, ℕ, zero, suc, ◌+◌, ◌<◌, ◌≤◌, Bool, true, cond, eqb, ltb, List, [], ◌∷◌, ◌++◌, Option, length, inl, inr, refl, ap, ◌∙◌, subst, arith, length-append}
use Rattle.std.specs.List.{list_any}
use Rattle.std.proofs.lemmas.Bool.{cases_Bool}
use Rattle.std.proofs.lemmas.Bool.Decides.{nat_tests}
use Rattle.ff_ids.specs.declared.Group.{Group}
use Rattle.ff_ids.specs.Heals.{Heal}
use Rattle.sign_keys.specs.declared.kinds.Kinds.{Kinds}
use Rattle.lms_tree.specs.declared.kind.TreeKind.{TreeKind}
use Rattle.lms_tree.specs.declared.kind.TreeKind.TheVariants.{H5, H10, H15}
use Rattle.lms_tree.specs.Kinds.{leaf_count}
use Rattle.sign_keys.specs.Keys.{index_count}
use Rattle.world_host.specs.KeySigning.{KeyState}
use Rattle.world_rules.specs.Keys.{setting_for}
use Rattle.world.specs.Holding.{Kept}
use Rattle.world.specs.Opening.{Builds, HasLeafFor, listed_below}
use Rattle.world.proofs.OpeningLemmas.{any-either, none-listed, one-listed}

many-leaves : (tree : TreeKind) → 32 ≤ leaf_count tree
many-leaves H5 = omega arith
many-leaves H10 = omega arith
many-leaves H15 = omega arith

-- ---- those that are listed

-- how many of the list are below the number
abbrev below : List ℕ → ℕ → ℕ
below [] n = 0
below (x ∷ xs) n = cond (ltb x n) 1 0 + below xs n

below-length : (xs : List ℕ) (n : ℕ) → below xs n ≤ length xs
below-length [] n = omega arith
below-length (x ∷ xs) n = omega (arith, at-most (ltb x n), below-length xs n)
  where
    at-most : (b : Bool) → cond b 1 0 ≤ 1
    at-most b = elim (cases_Bool b) [ inl holds ↦ rw holds (omega arith) | inr fails ↦ rw fails (omega arith) ]

one-more : (x n : ℕ) → cond (ltb x n) 1 0 ≤ cond (ltb x (n + 1)) 1 0
one-more x n =
    elim (cases_Bool (ltb x n)) [
      | inl holds ↦ let later : ltb x (n + 1) ≡ true = grind (arith, nat_tests) in rw (holds, later) (omega arith)
      | inr fails ↦ rw fails (omega arith)
    ]

new-one : (x n : ℕ) → eqb x n ≡ true → cond (ltb x n) 1 0 + 1 ≤ cond (ltb x (n + 1)) 1 0
new-one x n here =
    let before : ltb x n ≡ Bool.false = grind (arith, nat_tests) in
    let later : ltb x (n + 1) ≡ true = grind (arith, nat_tests) in
    rw (before, later) (omega arith)

below-more : (xs : List ℕ) (n : ℕ) → below xs n ≤ below xs (n + 1)
below-more [] n = omega arith
below-more (x ∷ xs) n = omega (arith, one-more x n, below-more xs n)

below-here : (xs : List ℕ) (n : ℕ) → list_any (λ x. eqb x n) xs ≡ true → below xs n + 1 ≤ below xs (n + 1)
below-here [] n is = cc
below-here (x ∷ xs) n is =
    elim (cases_Bool (eqb x n)) [
      | inl here ↦ omega (arith, new-one x n here, below-more xs n)
      | inr there ↦ let rest : list_any (λ x. eqb x n) xs ≡ true = rw there at is in omega (arith, one-more x n, below-here xs n rest)
    ]

few-next : (listed : List ℕ) (n : ℕ) → length (listed_below listed n) ≤ below listed n → length (listed_below listed (n + 1)) ≤ below listed (n + 1)
few-next listed n few =
    elim (cases_Bool (list_any (λ x. eqb x n) listed)) [
      | inl here ↦ let e = ap length (one-listed listed n here) in omega (arith, e, few, length-append (listed_below listed n) (n ∷ []), below-here listed n here)
      | inr there ↦ let e = ap length (none-listed listed n there) in omega (arith, e, few, below-more listed n)
    ]

-- each number once, however often it is listed
few-listed : (listed : List ℕ) (n : ℕ) → length (listed_below listed n) ≤ below listed n
few-listed listed zero = omega arith
few-listed listed (suc n) = subst (λ (k : ℕ). length (listed_below listed k) ≤ below listed k) (next n) (few-next listed n (few-listed listed n))
  where
    next : (n : ℕ) → n + 1 ≡ suc n
    next n = omega arith

listed-left : (listed : List ℕ) (n : ℕ) → list_any (λ x. eqb x n) listed ≡ true → length (listed_below listed n) < length listed
listed-left listed n here = omega (arith, few-listed listed n, below-here listed n here, below-length listed (n + 1))

-- ---- the key

-- Each that is listed has a leaf: so few are.
pub has-leaf : (g : Group) (kinds : Kinds) (heal : Option Heal) (correct liars : List ℕ) (n : ℕ) (signing : KeyState) (v : Kept) → length correct + length liars ≤ 32 → Builds (setting_for g kinds heal correct liars) kinds n signing v → HasLeafFor (correct ++ liars) signing n
unfolding setting_for
has-leaf g kinds heal correct liars n signing v few h here =
    let next : signing.next ≡ length (listed_below (correct ++ liars) n) = h.next in
    let leaves : index_count signing.key ≡ leaf_count kinds.tree = ap index_count h.key in
    omega (arith, next, leaves, few, listed-left (correct ++ liars) n here, length-append correct liars, many-leaves kinds.tree)

pub listed-node : (correct liars : List ℕ) (m : ℕ) → list_any (λ x. eqb x m) correct ≡ true → list_any (λ x. eqb x m) (correct ++ liars) ≡ true
listed-node correct liars m is = any-either (λ x. eqb x m) correct liars ∙ rw is refl

pub listed-liar : (correct liars : List ℕ) (m : ℕ) → list_any (λ x. eqb x m) liars ≡ true → list_any (λ x. eqb x m) (correct ++ liars) ≡ true
listed-liar correct liars m is =
    any-either (λ x. eqb x m) correct liars ∙ elim (cases_Bool (list_any (λ x. eqb x m) correct)) [ inl holds ↦ rw holds refl | inr fails ↦ rw fails is ]
