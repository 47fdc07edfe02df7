-- What the map has that slots by number stand for.
use Rattle.std.proofs.Common.{◌≡◌, ◌≢◌, ℕ, zero, suc, ◌+◌, ◌<◌, Bool, true, false, cond, eqb, List, [], ◌∷◌, ◌++◌, length, get_or, Option, Some, None, refl, ap, sym, ◌∙◌, arith, get_or-set_same, get_or-set_other, zero-add, ◌⊎◌, ⊎_elim, inl, inr}
use Rattle.std.proofs.Math.Seq.{get_or-append_seam}
use Rattle.std.specs.Prelude.{slice_set}
use Rattle.std.specs.Ordering.{nat_cmp, eq_by_cmp}
use Rattle.std.specs.Cmp.{nat_cmp_total}
use Rattle.std.specs.FinMap.{get, insert, find, same_map, get-insert, get-from_entries, nat_cmp-IsAntisymmetric}
use Rattle.std.proofs.lemmas.Bool.{eqb-true, eqb-false}
use Rattle.std.proofs.lemmas.Bool.Decides.{nat_tests}
use Rattle.membership.specs.Slots.{map_of, taken_from}

find_below : {X : Type 0} (a q : ℕ) (slots : List (Option X)) → q < a → find nat_cmp q (taken_from a slots) ≡ None
find_below a q [] h = refl
find_below a q (None ∷ slots) h = find_below (a + 1) q slots (omega arith)
find_below a q (Some x ∷ slots) h =
    let apart : eq_by_cmp nat_cmp q a ≡ false = grind (arith, nat_tests) in
    rw apart (find_below (a + 1) q slots (omega arith))

find_at : {X : Type 0} (a k : ℕ) (slots : List (Option X)) → find nat_cmp (a + k) (taken_from a slots) ≡ get_or slots k None
find_at a k [] = refl
find_at a zero (None ∷ slots) = find_below (a + 1) (a + 0) slots (omega arith)
find_at a zero (Some x ∷ slots) =
    let same : eq_by_cmp nat_cmp (a + 0) a ≡ true = grind (arith, nat_tests) in
    rw same refl
find_at a (suc k) (None ∷ slots) =
    let more : a + suc k ≡ a + 1 + k = omega arith in
    ap (λ q. find nat_cmp q (taken_from (a + 1) slots)) more ∙ find_at (a + 1) k slots
find_at a (suc k) (Some x ∷ slots) =
    let apart : eq_by_cmp nat_cmp (a + suc k) a ≡ false = grind (arith, nat_tests) in
    let more : a + suc k ≡ a + 1 + k = omega arith in
    ap (λ b. cond b (Some x) (find nat_cmp (a + suc k) (taken_from (a + 1) slots))) apart ∙ ap (λ q. find nat_cmp q (taken_from (a + 1) slots)) more ∙ find_at (a + 1) k slots

-- the value of a number
pub get-map_of : {X : Type 0} (slots : List (Option X)) (m : ℕ) → get (map_of slots) m ≡ get_or slots m None
get-map_of slots m = get-from_entries nat_cmp_total (taken_from 0 slots) m ∙ ap (λ q. find nat_cmp q (taken_from 0 slots)) (sym (zero-add m)) ∙ find_at 0 m slots

set_same : {X : Type 0} (slots : List (Option X)) (m q : ℕ) (x : X) → m < length slots → get_or (slice_set slots m (Some x)) q None ≡ cond (eq_by_cmp nat_cmp q m) (Some x) (get_or slots q None)
set_same slots m q x below =
    ⊎_elim (λ t. let at : q ≡ m = eqb-true q m t in let same : eq_by_cmp nat_cmp q m ≡ true = grind (arith, nat_tests) in rw (same, at, get_or-set_same) refl)
    (λ t. let off : q ≢ m = eqb-false q m t in let apart : eq_by_cmp nat_cmp q m ≡ false = grind (arith, nat_tests) in rw (apart, get_or-set_other) refl)
    (either_bool (eqb q m))
  where
    either_bool : (b : Bool) → (b ≡ true) ⊎ (b ≡ false)
    either_bool true = inl refl
    either_bool false = inr refl

-- a written slot is an entry of the map
pub map_of-set : {X : Type 0} (slots : List (Option X)) (m : ℕ) (x : X) → m < length slots → map_of (slice_set slots m (Some x)) ≡ insert (map_of slots) m x
map_of-set slots m x below =
    same_map nat_cmp_total nat_cmp-IsAntisymmetric _ _ (λ q. get-map_of (slice_set slots m (Some x)) q ∙ set_same slots m q x below ∙ ap (cond (eq_by_cmp nat_cmp q m) (Some x)) (sym (get-map_of slots q)) ∙ sym (get-insert nat_cmp_total (map_of slots) m x q))

-- an empty slot at the end has no entry
pub taken-push : {X : Type 0} (a : ℕ) (slots : List (Option X)) → taken_from a (slots ++ None ∷ []) ≡ taken_from a slots
taken-push a [] = refl
taken-push a (None ∷ slots) = taken-push (a + 1) slots
taken-push a (Some x ∷ slots) = ap (λ xs. (a, x) ∷ xs) (taken-push (a + 1) slots)

push_other : {X : Type 0} (slots : List (Option X)) (q : ℕ) (x : X) → q ≢ length slots → get_or (slots ++ Some x ∷ []) q None ≡ get_or slots q None
push_other [] zero x off = absurd (off refl)
push_other [] (suc q) x off = refl
push_other (s ∷ slots) zero x off = refl
push_other (s ∷ slots) (suc q) x off = push_other slots q x (λ e. off (ap suc e))

push_same : {X : Type 0} (slots : List (Option X)) (m q : ℕ) (x : X) → length slots ≡ m → get_or (slots ++ Some x ∷ []) q None ≡ cond (eq_by_cmp nat_cmp q m) (Some x) (get_or slots q None)
push_same slots m q x long =
    ⊎_elim (λ t. let at : q ≡ m = eqb-true q m t in let same : eq_by_cmp nat_cmp q m ≡ true = grind (arith, nat_tests) in rw same (ap (λ k. get_or (slots ++ Some x ∷ []) k None) (at ∙ sym long) ∙ get_or-append_seam slots (Some x) [] None))
    (λ t. let off : q ≢ m = eqb-false q m t in let apart : eq_by_cmp nat_cmp q m ≡ false = grind (arith, nat_tests) in rw apart (push_other slots q x (λ e. off (e ∙ long))))
    (either_bool (eqb q m))
  where
    either_bool : (b : Bool) → (b ≡ true) ⊎ (b ≡ false)
    either_bool true = inl refl
    either_bool false = inr refl

-- a slot that is put at the end is an entry of the map
pub map_of-push : {X : Type 0} (slots : List (Option X)) (m : ℕ) (x : X) → length slots ≡ m → map_of (slots ++ Some x ∷ []) ≡ insert (map_of slots) m x
map_of-push slots m x long =
    same_map nat_cmp_total nat_cmp-IsAntisymmetric _ _ (λ q. get-map_of (slots ++ Some x ∷ []) q ∙ push_same slots m q x long ∙ ap (cond (eq_by_cmp nat_cmp q m) (Some x)) (sym (get-map_of slots q)) ∙ sym (get-insert nat_cmp_total (map_of slots) m x q))
