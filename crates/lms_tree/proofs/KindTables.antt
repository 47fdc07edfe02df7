-- Tables of kinds by their numbers: a kind that a table has for a number has that number.
use Rattle.std.proofs.Common.{◌≡◌, ℕ, Bool, true, false, cond, eqb, Option, Some, None, refl, sym, ap, ◌∙◌}
use Rattle.std.proofs.lemmas.Bool.{eqb-true}
use Rattle.lms_ots.specs.declared.kind.OtsKind.{OtsKind}
use Rattle.lms_ots.specs.declared.kind.OtsKind.TheVariants.{W1, W2, W4, W8}
use Rattle.lms_ots.specs.Ots as ots
use Rattle.lms_tree.specs.declared.kind.TreeKind.{TreeKind}
use Rattle.lms_tree.specs.declared.kind.TreeKind.TheVariants.{H5, H10, H15}
use Rattle.lms_tree.specs.Kinds.{type_number}
use Rattle.lms_tree.specs.Lms.{tree_of}

abbrev there : {A : Type 0} → A → Option A
there x = Some x

some_is : {A : Type 0} (x y : A) → there x ≡ there y → x ≡ y
some_is x y e = cc

abbrev nothing : {A : Type 0} → Option A
nothing = None

pub picked : {K : Type 0} (number : K → ℕ) (n m : ℕ) (k t : K) (more : Option K) (b : Bool) → eqb n m ≡ b → number k ≡ m → (more ≡ Some t → number t ≡ n) → cond b (Some k) more ≡ Some t → number t ≡ n
picked number n m k t more true is same next e =
    let here : k ≡ t = some_is k t e in
    ap number (sym here) ∙ same ∙ sym (eqb-true n m is)
picked number n m k t more false is same next e = next e

pub no_kind : {K : Type 0} (number : K → ℕ) (n : ℕ) (t : K) → nothing ≡ there t → number t ≡ n
no_kind number n t e = cc

pub tree_typed : (n : ℕ) (t : TreeKind) → tree_of n ≡ Some t → type_number t ≡ n
tree_typed n t =
    picked type_number n 5 H5 t _ (eqb n 5) refl refl
    (picked type_number n 6 H10 t _ (eqb n 6) refl refl
    (picked type_number n 7 H15 t None (eqb n 7) refl refl (no_kind type_number n t)))

pub ots_typed : (n : ℕ) (t : OtsKind) → ots.kind_of n ≡ Some t → ots.type_number t ≡ n
ots_typed n t =
    picked ots.type_number n 1 W1 t _ (eqb n 1) refl refl
    (picked ots.type_number n 2 W2 t _ (eqb n 2) refl refl
    (picked ots.type_number n 3 W4 t _ (eqb n 3) refl refl
    (picked ots.type_number n 4 W8 t None (eqb n 4) refl refl (no_kind ots.type_number n t))))
