-- What was found not forged stays so.
use Rattle.std.proofs.Common.{◌≡◌, inl, inr, ℕ, Bool, true, false, ◌&&◌, not, cond, List, [], ◌∷◌, ◌++◌, Option, Some, None, refl, ap, ◌∙◌}
use Rattle.std.specs.Prelude.{find}
use Rattle.std.specs.List.{list_any, AllByRecursion}
use Rattle.std.specs.Option.{option_map}
use Rattle.std.proofs.lemmas.Bool.{cases_Bool}
use Rattle.records.specs.declared.Body.{Body}
use Rattle.records.specs.declared.Record.{Record}
use Rattle.world_rules.specs.Settings.{Owner, Setting, Signed, same_body, same_owner}
use Rattle.world_rules.specs.Worlds.{World}
use Rattle.world_rules.specs.Forgeries.{Forgery, has_signed, is_forged_for, protected}
use Rattle.world.specs.Testing.{IsClean}

-- The other world has all signatures of the one, and then some.
pub record SignsMore (w later : World) : Type 0 where
  pub more : List Signed
  pub is : later.signed ≡ w.signed ++ more

or_first : (a b : Bool) → a ≡ true → cond a true b ≡ true
or_first true b e = refl
or_first false b e = cc

any_more : (p : Signed → Bool) (xs ys : List Signed) → list_any p xs ≡ true → list_any p (xs ++ ys) ≡ true
any_more p [] ys e = cc
any_more p (x ∷ xs) ys e =
    elim (cases_Bool (p x)) [
      | inl here ↦ rw here refl
      | inr later ↦ let rest : list_any p xs ≡ true = rw later at e in rw later (any_more p xs ys rest)
    ]

signed_still : (w later : World) (who : Owner) (body : Body) → SignsMore w later → has_signed w who body ≡ true → has_signed later who body ≡ true
signed_still w later who body m e =
    let p : Signed → Bool = λ x. same_owner x.who who && same_body x.body body in
    ap (list_any p) m.is ∙ any_more p w.signed m.more e

-- a test that fails still does
not_forged : (v a b : Bool) → (a ≡ true → b ≡ true) → (v && not a) ≡ false → (v && not b) ≡ false
not_forged true true b more e = rw (more refl) refl
not_forged true false b more e = cc
not_forged false a b more e = refl

forged_still : (s : Setting) (w later : World) (r : Record) (who : Owner) → SignsMore w later → is_forged_for s w r who ≡ false → is_forged_for s later r who ≡ false
forged_still s w later r who m e = not_forged (s.verifies (s.key who) r) (has_signed w who r.body) (has_signed later who r.body) (signed_still w later who r.body m) e

found_none : {X : Type 0} (p : X → Bool) (x : X) (xs : List X) → find p (x ∷ xs) ≡ None → (p x ≡ false) × (find p xs ≡ None)
found_none p x xs e =
    elim (cases_Bool (p x)) [
      | inl here ↦ let it : Some x ≡ None = rw here at e in cc
      | inr later ↦ let rest : find p xs ≡ None = rw later at e in (later, rest)
    ]

find_fewer : {X : Type 0} (p q : X → Bool) (xs : List X) → ((x : X) → p x ≡ false → q x ≡ false) → find p xs ≡ None → find q xs ≡ None
find_fewer p q [] fewer e = refl
find_fewer p q (x ∷ xs) fewer e =
    let parts = found_none p x xs e in
    let here = fewer x parts.0 in
    rw here (find_fewer p q xs fewer parts.1)

mapped_none : {X Y : Type 0} (f : X → Y) (o : Option X) → option_map f o ≡ None → o ≡ None
mapped_none f None e = refl
mapped_none f (Some x) e = cc

pub clean_still : (s : Setting) (w later : World) (spelled : List ℕ) → SignsMore w later → IsClean s w spelled → IsClean s later spelled
clean_still s w later spelled m clean r is =
    let f : Owner → Forgery = λ who. record { who = who; body = r.body } in
    let none = mapped_none f (find (is_forged_for s w r) (protected s)) (clean r is) in
    ap (option_map f) (find_fewer (is_forged_for s w r) (is_forged_for s later r) (protected s) (λ who. forged_still s w later r who m) none)

pub all_clean_still : (s : Setting) (w later : World) (tested : List (List ℕ)) → SignsMore w later → AllByRecursion (IsClean s w) tested → AllByRecursion (IsClean s later) tested
all_clean_still s w later [] m clean = tt
all_clean_still s w later (x ∷ tested) m clean = (clean_still s w later x m clean.0, all_clean_still s w later tested m clean.1)
