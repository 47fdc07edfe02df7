-- Whom a link was told of, one after another.
use Rattle.std.proofs.Common.{◌≡◌, ℕ, suc, ◌+◌, List, [], ◌++◌, Option, None, Some, refl, sym, ap, ◌∙◌, subst, append_assoc, append-nil, arith}
use Rattle.std.specs.Prelude.{option_to_list}
use Rattle.validate.specs.Certified.{Certificates}
use Rattle.node_loop.specs.Expecting.{Tells, certified_at, certified_below}

pub tells-none : (told : Option (List (ℕ × ℕ))) → Tells told told []
tells-none None = refl
tells-none (Some told) = ap Some (sym (append-nil told))

pub tells-more : (first mid last : Option (List (ℕ × ℕ))) (xs ys : List (ℕ × ℕ)) → Tells first mid xs → Tells mid last ys → Tells first last (xs ++ ys)
tells-more None mid last xs ys h k = let P : Option (List (ℕ × ℕ)) → Type 0 = λ o. Tells o last ys in subst P h k
tells-more (Some told) mid last xs ys h k =
    let P : Option (List (ℕ × ℕ)) → Type 0 = λ o. Tells o last ys in subst P h k ∙ ap Some (append_assoc told xs ys)

pub tells-so : (first last : Option (List (ℕ × ℕ))) (xs ys : List (ℕ × ℕ)) → xs ≡ ys → Tells first last xs → Tells first last ys
tells-so first last xs ys is h = subst (λ zs. Tells first last zs) is h

pub below-none : (certificates : Certificates) → certified_below certificates 0 ≡ []
unfolding certified_below
below-none certificates = refl

below-suc : (certificates : Certificates) (m : ℕ) → certified_below certificates (suc m) ≡ certified_below certificates m ++ option_to_list (certified_at certificates m)
unfolding certified_below
below-suc certificates m = refl

pub below-more : (certificates : Certificates) (m : ℕ) → certified_below certificates m ++ option_to_list (certified_at certificates m) ≡ certified_below certificates (m + 1)
below-more certificates m = let e : suc m ≡ m + 1 = omega arith in sym (below-suc certificates m) ∙ ap (certified_below certificates) e
