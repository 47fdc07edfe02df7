-- How the lives of a key go on over several calls.
use Rattle.std.proofs.Common.{◌≡◌, ℕ, List, [], ◌++◌, refl, ap, sym, ◌∙◌, subst, append-nil, append_assoc, Result}
use Rattle.ports.specs.Disk.{Moment}
use Rattle.ports.specs.Outside.{OfDisk}
use Rattle.ports.proofs.SinceLemmas.{Since-same, Since-trans, Since-weaken}
use Rattle.records.specs.declared.Body.{Body}
use Rattle.records.specs.Signing.{CheckedRecord}
use Rattle.signer.specs.declared.SignFault.{SignFault}
use Rattle.signer.specs.Signing.{SignerState}
use Rattle.signer.specs.Lives.{EndsLives, EndsWithin, IsPrefix, IsLiving, LivesOn, Spent, spent_in}
use Rattle.signer.specs.Signs.{Signs}

pub front-trans : {X : Type 0} (xs ys zs : List X) → IsPrefix xs ys → IsPrefix ys zs → IsPrefix xs zs
front-trans xs ys zs a b = record { more = a.more ++ b.more; is = b.is ∙ ap (λ v. v ++ b.more) a.is ∙ append_assoc xs a.more b.more }

pub front-after : {X : Type 0} (before xs ys : List X) → IsPrefix xs ys → IsPrefix (before ++ xs) (before ++ ys)
front-after before xs ys h = record { more = h.more; is = ap (λ z. before ++ z) h.is ∙ sym (append_assoc before xs h.more) }

front-wider : (done more later : List Spent) → IsPrefix done more → IsPrefix done (more ++ later)
front-wider done more later h = front-trans done more (more ++ later) h (record { more = later; is = refl })

-- nothing is spent, and nothing becomes of the disk
pub lives-same : (s later : SignerState) (moments : List Moment) → later ≡ s → LivesOn [] s later moments moments
lives-same s later moments same = record {
  lives = λ tag before spent living. subst (λ (z : List Spent). IsLiving tag before z later moments) (sym (append-nil spent)) (subst (λ (x : SignerState). IsLiving tag before spent x moments) (sym same) living);
  any_moment = λ tag before spent living. Since-same (EndsWithin tag before spent []) moments;
}

pub lives-trans : (first second : List Spent) (a b c : SignerState) (x y z : List Moment) → LivesOn first a b x y → LivesOn second b c y z → LivesOn (first ++ second) a c x z
lives-trans first second a b c x y z p q = record {
  lives = λ tag before spent living. subst (λ (w : List Spent). IsLiving tag before w c z) (append_assoc spent first second) (q.lives tag before (spent ++ first) (p.lives tag before spent living));
  any_moment = λ tag before spent living.
      Since-trans (EndsWithin tag before spent (first ++ second)) x y z
      (Since-weaken (EndsWithin tag before spent first) (EndsWithin tag before spent (first ++ second)) x y
      (λ m h. record { done = h.done; front = front-wider h.done first second h.front; ends = h.ends }) (p.any_moment tag before spent living))
      (Since-weaken (EndsWithin tag before (spent ++ first) second) (EndsWithin tag before spent (first ++ second)) y z
      (λ m h. record {
        done = first ++ h.done;
        front = front-after first h.done second h.front;
        ends = subst (λ (w : List Spent). EndsLives tag before w m) (append_assoc spent first h.done) h.ends;
      }) (q.any_moment tag before (spent ++ first) (p.lives tag before spent living)));
}

-- where nothing was spent, a front of whatever follows was
pub within-none : (tag before : List ℕ) (spent more : List Spent) (m : Moment) → EndsLives tag before spent m → EndsWithin tag before spent more m
within-none tag before spent more m ends = record {
  done = [];
  front = record { more = more; is = refl };
  ends = subst (λ (w : List Spent). EndsLives tag before w m) (sym (append-nil spent)) ends;
}

-- one signature, or none
pub lives-signed : (s later : SignerState) (body : Body) (result : Result CheckedRecord SignFault) (old new : OfDisk)
    → Signs s later body result old new → LivesOn (spent_in s body result) s later old.moments new.moments
lives-signed s later body result old new h = record {
  lives = h.lives;
  any_moment = λ tag before spent living.
      Since-weaken (EndsLives tag before spent) (EndsWithin tag before spent (spent_in s body result)) old.moments new.moments (within-none tag before spent (spent_in s body result)) (h.any_life tag before spent living);
}
