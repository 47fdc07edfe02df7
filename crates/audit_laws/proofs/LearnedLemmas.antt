-- What each thing that is learned rules out.
use Rattle.std.proofs.Common.{◌≡◌, ℕ, zero, suc, Bool, true, false, List, [], ◌∷◌, ◌++◌, length, Option, Some, None, ◌⊎◌, inl, inr, refl, sym, ap, ◌∙◌, append_assoc, append-nil}
use Rattle.std.specs.Prelude.{replicate, unwrap_or}
use Rattle.std.specs.List.{AllByRecursion, slice_get}
use Rattle.journal.specs.declared.turn.Turn.{Turn}
use Rattle.audit_rules.specs.Heads.{own_length}
use Rattle.audit_laws.specs.declared.Signed.{Signed}
use Rattle.std.specs.Prelude.{◌==◌}
use Rattle.std.proofs.Common.{cond, eq-eqb}
use Rattle.std.proofs.lemmas.Bool.{and_from}
use Rattle.audit_laws.specs.Bodies.{is_same_body}
use Rattle.audit_laws.proofs.BodyLemmas.{same-itself}
use Rattle.audit_laws.specs.Learned.{is_of, shown_of, AreOnce}
use Rattle.audit_laws.specs.Learning.{FatesAreLearned, LeavingIsAdded, LeavingIsLearned, OneIsTheLeast, PingsAreLearned, SignaturesAreLearned, TurnsAreAdded, TurnsAreLearned}

-- ---- one more in a list

no-none : {A B : Type 0} (x : A) → None ≡ Some x → B
no-none x e = cc

some-same : {A : Type 0} (x y : A) → Some x ≡ Some y → x ≡ y
some-same x y e = cc

get-front : {X : Type 0} (xs : List X) (x v : X) (i : ℕ) → slice_get xs i ≡ Some v → slice_get (xs ++ x ∷ []) i ≡ Some v
get-front [] x v i e = no-none v e
get-front (y ∷ xs) x v zero e = e
get-front (y ∷ xs) x v (suc i) e = get-front xs x v i e

get-last : {X : Type 0} (xs : List X) (x : X) → slice_get (xs ++ x ∷ []) (length xs) ≡ Some x
get-last [] x = refl
get-last (y ∷ xs) x = get-last xs x

-- what stands in the longer list stood in the shorter, or is the last
record IsLast {X : Type 0} (xs : List X) (x v : X) (i : ℕ) : Type 0 where
  at : i ≡ length xs
  same : x ≡ v

later : {X : Type 0} (xs : List X) (y x v : X) (i : ℕ) → (slice_get xs i ≡ Some v) ⊎ IsLast xs x v i → (slice_get xs i ≡ Some v) ⊎ IsLast (y ∷ xs) x v (suc i)
later xs y x v i (inl e) = inl e
later xs y x v i (inr l) = inr (record { at = ap suc l.at; same = l.same })

get-either : {X : Type 0} (xs : List X) (x v : X) (i : ℕ) → slice_get (xs ++ x ∷ []) i ≡ Some v → (slice_get xs i ≡ Some v) ⊎ IsLast xs x v i
get-either [] x v zero e = inr (record { at = refl; same = some-same x v e })
get-either [] x v (suc i) e = no-none v e
get-either (y ∷ xs) x v zero e = inl e
get-either (y ∷ xs) x v (suc i) e = later xs y x v i (get-either xs x v i e)

-- a function has what a list gives, and one more
abbrev Fits : {X : Type 0} → (ℕ → X) → List X → Type 0
Fits {X} f xs = (i : ℕ) (v : X) → slice_get xs i ≡ Some v → f i ≡ v

fits-one : {X : Type 0} (f : ℕ → X) (xs : List X) (x v : X) (i : ℕ) → Fits f xs → f (length xs) ≡ x → (slice_get xs i ≡ Some v) ⊎ IsLast xs x v i → f i ≡ v
fits-one f xs x v i fits last (inl e) = fits i v e
fits-one f xs x v i fits last (inr l) = ap f l.at ∙ last ∙ l.same

fits-more : {X : Type 0} (f : ℕ → X) (xs : List X) (x : X) → Fits f xs → f (length xs) ≡ x → Fits f (xs ++ x ∷ [])
fits-more f xs x fits last i v e = fits-one f xs x v i fits last (get-either xs x v i e)

fits-less : {X : Type 0} (f : ℕ → X) (xs : List X) (x : X) → Fits f (xs ++ x ∷ []) → Fits f xs
fits-less f xs x fits i v e = fits i v (get-front xs x v i e)

-- ---- fates and nonces

pub fates-learned : FatesAreLearned
fates-learned k fate w =
    record {
      before = λ e. record { turns = e.turns; lost = fits-less w.lost k.lost fate e.lost; nonces = e.nonces; signed = e.signed };
      so = λ e. e.lost (length k.lost) fate (get-last k.lost fate);
      from = λ e is. record { turns = e.turns; lost = fits-more w.lost k.lost fate e.lost is; nonces = e.nonces; signed = e.signed };
    }

pub pings-learned : PingsAreLearned
pings-learned k nonce w =
    record {
      before = λ e. record { turns = e.turns; lost = e.lost; nonces = fits-less w.nonces k.nonces nonce e.nonces; signed = e.signed };
      so = λ e. e.nonces (length k.nonces) nonce (get-last k.nonces nonce);
      from = λ e is. record { turns = e.turns; lost = e.lost; nonces = fits-more w.nonces k.nonces nonce e.nonces is; signed = e.signed };
    }

-- ---- turns

no-false : {A : Type 0} (b : Bool) → b ≡ false → b ≡ true → A
no-false b stays gone = cc

pub turns-learned : TurnsAreLearned
turns-learned k turn w stays e =
    record {
      before = record {
        turns = record {
          more = turn ∷ e.turns.more;
          turns_are = e.turns.turns_are ∙ append_assoc k.turns (turn ∷ []) e.turns.more;
          none = λ gone. no-false k.left stays gone;
          leaves = e.turns.leaves;
        };
        lost = e.lost;
        nonces = e.nonces;
        signed = e.signed;
      };
      more_is = refl;
    }

pub turns-added : TurnsAreAdded
turns-added k turn w more stays e is =
    record {
      extends = record {
        turns = record {
          more = more;
          turns_are = e.turns.turns_are ∙ ap (λ (xs : List Turn). k.turns ++ xs) is ∙ sym (append_assoc k.turns (turn ∷ []) more);
          none = λ gone. no-false k.left stays gone;
          leaves = e.turns.leaves;
        };
        lost = e.lost;
        nonces = e.nonces;
        signed = e.signed;
      };
      more_is = refl;
    }

-- ---- the leaving

pub leaving-learned : LeavingIsLearned
leaving-learned k w e =
    record {
      before = record {
        turns = record { more = e.turns.more; turns_are = e.turns.turns_are; none = λ gone. e.turns.none refl; leaves = λ gone. e.turns.leaves refl };
        lost = e.lost;
        nonces = e.nonces;
        signed = e.signed;
      };
      is_to = record { none = e.turns.none refl; leaves = e.turns.leaves refl };
    }

pub leaving-added : LeavingIsAdded
leaving-added k w e is =
    record {
      turns = record { more = e.turns.more; turns_are = e.turns.turns_are; none = λ gone. is.none; leaves = λ gone. is.leaves };
      lost = e.lost;
      nonces = e.nonces;
      signed = e.signed;
    }

pub signatures-learned : SignaturesAreLearned
signatures-learned k signed w e are = record { turns = e.turns; lost = e.lost; nonces = e.nonces; signed = are }

-- ---- one such life

-- what was shown of this is what is found
shown-first : (x : Signed) (signed : List Signed) (default : List ℕ) → unwrap_or (shown_of x.index x.body (x ∷ signed)) default ≡ x.signature
shown-first x signed default =
    ap (λ (b : Bool). unwrap_or (cond b (Some x.signature) (shown_of x.index x.body signed)) default)
    (and_from (x.index == x.index) (is_same_body x.body x.body) (eq-eqb x.index x.index refl) (same-itself x.body))

-- it is another than this, of which nothing else was shown
shown-behind : (x y : Signed) (signed : List Signed) (default : List ℕ) → is_of y.index y.body x ≡ false
    → unwrap_or (shown_of y.index y.body signed) default ≡ y.signature → unwrap_or (shown_of y.index y.body (x ∷ signed)) default ≡ y.signature
shown-behind x y signed default other found =
    ap (λ (b : Bool). unwrap_or (cond b (Some x.signature) (shown_of y.index y.body signed)) default) other ∙ found

-- the signature of each of these is found among the signed
abbrev AreFound : List ℕ → List Signed → List Signed → Type 0
AreFound default signed among = AllByRecursion (λ y. unwrap_or (shown_of y.index y.body signed) default ≡ y.signature) among

found-behind : (default : List ℕ) (x : Signed) (signed among : List Signed) → AllByRecursion (λ y. is_of y.index y.body x ≡ false) among → AreFound default signed among → AreFound default (x ∷ signed) among
found-behind default x signed [] others found = tt
found-behind default x signed (y ∷ among) others found =
    (shown-behind x y signed default others.0 found.0, found-behind default x signed among others.1 found.1)

all-found : (default : List ℕ) (signed : List Signed) → AreOnce signed → AreFound default signed signed
all-found default [] once = tt
all-found default (x ∷ signed) once = (shown-first x signed default, found-behind default x signed signed once.0 (all-found default signed once.1))

unwrapped : {X : Type 0} (o : Option X) (d x : X) → o ≡ Some x → unwrap_or o d ≡ x
unwrapped o d x is = ap (λ y. unwrap_or y d) is

pub least-extends : OneIsTheLeast
least-extends h k once =
    record {
      turns = record { more = []; turns_are = sym (append-nil k.turns); none = λ gone. refl; leaves = λ gone. gone };
      lost = λ number fate is. unwrapped (slice_get k.lost number) false fate is;
      nonces = λ place nonce is. unwrapped (slice_get k.nonces place) 0 nonce is;
      signed = all-found (replicate (own_length h) 0) k.signed once;
    }
