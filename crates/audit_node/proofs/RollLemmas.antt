-- Certificates are taken one after the other.
use Rattle.std.proofs.Common.{◌≡◌, refl, ap, sym, subst, ◌∙◌, suc, arith, length, List, [], ◌∷◌, ◌++◌, map}
use Rattle.std.specs.Prelude.{All, unwrap_or}
use Rattle.records.specs.declared.CertBody.{CertBody}
use Rattle.records.specs.declared.Body.{Body}
use Rattle.records.specs.declared.Body.TheVariants.{Certificate}
use Rattle.node_rules.specs.Nodes.{certificate_in}
use Rattle.std.proofs.lemmas.List.{append_assoc}
use Rattle.records.specs.declared.Record.{Record}
use Rattle.records.specs.Signing.{CheckedRecord}
use Rattle.std.specs.FinMap as fin
use Rattle.std.proofs.lemmas.Cmp.{nat_cmp_total}
use Rattle.validate.specs.Certified.{Certificates, certificate_of as kept_certificate}
use Rattle.node_rules.specs.Nodes.{Setting, certificate_of}
use Rattle.node_rules.specs.Calls.{Call, takes, lives}
use Rattle.ff_ids.specs.Steps.{Joins}
use Rattle.std.specs.List.{AllByRecursion}
use Rattle.std.specs.Ordering.{eq_by_cmp, nat_cmp}
use Rattle.std.proofs.lemmas.Bool.Decides.{nat_tests}
use Rattle.std.proofs.Common.{ℕ, false, cond, Some, None}
use Rattle.std.specs.Prelude.{nat_eq}
use Rattle.audit_node.proofs.PlayLemmas.{takes-is, certificate-held, certificate-lives}
use Rattle.audit_node.specs.Rolls.{AreNew, takes_all, IsOfOther, AreApart}

abbrev pub recs : List CheckedRecord → List Record
recs xs = map (λ x. x.rec) xs

pub recs-push : (xs : List CheckedRecord) (x : CheckedRecord) → recs (xs ++ x ∷ []) ≡ recs xs ++ x.rec ∷ []
recs-push [] x = refl
recs-push (y ∷ xs) x = ap (λ rs. y.rec ∷ rs) (recs-push xs x)

pub all-push : (s : Setting) (rs : List Record) (r : Record) (c : Call) → takes_all s (rs ++ r ∷ []) c ≡ takes s r (takes_all s rs c)
all-push s [] r c = refl
all-push s (q ∷ rs) r c = all-push s rs r (takes s q c)

pub new-push : (s : Setting) (xs : List CheckedRecord) (x : CheckedRecord) (rest : List Record) (c : Call) → AreNew s c (recs (xs ++ x ∷ []) ++ rest) → AreNew s c (recs xs ++ x.rec ∷ rest)
new-push s xs x rest c new = subst (λ (rs : List Record). AreNew s c rs) (ap (λ rs. rs ++ rest) (recs-push xs x) ∙ append_assoc (recs xs) (x.rec ∷ []) rest) new

pub after-push : (s : Setting) (xs : List CheckedRecord) (x : CheckedRecord) (c : Call) → takes s x.rec (takes_all s (recs xs) c) ≡ takes_all s (recs (xs ++ x ∷ [])) c
after-push s xs x c = sym (ap (λ rs. takes_all s rs c) (recs-push xs x) ∙ all-push s (recs xs) x.rec c)

pub same-certificate : (b : Body) (x y : CertBody) → b ≡ Certificate x → b ≡ Certificate y → x ≡ y
same-certificate b x y at also = ap (λ o. unwrap_or o x) (ap certificate_in (sym at ∙ also))

pub nil-end : {X : Type 0} (rs : List X) → rs ++ [] ≡ rs
nil-end [] = refl
nil-end (r ∷ rs) = ap (λ xs. r ∷ xs) (nil-end rs)

-- what holds of all holds of the one behind these
pub at-behind : (P : CheckedRecord → Type 0) (front : List CheckedRecord) (x : CheckedRecord) (rest all : List CheckedRecord) → front ++ x ∷ rest ≡ all → All P all → P x
at-behind P front x rest all is h = behind front (subst (λ xs. All P xs) (sym is) h)
  where
    behind : (xs : List CheckedRecord) → All P (xs ++ x ∷ rest) → P x
    behind [] h = h 0 x (omega arith)
    behind (y ∷ xs) h = behind xs (λ k d lt. h (suc k) d (omega (arith, lt)))

pub zero-empty : {X : Type 0} (xs : List X) → length xs ≡ 0 → xs ≡ []
zero-empty [] e = refl
zero-empty (x ∷ xs) e = absurd (omega (arith, e))

-- ---- certificates of different numbers

apart : (a b : ℕ) → nat_eq a b ≡ false → eq_by_cmp nat_cmp a b ≡ false
apart a b e = grind (arith, nat_tests, e)

other-number : (s : Setting) (r : Record) (x : CertBody) (c : Call) (m : ℕ) → r.body ≡ Certificate x → nat_eq m x.member ≡ false → certificate_of (takes s r c).node m ≡ certificate_of c.node m
other-number s r x c m is other =
    ap (λ y. certificate_of y.node m) (takes-is s r x c is) ∙ certificate-held r (lives s (Joins x.member (s.places x.member)) c) x m is ∙ ap (λ b. cond b (Some x) (certificate_of (lives s (Joins x.member (s.places x.member)) c).node m)) (apart m x.member other)
    ∙ certificate-lives s (Joins x.member (s.places x.member)) c m

abbrev pub IsFree : Call → Record → Type 0
IsFree c r = (x : CertBody) × (r.body ≡ Certificate x) × (certificate_of c.node x.member ≡ None)

free-behind : (s : Setting) (r : Record) (x : CertBody) (c : Call) (behind : List Record) → r.body ≡ Certificate x → AllByRecursion (IsOfOther x.member) behind → AllByRecursion (IsFree c) behind → AllByRecursion (IsFree (takes s r c)) behind
free-behind s r x c [] is others free = tt
free-behind s r x c (q ∷ behind) is others free =
    let o = others.0 in
    let same : o.cert ≡ free.0.0 = same-certificate q.body o.cert free.0.0 o.body free.0.1 in
    ((free.0.0, free.0.1, other-number s r x c free.0.0.member is (ap (λ (y : CertBody). nat_eq y.member x.member) (sym same) ∙ o.other) ∙ free.0.2), free-behind s r x c behind is others.1 free.1)

pub new-apart : (s : Setting) (c : Call) (records : List Record) → AreApart records → AllByRecursion (IsFree c) records → AreNew s c records
new-apart s c [] apart free = tt
new-apart s c (r ∷ records) apart free =
    let a = apart.0 in
    let same : a.cert ≡ free.0.0 = same-certificate r.body a.cert free.0.0 a.body free.0.1 in
    (record { cert = a.cert; body = a.body; free = ap (λ (y : CertBody). certificate_of c.node y.member) same ∙ free.0.2 }, new-apart s (takes s r c) records apart.1 (free-behind s r a.cert c records a.body a.others free.1))

pub all-free : (c : Call) (records : List Record) → ((m : ℕ) → certificate_of c.node m ≡ None) → AreApart records → AllByRecursion (IsFree c) records
all-free c [] none apart = tt
all-free c (r ∷ records) none apart = ((apart.0.cert, apart.0.body, none apart.0.cert.member), all-free c records none apart.1)

-- ---- certificates that are kept

-- If it is a certificate, its number has none.
abbrev pub IsFresh : Certificates → Record → Type 0
IsFresh kept r = (x : CertBody) → r.body ≡ Certificate x → kept_certificate kept x.member ≡ None

pub fresh-at_first : (kept : Certificates) (records : List Record) → kept ≡ fin.empty → AllByRecursion (IsFresh kept) records
fresh-at_first kept [] none = tt
fresh-at_first kept (r ∷ records) none = ((λ x is. ap (λ (k : Certificates). kept_certificate k x.member) none ∙ fin.get-empty nat_cmp x.member), fresh-at_first kept records none)

-- those of other numbers stay so
pub fresh-behind : (kept later : Certificates) (x : CertBody) (behind : List Record) → later ≡ fin.insert kept x.member x → AllByRecursion (IsOfOther x.member) behind → AllByRecursion (IsFresh kept) behind → AllByRecursion (IsFresh later) behind
fresh-behind kept later x [] is others fresh = tt
fresh-behind kept later x (q ∷ behind) is others fresh =
    let o = others.0 in (
      (λ y at.
          let off : eq_by_cmp nat_cmp y.member x.member ≡ false = apart y.member x.member (ap (λ (z : CertBody). nat_eq z.member x.member) (same-certificate q.body y o.cert at o.body) ∙ o.other) in
          ap (λ (k : Certificates). kept_certificate k y.member) is ∙ fin.get-insert nat_cmp_total kept x.member x y.member ∙ ap (λ b. cond b (Some x) (kept_certificate kept y.member)) off ∙ fresh.0 y at),
      fresh-behind kept later x behind is others.1 fresh.1,
    )
