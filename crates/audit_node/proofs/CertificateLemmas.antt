-- Certificates that a life may begin with.
use Rattle.std.proofs.Common.{◌≡◌, ◌<◌, ℕ, Bool, true, false, List, [], ◌∷◌, length, get_or, refl, ap, subst, ◌∙◌, zero, suc, arith}
use Rattle.std.specs.Prelude.{All, not, nat_eq, ◌||◌}
use Rattle.std.proofs.lemmas.Bool.{and_parts, and_from}
use Rattle.std.specs.List.{AllByRecursion, list_any, list_all}
use Rattle.records.specs.declared.CertBody.{CertBody}
use Rattle.records.specs.declared.Body.{Body}
use Rattle.records.specs.declared.Body.TheVariants.{Certificate, Note, Accusation}
use Rattle.records.specs.declared.Record.{Record}
use Rattle.records.specs.Signing.{CheckedRecord}
use Rattle.node_rules.specs.Lives.{is_certificate_for}
use Rattle.audit_node.specs.Rolls.{IsCertificate, IsOfOther, IsApart, AreApart, recs_of}
use Rattle.audit_node.specs.Begins.{is_of_other}
use Rattle.audit_node.proofs.RollLemmas.{same-certificate}

cons-all : (P : CheckedRecord → Type 0) (x : CheckedRecord) (xs : List CheckedRecord) → P x → All P xs → All P (x ∷ xs)
cons-all P x xs first rest = λ k d lt. at k d lt
  where
    at : (k : ℕ) (d : CheckedRecord) → k < length (x ∷ xs) → P (get_or (x ∷ xs) k d)
    at zero d lt = first
    at (suc k) d lt = rest k d (omega (arith, lt))

-- that are apart
pub all-certificates : (xs : List CheckedRecord) → AreApart (recs_of xs) → All IsCertificate xs
all-certificates [] apart = λ k d lt. absurd (omega (arith, lt))
all-certificates (x ∷ xs) apart =
    cons-all IsCertificate x xs (record { cert = apart.0.cert; body = apart.0.body }) (all-certificates xs apart.1)

-- ---- whether certificates are apart

not-true : (b : Bool) → not b ≡ true → b ≡ false
not-true true h = cc
not-true false h = refl

other-is : (m : ℕ) (r : Record) (b : Body) → r.body ≡ b → is_of_other m b ≡ true → IsOfOther m r
other-is m r (Certificate c) is h = record { cert = c; body = is; other = not-true (nat_eq c.member m) h }
other-is m r (Note n) is h = cc
other-is m r (Accusation a) is h = cc

is-other : (m : ℕ) (r : Record) → IsOfOther m r → is_of_other m r.body ≡ true
is-other m r o = ap (is_of_other m) o.body ∙ ap not o.other

others-all : (m : ℕ) (xs : List CheckedRecord) → list_all (λ x. is_of_other m x.rec.body) xs ≡ true → AllByRecursion (IsOfOther m) (recs_of xs)
others-all m [] h = tt
others-all m (x ∷ xs) h = let parts = and_parts (is_of_other m x.rec.body) _ h in (other-is m x.rec x.rec.body refl parts.0, others-all m xs parts.1)

all-others : (m : ℕ) (xs : List CheckedRecord) → AllByRecursion (IsOfOther m) (recs_of xs) → list_all (λ x. is_of_other m x.rec.body) xs ≡ true
all-others m [] all = refl
all-others m (x ∷ xs) all = and_from (is_of_other m x.rec.body) _ (is-other m x.rec all.0) (all-others m xs all.1)

pub apart-is : (r : Record) (cert : CertBody) (behind : List CheckedRecord) → r.body ≡ Certificate cert → list_all (λ x. is_of_other cert.member x.rec.body) behind ≡ true → IsApart r (recs_of behind)
apart-is r cert behind is h = record { cert = cert; body = is; others = others-all cert.member behind h }

pub is-apart : (r : Record) (cert : CertBody) (behind : List CheckedRecord) → r.body ≡ Certificate cert → IsApart r (recs_of behind) → list_all (λ x. is_of_other cert.member x.rec.body) behind ≡ true
is-apart r cert behind is apart =
    let same : apart.cert ≡ cert = same-certificate r.body apart.cert cert apart.body is in
    all-others cert.member behind (subst (λ (c : CertBody). AllByRecursion (IsOfOther c.member) (recs_of behind)) same apart.others)

pub among-recs : (m : ℕ) (xs : List CheckedRecord) → list_any (λ x. is_certificate_for m x.rec.body) xs ≡ list_any (λ r. is_certificate_for m r.body) (recs_of xs)
among-recs m [] = refl
among-recs m (x ∷ xs) = ap (λ b. is_certificate_for m x.rec.body || b) (among-recs m xs)
