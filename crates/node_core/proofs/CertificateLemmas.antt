-- Certificates that a life may begin with.
use Rattle.std.proofs.Common.{◌≡◌, ◌<◌, ◌≤◌, ℕ, eqb-true, Bool, true, false, cond, inl, inr, Option, Some, None, List, [], ◌∷◌, length, get_or, refl, ap, sym, subst, ◌∙◌, zero, suc, arith}
use Rattle.std.specs.Prelude.{All, not, nat_eq, ◌||◌}
use Rattle.std.specs.Cmp.{unsigned_tied}
use Rattle.std.specs.FinMap as fin
use Rattle.std.specs.Ordering.{eq_by_cmp, nat_cmp}
use Rattle.std.proofs.lemmas.Cmp.{nat_cmp_total}
use Rattle.std.proofs.lemmas.Bool.{false≢true, and_parts, and_from, cases_Bool}
use Rattle.std.specs.List.{AllByRecursion, list_any, list_all}
use Rattle.std.specs.Result.{is_ok}
use Rattle.ff_ids.specs.declared.TheConstants.{MAX_TOLERANCE}
use Rattle.ff_ids.specs.declared.Group.{Group}
use Rattle.ff_ids.specs.Heals.{Heal}
use Rattle.lms_tree.specs.declared.key.PublicKey.{PublicKey}
use Rattle.records.specs.declared.CertBody.{CertBody}
use Rattle.records.specs.declared.Body.{Body}
use Rattle.records.specs.declared.Body.TheVariants.{Certificate, Note, Accusation}
use Rattle.records.specs.declared.Record.{Record}
use Rattle.records.specs.declared.keys.Key.{Key}
use Rattle.records.specs.declared.keys.Key.TheVariants as keys
use Rattle.records.specs.Keys.{IsKey, Verifies, verdict_of}
use Rattle.records.specs.Signing.{CheckedRecord, IsChecked, signed_bytes}
use Rattle.records.specs.Spelling.{IsBody}
use Rattle.validate.proofs.VerdictLemmas.{good-verdict}
use Rattle.node_rules.specs.Nodes.{Setting}
use Rattle.node_rules.specs.Lives.{AreCertificates, is_certificate_for}
use Rattle.node_rules.specs.Vouching.{IsCertifiedBy, OwnSignaturesVerify}
use Rattle.sign_keys.specs.Keys.{KeySecret, index_count, public_key}
use Rattle.signer.specs.Signing.{SignerState}
use Rattle.node_core.proofs.OwnKeyLemmas.{own-verify}
use Rattle.node_core.specs.declared.kit.Kit.{Kit}
use Rattle.validate.specs.Certified.{Certificates, certificate_of as kept_certificate}
use Rattle.node_core.specs.Playing.{KeepsCertificates, setting_of}
use Rattle.node_core.specs.Rolls.{IsCertificateFor, IsOfOther, IsApart, AreApart, recs_of}
use Rattle.node_core.specs.Begins.{AreCertificatesOf, IsCheckedIn, is_of_other, HasKey, IsKit, IsVouchable}
use Rattle.node_core.proofs.RollLemmas.{same-certificate}
use Rattle.node_core.proofs.PlayLemmas.{setting-group, setting-me}

head-of : (P : CheckedRecord → Type 0) (x : CheckedRecord) (xs : List CheckedRecord) → All P (x ∷ xs) → P x
head-of P x xs all = all 0 x (omega arith)

tail-of : (P : CheckedRecord → Type 0) (x : CheckedRecord) (xs : List CheckedRecord) → All P (x ∷ xs) → All P xs
tail-of P x xs all = λ k d lt. all (suc k) d (omega (arith, lt))

cons-all : (P : CheckedRecord → Type 0) (x : CheckedRecord) (xs : List CheckedRecord) → P x → All P xs → All P (x ∷ xs)
cons-all P x xs first rest = λ k d lt. at k d lt
  where
    at : (k : ℕ) (d : CheckedRecord) → k < length (x ∷ xs) → P (get_or (x ∷ xs) k d)
    at zero d lt = first
    at (suc k) d lt = rest k d (omega (arith, lt))

-- certificates that were checked in a group are certificates for its tolerance
pub for-tolerance : (group : Group) (authority : Key) (xs : List CheckedRecord) → All (IsCheckedIn group authority) xs → AreApart (recs_of xs) → All (IsCertificateFor group.t) xs
for-tolerance group authority [] checked apart = λ k d lt. absurd (omega (arith, lt))
for-tolerance group authority (x ∷ xs) checked apart =
    cons-all (IsCertificateFor group.t) x xs (record { cert = apart.0.cert; body = apart.0.body; tolerance = (head-of (IsCheckedIn group authority) x xs checked).tolerance })
    (for-tolerance group authority xs (tail-of (IsCheckedIn group authority) x xs checked) apart.1)

setting-authority : (s : Setting) (g : Group) (heal : Option Heal) (me : ℕ) (a : PublicKey) (k : KeySecret) → s ≡ setting_of g heal me a k → s.authority ≡ keys.Lms a
unfolding setting_of
setting-authority s g heal me a k e = ap (λ x. x.authority) e

setting-verifies : (s : Setting) (g : Group) (heal : Option Heal) (me : ℕ) (a : PublicKey) (k : KeySecret) (key : Key) (r : Record) → s ≡ setting_of g heal me a k → s.verifies key r ≡ is_ok (verdict_of key (signed_bytes g.tag g.t r.body) r.signature)
unfolding setting_of
setting-verifies s g heal me a k key r e = ap (λ x. x.verifies key r) e

setting-indexes : (s : Setting) (g : Group) (heal : Option Heal) (me : ℕ) (a : PublicKey) (k : KeySecret) → s ≡ setting_of g heal me a k → s.indexes ≡ index_count k
unfolding setting_of
setting-indexes s g heal me a k e = ap (λ x. x.indexes) e

-- what was checked under the authority's key verifies under it
verifies-checked : (s : Setting) (g : Group) (heal : Option Heal) (me : ℕ) (a : PublicKey) (k : KeySecret) (x : CheckedRecord) → s ≡ setting_of g heal me a k → IsCheckedIn g (keys.Lms a) x → IsChecked x → s.verifies s.authority x.rec ≡ true
verifies-checked s g heal me a k x e in_group good =
    let signed : Verifies (keys.Lms a) (signed_bytes g.tag g.t x.rec.body) x.rec.signature =
    subst (λ key. Verifies key (signed_bytes g.tag g.t x.rec.body) x.rec.signature) in_group.under
    (subst (λ tag. Verifies x.key (signed_bytes tag g.t x.rec.body) x.rec.signature) in_group.tag
    (subst (λ t. Verifies x.key (signed_bytes x.tag t x.rec.body) x.rec.signature) in_group.tolerance good.signed)) in
    ap (λ key. s.verifies key x.rec) (setting-authority s g heal me a k e) ∙ setting-verifies s g heal me a k (keys.Lms a) x.rec e ∙ good-verdict (keys.Lms a) (signed_bytes g.tag g.t x.rec.body) x.rec.signature signed

all-certified : (s : Setting) (own : Key) (g : Group) (heal : Option Heal) (me : ℕ) (a : PublicKey) (k : KeySecret) (xs : List CheckedRecord) → s ≡ setting_of g heal me a k → All (IsCheckedIn g (keys.Lms a)) xs → AllByRecursion IsChecked xs
    → AllByRecursion (HasKey me own) (recs_of xs) → AllByRecursion (IsCertifiedBy s own) (recs_of xs)
all-certified s own g heal me a k [] e checked good held = tt
all-certified s own g heal me a k (x ∷ xs) e checked good held = (
  (verifies-checked s g heal me a k x e (head-of (IsCheckedIn g (keys.Lms a)) x xs checked) good.0, λ c is who. held.0 c is (who ∙ setting-me s g heal me a k e)),
  all-certified s own g heal me a k xs e (tail-of (IsCheckedIn g (keys.Lms a)) x xs checked) good.1 held.1,
)

pub apart-certificates : (records : List Record) → AreApart records → AreCertificates records
apart-certificates [] apart = tt
apart-certificates (r ∷ records) apart = ((apart.0.cert, apart.0.body), apart-certificates records apart.1)

-- the key in a certificate that was checked has its parts
first-key : (me : ℕ) (own : Key) (x : CheckedRecord) (b : Body) → x.rec.body ≡ b → is_certificate_for me b ≡ true → IsBody b → HasKey me own x.rec → IsKey own
first-key me own x (Certificate c) is mine good key = subst (λ (k : Key). IsKey k) (key c is (eqb-true c.member me mine)) good.key
first-key me own x (Note n) is mine good key = absurd (false≢true mine)
first-key me own x (Accusation a) is mine good key = absurd (false≢true mine)

-- so the node's own key has them, whose certificate is among those that were checked
keys-checked : (me : ℕ) (own : Key) (xs : List CheckedRecord) → AllByRecursion IsChecked xs → AllByRecursion (HasKey me own) (recs_of xs)
    → list_any (λ r. is_certificate_for me r.body) (recs_of xs) ≡ true → IsKey own
keys-checked me own [] checked keys among = absurd (false≢true among)
keys-checked me own (x ∷ xs) checked keys among =
    elim (cases_Bool (is_certificate_for me x.rec.body)) [
      | inl mine ↦ first-key me own x x.rec.body refl mine checked.0.body keys.0
      | inr other ↦ keys-checked me own xs checked.1 keys.1 (sym (ap (λ b. b || list_any (λ r. is_certificate_for me r.body) (recs_of xs)) other) ∙ among)
    ]

own-key : (me : ℕ) (own : Key) (xs : List CheckedRecord) → AreCertificatesOf me own xs → IsKey own
own-key me own xs are = keys-checked me own xs are.verify are.keys are.among

-- what a sound kit gives the theorem on records that vouch for a life
pub vouchable : (s : Setting) (kit : Kit) (signer : SignerState) → s ≡ setting_of kit.group kit.heal kit.me kit.authority signer.key → IsKit kit (public_key signer.key) → signer.state.next < index_count signer.key
    → IsVouchable s (public_key signer.key) (recs_of kit.certificates.items) signer.state
vouchable s kit signer e k left =
    let key : KeySecret = signer.key in
    let group : s.group ≡ kit.group = setting-group s kit.group kit.heal kit.me kit.authority key e in
    let me : s.me ≡ kit.me = setting-me s kit.group kit.heal kit.me kit.authority key e in
    record {
      rings = record { some = subst (λ (g : Group). 1 ≤ g.t) (sym group) k.group.some; few = subst (λ (g : Group). g.t ≤ MAX_TOLERANCE) (sym group) k.group.few };
      kit = record {
        all = apart-certificates (recs_of kit.certificates.items) k.certificates.apart;
        own = subst (λ (m : ℕ). list_any (λ r. is_certificate_for m r.body) (recs_of kit.certificates.items) ≡ true) (sym me) k.certificates.among;
      };
      certified = all-certified s (public_key key) kit.group kit.heal kit.me kit.authority key kit.certificates.items e k.checked k.certificates.verify k.certificates.keys;
      signatures = subst (λ (x : Setting). OwnSignaturesVerify x (public_key key)) (sym e) (own-verify kit.group kit.heal kit.me kit.authority key (own-key kit.me (public_key key) kit.certificates.items k.certificates));
      left = subst (λ (n : ℕ). signer.state.next < n) (sym (setting-indexes s kit.group kit.heal kit.me kit.authority key e)) left;
    }

-- ---- whether certificates are apart

not-true : (b : Bool) → not b ≡ true → b ≡ false
not-true true h = cc
not-true false h = refl

other-is : (m : ℕ) (r : Record) (b : Body) → r.body ≡ b → is_of_other m b ≡ true → IsOfOther m r
other-is m r (Certificate c) is h = record { cert = c; body = is; other = not-true (nat_eq c.member m) h }
other-is m r (Note n) is h = cc
other-is m r (Accusation a) is h = cc

is-other : (m : ℕ) (r : Record) → IsOfOther m r → is_of_other m r.body ≡ true
is-other m r o = ap (is_of_other m) o.body ∙ ap not o.other

others-all : (m : ℕ) (xs : List CheckedRecord) → list_all (λ x. is_of_other m x.rec.body) xs ≡ true → AllByRecursion (IsOfOther m) (recs_of xs)
others-all m [] h = tt
others-all m (x ∷ xs) h = let parts = and_parts (is_of_other m x.rec.body) _ h in (other-is m x.rec x.rec.body refl parts.0, others-all m xs parts.1)

all-others : (m : ℕ) (xs : List CheckedRecord) → AllByRecursion (IsOfOther m) (recs_of xs) → list_all (λ x. is_of_other m x.rec.body) xs ≡ true
all-others m [] all = refl
all-others m (x ∷ xs) all = and_from (is_of_other m x.rec.body) _ (is-other m x.rec all.0) (all-others m xs all.1)

pub apart-is : (r : Record) (cert : CertBody) (behind : List CheckedRecord) → r.body ≡ Certificate cert → list_all (λ x. is_of_other cert.member x.rec.body) behind ≡ true → IsApart r (recs_of behind)
apart-is r cert behind is h = record { cert = cert; body = is; others = others-all cert.member behind h }

pub is-apart : (r : Record) (cert : CertBody) (behind : List CheckedRecord) → r.body ≡ Certificate cert → IsApart r (recs_of behind) → list_all (λ x. is_of_other cert.member x.rec.body) behind ≡ true
is-apart r cert behind is apart =
    let same : apart.cert ≡ cert = same-certificate r.body apart.cert cert apart.body is in
    all-others cert.member behind (subst (λ (c : CertBody). AllByRecursion (IsOfOther c.member) (recs_of behind)) same apart.others)

pub among-recs : (m : ℕ) (xs : List CheckedRecord) → list_any (λ x. is_certificate_for m x.rec.body) xs ≡ list_any (λ r. is_certificate_for m r.body) (recs_of xs)
among-recs m [] = refl
among-recs m (x ∷ xs) = ap (λ b. is_certificate_for m x.rec.body || b) (among-recs m xs)

none-some : {A : Type 0} {X : Type 0} (x : X) → None ≡ Some x → A
none-some x e = cc

-- Whoever has a certificate keeps it where a member without one gets one.
pub kept-inserted : (r : Certificates) (x : CertBody) → kept_certificate r x.member ≡ None → KeepsCertificates r (fin.insert r x.member x)
kept-inserted r x free m c is =
    elim (cases_Bool (eq_by_cmp nat_cmp m x.member)) [
      | inl same ↦ let at : m ≡ x.member = eqb-true m x.member (sym (unsigned_tied m x.member) ∙ same) in none-some c (sym (ap (kept_certificate r) at ∙ free) ∙ is)
      | inr apart ↦ fin.get-insert nat_cmp_total r x.member x m ∙ ap (λ b. cond b (Some x) (kept_certificate r m)) apart ∙ is
    ]
