-- The kit of a node of a world is sound.
use Rattle.std.proofs.Common.{◌≡◌, ℕ, zero, suc, ◌+◌, ◌<◌, ◌≤◌, Bool, true, false, eqb, List, [], ◌∷◌, ◌++◌, Some, map, filter, inl, inr, refl, ap, sym, ◌∙◌, subst, arith}
use Rattle.std.specs.List.{All, AllByRecursion, list_any, range_with_len}
use Rattle.std.proofs.lemmas.Bool.{cases_Bool, cond_both, eqb-true, false≢true}
use Rattle.std.proofs.lemmas.Bool.Decides.{nat_tests}
use Rattle.std.proofs.lemmas.List.Folds.{list_any-append}
use Rattle.ff_ids.specs.declared.TheConstants.{MEMBERS}
use Rattle.ff_ids.specs.Views.{all_numbers}
use Rattle.records.specs.declared.keys.Key.{Key}
use Rattle.records.specs.declared.keys.Key.TheVariants as keys
use Rattle.records.specs.declared.CertBody.{CertBody}
use Rattle.records.specs.declared.Body.TheVariants.{Certificate}
use Rattle.records.specs.declared.Record.{Record}
use Rattle.records.specs.Signing.{IsChecked}
use Rattle.node_rules.specs.Lives.{is_certificate_for}
use Rattle.node_core.specs.Begins.{AreCertificatesOf, HasKey, IsCheckedIn, IsGroup, IsKit}
use Rattle.node_core.specs.Rolls.{AreApart, IsOfOther, recs_of}
use Rattle.node_core.specs.declared.kit.Kit.{Kit}
use Rattle.world_rules.specs.Settings.{Setting, by_authority, certificate, certificates, certified_from, is_node, members, record_of}
use Rattle.sign_keys.specs.declared.kinds.Kinds.{Kinds}
use Rattle.world_host.specs.Certifying.{Certifying}
use Rattle.world_host.specs.Holding.{IsPlaceOf}
use Rattle.world_host.proofs.WorldLemmas.{own-public}

-- certificates of these members, from this index on
abbrev certified : Setting → ℕ → List ℕ → List Record
certified s index ms = map (record_of s) (certified_from s index ms)

abbrev from : (ℕ → Bool) → ℕ → ℕ → List ℕ
from p a n = filter p (range_with_len a n)

-- ---- no two are of one number

others : (s : Setting) (index k : ℕ) (p : ℕ → Bool) (a n : ℕ) → k < a → AllByRecursion (IsOfOther k) (certified s index (from p a n))
others s index k p a zero low = tt
others s index k p a (suc n) low =
    let rest : List ℕ = from p (a + 1) n in
    let apart : eqb a k ≡ false = grind (arith, nat_tests, low) in
    cond_both (p a) (a ∷ rest) rest (λ xs. AllByRecursion (IsOfOther k) (certified s index xs))
    (λ holds. (record { cert = certificate s a; body = refl; other = apart }, others s (index + 1) k p (a + 1) n (omega (arith, low))))
    (λ fails. others s index k p (a + 1) n (omega (arith, low)))

apart-from : (s : Setting) (index : ℕ) (p : ℕ → Bool) (a n : ℕ) → AreApart (certified s index (from p a n))
apart-from s index p a zero = tt
apart-from s index p a (suc n) =
    let rest : List ℕ = from p (a + 1) n in
    cond_both (p a) (a ∷ rest) rest (λ xs. AreApart (certified s index xs))
    (λ holds. (record { cert = certificate s a; body = refl; others = others s (index + 1) a p (a + 1) n (omega arith) }, apart-from s (index + 1) p (a + 1) n))
    (λ fails. apart-from s index p (a + 1) n)

kit-apart : (s : Setting) → AreApart (certificates s)
unfolding by_authority members all_numbers
kit-apart s = apart-from s 0 (λ m. list_any (λ x. eqb x m) (s.correct ++ s.liars)) 0 MEMBERS

-- ---- the member's own is among them

among-from : (s : Setting) (m index : ℕ) (p : ℕ → Bool) (a n : ℕ) → a ≤ m → m < a + n → p m ≡ true → list_any (λ r. is_certificate_for m r.body) (certified s index (from p a n)) ≡ true
among-from s m index p a zero low high is = absurd (omega (arith, low, high))
among-from s m index p a (suc n) low high is =
    let rest : List ℕ = from p (a + 1) n in
    elim (cases_Bool (eqb a m)) [
      | inl here ↦
          let same : a ≡ m = eqb-true a m here in
          cond_both (p a) (a ∷ rest) rest (λ xs. list_any (λ r. is_certificate_for m r.body) (certified s index xs) ≡ true)
          (λ holds. rw here refl)
          (λ fails. absurd (false≢true (sym fails ∙ ap p same ∙ is)))
      | inr there ↦
          let later : a + 1 ≤ m = grind (arith, nat_tests, low) in
          let high_so : m < a + 1 + n = omega (arith, high) in
          cond_both (p a) (a ∷ rest) rest (λ xs. list_any (λ r. is_certificate_for m r.body) (certified s index xs) ≡ true)
          (λ holds. rw there (among-from s m (index + 1) p (a + 1) n later high_so is))
          (λ fails. among-from s m index p (a + 1) n later high_so is)
    ]

kit-among : (s : Setting) (m : ℕ) → m < MEMBERS → is_node s m ≡ true → list_any (λ r. is_certificate_for m r.body) (certificates s) ≡ true
unfolding by_authority members all_numbers
kit-among s m low is =
    let listed : list_any (λ x. eqb x m) (s.correct ++ s.liars) ≡ true = list_any-append (λ x. eqb x m) s.correct s.liars ∙ rw is refl in
    among-from s m 0 (λ k. list_any (λ x. eqb x k) (s.correct ++ s.liars)) 0 MEMBERS (omega arith) (omega (arith, low)) listed

-- ---- its key

own-key : (s : Setting) (m k : ℕ) (own : Key) → own ≡ s.key (Some m) → (c : CertBody) → Certificate (certificate s k) ≡ Certificate c → c.member ≡ m → c.key ≡ own
own-key s m k own is c same me =
    let cert : certificate s k ≡ c = cc in
    let number : k ≡ m = ap (λ (x : CertBody). x.member) cert ∙ me in
    sym (ap (λ (x : CertBody). x.key) cert) ∙ ap (λ (j : ℕ). s.key (Some j)) number ∙ sym is

keys-from : (s : Setting) (m index : ℕ) (own : Key) (ms : List ℕ) → own ≡ s.key (Some m) → AllByRecursion (HasKey m own) (certified s index ms)
keys-from s m index own [] is = tt
keys-from s m index own (k ∷ ms) is = (own-key s m k own is, keys-from s m (index + 1) own ms is)

kit-keys : (s : Setting) (m : ℕ) (own : Key) → own ≡ s.key (Some m) → AllByRecursion (HasKey m own) (certificates s)
unfolding by_authority
kit-keys s m own is = keys-from s m 0 own (members s) is

-- ---- the kit

each : {X : Type 0} (P : X → Type 0) (xs : List X) → All P xs → AllByRecursion P xs
each P [] h = tt
each {X = X} P (x ∷ xs) h = (h 0 x (omega arith), each P xs (λ k d lt. h (suc k) d (omega (arith, lt))))

-- The kit of a node of a world is sound for its key.
pub kit-sound : (a : Certifying) (kinds : Kinds) (m : ℕ) (own : Key) (kit : Kit) → m < MEMBERS → IsPlaceOf a kinds m own → kit.group ≡ a.group → kit.me ≡ m → kit.certificates.items ≡ a.certificates
    → All (IsCheckedIn kit.group (keys.Lms kit.authority)) kit.certificates.items → All IsChecked kit.certificates.items → IsKit kit own
kit-sound a kinds m own kit low p group me same checked verify =
    let s : Setting = p.setting in
    let recs : recs_of kit.certificates.items ≡ certificates s = ap recs_of same ∙ p.authority.certified in
    let public : own ≡ s.key (Some m) = p.public ∙ sym (own-public s a.group kinds m p.world) in
    record {
      group = subst IsGroup (sym group) p.group;
      checked = checked;
      certificates = subst (λ (j : ℕ). AreCertificatesOf j own kit.certificates.items) (sym me) (record {
        apart = subst AreApart (sym recs) (kit-apart s);
        among = subst (λ (rs : List Record). list_any (λ r. is_certificate_for m r.body) rs ≡ true) (sym recs) (kit-among s m low p.node);
        keys = subst (λ (rs : List Record). AllByRecursion (HasKey m own) rs) (sym recs) (kit-keys s m own public);
        verify = each IsChecked kit.certificates.items verify;
      });
    }
