-- A member's text that is whole sets a member up, of whom a life may begin.
use Rattle.std.proofs.Common.{◌≡◌, ◌≢◌, ℕ, ◌<◌, ◌≤◌, ◌==◌, ◌||◌, Bool, true, false, cond, nat_eq, List, [], ◌∷◌, ◌++◌, length, Option, Some, None, Result, Ok, All, refl, sym, ap, subst, ◌∙◌, arith, fold, codes, length-take}
use Rattle.std.specs.Prelude.{slice_set}
use Rattle.std.specs.List.{AllByRecursion, list_any}
use Rattle.std.proofs.lemmas.Bool.{false≢true}
use Rattle.std.proofs.lemmas.List.{get_or-set_same, get_or-set_other, length-set, length-replicate}
use Rattle.ff_ids.specs.declared.TheConstants.{LAST_MEMBER, MEMBERS}
use Rattle.sha2.specs.Sha256.{sha256}
use Rattle.secrets.specs.Secrets.{key_from, key_id, key_seed}
use Rattle.sign_keys.specs.declared.key.SignKey.{SignKey}
use Rattle.sign_keys.specs.declared.kinds.Kinds.{Kinds}
use Rattle.sign_keys.specs.Keys.{IsNew, KeySecret, key_of, new_key, public_key, secret_of}
use Rattle.sign_keys.specs.Kinds.{fits, is_in_profile}
use Rattle.hss.specs.Keys as pairs
use Rattle.sign_keys.proofs.Counts.{pair_fits}
use Rattle.sign_keys.proofs.NewKeys.{new-is}
use Rattle.lms_ots.specs.declared.kind.OtsKind.{OtsKind}
use Rattle.lms_tree.specs.declared.kind.TreeKind.{TreeKind}
use Rattle.lms_tree.proofs.Roots.{length-node}
use Rattle.records.proofs.KeyParts.{key-again}
use Rattle.records.specs.declared.keys.KeyFault.{KeyFault}
use Rattle.std.proofs.lemmas.List.Elements.{All-cons, All-nil}
use Rattle.std.proofs.lemmas.List.Folds.{list_any-append}
use Rattle.sha2.proofs.Facts256.{length-sha256}
use Rattle.ff_ids.specs.declared.Group.{Group}
use Rattle.ff_ids.specs.Heals.{Heal}
use Rattle.lms_tree.specs.declared.key.PublicKey.{PublicKey}
use Rattle.lms_tree.specs.declared.secret.Secret.{Secret}
use Rattle.lms_tree.specs.Lms.{public_of}
use Rattle.records.specs.declared.Body.{Body}
use Rattle.records.specs.declared.Body.TheVariants.{Certificate}
use Rattle.records.specs.declared.CertBody.{CertBody}
use Rattle.records.specs.declared.Record.{Record}
use Rattle.records.specs.declared.keys.Key.{Key}
use Rattle.records.specs.declared.keys.Key.TheVariants as key_kinds
use Rattle.records.specs.Keys.{AreKey, HasParts, IsKey, key_bytes, key_in}
use Rattle.records.specs.Signing.{CheckedRecord, IsChecked}
use Rattle.line_text.specs.Answers.{Progress, moved}
use Rattle.line_text.specs.Shapes.{Values}
use Rattle.line_text.specs.Tables.{SpellsParts}
use Rattle.line_text.proofs.ShapeLemmas.{all-in_range}
use Rattle.schedule_texts.specs.Shared.{group_shape, group_values}
use Rattle.schedule_texts.specs.Shared as shared
use Rattle.schedule_texts.proofs.FieldLemmas.{group-is}
use Rattle.schedule_texts.specs.KitGrammar.{IsKit, after, certified_by}
use Rattle.schedule_texts.specs.KitLaws.{IsOwned, cert-whole, end-whole, kit-kinds, kit-spelled}
use Rattle.schedule_texts.specs.KitRows.{cert_parts, checked_as, fields, is_ended, is_named, kit_table, may_stand}
use Rattle.schedule_texts.specs.declared.kit_line.LineWord.TheVariants as words
use Rattle.schedule_texts.specs.declared.kit.KitText.{KitText}
use Rattle.schedule_texts.specs.declared.kit.KitText.TheVariants as kit
use Rattle.schedule_texts.specs.declared.kit.Owner.{Owner}
use Rattle.schedule_texts.specs.declared.kit_line.KitLine.{KitLine}
use Rattle.schedule_texts.specs.declared.kit_line.KitLine.TheVariants as lines
use Rattle.whole_text.specs.Gathered.{lines_from, unread}
use Rattle.whole_text.proofs.GatherLemmas.{line-is}
use Rattle.whole_text.proofs.ShapeLemmas.{last-line, next-line}
use Rattle.node_rules.specs.Lives.{is_certificate_for}
use Rattle.node_core.specs.Begins.{HasKey, IsCheckedIn, IsGroup}
use Rattle.node_core.specs.Rolls.{AreApart, IsOfOther, recs_of}
use Rattle.node_command.specs.declared.kit.Own.{Own}
use Rattle.node_command.specs.declared.kit.Member.{Member}
use Rattle.node_command.specs.Members.{IsSound, IsSoundMember, IsWholeSetUp, SetUp, SetsUp, kit_judging, nothing_up, set_by, sets}

-- ## Lists

each-append : {X : Type 0} (P : X → Type 0) (xs : List X) (x : X) → AllByRecursion P xs → P x → AllByRecursion P (xs ++ x ∷ [])
each-append P [] x all one = (one, tt)
each-append P (y ∷ xs) x all one = (all.0, each-append P xs x all.1 one)

each-as : {X : Type 0} (P Q : X → Type 0) (xs : List X) → ((x : X) → P x → Q x) → AllByRecursion P xs → AllByRecursion Q xs
each-as P Q [] turn all = tt
each-as P Q (x ∷ xs) turn all = (turn x all.0, each-as P Q xs turn all.1)

all-of : {X : Type 0} (P : X → Type 0) (xs : List X) → AllByRecursion P xs → All P xs
all-of P [] all = All-nil P
all-of P (x ∷ xs) all = All-cons P x xs all.0 (all-of P xs all.1)

recs-append : (xs : List CheckedRecord) (x : CheckedRecord) → recs_of (xs ++ x ∷ []) ≡ recs_of xs ++ x.rec ∷ []
recs-append [] x = refl
recs-append (y ∷ xs) x = ap (λ rs. y.rec ∷ rs) (recs-append xs x)

-- ## Certificates

-- A certificate that was checked in the group, of a member that is named.
record IsListed (group : Group) (authority : PublicKey) (named : List Bool) (x : CheckedRecord) : Type 0 where
  cert : CertBody
  body : x.rec.body ≡ Certificate cert
  named_so : is_named named cert.member ≡ true
  checked : IsCheckedIn group (key_kinds.Lms authority) x

listed-more : (group : Group) (authority : PublicKey) (named : List Bool) (m : ℕ) (x : CheckedRecord) → m < length named → IsListed group authority named x → IsListed group authority (slice_set named m true) x
listed-more group authority named m x few h = record {
  cert = h.cert;
  body = h.body;
  named_so = either (nat_eq h.cert.member m) refl;
  checked = h.checked;
}
  where
    either : (b : Bool) → nat_eq h.cert.member m ≡ b → is_named (slice_set named m true) h.cert.member ≡ true
    either true e = let same : h.cert.member ≡ m = grind (e, arith) in rw same (get_or-set_same named m true false few)
    either false e = let other : h.cert.member ≢ m = grind (e, arith) in get_or-set_other named m h.cert.member true false other ∙ h.named_so

-- it is of another member than one that isn't named
other-member : (group : Group) (authority : PublicKey) (named : List Bool) (c : CertBody) (x : CheckedRecord) → is_named named c.member ≡ false → (h : IsListed group authority named x) → nat_eq c.member h.cert.member ≡ false
other-member group authority named c x new h = either (nat_eq c.member h.cert.member) refl
  where
    either : (b : Bool) → nat_eq c.member h.cert.member ≡ b → nat_eq c.member h.cert.member ≡ false
    either false e = e
    either true e = let same : c.member ≡ h.cert.member = grind (e, arith) in absurd (false≢true (sym new ∙ ap (is_named named) same ∙ h.named_so))

others-append : (m : ℕ) (behind : List Record) (r : Record) → AllByRecursion (IsOfOther m) behind → IsOfOther m r → AllByRecursion (IsOfOther m) (behind ++ r ∷ [])
others-append m behind r all one = each-append (IsOfOther m) behind r all one

apart-append : (group : Group) (authority : PublicKey) (named : List Bool) (c : CertBody) (x : CheckedRecord) (xs : List CheckedRecord) → x.rec.body ≡ Certificate c → is_named named c.member ≡ false
    → AllByRecursion (IsListed group authority named) xs → AreApart (recs_of xs) → AreApart (recs_of xs ++ x.rec ∷ [])
apart-append group authority named c x [] body new listed apart = (record { cert = c; body = body; others = tt }, tt)
apart-append group authority named c x (y ∷ xs) body new listed apart =
    let first = apart.0 in
    let same : Certificate listed.0.cert ≡ Certificate first.cert = sym listed.0.body ∙ first.body in
    let member : listed.0.cert.member ≡ first.cert.member = cc in (
      record {
        cert = first.cert;
        body = first.body;
        others = others-append first.cert.member (recs_of xs) x.rec first.others
            (record { cert = c; body = body; other = subst (λ m. nat_eq c.member m ≡ false) member (other-member group authority named c y new listed.0) });
      },
      apart-append group authority named c x xs body new listed.1 apart.1,
    )

keys-append : (me : ℕ) (k : Key) (c : CertBody) (x : CheckedRecord) (xs : List CheckedRecord) → AllByRecursion (HasKey me k) (recs_of xs) → HasKey me k x.rec → AllByRecursion (HasKey me k) (recs_of (xs ++ x ∷ []))
keys-append me k c x xs all one = subst (AllByRecursion (HasKey me k)) (sym (recs-append xs x)) (each-append (HasKey me k) (recs_of xs) x.rec all one)

-- those before the own certificate are of others
none-own : (group : Group) (authority : PublicKey) (named : List Bool) (c : CertBody) (me : ℕ) (k : Key) (xs : List CheckedRecord) → c.member ≡ me → is_named named c.member ≡ false
    → AllByRecursion (IsListed group authority named) xs → AllByRecursion (HasKey me k) (recs_of xs)
none-own group authority named c me k [] own new listed = tt
none-own group authority named c me k (x ∷ xs) own new listed = (
  (λ d body member.
      let same : Certificate listed.0.cert ≡ Certificate d = sym listed.0.body ∙ body in
      let of : listed.0.cert.member ≡ c.member = (let e : listed.0.cert.member ≡ d.member = cc in e ∙ member ∙ sym own) in
      absurd (false≢true (sym new ∙ ap (is_named named) (sym of) ∙ listed.0.named_so))),
  none-own group authority named c me k xs own new listed.1,
)

-- The own certificate, where there is one, is among them with this key.
record IsOwn (me : ℕ) (k : Key) (xs : List CheckedRecord) : Type 0 where
  among : list_any (λ r. is_certificate_for me r.body) (recs_of xs) ≡ true
  keys : AllByRecursion (HasKey me k) (recs_of xs)
  long : IsKey k

abbrev HasOwn : ℕ → Option Key → List CheckedRecord → Type 0
HasOwn me None xs = Unit {0}
HasOwn me (Some k) xs = IsOwn me k xs

or-none : (b : Bool) → (b || false) ≡ b
or-none true = refl
or-none false = refl

any-append : (me : ℕ) (x : CheckedRecord) (xs : List CheckedRecord) (b : Bool) → (list_any (λ r. is_certificate_for me r.body) (recs_of xs) || is_certificate_for me x.rec.body) ≡ b
    → list_any (λ r. is_certificate_for me r.body) (recs_of (xs ++ x ∷ [])) ≡ b
any-append me x xs b e =
    let test : Record → Bool = λ r. is_certificate_for me r.body in
    ap (list_any test) (recs-append xs x) ∙ list_any-append test (recs_of xs) (x.rec ∷ []) ∙ ap (λ q. list_any test (recs_of xs) || q) (or-none (test x.rec)) ∙ e

own-append : (group : Group) (authority : PublicKey) (named : List Bool) (me : ℕ) (own : Option Key) (c : CertBody) (x : CheckedRecord) (xs : List CheckedRecord) → x.rec.body ≡ Certificate c → is_named named c.member ≡ false
    → IsKey c.key → AllByRecursion (IsListed group authority named) xs → HasOwn me own xs → HasOwn me (cond (c.member == me) (Some c.key) own) (xs ++ x ∷ [])
own-append group authority named me own c x xs body new long listed h = either (c.member == me) refl
  where
    last-true : (b : Bool) → is_certificate_for me x.rec.body ≡ true → (b || is_certificate_for me x.rec.body) ≡ true
    last-true true e = refl
    last-true false e = e

    is-own : x.rec.body ≡ Certificate c → is_certificate_for me x.rec.body ≡ (c.member == me)
    is-own e = rw e refl

    other-key : (k : Key) → (c.member == me) ≡ false → HasKey me k x.rec
    other-key k e = λ d it member.
        let same : Certificate c ≡ Certificate d = sym body ∙ it in
        let m : c.member ≡ d.member = cc in
        absurd (grind (e, m, member, arith))

    kept : (o : Option Key) → (c.member == me) ≡ false → HasOwn me o xs → HasOwn me o (xs ++ x ∷ [])
    kept None e h = tt
    kept (Some k) e h = record { among = any-append me x xs true (rw h.among refl); keys = keys-append me k c x xs h.keys (other-key k e); long = h.long }

    either : (b : Bool) → (c.member == me) ≡ b → HasOwn me (cond b (Some c.key) own) (xs ++ x ∷ [])
    either true e =
        let m : c.member ≡ me = grind (e, arith) in
        record {
          among = any-append me x xs true (last-true (list_any (λ r. is_certificate_for me r.body) (recs_of xs)) (is-own body ∙ e));
          keys = keys-append me c.key c x xs (none-own group authority named c me c.key xs m new listed) (λ d it member. let same : Certificate c ≡ Certificate d = sym body ∙ it in cc);
          long = long;
        }
    either false e = kept own e h

-- ## Keys

tree-long : (k : Secret) → length k.id ≡ 16 → HasParts (public_of k)
unfolding public_of
tree-long k long = record { id_long = long; root_long = length-node k 1 }

tree-ots : (k : Secret) → (public_of k).ots ≡ k.ots
unfolding public_of
tree-ots k = refl

-- the parts of a key are as they should be, whose kinds are in the profile
long-public : (ots : OtsKind) (tree : TreeKind) (bottom : Option TreeKind) (id seed : List ℕ) → fits ots tree bottom ≡ true → length id ≡ 16 → IsKey (public_key (key_of ots tree bottom id seed))
long-public ots tree None id seed fit long = tree-long (record { tree = tree; ots = ots; id = id; seed = seed }) long
long-public ots tree (Some bottom) id seed fit long =
    let top : Secret = record { tree = tree; ots = ots; id = id; seed = seed } in
    record { top = tree-long top long; in_profile = ap pairs.is_in_profile (tree-ots top) ∙ (pair_fits ots tree bottom fit).0 }

id-long : (secret : List ℕ) → length (key_id secret) ≡ 16
unfolding key_id
id-long secret = length-take 16 (sha256 (codes "FFLMSI" ++ secret)) ∙ grind (length-sha256 (codes "FFLMSI" ++ secret), arith)

-- of the key that a secret gives
long-from : (kinds : Kinds) (secret : List ℕ) → is_in_profile kinds ≡ true → IsKey (public_key (key_from kinds secret))
long-from kinds secret fit = long-public kinds.ots kinds.tree kinds.bottom (key_id secret) (key_seed secret) fit (id-long secret)

-- A key that is new, and whose parts are as they should be.
record IsOwnKey (key : SignKey) : Type 0 where
  fresh : IsNew key (secret_of key)
  long : IsKey (public_key (secret_of key))

own-new : (secret : KeySecret) → IsKey (public_key secret) → IsOwnKey (new_key secret)
own-new secret long =
    let same : secret ≡ secret_of (new_key secret) = sym (new-is secret).is in
    record { fresh = subst (λ (s : KeySecret). IsNew (new_key secret) s) same (new-is secret); long = subst (λ (s : KeySecret). IsKey (public_key s)) same long }

abbrev kept : Key → Result Key KeyFault
kept k = Ok k

-- the bytes of a key are one key's
same-key : (a b : Key) → IsKey a → IsKey b → key_bytes a ≡ key_bytes b → a ≡ b
same-key a b x y e =
    let same : kept a ≡ kept b =
    sym (key-again (key_bytes a) a (record { spelled = refl; parts = x })) ∙ ap key_in e ∙ key-again (key_bytes b) b (record { spelled = refl; parts = y }) in
    cc

long-key : (bytes : List ℕ) (k : Key) → AreKey bytes k → IsKey k
long-key bytes k are = are.parts

-- ## What has been read, and what it sets up

numbers : (g : Group) → shared.IsGroup g → IsGroup g
numbers g h = record {
  some = h.t_low;
  few = h.t_high;
  waits = h.timeout_low;
  ends = h.timeout_high;
  period = h.period_low;
  often = h.period_high;
  missed = h.misses_low;
  misses = h.misses_high;
}

-- the owner is the one of the own line
record IsOwner (owner : Owner) (own : Own) : Type 0 where
  group : shared.IsGroup owner.group
  member : owner.member ≡ own.member
  key : owner.key ≡ public_key (secret_of own.key)
  new : IsOwnKey own.key

record FitsOwned (owner : Owner) (u : SetUp) : Type 0 where
  heal : Option Heal
  own : Own
  is : u ≡ record { group = Some owner.group; heal = heal; own = Some own; authority = None; millis = None; certificates = [] }
  owner_is : IsOwner owner own

record FitsAuthorized (owner : Owner) (authority : PublicKey) (u : SetUp) : Type 0 where
  heal : Option Heal
  own : Own
  is : u ≡ record { group = Some owner.group; heal = heal; own = Some own; authority = Some authority; millis = None; certificates = [] }
  owner_is : IsOwner owner own

record FitsBody (owner : Owner) (authority : PublicKey) (named : List Bool) (ownkey : Option Key) (u : SetUp) : Type 0 where
  heal : Option Heal
  own : Own
  millis : ℕ
  certificates : List CheckedRecord
  is : u ≡ record { group = Some owner.group; heal = heal; own = Some own; authority = Some authority; millis = Some millis; certificates = certificates }
  owner_is : IsOwner owner own
  pace : 1 ≤ millis
  room : length named ≡ MEMBERS
  listed : AllByRecursion (IsListed owner.group authority named) certificates
  apart : AreApart (recs_of certificates)
  found : HasOwn owner.member ownkey certificates

-- It is all set up, but for what the type of the certificates says.
pub record IsUp (u : SetUp) : Type 0 where
  pub group : Group
  pub heal : Option Heal
  pub own : Own
  pub authority : PublicKey
  pub millis : ℕ
  pub certificates : List CheckedRecord
  pub is : u ≡ record { group = Some group; heal = heal; own = Some own; authority = Some authority; millis = Some millis; certificates = certificates }
  pub numbers : IsGroup group
  pub pace : 1 ≤ millis
  pub fresh : IsNew own.key (secret_of own.key)
  pub checked : All (IsCheckedIn group (key_kinds.Lms authority)) certificates
  pub apart : AreApart (recs_of certificates)
  pub among : list_any (λ r. is_certificate_for own.member r.body) (recs_of certificates) ≡ true
  pub keys : AllByRecursion (HasKey own.member (public_key (secret_of own.key))) (recs_of certificates)

record FitsGroup (g : Group) (u : SetUp) : Type 0 where
  is : u ≡ record nothing_up { group = Some g }
  numbers : shared.IsGroup g

record FitsKinds (g : Group) (kinds : Kinds) (u : SetUp) : Type 0 where
  heal : Option Heal
  is : u ≡ record nothing_up { group = Some g; heal = heal }
  numbers : shared.IsGroup g
  kinds_fit : is_in_profile kinds ≡ true

abbrev Fits : KitText → SetUp → Type 0
Fits kit.Start u = u ≡ nothing_up
Fits kit.Headed u = u ≡ nothing_up
Fits (kit.Grouped g) u = FitsGroup g u
Fits (kit.Kinded g kinds heal) u = FitsKinds g kinds u
Fits (kit.Owned owner) u = FitsOwned owner u
Fits (kit.Authorized owner authority) u = FitsAuthorized owner authority u
Fits (kit.Body owner authority named ownkey) u = FitsBody owner authority named ownkey u
Fits kit.Ended u = IsUp u

own-up : (g : Group) (kinds : Kinds) (m : ℕ) (secret : List ℕ) (own_key : SignKey) (u : SetUp) → new_key (key_from kinds secret) ≡ own_key → FitsKinds g kinds u
    → FitsOwned (record { group = g; member = m; key = public_key (secret_of own_key) }) (sets u (lines.Own m secret own_key))
own-up g kinds m secret own_key u made fits = record {
  heal = fits.heal;
  own = record { member = m; secret = secret; key = own_key };
  is = ap (λ (v : SetUp). sets v (lines.Own m secret own_key)) fits.is;
  owner_is = record { group = fits.numbers; member = refl; key = refl; new = subst IsOwnKey made (own-new (key_from kinds secret) (long-from kinds secret fits.kinds_fit)) };
}

-- A certificate of a number that had none, of a key that is one.
record IsNewCert (group : Group) (authority : PublicKey) (named : List Bool) (x : CheckedRecord) : Type 0 where
  cert : CertBody
  line : x ≡ checked_as group authority cert x.rec.signature
  member_high : cert.member ≤ LAST_MEMBER
  new : is_named named cert.member ≡ false
  long : IsKey cert.key

cert-values : (owner : Owner) (authority : PublicKey) (named : List Bool) (ownkey : Option Key) (ws : List (List ℕ)) (x : CheckedRecord) (b : Body) → SpellsParts kit_table (kit.Body owner authority named ownkey) ws (lines.Cert x) (cert_parts b x.rec.signature) → IsNewCert owner.group authority named x
cert-values owner authority named ownkey ws x (Certificate c) h =
    let vs : Values (fields words.Cert) = (c.member, (c.port, (c.key, (x.rec.signature, tt)))) in
    let range = all-in_range (fields words.Cert) h.args vs h.spells in
    let made : lines.Cert (checked_as owner.group authority c x.rec.signature) ≡ lines.Cert x = h.made in
    let key : (bytes : List ℕ) × AreKey bytes c.key = range.1.1.0 in
    record {
      cert = c;
      line = cc;
      member_high = range.0.1;
      new = (cert-whole owner.group authority named vs h.whole).new;
      long = long-key key.0 c.key key.1;
    }
cert-values owner authority named ownkey ws x _ h = absurd (let e = h.made in cc)

-- where no certificate stands
no-cert : (form : KitText) (ws : List (List ℕ)) (x : CheckedRecord) (b : Body) → may_stand form words.Cert ≡ false → SpellsParts kit_table form ws (lines.Cert x) (cert_parts b x.rec.signature) → ⊥
no-cert form ws x (Certificate c) none h = false≢true (sym none ∙ h.stands)
no-cert form ws x _ none h = absurd (let e = h.made in cc)

body-up : (owner : Owner) (authority : PublicKey) (named : List Bool) (ownkey : Option Key) (x : CheckedRecord) (u : SetUp) (h : IsNewCert owner.group authority named x) → FitsBody owner authority named ownkey u
    → FitsBody owner authority (slice_set named h.cert.member true) (cond (h.cert.member == owner.member) (Some h.cert.key) ownkey) (sets u (lines.Cert x))
body-up owner authority named ownkey x u h fits =
    let body : x.rec.body ≡ Certificate h.cert = ap (λ (y : CheckedRecord). y.rec.body) h.line in
    let few : h.cert.member < length named = omega (arith, h.member_high, fits.room) in
    record {
      heal = fits.heal;
      own = fits.own;
      millis = fits.millis;
      certificates = fits.certificates ++ x ∷ [];
      is = ap (λ (v : SetUp). sets v (lines.Cert x)) fits.is;
      owner_is = fits.owner_is;
      pace = fits.pace;
      room = length-set named h.cert.member true ∙ fits.room;
      listed = each-append (IsListed owner.group authority (slice_set named h.cert.member true)) fits.certificates x
          (each-as (IsListed owner.group authority named) (IsListed owner.group authority (slice_set named h.cert.member true)) fits.certificates (λ y. listed-more owner.group authority named h.cert.member y few) fits.listed)
          (record {
            cert = h.cert;
            body = body;
            named_so = get_or-set_same named h.cert.member true false few;
            checked = rw h.line (record { under = refl; tag = refl; tolerance = refl });
          });
      apart = subst AreApart (sym (recs-append fits.certificates x)) (apart-append owner.group authority named h.cert x fits.certificates body h.new fits.listed fits.apart);
      found = own-append owner.group authority named owner.member ownkey h.cert x fits.certificates body h.new h.long fits.listed fits.found;
    }

certified : (owner : Owner) (authority : PublicKey) (named : List Bool) (ownkey : Option Key) (x : CheckedRecord) (u : SetUp) → IsNewCert owner.group authority named x → FitsBody owner authority named ownkey u
    → Fits (after (kit.Body owner authority named ownkey) (lines.Cert x)) (sets u (lines.Cert x))
certified owner authority named ownkey x u h fits =
    subst (λ (b : Body). Fits (certified_by b (kit.Body owner authority named ownkey)) (sets u (lines.Cert x))) (sym (ap (λ (y : CheckedRecord). y.rec.body) h.line))
    (body-up owner authority named ownkey x u h fits)

ended-up : (owner : Owner) (authority : PublicKey) (named : List Bool) (ownkey : Option Key) (u : SetUp) → IsOwned owner.key ownkey → FitsBody owner authority named ownkey u → IsUp u
ended-up owner authority named None u owned fits = absurd owned
ended-up owner authority named (Some k) u owned fits =
    let o = fits.owner_is in
    let public : Key = public_key (secret_of fits.own.key) in
    let same : k ≡ public = same-key k public fits.found.long o.new.long (owned ∙ ap key_bytes o.key) in
    record {
      group = owner.group;
      heal = fits.heal;
      own = fits.own;
      authority = authority;
      millis = fits.millis;
      certificates = fits.certificates;
      is = fits.is;
      numbers = numbers owner.group o.group;
      pace = fits.pace;
      fresh = o.new.fresh;
      checked = all-of (IsCheckedIn owner.group (key_kinds.Lms authority)) fits.certificates (each-as (IsListed owner.group authority named) (IsCheckedIn owner.group (key_kinds.Lms authority)) fits.certificates (λ x h. h.checked) fits.listed);
      apart = fits.apart;
      among = subst (λ (m : ℕ). list_any (λ r. is_certificate_for m r.body) (recs_of fits.certificates) ≡ true) o.member fits.found.among;
      keys = subst (λ (m : ℕ). AllByRecursion (HasKey m public) (recs_of fits.certificates)) o.member
          (subst (λ (q : Key). AllByRecursion (HasKey owner.member q) (recs_of fits.certificates)) same fits.found.keys);
    }

-- One line more.
step : (form : KitText) (ws : List (List ℕ)) (l : KitLine) (u : SetUp) → IsKit form ws l → Fits form u → Fits (after form l) (sets u l)
step kit.Start ws lines.Header u is fits = fits
step kit.Headed ws (lines.Group g) u is fits = record { is = ap (λ (v : SetUp). sets v (lines.Group g)) fits; numbers = group-is g (all-in_range group_shape is.args (group_values g) is.spells) }
step (kit.Grouped g) ws (lines.Kinds kinds) u is fits = record { heal = None; is = fits.is; numbers = fits.numbers; kinds_fit = kit-kinds (kit.Grouped g) ws kinds is }
step (kit.Kinded g kinds has) ws (lines.Heal heal) u is fits =
    record { heal = Some heal; is = ap (λ (v : SetUp). sets v (lines.Heal heal)) fits.is; numbers = fits.numbers; kinds_fit = fits.kinds_fit }
step (kit.Kinded g kinds has) ws (lines.Own m secret own_key) u is fits =
    let line : lines.Own m secret (new_key (key_from kinds secret)) ≡ lines.Own m secret own_key = is.made in
    let made : new_key (key_from kinds secret) ≡ own_key = cc in
    own-up g kinds m secret own_key u made fits
step (kit.Owned owner) ws (lines.Authority authority) u is fits =
    record { heal = fits.heal; own = fits.own; is = ap (λ (v : SetUp). sets v (lines.Authority authority)) fits.is; owner_is = fits.owner_is }
step (kit.Authorized owner authority) ws (lines.Tick millis) u is fits = record {
  heal = fits.heal;
  own = fits.own;
  millis = millis;
  certificates = [];
  is = ap (λ (v : SetUp). sets v (lines.Tick millis)) fits.is;
  owner_is = fits.owner_is;
  pace = (all-in_range (fields words.Tick) is.args (millis, tt) is.spells).0.0;
  room = length-replicate MEMBERS false;
  listed = tt;
  apart = tt;
  found = tt;
}
step (kit.Body owner authority named ownkey) ws (lines.Cert x) u is fits =
    certified owner authority named ownkey x u (cert-values owner authority named ownkey ws x x.rec.body is) fits
step form ws (lines.Cert x) u is fits = absurd (no-cert form ws x x.rec.body refl is)
step (kit.Body owner authority named ownkey) ws lines.End u is fits = ended-up owner authority named ownkey u (end-whole owner.key ownkey is.whole) fits
step _ ws _ u is fits = absurd (false≢true is.stands)

is-up : (form : KitText) (u : SetUp) → is_ended form ≡ true → Fits form u → IsUp u
is-up kit.Ended u e fits = fits
is-up _ u e fits = absurd (false≢true e)

-- From here to the end of the text.
record Next (l : KitLine) (ls : List KitLine) (p : Progress KitText) (u : SetUp) : Type 0 where
  rest : List (List ℕ)
  later : lines_from kit_judging (moved kit_judging.after p l) rest ≡ Ok ls
  fits : Fits (after p.form l) (sets u l)

next-of : (l : KitLine) (ls : List KitLine) (seen : List (List ℕ)) (p : Progress KitText) (u : SetUp) (b : Bool) → is_ended p.form ≡ b → lines_from kit_judging p seen ≡ Ok (l ∷ ls) → Fits p.form u → Next l ls p u
next-of l ls seen p u true ended e fits = let none = last-line kit_judging IsKit kit-spelled p seen (l ∷ ls) e ended in absurd cc
next-of l ls seen p u false going e fits =
    let n = next-line kit_judging p seen (l ∷ ls) e going in
    let h = line-is kit_judging IsKit kit-spelled p n.bytes n.line n.is in
    let are : n.line ∷ n.more ≡ l ∷ ls = sym n.lines_are in
    let one : n.line ≡ l = cc in
    let more : n.more ≡ ls = cc in
    record {
      rest = n.rest;
      later = subst (λ (k : KitLine). lines_from kit_judging (moved kit_judging.after p k) n.rest ≡ Ok ls) one (subst (λ (ks : List KitLine). lines_from kit_judging (moved kit_judging.after p n.line) n.rest ≡ Ok ks) more n.later);
      fits = subst (λ (k : KitLine). Fits (after p.form k) (sets u k)) one (step p.form (h.first ∷ h.others) n.line u h.spells fits);
    }

none-left : (seen : List (List ℕ)) (p : Progress KitText) (u : SetUp) (b : Bool) → is_ended p.form ≡ b → lines_from kit_judging p seen ≡ Ok [] → Fits p.form u → IsUp u
none-left seen p u true ended e fits = is-up p.form u ended fits
none-left seen p u false going e fits = let n = next-line kit_judging p seen [] e going in let none = n.lines_are in absurd cc

walk : (ls : List KitLine) (seen : List (List ℕ)) (p : Progress KitText) (u : SetUp) → lines_from kit_judging p seen ≡ Ok ls → Fits p.form u → IsUp (fold sets u ls)
walk [] seen p u e fits = none-left seen p u (is_ended p.form) refl e fits
walk (l ∷ ls) seen p u e fits =
    let n = next-of l ls seen p u (is_ended p.form) refl e fits in
    walk ls n.rest (moved kit_judging.after p l) (sets u l) n.later n.fits

pub sets-up : (ls : List KitLine) (seen : List (List ℕ)) → lines_from kit_judging (unread kit.Start) seen ≡ Ok ls → IsUp (set_by ls)
sets-up ls seen e = walk ls seen (unread kit.Start) nothing_up e refl

-- A member is whole.
pub up-whole : (u : SetUp) → IsUp u → IsWholeSetUp u
up-whole u h = record { group = h.group; own = h.own; authority = h.authority; millis = h.millis; is = rw h.is refl }

abbrev up_as : Group → Option Heal → Own → PublicKey → ℕ → List CheckedRecord → SetUp
up_as group heal own authority millis certificates = record { group = Some group; heal = heal; own = Some own; authority = Some authority; millis = Some millis; certificates = certificates }

sound-parts : (g g1 : Group) (h h1 : Option Heal) (o o1 : Own) (a a1 : PublicKey) (n n1 : ℕ) (cs cs1 : List CheckedRecord) → up_as g h o a n cs ≡ up_as g1 h1 o1 a1 n1 cs1 → IsSound g o a n cs → IsSound g1 o1 a1 n1 cs1
sound-parts g g1 h h1 o o1 a a1 n n1 cs cs1 e sound =
    let eg : Some g ≡ Some g1 = ap (λ (u : SetUp). u.group) e in
    let eo : Some o ≡ Some o1 = ap (λ (u : SetUp). u.own) e in
    let ea : Some a ≡ Some a1 = ap (λ (u : SetUp). u.authority) e in
    let en : Some n ≡ Some n1 = ap (λ (u : SetUp). u.millis) e in
    let ec : cs ≡ cs1 = ap (λ (u : SetUp). u.certificates) e in
    let sg : g ≡ g1 = cc in
    let so : o ≡ o1 = cc in
    let sa : a ≡ a1 = cc in
    let sn : n ≡ n1 = cc in
    subst (λ x. IsSound g1 o1 a1 n1 x) ec (subst (λ x. IsSound g1 o1 a1 x cs) sn (subst (λ x. IsSound g1 o1 x n cs) sa (subst (λ x. IsSound g1 x a n cs) so (subst (λ x. IsSound x o a n cs) sg sound))))

pub up-sound : (u : SetUp) (m : Member) → IsUp u → SetsUp u m → AllByRecursion IsChecked u.certificates → IsSoundMember m
up-sound u m h is checked =
    sound-parts h.group m.group h.heal m.heal h.own m.own h.authority m.authority h.millis m.millis h.certificates m.certificates.items (sym h.is ∙ is)
    (record {
      numbers = h.numbers;
      pace = h.pace;
      fresh = h.fresh;
      checked = h.checked;
      certified = record { apart = h.apart; among = h.among; keys = h.keys; verify = subst (AllByRecursion IsChecked) (ap (λ (v : SetUp). v.certificates) h.is) checked };
    })
