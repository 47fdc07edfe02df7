-- What a member's life begins with, by what its text and its store give, is within its ranges.
use Rattle.std.proofs.Common.{◌≡◌, ℕ, ◌+◌, ◌^◌, ◌<◌, Bool, true, false, List, [], ◌∷◌, refl, sym, ap, ◌∙◌, subst, inl, inr, arith}
use Rattle.std.specs.Prelude.{◌||◌}
use Rattle.std.specs.List.{AllByRecursion, list_any}
use Rattle.std.proofs.lemmas.Bool.{cases_Bool, eqb-true, false≢true}
use Rattle.ff_ids.specs.declared.TheConstants.{MEMBERS}
use Rattle.lms_tree.specs.declared.kind.TreeKind.{TreeKind}
use Rattle.lms_tree.specs.declared.kind.TreeKind.TheVariants.{H5, H10, H15}
use Rattle.lms_tree.specs.declared.secret.Secret.{Secret}
use Rattle.lms_tree.specs.Kinds.{height, leaf_count}
use Rattle.lms_tree.specs.Lms.{public_of}
use Rattle.lms_tree.proofs.Signatures.{signature-verifies}
use Rattle.hss.specs.Keys.{is_in_profile}
use Rattle.hss.specs.Pairs.{top_secret}
use Rattle.hss.proofs.Pairs.{pair-verifies}
use Rattle.records.specs.declared.keys.Key.{Key}
use Rattle.records.specs.declared.Body.{Body}
use Rattle.records.specs.declared.Body.TheVariants.{Certificate, Note, Accusation}
use Rattle.records.specs.Keys.{IsKey}
use Rattle.records.specs.Signing.{CheckedRecord, IsChecked, signed_bytes}
use Rattle.records.specs.Spelling.{HasLength, IsBody}
use Rattle.records.proofs.Signatures.{signed-length}
use Rattle.sign_keys.specs.Keys.{KeySecret, Lms, Hss, index_count, public_key, signature_of}
use Rattle.epoch_store.specs.declared.Stored.{Stored}
use Rattle.signer.specs.Signing.{SignerState}
use Rattle.datagram.specs.Spelling.{IsSignedRecord}
use Rattle.node_rules.specs.Lives.{is_certificate_for}
use Rattle.node_rules.specs.Readable.{IsSpelled}
use Rattle.node_core.specs.declared.kit.Kit.{Kit}
use Rattle.node_core.specs.Begins.{AreCertificatesOf, HasKey, IsVouchable}
use Rattle.node_core.specs.Playing.{setting_of}
use Rattle.node_core.specs.Rolls.{recs_of}
use Rattle.node_core.proofs.CertificateLemmas as certificates
use Rattle.node_command.specs.declared.kit.Member.{Member}
use Rattle.node_command.specs.Members.{key_of}
use Rattle.node_command.specs.Opening.{setting_for}
use Rattle.shown_laws.specs.Own.{MayBegin}

-- ## Certificates

-- what the own certificate says, which was checked
record HasOwn (me : ℕ) (own : Key) : Type 0 where
  member : me < MEMBERS
  key : IsKey own

own-body : (me : ℕ) (own : Key) (x : CheckedRecord) (b : Body) → x.rec.body ≡ b → is_certificate_for me b ≡ true → IsBody b → HasKey me own x.rec → HasOwn me own
own-body me own x (Certificate c) is mine good key =
    let who : c.member ≡ me = eqb-true c.member me mine in
    record { member = subst (λ (m : ℕ). m < MEMBERS) who good.member_number; key = subst (λ (k : Key). IsKey k) (key c is who) good.key }
own-body me own x (Note n) is mine good key = absurd (false≢true mine)
own-body me own x (Accusation a) is mine good key = absurd (false≢true mine)

own-among : (me : ℕ) (own : Key) (xs : List CheckedRecord) → AllByRecursion IsChecked xs → AllByRecursion (HasKey me own) (recs_of xs) → list_any (λ r. is_certificate_for me r.body) (recs_of xs) ≡ true → HasOwn me own
own-among me own [] checked keys among = absurd (false≢true among)
own-among me own (x ∷ xs) checked keys among =
    elim (cases_Bool (is_certificate_for me x.rec.body)) [
      | inl mine ↦ own-body me own x x.rec.body refl mine checked.0.body keys.0
      | inr other ↦ own-among me own xs checked.1 keys.1 (sym (ap (λ (b : Bool). b || list_any (λ r. is_certificate_for me r.body) (recs_of xs)) other) ∙ among)
    ]

all-spelled : (xs : List CheckedRecord) → AllByRecursion IsChecked xs → AllByRecursion IsSignedRecord (recs_of xs)
all-spelled [] checked = tt
all-spelled (x ∷ xs) checked = (record { body = checked.0.body; signature = checked.0.writable.signature }, all-spelled xs checked.1)

-- ## The key

few-leaves : (tree : TreeKind) → leaf_count tree < 2 ^ 64
few-leaves H5 = omega arith
few-leaves H10 = omega arith
few-leaves H15 = omega arith

few-pairs : (top bottom : TreeKind) → 2 ^ (height top + height bottom) < 2 ^ 64
few-pairs H5 H5 = omega arith
few-pairs H5 H10 = omega arith
few-pairs H5 H15 = omega arith
few-pairs H10 H5 = omega arith
few-pairs H10 H10 = omega arith
few-pairs H10 H15 = omega arith
few-pairs H15 H5 = omega arith
few-pairs H15 H10 = omega arith
few-pairs H15 H15 = omega arith

few-indexes : (key : KeySecret) → index_count key < 2 ^ 64
few-indexes (Lms secret) = few-leaves secret.tree
few-indexes (Hss pair) = few-pairs pair.top pair.bottom

secret-profile : (s : Secret) → is_in_profile (public_of s).ots ≡ true → is_in_profile s.ots ≡ true
unfolding public_of
secret-profile s e = e

own-long : (key : KeySecret) (index : ℕ) (message : List ℕ) → IsKey (public_key key) → index < index_count key → HasLength (signature_of key index message)
own-long (Lms secret) index message is within = signed-length (public_key (Lms secret)) message (signature_of (Lms secret) index message) (signature-verifies secret index message within)
own-long (Hss pair) index message is within =
    signed-length (public_key (Hss pair)) message (signature_of (Hss pair) index message) (pair-verifies pair index message within (secret-profile (top_secret pair) is.in_profile))

-- ## A life

-- the member as a kit, and a signer of its key over this store
kit_of : Member → Kit
kit_of m = record { group = m.group; heal = m.heal; me = m.own.member; authority = m.authority; certificates = m.certificates; nonce_seed = m.own.secret }

abbrev signer_over : Member → Stored → SignerState
signer_over m stored = record { group = m.group; key = key_of m; leaf = 0; state = stored; seat = record { gate = 0; wide = false; tag = []; tag_place = 0 }; closed = false }

pub vouchable-for : (m : Member) (stored : Stored) → MayBegin m stored → IsVouchable (setting_for m) (public_key (key_of m)) (recs_of m.certificates.items) stored
unfolding kit_of
vouchable-for m stored h =
    certificates.vouchable (setting_for m) (kit_of m) (signer_over m stored) refl (record { group = h.sound.numbers; checked = h.sound.checked; certificates = h.sound.certified }) h.left

pub spelled-for : (m : Member) (stored : Stored) → MayBegin m stored → IsSpelled (setting_for m) (recs_of m.certificates.items) stored
unfolding setting_of
spelled-for m stored h =
    let v = vouchable-for m stored h in
    let are : AreCertificatesOf m.own.member (public_key (key_of m)) m.certificates.items = h.sound.certified in
    let own = own-among m.own.member (public_key (key_of m)) m.certificates.items are.verify are.keys are.among in
    record {
      rings = v.rings;
      kit = v.kit;
      me = own.member;
      indexes = few-indexes (key_of m);
      lengths = λ index body within. own-long (key_of m) index (signed_bytes m.group.tag m.group.t body) own.key within;
      spelled = all-spelled m.certificates.items are.verify;
      left = h.left;
      epoch = h.epoch;
    }
