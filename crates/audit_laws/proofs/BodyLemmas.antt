-- Bodies are the same exactly where the test says so.
use Rattle.std.proofs.Common.{◌≡◌, ℕ, true, false, List, refl, ap, ◌∙◌, eq-eqb, eqb-true}
use Rattle.std.specs.Prelude.{◌==◌}
use Rattle.std.specs.Prelude.{bytes_eq}
use Rattle.std.proofs.lemmas.Bool.{and_from, and_parts}
use Rattle.std.proofs.lemmas.Slice.Eq.{bytes_eq-Decides}
use Rattle.ff_ids.specs.declared.AccBody.{AccBody}
use Rattle.ff_ids.specs.declared.NoteBody.{NoteBody}
use Rattle.lms_ots.specs.declared.kind.OtsKind.{OtsKind}
use Rattle.lms_ots.specs.declared.kind.OtsKind.TheVariants as ots_kinds
use Rattle.lms_ots.specs.Ots as ots
use Rattle.lms_tree.specs.declared.kind.TreeKind.{TreeKind}
use Rattle.lms_tree.specs.declared.kind.TreeKind.TheVariants as tree_kinds
use Rattle.lms_tree.specs.declared.key.PublicKey.{PublicKey}
use Rattle.lms_tree.specs.Kinds.{type_number}
use Rattle.hss.specs.Keys.{TwoLevelKey}
use Rattle.records.specs.declared.keys.Key.{Key}
use Rattle.records.specs.declared.keys.Key.TheVariants as keys
use Rattle.records.specs.declared.CertBody.{CertBody}
use Rattle.records.specs.declared.Body.{Body}
use Rattle.records.specs.declared.Body.TheVariants.{Certificate, Note, Accusation}
use Rattle.validate.specs.Table.{is_same_certificate, is_same_key, is_same_lms_key}
use Rattle.audit_laws.specs.Bodies.{is_same_accusation, is_same_body, is_same_note}

same-number : (n : ℕ) → (n == n) ≡ true
same-number n = eq-eqb n n refl

same-bytes : (xs : List ℕ) → bytes_eq xs xs ≡ true
same-bytes xs = (bytes_eq-Decides xs xs).1 refl

-- ---- the same as itself

same-lms_key : (k : PublicKey) → is_same_lms_key k k ≡ true
same-lms_key k =
    and_from _ _ (same-number (type_number k.tree)) (and_from _ _ (same-number (ots.type_number k.ots)) (and_from _ _ (same-bytes k.id) (same-bytes k.root)))

same-key : (k : Key) → is_same_key k k ≡ true
same-key (keys.Lms k) = same-lms_key k
same-key (keys.Hss k) = same-lms_key k.top

pub same-itself : (b : Body) → is_same_body b b ≡ true
same-itself (Certificate c) = and_from _ _ (same-number c.member) (and_from _ _ (same-number c.port) (same-key c.key))
same-itself (Note n) = and_from _ _ (same-number n.member) (and_from _ _ (same-number n.epoch) (same-number n.mask.0))
same-itself (Accusation a) =
    and_from _ _ (same-number a.accuser) (and_from _ _ (same-number a.accused) (and_from _ _ (same-number a.epoch) (same-number a.ring.0)))

-- ---- and only then

never : {A : Type 0} → false ≡ true → A
never e = cc

tree-is : (a b : TreeKind) → (type_number a == type_number b) ≡ true → a ≡ b
tree-is tree_kinds.H5 tree_kinds.H5 same = refl
tree-is tree_kinds.H5 tree_kinds.H10 same = never same
tree-is tree_kinds.H5 tree_kinds.H15 same = never same
tree-is tree_kinds.H10 tree_kinds.H5 same = never same
tree-is tree_kinds.H10 tree_kinds.H10 same = refl
tree-is tree_kinds.H10 tree_kinds.H15 same = never same
tree-is tree_kinds.H15 tree_kinds.H5 same = never same
tree-is tree_kinds.H15 tree_kinds.H10 same = never same
tree-is tree_kinds.H15 tree_kinds.H15 same = refl

ots-is : (a b : OtsKind) → (ots.type_number a == ots.type_number b) ≡ true → a ≡ b
ots-is ots_kinds.W1 ots_kinds.W1 same = refl
ots-is ots_kinds.W1 ots_kinds.W2 same = never same
ots-is ots_kinds.W1 ots_kinds.W4 same = never same
ots-is ots_kinds.W1 ots_kinds.W8 same = never same
ots-is ots_kinds.W2 ots_kinds.W1 same = never same
ots-is ots_kinds.W2 ots_kinds.W2 same = refl
ots-is ots_kinds.W2 ots_kinds.W4 same = never same
ots-is ots_kinds.W2 ots_kinds.W8 same = never same
ots-is ots_kinds.W4 ots_kinds.W1 same = never same
ots-is ots_kinds.W4 ots_kinds.W2 same = never same
ots-is ots_kinds.W4 ots_kinds.W4 same = refl
ots-is ots_kinds.W4 ots_kinds.W8 same = never same
ots-is ots_kinds.W8 ots_kinds.W1 same = never same
ots-is ots_kinds.W8 ots_kinds.W2 same = never same
ots-is ots_kinds.W8 ots_kinds.W4 same = never same
ots-is ots_kinds.W8 ots_kinds.W8 same = refl

number-is : (m n : ℕ) → (m == n) ≡ true → m ≡ n
number-is m n same = eqb-true m n same

bytes-is : (xs ys : List ℕ) → bytes_eq xs ys ≡ true → xs ≡ ys
bytes-is xs ys same = (bytes_eq-Decides xs ys).0 same

abbrev key_with : TreeKind → OtsKind → List ℕ → List ℕ → PublicKey
key_with tree kind id root = record { tree = tree; ots = kind; id = id; root = root }

lms_key-is : (a b : PublicKey) → is_same_lms_key a b ≡ true → a ≡ b
lms_key-is a b same =
    let p = and_parts _ _ same in
    let q = and_parts _ _ p.1 in
    let r = and_parts _ _ q.1 in
    ap (λ (x : TreeKind). key_with x a.ots a.id a.root) (tree-is a.tree b.tree p.0)
    ∙ ap (λ (x : OtsKind). key_with b.tree x a.id a.root) (ots-is a.ots b.ots q.0)
    ∙ ap (λ (x : List ℕ). key_with b.tree b.ots x a.root) (bytes-is a.id b.id r.0)
    ∙ ap (λ (x : List ℕ). key_with b.tree b.ots b.id x) (bytes-is a.root b.root r.1)

abbrev two_levels : PublicKey → TwoLevelKey
two_levels top = record { top = top }

key-is : (a b : Key) → is_same_key a b ≡ true → a ≡ b
key-is (keys.Lms a) (keys.Lms b) same = ap keys.Lms (lms_key-is a b same)
key-is (keys.Hss a) (keys.Hss b) same = ap (λ (x : PublicKey). keys.Hss (two_levels x)) (lms_key-is a.top b.top same)
key-is (keys.Lms a) (keys.Hss b) same = never same
key-is (keys.Hss a) (keys.Lms b) same = never same

abbrev cert_with : ℕ → ℕ → Key → CertBody
cert_with member port key = record { member = member; port = port; key = key }

certificate-is : (a b : CertBody) → is_same_certificate a b ≡ true → a ≡ b
certificate-is a b same =
    let p = and_parts _ _ same in
    let q = and_parts _ _ p.1 in
    ap (λ (x : ℕ). cert_with x a.port a.key) (number-is a.member b.member p.0)
    ∙ ap (λ (x : ℕ). cert_with b.member x a.key) (number-is a.port b.port q.0)
    ∙ ap (λ (x : Key). cert_with b.member b.port x) (key-is a.key b.key q.1)

abbrev note_with : ℕ → ℕ → ℕ → NoteBody
note_with member epoch mask = record { member = member; epoch = epoch; mask = record { 0 = mask } }

note-is : (a b : NoteBody) → is_same_note a b ≡ true → a ≡ b
note-is a b same =
    let p = and_parts _ _ same in
    let q = and_parts _ _ p.1 in
    ap (λ (x : ℕ). note_with x a.epoch a.mask.0) (number-is a.member b.member p.0)
    ∙ ap (λ (x : ℕ). note_with b.member x a.mask.0) (number-is a.epoch b.epoch q.0)
    ∙ ap (λ (x : ℕ). note_with b.member b.epoch x) (number-is a.mask.0 b.mask.0 q.1)

abbrev acc_with : ℕ → ℕ → ℕ → ℕ → AccBody
acc_with accuser accused epoch ring = record { accuser = accuser; accused = accused; epoch = epoch; ring = record { 0 = ring } }

accusation-is : (a b : AccBody) → is_same_accusation a b ≡ true → a ≡ b
accusation-is a b same =
    let p = and_parts _ _ same in
    let q = and_parts _ _ p.1 in
    let r = and_parts _ _ q.1 in
    ap (λ (x : ℕ). acc_with x a.accused a.epoch a.ring.0) (number-is a.accuser b.accuser p.0)
    ∙ ap (λ (x : ℕ). acc_with b.accuser x a.epoch a.ring.0) (number-is a.accused b.accused q.0)
    ∙ ap (λ (x : ℕ). acc_with b.accuser b.accused x a.ring.0) (number-is a.epoch b.epoch r.0)
    ∙ ap (λ (x : ℕ). acc_with b.accuser b.accused b.epoch x) (number-is a.ring.0 b.ring.0 r.1)

pub body-is : (a b : Body) → is_same_body a b ≡ true → a ≡ b
body-is (Certificate a) (Certificate b) same = ap Certificate (certificate-is a b same)
body-is (Note a) (Note b) same = ap Note (note-is a b same)
body-is (Accusation a) (Accusation b) same = ap Accusation (accusation-is a b same)
body-is (Certificate a) (Note b) same = never same
body-is (Certificate a) (Accusation b) same = never same
body-is (Note a) (Certificate b) same = never same
body-is (Note a) (Accusation b) same = never same
body-is (Accusation a) (Certificate b) same = never same
body-is (Accusation a) (Note b) same = never same
