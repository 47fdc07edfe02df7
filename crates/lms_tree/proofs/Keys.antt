-- Bytes are read as a key exactly where they are its 56 bytes.
use Rattle.std.proofs.Common.{◌≡◌, ℕ, ◌<◌, Bool, true, false, cond, eqb, List, ◌++◌, length, take, get_or, Option, Some, None, Result, refl, ap, subst, ◌∙◌, lit≤, lit<, arith, ◌^◌, drop, Ok, Err, eq-eqb, length-append, if◌then◌else◌}
use Rattle.std.specs.Prelude.{is_ok, slice_range}
use Rattle.std.specs.Int.{w32, to_be_bytes}
use Rattle.std.proofs.lemmas.Bool.{eqb-true}
use Rattle.std.proofs.lemmas.List.{take_at, drop_at, take_all, length-drop, length-take}
use Rattle.std.proofs.lemmas.Nat.{from_be_bytes-to_be_bytes_4}
use Rattle.lms_ots.specs.declared.kind.OtsKind.{OtsKind}
use Rattle.lms_ots.specs.declared.kind.OtsKind.TheVariants.{W1, W2, W4, W8}
use Rattle.lms_ots.specs.Ots as ots
use Rattle.lms_tree.specs.declared.kind.TreeKind.{TreeKind}
use Rattle.lms_tree.specs.declared.kind.TreeKind.TheVariants.{H5, H10, H15}
use Rattle.lms_tree.specs.declared.kind.KeyFault.{KeyFault}
use Rattle.lms_tree.specs.declared.kind.KeyFault.TheVariants as key_fault
use Rattle.lms_tree.specs.declared.key.PublicKey.{PublicKey}
use Rattle.lms_tree.specs.Kinds.{type_number}
use Rattle.lms_tree.specs.Keys.{AreKey}
use Rattle.lms_tree.specs.Lms.{tree_of, key_bytes, key_in, key_with}
use Rattle.lms_tree.proofs.KindTables.{ots_typed, tree_typed}
use Rattle.lms_tree.proofs.Parts.{four_parts, number-spelled}

-- 56 bytes spell the key that is read from them
pub key-spelled : (s : List ℕ) → length s ≡ 56 → ((k : ℕ) → get_or s k 0 < 256)
    → (tree : TreeKind) → type_number tree ≡ ots.number_at 0 s → (kind : OtsKind) → ots.type_number kind ≡ ots.number_at 4 s
    → s ≡ key_bytes (record { tree = tree; ots = kind; id = slice_range s 8 24; root = slice_range s 24 56 })
unfolding key_bytes
key-spelled s long below tree typed kind signed =
    let first : to_be_bytes w32 (type_number tree) ≡ take 4 s = ap (to_be_bytes w32) typed ∙ number-spelled s 0 below (omega arith) in
    let second : to_be_bytes w32 (ots.type_number kind) ≡ slice_range s 4 8 = ap (to_be_bytes w32) signed ∙ number-spelled s 4 below (omega arith) in
    four_parts s _ _ _ _ 4 8 24 56 (lit≤ tt) (lit≤ tt) (lit≤ tt) long first second refl refl

tree-read : (tree : TreeKind) → tree_of (type_number tree) ≡ Some tree
tree-read H5 = refl
tree-read H10 = refl
tree-read H15 = refl

ots-read : (kind : OtsKind) → ots.kind_of (ots.type_number kind) ≡ Some kind
ots-read W1 = refl
ots-read W2 = refl
ots-read W4 = refl
ots-read W8 = refl

tree-number : (tree : TreeKind) → type_number tree < 2 ^ 32
tree-number H5 = lit< tt
tree-number H10 = lit< tt
tree-number H15 = lit< tt

ots-number : (kind : OtsKind) → ots.type_number kind < 2 ^ 32
ots-number W1 = lit< tt
ots-number W2 = lit< tt
ots-number W4 = lit< tt
ots-number W8 = lit< tt

-- the bytes of a key are read as the key
pub key_in-key_bytes : (key : PublicKey) → length key.id ≡ 16 → length key.root ≡ 32 → key_in (key_bytes key) ≡ Ok key
unfolding key_in key_bytes
key_in-key_bytes key id_long root_long =
    let bytes = to_be_bytes w32 (type_number key.tree) ++ to_be_bytes w32 (ots.type_number key.ots) ++ key.id ++ key.root in
    let long : length bytes ≡ 56 = omega (arith, length-append key.id key.root) in
    let first : ots.number_at 0 bytes ≡ type_number key.tree = from_be_bytes-to_be_bytes_4 (type_number key.tree) (tree-number key.tree) in
    let second : ots.number_at 4 bytes ≡ ots.type_number key.ots = from_be_bytes-to_be_bytes_4 (ots.type_number key.ots) (ots-number key.ots) in
    let id : slice_range bytes 8 24 ≡ key.id = take_at key.id key.root 16 id_long in
    let behind : drop 16 (key.id ++ key.root) ≡ key.root = drop_at key.id key.root 16 id_long in
    let root : slice_range bytes 24 56 ≡ key.root = ap (take 32) behind ∙ take_all 32 key.root (omega arith) in
    let tree : tree_of (ots.number_at 0 bytes) ≡ Some key.tree = ap tree_of first ∙ tree-read key.tree in
    let kind : ots.kind_of (ots.number_at 4 bytes) ≡ Some key.ots = ap ots.kind_of second ∙ ots-read key.ots in
    ap (λ b. if b then key_with bytes (tree_of (ots.number_at 0 bytes)) (ots.kind_of (ots.number_at 4 bytes)) else Err (key_fault.Length (length bytes))) (eq-eqb (length bytes) 56 long)
    ∙ ap (λ t. key_with bytes t (ots.kind_of (ots.number_at 4 bytes))) tree ∙ ap (key_with bytes (Some key.tree)) kind
    ∙ ap (λ i. Ok (record { tree = key.tree; ots = key.ots; id = i; root = slice_range bytes 24 56 })) id
    ∙ ap (λ r. Ok (record { tree = key.tree; ots = key.ots; id = key.id; root = r })) root

abbrev right : PublicKey → Result PublicKey KeyFault
right k = Ok k

key_same : (a b : PublicKey) → right a ≡ right b → a ≡ b
key_same a b e = cc

key_kinds : (bytes : List ℕ) (k : PublicKey) (t : Option TreeKind) (o : Option OtsKind) → length bytes ≡ 56 → ((i : ℕ) → get_or bytes i 0 < 256) → tree_of (ots.number_at 0 bytes) ≡ t → ots.kind_of (ots.number_at 4 bytes) ≡ o → key_with bytes t o ≡ Ok k → AreKey bytes k
key_kinds bytes k None o long below t_is o_is e = cc
key_kinds bytes k (Some t) None long below t_is o_is e = cc
key_kinds bytes k (Some t) (Some o) long below t_is o_is e =
    let made : PublicKey = record { tree = t; ots = o; id = slice_range bytes 8 24; root = slice_range bytes 24 56 } in
    let same : made ≡ k = key_same made k e in
    let spelled = key-spelled bytes long below t (tree_typed (ots.number_at 0 bytes) t t_is) o (ots_typed (ots.number_at 4 bytes) o o_is) in
    let id : length (slice_range bytes 8 24) ≡ 16 = omega (arith, long, length-take 16 (drop 8 bytes), length-drop 8 bytes) in
    let root : length (slice_range bytes 24 56) ≡ 32 = omega (arith, long, length-take 32 (drop 24 bytes), length-drop 24 bytes) in
    let all : AreKey bytes made = record { spelled = spelled; id = id; root = root } in
    subst (AreKey bytes) same all

key_read : (bytes : List ℕ) (k : PublicKey) (b : Bool) → eqb (length bytes) 56 ≡ b → ((i : ℕ) → get_or bytes i 0 < 256) → cond b (key_with bytes (tree_of (ots.number_at 0 bytes)) (ots.kind_of (ots.number_at 4 bytes))) (Err (key_fault.Length (length bytes))) ≡ Ok k → AreKey bytes k
key_read bytes k true is below e = key_kinds bytes k (tree_of (ots.number_at 0 bytes)) (ots.kind_of (ots.number_at 4 bytes)) (eqb-true (length bytes) 56 is) below refl refl e
key_read bytes k false is below e = cc

-- bytes that are read as a key are its own
pub key-are : (bytes : List ℕ) (k : PublicKey) → ((i : ℕ) → get_or bytes i 0 < 256) → key_in bytes ≡ Ok k → AreKey bytes k
unfolding key_in
key-are bytes k below e = key_read bytes k (eqb (length bytes) 56) refl below e

pub key-again : (bytes : List ℕ) (k : PublicKey) → AreKey bytes k → key_in bytes ≡ Ok k
key-again bytes k h = ap key_in h.spelled ∙ key_in-key_bytes k h.id h.root

-- bytes of another length are no key
pub key-long : (bytes : List ℕ) → eqb (length bytes) 56 ≡ false → is_ok (key_in bytes) ≡ false
unfolding key_in
key-long bytes other = rw other refl
