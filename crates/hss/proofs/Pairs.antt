-- What a pair signs, and that it verifies.
use Rattle.std.proofs.Common.{◌≡◌, ℕ, ◌+◌, ◌/◌, ◌%◌, ◌^◌, ◌<◌, true, List, ◌++◌, length, Some, Option, refl, sym, ap, subst, ◌∙◌, arith, length-append, length-take, append_assoc}
use Rattle.std.specs.Int.{w32, to_be_bytes}
use Rattle.std.specs.Prelude.{codes, slice_range}
use Rattle.std.specs.Option.{option_map}
use Rattle.sha2.specs.Sha256.{sha256}
use Rattle.sha2.proofs.Facts256.{length-sha256}
use Rattle.lms_tree.specs.declared.key.PublicKey.{PublicKey}
use Rattle.lms_tree.specs.declared.kind.TreeKind.{TreeKind}
use Rattle.lms_tree.specs.declared.kind.TreeKind.TheVariants.{H5, H10, H15}
use Rattle.lms_tree.specs.declared.secret.Secret.{Secret}
use Rattle.lms_tree.specs.Kinds as kinds
use Rattle.lms_tree.specs.Kinds.{height, leaf_count}
use Rattle.lms_tree.specs.Keys.{AreKey}
use Rattle.lms_tree.specs.Lms as lms
use Rattle.lms_tree.proofs.Parts.{middle}
use Rattle.lms_tree.proofs.Roots.{length-node}
use Rattle.lms_tree.proofs.Signatures.{signature-verifies}
use Rattle.lms_tree.proofs.Verdicts.{verifies-length}
use Rattle.hss.specs.declared.bottom.Bottom.{Bottom}
use Rattle.hss.specs.declared.secret.PairSecret.{PairSecret}
use Rattle.hss.specs.Keys.{is_in_profile}
use Rattle.hss.specs.Hss.{HssVerifies, key_place, signature_bytes}
use Rattle.hss.specs.Pairs.{LeavesDiffer, TopSignsOneKey, bottom_id, bottom_secret, front_of, index_count, key_signature_of, leaf_of, public_of, signature_of, top_secret, tree_of}
use Rattle.hss.specs.Trees.{IsHeld, IsTree}
use Rattle.hss.proofs.Keys.{length-key}

-- ---- indexes

tree_within : (top bottom : TreeKind) (n : ℕ) → n < 2 ^ (height top + height bottom) → n / leaf_count bottom < leaf_count top
tree_within H5 H5 n below = omega arith
tree_within H5 H10 n below = omega arith
tree_within H5 H15 n below = omega arith
tree_within H10 H5 n below = omega arith
tree_within H10 H10 n below = omega arith
tree_within H10 H15 n below = omega arith
tree_within H15 H5 n below = omega arith
tree_within H15 H10 n below = omega arith
tree_within H15 H15 n below = omega arith

leaf_within : (bottom : TreeKind) (n : ℕ) → n % leaf_count bottom < leaf_count bottom
leaf_within H5 n = omega arith
leaf_within H10 n = omega arith
leaf_within H15 n = omega arith

pub tree-within : (pair : PairSecret) (n : ℕ) → n < index_count pair → tree_of pair n < leaf_count pair.top
tree-within pair n below = tree_within pair.top pair.bottom n below

pub leaf-within : (pair : PairSecret) (n : ℕ) → leaf_of pair n < leaf_count pair.bottom
leaf-within pair n = leaf_within pair.bottom n

-- ---- keys

length-bottom_id : (seed : List ℕ) (q : ℕ) → length (bottom_id seed q) ≡ 16
unfolding bottom_id
length-bottom_id seed q =
    let hash = sha256 (codes "FFHSSI" ++ seed ++ to_be_bytes w32 q) in
    omega (arith, length-take 16 hash, length-sha256 (codes "FFHSSI" ++ seed ++ to_be_bytes w32 q))

public_are : (s : Secret) → length s.id ≡ 16 → AreKey (lms.key_bytes (lms.public_of s)) (lms.public_of s)
unfolding lms.public_of
public_are s id = record { spelled = refl; id = id; root = length-node s 1 }

length-public : (s : Secret) → length s.id ≡ 16 → length (lms.key_bytes (lms.public_of s)) ≡ 56
length-public s id = let are = public_are s id in length-key (lms.public_of s) are.id are.root

pub public-kinds : (s : Secret)
    → kinds.signature_length (lms.public_of s).tree (lms.public_of s).ots ≡ kinds.signature_length s.tree s.ots
unfolding lms.public_of
public-kinds s = refl

public_profile : (s : Secret) → is_in_profile s.ots ≡ true → is_in_profile (lms.public_of s).ots ≡ true
unfolding lms.public_of
public_profile s e = e

length-signature : (s : Secret) (q : ℕ) (message : List ℕ) → q < leaf_count s.tree
    → length (lms.signature_of s q message) ≡ kinds.signature_length s.tree s.ots
length-signature s q message within =
    verifies-length (lms.public_of s) message (lms.signature_of s q message) (signature-verifies s q message within) ∙ public-kinds s

-- ---- signatures

pub length-front : (pair : PairSecret) (q : ℕ) → q < leaf_count pair.top
    → length (front_of pair q) ≡ 60 + kinds.signature_length pair.top pair.ots
unfolding key_signature_of
length-front pair q within =
    let bytes = lms.key_bytes (lms.public_of (bottom_secret pair q)) in
    omega (
      arith,
      length-append (to_be_bytes w32 1 ++ key_signature_of pair q) bytes,
      length-append (to_be_bytes w32 1) (key_signature_of pair q),
      length-signature (top_secret pair) q bytes within,
      length-public (bottom_secret pair q) (length-bottom_id pair.seed q),
    )

-- the front and the bottom tree's signature
pub signature-is : (pair : PairSecret) (n : ℕ) (message : List ℕ)
    → front_of pair (tree_of pair n) ++ lms.signature_of (bottom_secret pair (tree_of pair n)) (leaf_of pair n) message
    ≡ signature_of pair n message
unfolding signature_of signature_bytes
signature-is pair n message = refl

-- every signature of a pair verifies
pub pair-verifies : (pair : PairSecret) (n : ℕ) (message : List ℕ) → n < index_count pair → is_in_profile pair.ots ≡ true
    → HssVerifies (public_of pair) message (signature_of pair n message)
unfolding signature_of key_signature_of
pair-verifies pair n message within profile =
    let q = tree_of pair n in
    let bottom = bottom_secret pair q in
    let key = lms.public_of bottom in
    record {
      top = key_signature_of pair q;
      bottom_key = key;
      bottom = lms.signature_of bottom (leaf_of pair n) message;
      is_key = public_are bottom (length-bottom_id pair.seed q);
      key_in_profile = public_profile (top_secret pair) profile;
      in_profile = public_profile bottom profile;
      spelled = refl;
      signs_key = signature-verifies (top_secret pair) q (lms.key_bytes key) (tree-within pair n within);
      signs_message = signature-verifies bottom (leaf_of pair n) message (leaf-within pair n);
    }

-- ---- the tree that is made

pub front-made : (pair : PairSecret) (q i : ℕ) (front : List ℕ) (top bottom : Secret) (key : PublicKey)
    → top ≡ top_secret pair → bottom ≡ bottom_secret pair q → i ≡ q → key ≡ lms.public_of bottom
    → front ≡ to_be_bytes w32 1 ++ lms.signature_of top i (lms.key_bytes key) ++ lms.key_bytes key
    → front ≡ front_of pair q
unfolding key_signature_of
front-made pair q i front top bottom key is_top is_bottom is_leaf is_key is =
    let same : key ≡ lms.public_of (bottom_secret pair q) = is_key ∙ ap lms.public_of is_bottom in
    is ∙ ap (λ k. to_be_bytes w32 1 ++ lms.signature_of top i (lms.key_bytes k) ++ lms.key_bytes k) same
    ∙ ap (λ t. to_be_bytes w32 1 ++ lms.signature_of t i (lms.key_bytes (lms.public_of (bottom_secret pair q))) ++ lms.key_bytes (lms.public_of (bottom_secret pair q))) is_top
    ∙ ap (λ j. to_be_bytes w32 1 ++ lms.signature_of (top_secret pair) j (lms.key_bytes (lms.public_of (bottom_secret pair q))) ++ lms.key_bytes (lms.public_of (bottom_secret pair q))) is_leaf

-- the tree in the pair's hand
pub record Hand (pair : PairSecret) (n : ℕ) (b : Bottom) : Type 0 where
  pub number : b.number ≡ tree_of pair n
  pub tree : IsTree pair b

abbrev there : ℕ → Option ℕ
there n = Some n

there_is : (a b : ℕ) → there a ≡ there b → a ≡ b
there_is a b e = cc

pub hand-is : (pair : PairSecret) (next risen n : ℕ) (hand : Option Bottom) (b : Bottom) → IsHeld pair next risen hand
    → hand ≡ Some b → option_map (λ b. b.number) hand ≡ Some (tree_of pair n) → Hand pair n b
hand-is pair next risen n hand b held is made =
    let here : IsHeld pair next risen (Some b) = subst (IsHeld pair next risen) is held in
    record {
      number = there_is b.number (tree_of pair n) (ap (option_map (λ b. b.number)) (sym is) ∙ made);
      tree = here.1.tree;
    }

pub hand-long : (pair : PairSecret) (n : ℕ) (b : Bottom) → Hand pair n b → n < index_count pair
    → length b.front.items + kinds.signature_length b.tree.tree b.tree.ots
    ≡ 60 + kinds.signature_length pair.top pair.ots + kinds.signature_length pair.bottom pair.ots
hand-long pair n b hand within =
    let tree : kinds.signature_length b.tree.tree b.tree.ots ≡ kinds.signature_length pair.bottom pair.ots =
    ap (λ (s : Secret). kinds.signature_length s.tree s.ots) hand.tree.tree in
    omega (arith, tree, ap length hand.tree.front, length-front pair b.number (subst (λ q. q < leaf_count pair.top) (sym hand.number) (tree-within pair n within)))

pub hand-signs : (pair : PairSecret) (n : ℕ) (b : Bottom) (message : List ℕ) → Hand pair n b
    → b.front.items ++ lms.signature_of b.tree (leaf_of pair n) message ≡ signature_of pair n message
hand-signs pair n b message hand =
    ap (λ f. f ++ lms.signature_of b.tree (leaf_of pair n) message) hand.tree.front
    ∙ ap (λ t. front_of pair b.number ++ lms.signature_of t (leaf_of pair n) message) hand.tree.tree
    ∙ ap (λ q. front_of pair q ++ lms.signature_of (bottom_secret pair q) (leaf_of pair n) message) hand.number
    ∙ signature-is pair n message

-- ---- what signs once

pub top-signs-one-key : TopSignsOneKey
unfolding signature_of signature_bytes key_signature_of
top-signs-one-key pair n message within =
    let q = tree_of pair n in
    let one = to_be_bytes w32 1 in
    let top = key_signature_of pair q in
    let bytes = lms.key_bytes (lms.public_of (bottom_secret pair q)) in
    let bottom = lms.signature_of (bottom_secret pair q) (leaf_of pair n) message in
    let long = length-signature (top_secret pair) q bytes (tree-within pair n within) in
    let place = key_place (public_of pair) in
    let kinds : place ≡ 4 + kinds.signature_length pair.top pair.ots = ap (λ k. 4 + k) (public-kinds (top_secret pair)) in
    let key_long : length bytes ≡ 56 = length-public (bottom_secret pair q) (length-bottom_id pair.seed q) in
    record {
      top = ap (λ s. slice_range s 4 place) (append_assoc (one ++ top) bytes bottom) ∙ middle one top (bytes ++ bottom) 4 place refl (omega arith);
      key = middle (one ++ top) bytes bottom place (place + 56) (omega (arith, length-append one top)) (omega arith);
    }

leaves_differ : (bottom : TreeKind) (n m : ℕ) → n / leaf_count bottom ≡ m / leaf_count bottom
    → n % leaf_count bottom ≡ m % leaf_count bottom → n ≡ m
leaves_differ H5 n m trees leaves = omega arith
leaves_differ H10 n m trees leaves = omega arith
leaves_differ H15 n m trees leaves = omega arith

pub leaves-differ : LeavesDiffer
leaves-differ pair n m trees leaves = leaves_differ pair.bottom n m trees leaves
