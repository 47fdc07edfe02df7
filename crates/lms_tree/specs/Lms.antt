-- LMS signatures (RFC 8554, section 5) over SHA-256 with m = 32, as functions on lists of bytes.
-- Section numbers are the RFC's. I is the tree's identifier of 16 bytes, q a leaf's number, r a
-- node's number: the root is node 1, and below node r are the nodes 2r and 2r + 1.
use Rattle.std.specs.Prelude.{◌≡◌, ℕ, zero, suc, ◌+◌, ◌-◌, ◌*◌, ◌/◌, ◌%◌, ◌^◌, ◌==◌, ◌<◌, nat_lt, nat_le, if◌then◌else◌, List, ◌++◌, length, slice_range, bytes_eq, codes, Result, Ok, Err, Option, Some, None}
use Rattle.std.specs.Int.{w16, w32, to_be_bytes}
use Rattle.sha2.specs.Sha256.{sha256}
use Rattle.lms_ots.specs.declared.kind.OtsKind.{OtsKind}
use Rattle.lms_ots.specs.Ots as ots
use Rattle.lms_tree.specs.declared.kind.TreeKind.{TreeKind}
use Rattle.lms_tree.specs.declared.kind.TreeKind.TheVariants.{H5, H10, H15}
use Rattle.lms_tree.specs.declared.kind.KeyFault.{KeyFault}
use Rattle.lms_tree.specs.declared.kind.KeyFault.TheVariants as key_fault
use Rattle.lms_tree.specs.declared.kind.SigFault.{SigFault}
use Rattle.lms_tree.specs.declared.kind.SigFault.TheVariants as sig_fault
use Rattle.lms_tree.specs.declared.key.PublicKey.{PublicKey}
use Rattle.lms_tree.specs.declared.secret.Secret.{Secret}
use Rattle.lms_tree.specs.Kinds.{type_number, height, leaf_count, signature_length}

-- ---- nodes (5.3)

-- D_LEAF, before the one-time key of a leaf
abbrev pub d_leaf : ℕ
d_leaf = 0x8282

-- D_INTR, before the two nodes below an inner one
abbrev pub d_intr : ℕ
d_intr = 0x8383

-- a leaf: H(I || u32str(r) || u16str(D_LEAF) || K)
unfoldable pub leaf_hash : List ℕ → ℕ → List ℕ → List ℕ
leaf_hash id r k = sha256 (id ++ to_be_bytes w32 r ++ to_be_bytes w16 d_leaf ++ k)

-- an inner node: H(I || u32str(r) || u16str(D_INTR) || left || right)
unfoldable pub inner_hash : List ℕ → ℕ → List ℕ → List ℕ → List ℕ
inner_hash id r left right =
    sha256 (id ++ to_be_bytes w32 r ++ to_be_bytes w16 d_intr ++ left ++ right)

-- the leaf at node r, whose one-time key is that of leaf r - 2^h
unfoldable pub leaf : Secret → ℕ → List ℕ
leaf secret r =
    leaf_hash secret.id r (ots.public_value secret.ots secret.id (r - leaf_count secret.tree) secret.seed)

-- the node r of a tree whose leaves are at most n levels below it
unfoldable pub node_above : Secret → ℕ → ℕ → List ℕ
node_above secret zero r = leaf secret r
node_above secret (suc n) r =
    if nat_le (leaf_count secret.tree) r then leaf secret r
    else inner_hash secret.id r (node_above secret n (2 * r)) (node_above secret n (2 * r + 1))

-- T[r]
unfoldable pub node : Secret → ℕ → List ℕ
node secret r = node_above secret (height secret.tree) r

-- ---- public keys (5.3)

-- the public half of a key
unfoldable pub public_of : Secret → PublicKey
public_of secret = record { tree = secret.tree; ots = secret.ots; id = secret.id; root = node secret 1 }

-- u32str(type) || u32str(otstype) || I || T[1]
unfoldable pub key_bytes : PublicKey → List ℕ
key_bytes key =
    to_be_bytes w32 (type_number key.tree) ++ to_be_bytes w32 (ots.type_number key.ots) ++ key.id ++ key.root

-- the kind of this number
abbrev pub tree_of : ℕ → Option TreeKind
tree_of number =
    if number == 5 then Some H5 else (if number == 6 then Some H10 else (if number == 7 then Some H15 else None))

-- the key in 56 bytes
abbrev pub key_with : List ℕ → Option TreeKind → Option OtsKind → Result PublicKey KeyFault
key_with bytes None _ = Err (key_fault.TreeType (ots.number_at 0 bytes))
key_with bytes (Some tree) None = Err (key_fault.OtsType (ots.number_at 4 bytes))
key_with bytes (Some tree) (Some kind) =
    Ok (record { tree = tree; ots = kind; id = slice_range bytes 8 24; root = slice_range bytes 24 56 })

-- the key in these bytes, or why they are none
unfoldable pub key_in : List ℕ → Result PublicKey KeyFault
key_in bytes =
    if length bytes == 56 then key_with bytes (tree_of (ots.number_at 0 bytes)) (ots.kind_of (ots.number_at 4 bytes))
    else Err (key_fault.Length (length bytes))

-- ---- the root from a signature (5.4.2, algorithm 6a)

-- the parent of node n of this value, whose sibling has the other value
unfoldable pub parent : List ℕ → ℕ → List ℕ → List ℕ → List ℕ
parent id n value sibling =
    if n % 2 == 1 then inner_hash id (n / 2) sibling value else inner_hash id (n / 2) value sibling

-- the value reached from node n of this value after k levels, path i being the sibling at height i
unfoldable pub climb : List ℕ → (ℕ → List ℕ) → ℕ → List ℕ → ℕ → List ℕ
climb id path n value zero = value
climb id path n value (suc k) = parent id (n / 2 ^ k) (climb id path n value k) (path k)

-- the root of the tree in which leaf q has the one-time key K and this path
unfoldable pub root_from : TreeKind → List ℕ → ℕ → List ℕ → (ℕ → List ℕ) → List ℕ
root_from tree id q k path =
    let n = leaf_count tree + q in climb id path n (leaf_hash id n k) (height tree)

-- ---- what verifies (5.4)

-- u32str(otstype) || C || y[0] || .. || y[p-1]
unfoldable pub ots_bytes : OtsKind → List ℕ → (ℕ → List ℕ) → List ℕ
ots_bytes kind c y = to_be_bytes w32 (ots.type_number kind) ++ c ++ ots.joined y (ots.chain_count kind)

-- u32str(q) || ots_signature || u32str(type) || path[0] || .. || path[h-1]
unfoldable pub signature_bytes : TreeKind → ℕ → List ℕ → (ℕ → List ℕ) → List ℕ
signature_bytes tree q one_time path =
    to_be_bytes w32 q ++ one_time ++ to_be_bytes w32 (type_number tree) ++ ots.joined path (height tree)

-- each of the first n is a hash
abbrev pub AreHashes : ℕ → (ℕ → List ℕ) → Type 0
AreHashes n values = (i : ℕ) → i < n → length (values i) ≡ 32

-- the bytes are a signature of the message under the key: they spell some (q, C, y, path) with the
-- key's two types, the tree has the leaf q, and the root computed is the key's
pub record Verifies (key : PublicKey) (message signature : List ℕ) : Type 0 where
  pub q : ℕ
  pub c : List ℕ
  pub y : ℕ → List ℕ
  pub path : ℕ → List ℕ
  pub has_leaf : q < leaf_count key.tree
  pub c_is_hash : length c ≡ 32
  pub y_are_hashes : AreHashes (ots.chain_count key.ots) y
  pub path_is_hashes : AreHashes (height key.tree) path
  pub spelled : signature ≡ signature_bytes key.tree q (ots_bytes key.ots c y) path
  pub opens : root_from key.tree key.id q (ots.candidate_from key.ots key.id q message c y) path ≡ key.root

-- ---- verifying: the parts of a signature that has the length of the key's kinds

abbrev pub index_in : List ℕ → ℕ
index_in signature = ots.number_at 0 signature

abbrev pub one_time_in : OtsKind → List ℕ → List ℕ
one_time_in kind signature = slice_range signature 4 (4 + ots.signature_length kind)

abbrev pub tree_type_in : OtsKind → List ℕ → ℕ
tree_type_in kind signature = ots.number_at (4 + ots.signature_length kind) signature

abbrev pub sibling_in : OtsKind → List ℕ → ℕ → List ℕ
sibling_in kind signature i =
    let place = 8 + ots.signature_length kind + 32 * i in slice_range signature place (place + 32)

-- the root computed from a signature
unfoldable pub root_in : PublicKey → List ℕ → List ℕ → List ℕ
root_in key message signature =
    root_from key.tree key.id (index_in signature)
    (ots.candidate_value key.ots key.id (index_in signature) message (one_time_in key.ots signature))
    (sibling_in key.ots signature)

-- whether the signature is good under the key, or the first reason why it is not
unfoldable pub verdict_of : PublicKey → List ℕ → List ℕ → Result (Unit {0}) SigFault
verdict_of key message signature =
    if length signature == signature_length key.tree key.ots then
    (if tree_type_in key.ots signature == type_number key.tree then
    (if ots.number_at 4 signature == ots.type_number key.ots then
    (if nat_lt (index_in signature) (leaf_count key.tree) then
    (if bytes_eq (root_in key message signature) key.root then Ok tt
    else Err sig_fault.Root)
    else Err (sig_fault.Index (index_in signature)))
    else Err (sig_fault.OtsType (ots.number_at 4 signature)))
    else Err (sig_fault.TreeType (tree_type_in key.ots signature)))
    else Err (sig_fault.Length (length signature))

-- ---- signing (5.4.1)

-- the other child of node n's parent
abbrev pub sibling : ℕ → ℕ
sibling n = if n % 2 == 1 then n - 1 else n + 1

-- path[i] of leaf q: the sibling at height i
unfoldable pub path_of : Secret → ℕ → ℕ → List ℕ
path_of secret q i = node secret (sibling ((leaf_count secret.tree + q) / 2 ^ i))

-- the randomizer C of a message that leaf q signs
unfoldable pub randomizer : Secret → ℕ → List ℕ → List ℕ
randomizer secret q message = sha256 (codes "FFRAND" ++ secret.seed ++ to_be_bytes w32 q ++ message)

-- the signature of a message by leaf q
unfoldable pub signature_of : Secret → ℕ → List ℕ → List ℕ
signature_of secret q message =
    signature_bytes secret.tree q
    (ots.signature_of secret.ots secret.id q secret.seed (randomizer secret q message) message)
    (path_of secret q)
