-- How many indexes a key has, by what its certificate says, and how long its signatures are; that these are bytes.
use Rattle.std.proofs.Common.{◌≡◌, ℕ, zero, suc, ◌+◌, ◌*◌, ◌<◌, List, [], ◌∷◌, ◌++◌, length, take, refl, arith, length-append, length-take}
use Rattle.std.specs.Prelude.{codes, nat_le, slice_index}
use Rattle.std.specs.List.{AllByRecursion}
use Rattle.std.specs.Int.{w32, to_be_bytes}
use Rattle.std.proofs.lemmas.Bool.{cond_both}
use Rattle.sha2.specs.Sha256.{digest_bytes, sha256}
use Rattle.sha2.proofs.Facts256.{length-sha256}
use Rattle.hex.specs.Hex.{IsBytes}
use Rattle.lms_ots.specs.declared.kind.OtsKind.{OtsKind}
use Rattle.lms_ots.specs.Ots as ots
use Rattle.lms_ots.proofs.Chains.{length-joined}
use Rattle.lms_ots.proofs.Opening.{length-signature_of}
use Rattle.lms_tree.specs.declared.key.PublicKey.{PublicKey}
use Rattle.lms_tree.specs.declared.secret.Secret.{Secret}
use Rattle.lms_tree.specs.Kinds as trees
use Rattle.lms_tree.specs.Kinds.{height, leaf_count, type_number}
use Rattle.lms_tree.specs.Lms as lms
use Rattle.lms_tree.proofs.Roots.{length-node}
use Rattle.hss.specs.declared.secret.PairSecret.{PairSecret}
use Rattle.hss.specs.Hss as hss
use Rattle.hss.specs.Pairs as pairs
use Rattle.hss.proofs.Keys.{length-key}
use Rattle.sign_keys.specs.Keys.{KeySecret, Lms, Hss, index_count, public_key, signature_length, signature_of}
use Rattle.audit_rules.specs.Heads.{indexes_of, length_of}
use Rattle.shown_laws.specs.Own.{bottom_of}

-- ## What the public half and the kind of the bottom trees say

pub indexes-counted : (key : KeySecret) → indexes_of (public_key key) (bottom_of key) ≡ index_count key
unfolding lms.public_of
indexes-counted (Lms secret) = refl
indexes-counted (Hss pair) = refl

pub length-told : (key : KeySecret) → length_of (public_key key) (bottom_of key) ≡ signature_length key
unfolding lms.public_of
length-told (Lms secret) = refl
length-told (Hss pair) = refl

-- ## How long a signature is

length-randomizer : (s : Secret) (q : ℕ) (message : List ℕ) → length (lms.randomizer s q message) ≡ 32
unfolding lms.randomizer
length-randomizer s q message = length-sha256 _

length-path : (s : Secret) (q i : ℕ) → length (lms.path_of s q i) ≡ 32
unfolding lms.path_of
length-path s q i = length-node s _

length-spelled : (s : Secret) (q : ℕ) (one : List ℕ) (path : ℕ → List ℕ) → length one ≡ ots.signature_length s.ots → ((i : ℕ) → length (path i) ≡ 32)
    → length (lms.signature_bytes s.tree q one path) ≡ trees.signature_length s.tree s.ots
unfolding lms.signature_bytes
length-spelled s q one path long even =
    let number = to_be_bytes w32 q in
    let kind = to_be_bytes w32 (type_number s.tree) in
    let row = ots.joined path (height s.tree) in
    let first : length number ≡ 4 = refl in
    let third : length kind ≡ 4 = refl in
    omega (arith, first, third, long, length-append number one, length-append (number ++ one) kind, length-append (number ++ one ++ kind) row, length-joined path (height s.tree) (λ i below. even i))

length-lms : (s : Secret) (q : ℕ) (message : List ℕ) → length (lms.signature_of s q message) ≡ trees.signature_length s.tree s.ots
unfolding lms.signature_of
length-lms s q message =
    let c = lms.randomizer s q message in
    length-spelled s q (ots.signature_of s.ots s.id q s.seed c message) (lms.path_of s q) (length-signature_of s.ots s.id q s.seed c message (length-randomizer s q message)) (length-path s q)

length-bottom_id : (seed : List ℕ) (q : ℕ) → length (pairs.bottom_id seed q) ≡ 16
unfolding pairs.bottom_id
length-bottom_id seed q =
    let hash = sha256 (codes "FFHSSI" ++ seed ++ to_be_bytes w32 q) in
    omega (arith, length-take 16 hash, length-sha256 (codes "FFHSSI" ++ seed ++ to_be_bytes w32 q))

length-public : (s : Secret) → length s.id ≡ 16 → length (lms.key_bytes (lms.public_of s)) ≡ 56
unfolding lms.public_of
length-public s id = length-key (record { tree = s.tree; ots = s.ots; id = s.id; root = lms.node s 1 }) id (length-node s 1)

length-top : (pair : PairSecret) (q : ℕ) → length (pairs.key_signature_of pair q) ≡ trees.signature_length pair.top pair.ots
unfolding pairs.key_signature_of
length-top pair q = length-lms (pairs.top_secret pair) q (lms.key_bytes (lms.public_of (pairs.bottom_secret pair q)))

length-levels : (top bottom : List ℕ) (key : PublicKey) → length (lms.key_bytes key) ≡ 56 → length (hss.signature_bytes top key bottom) ≡ 60 + length top + length bottom
unfolding hss.signature_bytes
length-levels top bottom key long =
    let count = to_be_bytes w32 1 in
    let first : length count ≡ 4 = refl in
    omega (arith, first, long, length-append count top, length-append (count ++ top) (lms.key_bytes key), length-append (count ++ top ++ lms.key_bytes key) bottom)

length-pair : (pair : PairSecret) (n : ℕ) (message : List ℕ) → length (pairs.signature_of pair n message) ≡ pairs.signature_length pair
unfolding pairs.signature_of
length-pair pair n message =
    let q = pairs.tree_of pair n in
    let below = pairs.bottom_secret pair q in
    let last = lms.signature_of below (pairs.leaf_of pair n) message in
    omega (
      arith,
      length-levels (pairs.key_signature_of pair q) last (lms.public_of below) (length-public below (length-bottom_id pair.seed q)),
      length-top pair q,
      length-lms below (pairs.leaf_of pair n) message,
    )

-- of whatever index
pub signature-long : (key : KeySecret) (index : ℕ) (message : List ℕ) → length (signature_of key index message) ≡ signature_length key
signature-long (Lms secret) index message = length-lms secret index message
signature-long (Hss pair) index message = length-pair pair index message

-- ## A signature is bytes

abbrev AreBytes : List ℕ → Type 0
AreBytes xs = AllByRecursion (λ b. b < 256) xs

bytes-append : (xs ys : List ℕ) → AreBytes xs → AreBytes ys → AreBytes (xs ++ ys)
bytes-append [] ys a b = b
bytes-append (x ∷ xs) ys a b = (a.0, bytes-append xs ys a.1 b)

bytes-word : (n : ℕ) → AreBytes (to_be_bytes w32 n)
bytes-word n = (omega arith, (omega arith, (omega arith, (omega arith, tt))))

bytes-digest : (h : List ℕ) (n : ℕ) → AreBytes (digest_bytes h n)
unfolding digest_bytes
bytes-digest h zero = tt
bytes-digest h (suc n) = bytes-append (digest_bytes h n) (to_be_bytes w32 (slice_index h n)) (bytes-digest h n) (bytes-word (slice_index h n))

bytes-hash : (m : List ℕ) → AreBytes (sha256 m)
unfolding sha256
bytes-hash m = bytes-digest _ 8

bytes-take : (n : ℕ) (xs : List ℕ) → AreBytes xs → AreBytes (take n xs)
bytes-take zero xs h = tt
bytes-take (suc n) [] h = tt
bytes-take (suc n) (x ∷ xs) h = (h.0, bytes-take n xs h.1)

bytes-at : (xs : List ℕ) → AreBytes xs → (i : ℕ) → slice_index xs i < 256
bytes-at [] h i = omega arith
bytes-at (x ∷ xs) h zero = h.0
bytes-at (x ∷ xs) h (suc i) = bytes-at xs h.1 i

bytes-joined : (values : ℕ → List ℕ) (n : ℕ) → ((i : ℕ) → AreBytes (values i)) → AreBytes (ots.joined values n)
unfolding ots.joined
bytes-joined values zero are = tt
bytes-joined values (suc n) are = bytes-append (ots.joined values n) (values n) (bytes-joined values n are) (are n)

bytes-step : (prefix : List ℕ) (j : ℕ) (value : List ℕ) → AreBytes (ots.chain_step prefix j value)
unfolding ots.chain_step
bytes-step prefix j value = bytes-hash _

bytes-chain : (prefix : List ℕ) (j n : ℕ) (value : List ℕ) → AreBytes value → AreBytes (ots.chain prefix j n value)
unfolding ots.chain
bytes-chain prefix j zero value are = are
bytes-chain prefix j (suc n) value are = bytes-step prefix (j + n) _

bytes-secret : (id : List ℕ) (q : ℕ) (seed : List ℕ) (i : ℕ) → AreBytes (ots.secret id q seed i)
unfolding ots.secret
bytes-secret id q seed i = bytes-step _ _ _

bytes-value : (kind : OtsKind) (id : List ℕ) (q : ℕ) (seed hash : List ℕ) (i : ℕ) → AreBytes (ots.signature_value kind id q seed hash i)
unfolding ots.signature_value
bytes-value kind id q seed hash i = bytes-chain _ 0 _ (ots.secret id q seed i) (bytes-secret id q seed i)

bytes-one_time : (kind : OtsKind) (id : List ℕ) (q : ℕ) (seed c message : List ℕ) → AreBytes c → AreBytes (ots.signature_of kind id q seed c message)
unfolding ots.signature_of
bytes-one_time kind id q seed c message are =
    let number = to_be_bytes w32 (ots.type_number kind) in
    let values = ots.signature_value kind id q seed (ots.message_hash id q c message) in
    bytes-append (number ++ c) (ots.joined values (ots.chain_count kind)) (bytes-append number c (bytes-word (ots.type_number kind)) are)
    (bytes-joined values (ots.chain_count kind) (bytes-value kind id q seed (ots.message_hash id q c message)))

bytes-randomizer : (s : Secret) (q : ℕ) (message : List ℕ) → AreBytes (lms.randomizer s q message)
unfolding lms.randomizer
bytes-randomizer s q message = bytes-hash _

bytes-leaf : (s : Secret) (r : ℕ) → AreBytes (lms.leaf s r)
unfolding lms.leaf lms.leaf_hash
bytes-leaf s r = bytes-hash _

bytes-inner : (id : List ℕ) (r : ℕ) (left right : List ℕ) → AreBytes (lms.inner_hash id r left right)
unfolding lms.inner_hash
bytes-inner id r left right = bytes-hash _

bytes-lowest : (s : Secret) (r : ℕ) → AreBytes (lms.node_above s zero r)
unfolding lms.node_above
bytes-lowest s r = bytes-leaf s r

bytes-above : (s : Secret) (n r : ℕ) → AreBytes (lms.node_above s n r)
unfolding lms.node_above
bytes-above s zero r = bytes-lowest s r
bytes-above s (suc n) r =
    cond_both (nat_le (leaf_count s.tree) r) (lms.leaf s r) (lms.inner_hash s.id r (lms.node_above s n (2 * r)) (lms.node_above s n (2 * r + 1))) AreBytes
    (λ low. bytes-leaf s r) (λ high. bytes-inner s.id r (lms.node_above s n (2 * r)) (lms.node_above s n (2 * r + 1)))

bytes-node : (s : Secret) (r : ℕ) → AreBytes (lms.node s r)
unfolding lms.node
bytes-node s r = bytes-above s (height s.tree) r

bytes-path : (s : Secret) (q i : ℕ) → AreBytes (lms.path_of s q i)
unfolding lms.path_of
bytes-path s q i = bytes-node s _

bytes-spelled : (s : Secret) (q : ℕ) (one : List ℕ) (path : ℕ → List ℕ) → AreBytes one → ((i : ℕ) → AreBytes (path i)) → AreBytes (lms.signature_bytes s.tree q one path)
unfolding lms.signature_bytes
bytes-spelled s q one path are each =
    let number = to_be_bytes w32 q in
    let kind = to_be_bytes w32 (type_number s.tree) in
    bytes-append (number ++ one ++ kind) (ots.joined path (height s.tree))
    (bytes-append (number ++ one) kind (bytes-append number one (bytes-word q) are) (bytes-word (type_number s.tree)))
    (bytes-joined path (height s.tree) each)

bytes-lms : (s : Secret) (q : ℕ) (message : List ℕ) → AreBytes (lms.signature_of s q message)
unfolding lms.signature_of
bytes-lms s q message =
    let c = lms.randomizer s q message in
    bytes-spelled s q (ots.signature_of s.ots s.id q s.seed c message) (lms.path_of s q) (bytes-one_time s.ots s.id q s.seed c message (bytes-randomizer s q message)) (bytes-path s q)

bytes-bottom_id : (seed : List ℕ) (q : ℕ) → AreBytes (pairs.bottom_id seed q)
unfolding pairs.bottom_id
bytes-bottom_id seed q = bytes-take 16 _ (bytes-hash _)

bytes-public : (s : Secret) → AreBytes s.id → AreBytes (lms.key_bytes (lms.public_of s))
unfolding lms.public_of lms.key_bytes
bytes-public s id =
    let tree = to_be_bytes w32 (type_number s.tree) in
    let kind = to_be_bytes w32 (ots.type_number s.ots) in
    bytes-append (tree ++ kind ++ s.id) (lms.node s 1) (bytes-append (tree ++ kind) s.id (bytes-append tree kind (bytes-word (type_number s.tree)) (bytes-word (ots.type_number s.ots))) id) (bytes-node s 1)

bytes-top : (pair : PairSecret) (q : ℕ) → AreBytes (pairs.key_signature_of pair q)
unfolding pairs.key_signature_of
bytes-top pair q = bytes-lms (pairs.top_secret pair) q _

bytes-levels : (top bottom : List ℕ) (key : PublicKey) → AreBytes top → AreBytes (lms.key_bytes key) → AreBytes bottom → AreBytes (hss.signature_bytes top key bottom)
unfolding hss.signature_bytes
bytes-levels top bottom key a b c =
    let count = to_be_bytes w32 1 in
    bytes-append (count ++ top ++ lms.key_bytes key) bottom (bytes-append (count ++ top) (lms.key_bytes key) (bytes-append count top (bytes-word 1) a) b) c

bytes-pair : (pair : PairSecret) (n : ℕ) (message : List ℕ) → AreBytes (pairs.signature_of pair n message)
unfolding pairs.signature_of
bytes-pair pair n message =
    let q = pairs.tree_of pair n in
    let below = pairs.bottom_secret pair q in
    bytes-levels (pairs.key_signature_of pair q) (lms.signature_of below (pairs.leaf_of pair n) message) (lms.public_of below)
    (bytes-top pair q) (bytes-public below (bytes-bottom_id pair.seed q)) (bytes-lms below (pairs.leaf_of pair n) message)

pub signature-bytes : (key : KeySecret) (index : ℕ) (message : List ℕ) → IsBytes (signature_of key index message)
signature-bytes (Lms secret) index message = bytes-at _ (bytes-lms secret index message)
signature-bytes (Hss pair) index message = bytes-at _ (bytes-pair pair index message)
