-- Pairs: the key of a top tree whose leaves sign the keys of bottom trees, each of them made from the pair's own seed.
use Rattle.std.specs.Prelude.{◌≡◌, ℕ, ◌+◌, ◌/◌, ◌%◌, ◌^◌, ◌<◌, ◌==◌, if◌then◌else◌, List, ◌++◌, take, codes, Option, Some}
use Rattle.std.specs.Int.{w32, to_be_bytes}
use Rattle.sha2.specs.Sha256.{sha256}
use Rattle.lms_tree.specs.declared.secret.Secret.{Secret}
use Rattle.lms_tree.specs.Kinds as kinds
use Rattle.lms_tree.specs.Kinds.{height, leaf_count}
use Rattle.lms_tree.specs.Lms as lms
use Rattle.hss.specs.Keys.{TwoLevelKey}
use Rattle.hss.specs.declared.secret.PairSecret.{PairSecret}
use Rattle.hss.specs.Hss.{signature_bytes, key_part, top_in}

-- ---- the trees

-- the top tree
abbrev pub top_secret : PairSecret → Secret
top_secret pair = record { tree = pair.top; ots = pair.ots; id = pair.id; seed = pair.seed }

-- I of bottom tree q0: the first 16 bytes of H("FFHSSI" || SEED || u32str(q0))
unfoldable pub bottom_id : List ℕ → ℕ → List ℕ
bottom_id seed q = take 16 (sha256 (codes "FFHSSI" ++ seed ++ to_be_bytes w32 q))

-- SEED of bottom tree q0: H("FFHSSS" || SEED || u32str(q0))
unfoldable pub bottom_seed : List ℕ → ℕ → List ℕ
bottom_seed seed q = sha256 (codes "FFHSSS" ++ seed ++ to_be_bytes w32 q)

-- bottom tree q0
abbrev pub bottom_secret : PairSecret → ℕ → Secret
bottom_secret pair q =
    record { tree = pair.bottom; ots = pair.ots; id = bottom_id pair.seed q; seed = bottom_seed pair.seed q }

-- the public half of a pair: that of its top tree
abbrev pub public_of : PairSecret → TwoLevelKey
public_of pair = record { top = lms.public_of (top_secret pair) }

-- ---- indexes: n = q0 * 2^h1 + q1 is leaf q1 of bottom tree q0, whose key top leaf q0 signs

-- how many indexes a pair has
abbrev pub index_count : PairSecret → ℕ
index_count pair = 2 ^ (height pair.top + height pair.bottom)

-- q0
abbrev pub tree_of : PairSecret → ℕ → ℕ
tree_of pair n = n / leaf_count pair.bottom

-- q1
abbrev pub leaf_of : PairSecret → ℕ → ℕ
leaf_of pair n = n % leaf_count pair.bottom

-- ---- signatures

-- top leaf q0 signs the public key of bottom tree q0, and nothing else
unfoldable pub key_signature_of : PairSecret → ℕ → List ℕ
key_signature_of pair q = lms.signature_of (top_secret pair) q (lms.key_bytes (lms.public_of (bottom_secret pair q)))

-- the signature of a message with index n
unfoldable pub signature_of : PairSecret → ℕ → List ℕ → List ℕ
signature_of pair n message =
    signature_bytes (key_signature_of pair (tree_of pair n)) (lms.public_of (bottom_secret pair (tree_of pair n)))
    (lms.signature_of (bottom_secret pair (tree_of pair n)) (leaf_of pair n) message)

-- the bytes of a pair's signatures
abbrev pub signature_length : PairSecret → ℕ
signature_length pair = 60 + kinds.signature_length pair.top pair.ots + kinds.signature_length pair.bottom pair.ots

-- what stands in front of the bottom tree's signature: u32str(1) || sig[0] || pub[1]
abbrev pub front_of : PairSecret → ℕ → List ℕ
front_of pair q = to_be_bytes w32 1 ++ key_signature_of pair q ++ lms.key_bytes (lms.public_of (bottom_secret pair q))

-- ---- what is left of a pair

-- the indexes of a pair from one on, and which bottom tree was made last
pub record PairState : Type 0 where
  pub key : PairSecret
  pub next : ℕ
  pub made : Option ℕ

-- one index of a pair
pub record PairIndex : Type 0 where
  pub key : PairSecret
  pub index : ℕ

-- the bottom tree of the next index is made, if there is one
abbrev pub prepared : PairState → PairState
prepared pair =
    if pair.next == index_count pair.key then pair else record pair { made = Some (tree_of pair.key pair.next) }

-- ---- what signs once

-- In the signature top leaf q signs the public key of bottom tree q, and that key stands behind it.
pub record TopSigns (pair : PairSecret) (q : ℕ) (signature : List ℕ) : Type 0 where
  pub top : top_in (public_of pair) signature ≡ lms.signature_of (top_secret pair) q (lms.key_bytes (lms.public_of (bottom_secret pair q)))
  pub key : key_part (public_of pair) signature ≡ lms.key_bytes (lms.public_of (bottom_secret pair q))

-- So it is in each signature with an index of tree q, whatever the message, and however often the pair was made again.
abbrev pub TopSignsOneKey : Type 0
TopSignsOneKey =
    (pair : PairSecret) (n : ℕ) (message : List ℕ) → n < index_count pair → TopSigns pair (tree_of pair n) (signature_of pair n message)

-- two indexes have no leaf of one bottom tree in common
abbrev pub LeavesDiffer : Type 0
LeavesDiffer =
    (pair : PairSecret) (n m : ℕ) → tree_of pair n ≡ tree_of pair m → leaf_of pair n ≡ leaf_of pair m → n ≡ m
