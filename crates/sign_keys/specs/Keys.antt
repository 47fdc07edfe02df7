-- Keys that sign, of one level or of two: what determines one, and what follows from that.
use Rattle.std.specs.Prelude.{◌≡◌, ℕ, List, [], ◌∷◌, Option, Some, None}
use Rattle.lms_ots.specs.declared.kind.OtsKind.{OtsKind}
use Rattle.lms_tree.specs.declared.kind.TreeKind.{TreeKind}
use Rattle.lms_tree.specs.declared.secret.Secret.{Secret}
use Rattle.lms_tree.specs.Kinds as trees
use Rattle.lms_tree.specs.Leaves as leaves
use Rattle.lms_tree.specs.Lms as lms
use Rattle.hss.specs.declared.secret.PairSecret.{PairSecret}
use Rattle.hss.specs.Pairs as pairs
use Rattle.records.specs.declared.keys.Key.{Key}
use Rattle.records.specs.declared.keys.Key.TheVariants as keys
use Rattle.sign_keys.specs.declared.kinds.Kinds.{Kinds}
use Rattle.sign_keys.specs.declared.key.SignKey.{SignKey}
use Rattle.sign_keys.specs.declared.key.SignKey.TheVariants as sign

-- all that determines a key
pub data KeySecret : Type 0 where
  Lms : Secret → KeySecret
  Hss : PairSecret → KeySecret

-- the public half
abbrev pub public_key : KeySecret → Key
public_key (Lms secret) = keys.Lms (lms.public_of secret)
public_key (Hss pair) = keys.Hss (pairs.public_of pair)

-- how many indexes it has
abbrev pub index_count : KeySecret → ℕ
index_count (Lms secret) = leaves.index_count secret
index_count (Hss pair) = pairs.index_count pair

-- the bytes of a signature
abbrev pub signature_length : KeySecret → ℕ
signature_length (Lms secret) = trees.signature_length secret.tree secret.ots
signature_length (Hss pair) = pairs.signature_length pair

-- the signature of a message with this index
abbrev pub signature_of : KeySecret → ℕ → List ℕ → List ℕ
signature_of (Lms secret) index message = lms.signature_of secret index message
signature_of (Hss pair) index message = pairs.signature_of pair index message

-- the height of the bottom trees, which the public half doesn't show; a key of one level has none
abbrev pub height_below : KeySecret → Option ℕ
height_below (Lms secret) = None
height_below (Hss pair) = Some (trees.height pair.bottom)

-- the byte of a height, if there is one
abbrev pub height_byte : Option ℕ → List ℕ
height_byte None = []
height_byte (Some height) = height ∷ []

-- the height of the bottom trees in a byte, by which a store is marked beside the key; nothing of a key of one level
abbrev pub height_mark : KeySecret → List ℕ
height_mark key = height_byte (height_below key)

-- Of a key of two levels: in a signature with this index, which is of bottom tree q, top leaf q signs the public key of
-- that tree, which stands behind it. So it signs one message, whatever is signed with the index and however often the key
-- is made again.
abbrev pub TopSignsTree : KeySecret → ℕ → List ℕ → Type 0
TopSignsTree (Lms secret) index signature = Unit {0}
TopSignsTree (Hss pair) index signature = pairs.TopSigns pair (pairs.tree_of pair index) signature

-- The key of these kinds with this identifier and this seed; a bottom tree's are made from the seed.
abbrev pub key_of : OtsKind → TreeKind → Option TreeKind → List ℕ → List ℕ → KeySecret
key_of ots tree None id seed = Lms (record { tree = tree; ots = ots; id = id; seed = seed })
key_of ots tree (Some bottom) id seed = Hss (record { top = tree; bottom = bottom; ots = ots; id = id; seed = seed })

abbrev pub key_of_kinds : Kinds → List ℕ → List ℕ → KeySecret
key_of_kinds k id seed = key_of k.ots k.tree k.bottom id seed

-- ---- a key at hand, with its indexes that are left

-- what determines it
abbrev pub secret_of : SignKey → KeySecret
secret_of (sign.Lms tree left) = Lms tree
secret_of (sign.Hss pair) = Hss pair.key

-- its next index
abbrev pub next_of : SignKey → ℕ
next_of (sign.Lms tree left) = left.next
next_of (sign.Hss pair) = pair.next

-- The leaves are those of the tree.
abbrev pub IsOfOneKey : SignKey → Type 0
IsOfOneKey (sign.Lms tree left) = left.key ≡ tree
IsOfOneKey (sign.Hss pair) = Unit {0}

-- The next index can sign at once: of a pair its bottom tree is the one that was made last.
abbrev pub IsPrepared : SignKey → Type 0
IsPrepared (sign.Lms tree left) = Unit {0}
IsPrepared (sign.Hss pair) = pair.made ≡ Some (pairs.tree_of pair.key pair.next)

-- No bottom tree of it was made.
abbrev pub IsUnmade : SignKey → Type 0
IsUnmade (sign.Lms tree left) = Unit {0}
IsUnmade (sign.Hss pair) = pair.made ≡ None

-- It is this key, of which no index was handed out.
pub record IsNew (key : SignKey) (secret : KeySecret) : Type 0 where
  pub is : secret_of key ≡ secret
  pub first : next_of key ≡ 0
  pub one : IsOfOneKey key
  pub unmade : IsUnmade key

-- the same, as a value
abbrev pub new_key : KeySecret → SignKey
new_key (Lms secret) = sign.Lms secret (record { key = secret; next = 0 })
new_key (Hss pair) = sign.Hss (record { key = pair; next = 0; made = None })
