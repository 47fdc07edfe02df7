-- What is derived from a secret, from a key, and from the tag of a recorded world.
use Rattle.std.specs.Prelude.{ℕ, List, [], ◌∷◌, ◌++◌, take, codes}
use Rattle.std.specs.Int.{w16, w32, to_be_bytes}
use Rattle.sha2.specs.Sha256.{sha256}
use Rattle.ff_ids.specs.declared.Group.{Group}
use Rattle.records.specs.Keys.{key_bytes}
use Rattle.sign_keys.specs.declared.kinds.Kinds.{Kinds}
use Rattle.sign_keys.specs.Keys.{KeySecret, height_mark, key_of_kinds, public_key}

unfoldable pub key_id : List ℕ → List ℕ
key_id secret = take 16 (sha256 (codes "FFLMSI" ++ secret))

unfoldable pub key_seed : List ℕ → List ℕ
key_seed secret = sha256 (codes "FFSEED" ++ secret)

-- the key of these kinds that a secret gives
abbrev pub key_from : Kinds → List ℕ → KeySecret
key_from kinds secret = key_of_kinds kinds (key_id secret) (key_seed secret)

-- the seed of a life's nonces, by the next index of the store as the life begins
unfoldable pub nonce_seed : List ℕ → ℕ → List ℕ
nonce_seed secret first = sha256 (codes "FFPING" ++ secret ++ to_be_bytes w32 first)

-- the mark of a store in a group, by the bytes of its key and what else marks it
abbrev pub tag_of : Group → List ℕ → List ℕ → List ℕ
tag_of g key below = sha256 (codes "FFSTAG" ++ g.tag ++ g.t ∷ [] ++ key ++ below)

-- what marks a store as that of a key in a group
unfoldable pub store_tag : Group → KeySecret → List ℕ
store_tag g key = tag_of g (key_bytes (public_key key)) (height_mark key)

-- the secret of a number in the world of this tag
unfoldable pub world_secret : List ℕ → ℕ → List ℕ
world_secret tag number = sha256 (codes "FFWORLD" ++ tag ++ to_be_bytes w16 number)
