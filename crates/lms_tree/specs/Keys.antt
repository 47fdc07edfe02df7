-- A public key as bytes.
use Rattle.std.specs.Prelude.{◌≡◌, ℕ, List, length}
use Rattle.lms_tree.specs.declared.key.PublicKey.{PublicKey}
use Rattle.lms_tree.specs.Lms.{key_bytes}

-- The bytes are the key's: its types, its 16 bytes of name and its 32 bytes of root.
pub record AreKey (bytes : List ℕ) (k : PublicKey) : Type 0 where
  pub spelled : bytes ≡ key_bytes k
  pub id : length k.id ≡ 16
  pub root : length k.root ≡ 32
