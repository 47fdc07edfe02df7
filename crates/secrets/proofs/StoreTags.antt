-- What marks a store has 32 bytes.
use Rattle.std.proofs.Common.{◌≡◌, length}
use Rattle.sha2.proofs.Facts256.{length-sha256}
use Rattle.ff_ids.specs.declared.Group.{Group}
use Rattle.sign_keys.specs.Keys.{KeySecret}
use Rattle.secrets.specs.Secrets.{store_tag}

pub length-store_tag : (g : Group) (key : KeySecret) → length (store_tag g key) ≡ 32
unfolding store_tag
length-store_tag g key = length-sha256 _
