-- What is kept of a node's place in a world.
use Rattle.std.specs.Prelude.{◌≡◌, ℕ, true, false, List, Option, is_some}
use Rattle.ports.specs.MemoryDisk.{DiskState}
use Rattle.records.specs.declared.Body.{Body}
use Rattle.records.specs.declared.keys.Key.{Key}
use Rattle.sign_keys.specs.declared.kinds.Kinds.{Kinds}
use Rattle.sign_keys.specs.declared.key.SignKey.{SignKey}
use Rattle.sign_keys.specs.Keys.{IsNew, index_count, public_key, secret_of}
use Rattle.membership.specs.Life.{has_joined}
use Rattle.validate.specs.Certified.{certificate_of}
use Rattle.node_rules.specs.Lives.{Input}
use Rattle.node_rules.specs.OneExchange.{IsCorrect, Life, node_after}
use Rattle.node_core.specs.Playing.{Kept, IsNode}
use Rattle.world_rules.specs.Keys.{indexes_of}

-- Whose place it is, the kinds of the key and its public half, the key if no life has taken it, the mark of the store, the disk,
-- how many lives began, the node that runs, and what the key has signed.
pub record HostState : Type 0 where
  pub member : ℕ
  pub kinds : Kinds
  pub public : Key
  pub key : Option SignKey
  pub tag : List ℕ
  pub disk : DiskState
  pub lives : ℕ
  pub node : Option Kept
  pub signed : List Body

-- A key that no life has taken: no index of it was handed out, it has as many as keys of these kinds have, and this is its
-- public half.
pub record IsUntaken (kinds : Kinds) (public : Key) (key : SignKey) : Type 0 where
  pub fresh : IsNew key (secret_of key)
  pub indexes : index_count (secret_of key) ≡ indexes_of kinds
  pub half : public_key (secret_of key) ≡ public

-- What is kept stands for what some correct life of the rules has come to by these calls, and none of them has failed.
pub record IsGoing (v : Kept) : Type 0 where
  pub life : Life
  pub inputs : List Input
  pub correct : IsCorrect life
  pub is : IsNode life.setting v (node_after life inputs)
  pub going : v.ended ≡ false

-- Whoever has a certificate there has joined.
abbrev pub HaveJoined : Kept → Type 0
HaveJoined v = (m : ℕ) → is_some (certificate_of v.roster m) ≡ true → has_joined v.membership m ≡ true
