-- What an authority keeps.
use Rattle.std.specs.Prelude.{List, Option}
use Rattle.ff_ids.specs.declared.Group.{Group}
use Rattle.ff_ids.specs.Heals.{Heal}
use Rattle.lms_tree.specs.declared.key.PublicKey.{PublicKey}
use Rattle.records.specs.Signing.{CheckedRecord}

-- The group, whether nodes that lost each other are to come together again, the authority's key, and the certificates that
-- it has signed.
pub record Certifying : Type 0 where
  pub group : Group
  pub heal : Option Heal
  pub key : PublicKey
  pub certificates : List CheckedRecord
