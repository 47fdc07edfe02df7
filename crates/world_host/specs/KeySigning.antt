-- Signatures with a key of a world.
use Rattle.std.specs.Prelude.{◌≡◌, ◌+◌, ℕ, Option, Some, None, Result, Ok, Err}
use Rattle.ff_ids.specs.declared.Group.{Group}
use Rattle.fields.specs.declared.NoMemory.{NoMemory}
use Rattle.records.specs.declared.Body.{Body}
use Rattle.records.specs.Signing.{CheckedRecord}
use Rattle.sign_keys.specs.Keys.{KeySecret, index_count}
use Rattle.signer.specs.Signing.{signed_by}

-- A key, and its next index.
pub record KeyState : Type 0 where
  pub key : KeySecret
  pub next : ℕ

-- The next index was spent on the body; none is left; or memory was refused, and no index was spent.
abbrev pub SignsNext : Group → KeyState → KeyState → Body → Result (Option CheckedRecord) NoMemory → Type 0
SignsNext g older newer body (Ok (Some c)) = (c ≡ signed_by g older.key older.next body) × (newer ≡ record older { next = older.next + 1 })
SignsNext g older newer body (Ok None) = (older.next ≡ index_count older.key) × (newer ≡ older)
SignsNext g older newer body (Err refused) = newer ≡ older
