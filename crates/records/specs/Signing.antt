-- What a record's signature is over, and what was checked of a record.
use Rattle.std.specs.Prelude.{◌≡◌, ℕ, List, ◌∷◌, ◌++◌, length, codes}
use Rattle.records.specs.declared.Body.{Body}
use Rattle.records.specs.declared.Record.{Record}
use Rattle.records.specs.declared.keys.Key.{Key}
use Rattle.records.specs.Keys.{Verifies}
use Rattle.records.specs.Spelling.{body_bytes, IsBody, IsWritable}

-- the bytes that a signature is over, in the group of this tag and tolerance
unfoldable pub signed_bytes : List ℕ → ℕ → Body → List ℕ
signed_bytes tag t body = codes "FFSIGN" ++ (tag ++ t ∷ body_bytes body)

-- The record's signature verifies under the key, over its signed bytes in the group of this tag and tolerance.
abbrev pub IsSigned : Key → List ℕ → ℕ → Record → Type 0
IsSigned key tag t r = Verifies key (signed_bytes tag t r.body) r.signature

-- a record, and the key, the tag and the tolerance by which its signature was checked
pub record CheckedRecord : Type 0 where
  pub rec : Record
  pub key : Key
  pub tag : List ℕ
  pub t : ℕ

-- It verifies so, it has a spelling, and its numbers and the tag are within their ranges.
pub record IsChecked (c : CheckedRecord) : Type 0 where
  pub signed : IsSigned c.key c.tag c.t c.rec
  pub writable : IsWritable c.rec
  pub body : IsBody c.rec.body
  pub tag_long : length c.tag ≡ 16
