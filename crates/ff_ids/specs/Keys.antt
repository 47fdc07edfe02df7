-- The bytes of public keys.
use Rattle.std.specs.Prelude.{ℕ, List}
use Rattle.ff_ids.specs.declared.KeyBytes.{KeyBytes}
use Rattle.ff_ids.specs.declared.KeyBytes.TheVariants as key_bytes

-- the 56 bytes of a key of one level, or the 60 of a key of two
abbrev pub listed : KeyBytes → List ℕ
listed (key_bytes.Lms bytes) = bytes
listed (key_bytes.Hss bytes) = bytes
