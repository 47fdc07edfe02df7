-- Turns that can bring no signature: they hear the bytes of a ping, a pong or a summary, and make no ticks.
use Rattle.std.specs.Prelude.{◌≡◌, ℕ, ◌&&◌, ◌||◌, Bool, false, ◌==◌, nat_lt, List, length, slice_index}
use Rattle.datagram.specs.Grammar.{read_of}
use Rattle.journal.specs.declared.turn.Turn.{Turn}
use Rattle.journal.specs.declared.turn.Heard.TheVariants as heard
use Rattle.node_core.specs.Hears.{brings_records}

-- the kind of a ping, a pong or a summary, of which a wide one has a kind of its own
abbrev pub is_unsigned_kind : ℕ → Bool
is_unsigned_kind kind = nat_lt 0 kind && nat_lt kind 4 || (kind == 5)

-- Such a kind stands where a datagram has its own. Bytes that are no datagram bring nothing, whatever stands there.
abbrev pub is_unsigned : List ℕ → Bool
is_unsigned bytes = nat_lt 3 (length bytes) && is_unsigned_kind (slice_index bytes 3)

-- The turn heard these bytes, which bring no records, and makes no ticks.
pub record IsQuiet (turn : Turn) (bytes : List ℕ) : Type 0 where
  pub got : turn.heard ≡ heard.Got bytes
  pub plain : brings_records (read_of bytes) ≡ false
  pub unticked : turn.ticks ≡ 0
