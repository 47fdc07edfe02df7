-- Pings, pongs and summaries are short enough to be written.
use Rattle.std.proofs.Common.{◌≡◌, ℕ, ◌+◌, ◌*◌, ◌≤◌, Bool, true, false, List, [], ◌∷◌, ◌++◌, length, refl, arith}
use Rattle.std.specs.List.{flat_map}
use Rattle.std.specs.Int.{w64, to_be_bytes}
use Rattle.std.proofs.lemmas.List.{length-append}
use Rattle.ff_ids.specs.declared.summary.SummaryEntry.{SummaryEntry}
use Rattle.ff_ids.specs.declared.summary.Summary.{Summary}
use Rattle.ff_ids.specs.Summaries.{IsSummary}
use Rattle.datagram.specs.declared.Datagram.TheVariants as kinds
use Rattle.datagram.specs.Spelling.{head_bytes, entry_bytes, is_wide, summary_bytes, summary_kind, IsWritable}
use Rattle.datagram.proofs.Entries.{listed_few}

head_long : (kind from : ℕ) → length (head_bytes kind from) ≡ 6
unfolding head_bytes
head_long kind from = refl

nonce_long : (nonce : ℕ) → length (to_be_bytes w64 nonce) ≡ 8
nonce_long nonce = refl

entry_long : (wide : Bool) (e : SummaryEntry) → length (entry_bytes wide e) ≤ 26
unfolding entry_bytes
entry_long true e = omega arith
entry_long false e = omega arith

entries_long : (wide : Bool) (es : List SummaryEntry) → length (flat_map (entry_bytes wide) es) ≤ 26 * length es
entries_long wide [] = omega arith
entries_long wide (e ∷ es) = omega (arith, length-append (entry_bytes wide e) (flat_map (entry_bytes wide) es), entry_long wide e, entries_long wide es)

probe_short : (kind from nonce : ℕ) → length (head_bytes kind from ++ to_be_bytes w64 nonce) ≤ 32768
probe_short kind from nonce = omega (arith, length-append (head_bytes kind from) (to_be_bytes w64 nonce), head_long kind from, nonce_long nonce)

summary_long : (wide flag : Bool) (s : Summary) → length (summary_bytes wide flag s) ≡ 3 + length (flat_map (entry_bytes wide) s.listed)
unfolding summary_bytes
summary_long wide flag s = omega arith

pub ping_writable : (from nonce : ℕ) → IsWritable (kinds.Ping from nonce)
ping_writable from nonce = record { content = tt; few = probe_short 1 from nonce }

pub pong_writable : (from nonce : ℕ) → IsWritable (kinds.Pong from nonce)
pong_writable from nonce = record { content = tt; few = probe_short 2 from nonce }

pub summary_writable : (from : ℕ) (flag : Bool) (s : Summary) → IsSummary s → IsWritable (kinds.Summary from flag s)
summary_writable from flag s keeps = record {
  content = keeps;
  few = omega (arith, length-append (head_bytes (summary_kind (is_wide s)) from) (summary_bytes (is_wide s) flag s), head_long (summary_kind (is_wide s)) from, summary_long (is_wide s) flag s, entries_long (is_wide s) s.listed, listed_few s keeps);
}
