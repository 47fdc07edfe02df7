-- The records that are held, each under its key.
use Rattle.std.specs.Prelude.{ℕ, Option}
use Rattle.ff_ids.specs.declared.RingNo.{RingNo}
use Rattle.ff_ids.specs.declared.summary.RecordKey.{RecordKey}
use Rattle.records.specs.Signing.{CheckedRecord}
use Rattle.record_slots.specs.Held as slots
pub use Rattle.record_slots.specs.Held.{key_numbers, key_cmp, key_of}

-- By each key the record that is held under it, as it was checked.
abbrev pub Held : Type 0
Held = slots.HeldOf CheckedRecord

-- The record that is held under the key, or none.
abbrev pub held_under : Held → RecordKey → Option CheckedRecord
held_under held k = slots.held_under held k

-- Under the key there is this record, or none.
abbrev pub with_option : Held → RecordKey → Option CheckedRecord → Held
with_option held k o = slots.with_option held k o

-- The accusation against the member on the ring is that of its removal now, and kept no more.
abbrev pub retired : Held → ℕ → RingNo → Held
retired held m ring = slots.retired held m ring
