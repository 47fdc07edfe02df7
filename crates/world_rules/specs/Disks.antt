-- A node's disk: the states that its store's entries keep, and the stop that is armed. A stop is told by the calls of the
-- disk that it lets pass, so what calls a store makes is told too.
use Rattle.std.specs.Prelude.{ℕ, ◌+◌, ◌-◌, ◌%◌, Bool, true, false, ◌&&◌, ◌==◌, nat_le, if◌then◌else◌, List, [], ◌∷◌, length, Option, Some, None}
use Rattle.ff_ids.specs.declared.Mask.{Mask}
use Rattle.epoch_store.specs.declared.Stored.{Stored}
use Rattle.epoch_store.specs.declared.seat.Seat.{Seat}
use Rattle.epoch_store.specs.Asked.{entry_reads}
use Rattle.epoch_store.specs.Seat.{first_seat, seat_behind}
use Rattle.epoch_store.specs.Store.{first_entry, made_wide, put_entries}

-- A stop that is to come: it lets so many calls pass, and comes in the next. The outcome decides what it leaves.
pub record ArmedStop : Type 0 where
  pub calls : ℕ
  pub outcome : ℕ

-- The state of the store, which its last entry keeps; those of the entries before, the last one first: the store was
-- made with the oldest one, and each later one put; and the stop that is armed.
pub record Disk : Type 0 where
  pub state : Stored
  pub older : List Stored
  pub armed : Option ArmedStop

-- A store that is made new.
abbrev pub made_disk : Mask → Disk
made_disk mask = record { state = first_entry mask; older = []; armed = None }

-- ---- calls of the disk

-- A put writes and syncs the entry, and then writes and syncs the gate before it.
abbrev pub put_calls : ℕ
put_calls = 4

-- How many calls read the gates in front of the entries, each with the entry behind it: one for each, and for a
-- migration entry a second one. The tag of the store changes none of them.
abbrev pub passing_calls : Disk → ℕ
passing_calls d = length (entry_reads (first_seat (made_wide d.state d.older) []) (put_entries [] d.state d.older))

-- To open a store is to open the file, to sync it, to read its head, and to read each gate: those in front of the
-- entries, and the closed one.
abbrev pub opening_calls : Disk → ℕ
opening_calls d = 3 + passing_calls d + 1

-- No stop comes within so many calls.
abbrev pub lets_pass : Option ArmedStop → ℕ → Bool
lets_pass None calls = true
lets_pass (Some stop) calls = nat_le calls stop.calls

-- What is armed behind so many calls.
abbrev pub passed : ℕ → Option ArmedStop → Option ArmedStop
passed calls None = None
passed calls (Some stop) = Some (record stop { calls = stop.calls - calls })

-- So many calls were made, which changed nothing of the store.
abbrev pub after_calls : ℕ → Disk → Disk
after_calls calls d = record d { armed = passed calls d.armed }

-- The stop came in a call that changes nothing of the store.
abbrev pub stopped : Disk → Disk
stopped d = record d { armed = None }

-- ---- puts

abbrev pub put_passes : Disk → Bool
put_passes d = lets_pass d.armed put_calls

-- The entry is the store's last.
abbrev pub with_entry : Stored → Disk → Disk
with_entry e d = record d { state = e; older = d.state ∷ d.older }

-- An entry was put.
abbrev pub after_put : Stored → Disk → Disk
after_put e d = after_calls put_calls (with_entry e d)

-- The seat of the next entry, where the store has this tag.
abbrev pub seat_of : List ℕ → Disk → Seat
seat_of tag d = seat_behind tag d.state d.older

-- The place of the closed gate behind the entries, which is the same whatever tag the store has.
abbrev pub gate_of : Disk → ℕ
gate_of d = (seat_of [] d).gate

-- Whether the byte of a gate that was being written is 1 as a stop with this outcome leaves it: outcome 0 leaves what
-- was there before, and the gate was closed; outcome 1 what was written; and any other a byte of its own making.
abbrev pub leaves_open : ℕ → ℕ → Bool
leaves_open outcome gate = if outcome == 0 then false else (if outcome == 1 then true else (outcome + gate) % 256 == 1)

-- The stop comes in one of the calls of a put. In the first two the gate isn't touched, and stays closed. In the other
-- two the entry behind it is whole, and the gate was being written.
abbrev pub opens_gate : ArmedStop → ℕ → Bool
opens_gate stop gate = nat_le 2 stop.calls && leaves_open stop.outcome gate

abbrev pub left_by : Option ArmedStop → Stored → Disk → Disk
left_by None e d = d
left_by (Some stop) e d = if opens_gate stop (gate_of d) then with_entry e d else d

-- The stop came while the entry was put: the store has the entry or not.
abbrev pub stopped_in_put : Stored → Disk → Disk
stopped_in_put e d = stopped (left_by d.armed e d)
