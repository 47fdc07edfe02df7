-- Puts on a disk in memory on which no call fails but by the stop that is armed.
use Rattle.std.proofs.Common.{◌≡◌, ℕ, suc, ◌+◌, ◌-◌, ◌≤◌, eqb, inl, inr, Bool, true, false, Option, None, Some, List, [], ◌∷◌, ◌++◌, length, refl, subst, arith, length-append}
use Rattle.std.proofs.lemmas.Bool.{cases_Bool}
use Rattle.std.proofs.lemmas.Bool.Decides.{nat_tests}
use Rattle.ports.specs.declared.memory_disk.Arm.{Arm}
use Rattle.ports.specs.Disk.{Moment, end_of, settled, wrote}
use Rattle.ports.specs.DiskCalls.{DiskCall, ToWrite, ToSync}
use Rattle.ports.specs.MemoryDisk.{DiskState, armed_after}
use Rattle.ports.specs.Up.{IsUp}
use Rattle.ports.proofs.UpLemmas.{RanUp, RanDown, lets_one, first_up, first_down, ran_up, ran_down, ran_no_further, write_passes, write_stops, sync_passes, sync_stops}
use Rattle.epoch_store.specs.declared.Stored.{Stored}
use Rattle.epoch_store.specs.declared.entry.Entry.{Entry}
use Rattle.epoch_store.specs.declared.seat.Seat.{Seat}
use Rattle.epoch_store.specs.Seat.{behind, entry_for, next_seat}
use Rattle.epoch_store.specs.Store.{spelled, IsHeld}
use Rattle.epoch_store.specs.Asked.{entry_calls}
use Rattle.epoch_store.proofs.FileLemmas.{few_spelled, gate_past}
use Rattle.epoch_store.proofs.PutLemmas.{put_held}

-- the bytes that are written behind the gate
abbrev pub entry_of : Bool → Entry → List ℕ
entry_of wide e = spelled wide e ++ 0 ∷ []

-- the moments of a put: the entry written, then synced, the gate written, then synced
abbrev pub entry_written : Seat → Entry → Moment → Moment
entry_written seat e m = wrote (seat.gate + 1) (entry_of seat.wide e) m

abbrev pub entry_synced : Seat → Entry → Moment → Moment
entry_synced seat e m = settled (entry_written seat e m).image

abbrev pub gate_written : Seat → Entry → Moment → Moment
gate_written seat e m = wrote seat.gate (1 ∷ []) (entry_synced seat e m)

abbrev pub gate_synced : Seat → Entry → Moment → Moment
gate_synced seat e m = settled (gate_written seat e m).image

-- ---- room

-- there is room for the entry and a closed gate behind it
pub record HasRoom (room : ℕ) (seat : Seat) (e : Entry) : Type 0 where
  pub short : length (entry_of seat.wide e) ≤ 64
  pub within : seat.gate + 1 + length (entry_of seat.wide e) ≤ room

pub has_room : (room : ℕ) (seat : Seat) (e : Entry) → IsHeld seat.wide e.moved e.kept.mask.0 → (behind seat e).gate + 1 ≤ room → HasRoom room seat e
has_room room seat e held fits =
    let long : length (entry_of seat.wide e) ≡ length (spelled seat.wide e) + 1 = length-append (spelled seat.wide e) (0 ∷ []) in record {
      short = omega (arith, long, few_spelled seat.wide e held);
      within = omega (arith, long, gate_past seat e held, fits);
    }

-- for the entry by which a state is put
pub put_room : (room : ℕ) (seat : Seat) (next : Stored) → length seat.tag ≡ 32 → (next_seat seat next).gate + 1 ≤ room → HasRoom room seat (entry_for seat next)
put_room room seat next long fits = has_room room seat (entry_for seat next) (put_held seat next long) fits

ends_within : (place count room : ℕ) → place + count ≤ room → end_of place count ≤ room
ends_within place count room within = elim (cases_Bool (eqb count 0)) [
  | inl none ↦ rw none (omega arith)
  | inr some ↦ rw some within
]

entry_ends : (room : ℕ) (seat : Seat) (e : Entry) → HasRoom room seat e → end_of (seat.gate + 1) (length (entry_of seat.wide e)) ≤ room
entry_ends room seat e fits = ends_within (seat.gate + 1) (length (entry_of seat.wide e)) room fits.within

gate_ends : (room : ℕ) (seat : Seat) (e : Entry) → HasRoom room seat e → end_of seat.gate 1 ≤ room
gate_ends room seat e fits = omega (arith, fits.within)

-- ---- the calls

abbrev one_calls : Seat → Entry → List DiskCall
one_calls seat e = ToWrite (seat.gate + 1) (entry_of seat.wide e) ∷ []

abbrev two_calls : Seat → Entry → List DiskCall
two_calls seat e = ToSync ∷ one_calls seat e

abbrev three_calls : Seat → Entry → List DiskCall
three_calls seat e = ToWrite seat.gate (1 ∷ []) ∷ two_calls seat e

one_up : (armed : Option Arm) (left room : ℕ) (seat : Seat) (e : Entry) (m : Moment) (disk : DiskState) → IsUp armed (suc left) room m disk → lets_one armed ≡ true → HasRoom room seat e
    → RanUp (one_calls seat e) disk (armed_after armed) left room (entry_written seat e m)
one_up armed left room seat e m disk up lets fits =
    first_up (ToWrite (seat.gate + 1) (entry_of seat.wide e)) disk (armed_after armed) left room (entry_written seat e m)
    (write_passes armed left room m disk (seat.gate + 1) (entry_of seat.wide e) up lets fits.short (entry_ends room seat e fits))

two_up : (armed : Option Arm) (left room : ℕ) (seat : Seat) (e : Entry) (m : Moment) (disk : DiskState) → RanUp (one_calls seat e) disk armed (suc left) room (entry_written seat e m) → lets_one armed ≡ true
    → RanUp (two_calls seat e) disk (armed_after armed) left room (entry_synced seat e m)
two_up armed left room seat e m disk ran lets =
    ran_up ToSync (one_calls seat e) disk armed (armed_after armed) (suc left) left room (entry_written seat e m) (entry_synced seat e m) ran
    (sync_passes armed left room (entry_written seat e m) ran.behind ran.up lets)

three_up : (armed : Option Arm) (left room : ℕ) (seat : Seat) (e : Entry) (m : Moment) (disk : DiskState) → RanUp (two_calls seat e) disk armed (suc left) room (entry_synced seat e m) → lets_one armed ≡ true → HasRoom room seat e
    → RanUp (three_calls seat e) disk (armed_after armed) left room (gate_written seat e m)
three_up armed left room seat e m disk ran lets fits =
    ran_up (ToWrite seat.gate (1 ∷ [])) (two_calls seat e) disk armed (armed_after armed) (suc left) left room (entry_synced seat e m) (gate_written seat e m) ran
    (write_passes armed left room (entry_synced seat e m) ran.behind seat.gate (1 ∷ []) ran.up lets (omega arith) (gate_ends room seat e fits))

four_up : (armed : Option Arm) (left room : ℕ) (seat : Seat) (e : Entry) (m : Moment) (disk : DiskState) → RanUp (three_calls seat e) disk armed (suc left) room (gate_written seat e m) → lets_one armed ≡ true
    → RanUp (entry_calls seat e) disk (armed_after armed) left room (gate_synced seat e m)
four_up armed left room seat e m disk ran lets =
    ran_up ToSync (three_calls seat e) disk armed (armed_after armed) (suc left) left room (gate_written seat e m) (gate_synced seat e m) ran
    (sync_passes armed left room (gate_written seat e m) ran.behind ran.up lets)

-- ---- the stop

stop_later : (calls outcome : ℕ) → 1 ≤ calls → armed_after (Some (record { calls = calls; outcome = outcome })) ≡ Some (record { calls = calls - 1; outcome = outcome })
stop_later calls outcome some = let more : eqb calls 0 ≡ false = grind (arith, nat_tests, some) in rw more refl

lets_more : (calls outcome : ℕ) → 1 ≤ calls → lets_one (Some (record { calls = calls; outcome = outcome })) ≡ true
lets_more calls outcome some = let more : eqb calls 0 ≡ false = grind (arith, nat_tests, some) in rw more refl

-- ---- a put

-- with no stop armed
pub put_up : (left room : ℕ) (seat : Seat) (e : Entry) (m : Moment) (disk : DiskState) → IsUp None (suc (suc (suc (suc left)))) room m disk → HasRoom room seat e → RanUp (entry_calls seat e) disk None left room (gate_synced seat e m)
put_up left room seat e m disk up fits =
    four_up None left room seat e m disk
    (three_up None (suc left) room seat e m disk
    (two_up None (suc (suc left)) room seat e m disk (one_up None (suc (suc (suc left))) room seat e m disk up refl fits) refl) refl fits) refl

-- before the stop that is armed
pub put_before_stop : (calls outcome left room : ℕ) (seat : Seat) (e : Entry) (m : Moment) (disk : DiskState) → 4 ≤ calls → IsUp (Some (record { calls = calls; outcome = outcome })) (suc (suc (suc (suc left)))) room m disk → HasRoom room seat e
    → RanUp (entry_calls seat e) disk (Some (record { calls = calls - 1 - 1 - 1 - 1; outcome = outcome })) left room (gate_synced seat e m)
put_before_stop calls outcome left room seat e m disk many up fits =
    let one = subst (λ (a : Option Arm). RanUp (one_calls seat e) disk a (suc (suc (suc left))) room (entry_written seat e m)) (stop_later calls outcome (omega arith))
    (one_up (Some (record { calls = calls; outcome = outcome })) (suc (suc (suc left))) room seat e m disk up (lets_more calls outcome (omega arith)) fits) in
    let two = subst (λ (a : Option Arm). RanUp (two_calls seat e) disk a (suc (suc left)) room (entry_synced seat e m)) (stop_later (calls - 1) outcome (omega arith))
    (two_up (Some (record { calls = calls - 1; outcome = outcome })) (suc (suc left)) room seat e m disk one (lets_more (calls - 1) outcome (omega arith))) in
    let three = subst (λ (a : Option Arm). RanUp (three_calls seat e) disk a (suc left) room (gate_written seat e m)) (stop_later (calls - 1 - 1) outcome (omega arith))
    (three_up (Some (record { calls = calls - 1 - 1; outcome = outcome })) (suc left) room seat e m disk two (lets_more (calls - 1 - 1) outcome (omega arith)) fits) in
    subst (λ (a : Option Arm). RanUp (entry_calls seat e) disk a left room (gate_synced seat e m)) (stop_later (calls - 1 - 1 - 1) outcome (omega arith))
    (four_up (Some (record { calls = calls - 1 - 1 - 1; outcome = outcome })) left room seat e m disk three (lets_more (calls - 1 - 1 - 1) outcome (omega arith)))

-- the stop comes in the write of the entry, or in its sync: the entry was written, and the gate not touched
pub put_stopped_at_entry : (outcome left room : ℕ) (seat : Seat) (e : Entry) (m : Moment) (disk : DiskState) → IsUp (Some (record { calls = 0; outcome = outcome })) (suc left) room m disk → HasRoom room seat e
    → RanDown (entry_calls seat e) disk outcome room (entry_written seat e m)
put_stopped_at_entry outcome left room seat e m disk up fits =
    let arm : Arm = record { calls = 0; outcome = outcome } in
    ran_no_further (ToSync ∷ ToWrite seat.gate (1 ∷ []) ∷ ToSync ∷ []) (one_calls seat e) disk outcome room (entry_written seat e m)
    (first_down (ToWrite (seat.gate + 1) (entry_of seat.wide e)) disk outcome room (entry_written seat e m)
    (write_stops arm left room m disk (seat.gate + 1) (entry_of seat.wide e) up refl fits.short (entry_ends room seat e fits)))

pub put_stopped_at_entry_sync : (outcome left room : ℕ) (seat : Seat) (e : Entry) (m : Moment) (disk : DiskState) → IsUp (Some (record { calls = 1; outcome = outcome })) (suc left) room m disk → HasRoom room seat e
    → RanDown (entry_calls seat e) disk outcome room (entry_written seat e m)
put_stopped_at_entry_sync outcome left room seat e m disk up fits =
    let arm : Arm = record { calls = 0; outcome = outcome } in
    let one : RanUp (one_calls seat e) disk (Some arm) left room (entry_written seat e m) = one_up (Some (record { calls = 1; outcome = outcome })) left room seat e m disk up refl fits in
    ran_no_further (ToSync ∷ ToWrite seat.gate (1 ∷ []) ∷ []) (two_calls seat e) disk outcome room (entry_written seat e m)
    (ran_down ToSync (one_calls seat e) disk (Some arm) left room outcome (entry_written seat e m) (entry_written seat e m) one
    (sync_stops arm left room (entry_written seat e m) one.behind one.up refl))

-- it comes in the write of the gate, or in its sync: the entry behind it is whole, and the gate was written
pub put_stopped_at_gate : (outcome left room : ℕ) (seat : Seat) (e : Entry) (m : Moment) (disk : DiskState) → IsUp (Some (record { calls = 2; outcome = outcome })) (suc (suc (suc left))) room m disk → HasRoom room seat e
    → RanDown (entry_calls seat e) disk outcome room (gate_written seat e m)
put_stopped_at_gate outcome left room seat e m disk up fits =
    let arm : Arm = record { calls = 0; outcome = outcome } in
    let next : Arm = record { calls = 1; outcome = outcome } in
    let one : RanUp (one_calls seat e) disk (Some next) (suc (suc left)) room (entry_written seat e m) = one_up (Some (record { calls = 2; outcome = outcome })) (suc (suc left)) room seat e m disk up refl fits in
    let two : RanUp (two_calls seat e) disk (Some arm) (suc left) room (entry_synced seat e m) = two_up (Some next) (suc left) room seat e m disk one refl in
    ran_no_further (ToSync ∷ []) (three_calls seat e) disk outcome room (gate_written seat e m)
    (ran_down (ToWrite seat.gate (1 ∷ [])) (two_calls seat e) disk (Some arm) (suc left) room outcome (entry_synced seat e m) (gate_written seat e m) two
    (write_stops arm left room (entry_synced seat e m) two.behind seat.gate (1 ∷ []) two.up refl (omega arith) (gate_ends room seat e fits)))

pub put_stopped_at_gate_sync : (outcome left room : ℕ) (seat : Seat) (e : Entry) (m : Moment) (disk : DiskState) → IsUp (Some (record { calls = 3; outcome = outcome })) (suc (suc (suc left))) room m disk → HasRoom room seat e
    → RanDown (entry_calls seat e) disk outcome room (gate_written seat e m)
put_stopped_at_gate_sync outcome left room seat e m disk up fits =
    let arm : Arm = record { calls = 0; outcome = outcome } in
    let one : RanUp (one_calls seat e) disk (Some (record { calls = 2; outcome = outcome })) (suc (suc left)) room (entry_written seat e m) = one_up (Some (record { calls = 3; outcome = outcome })) (suc (suc left)) room seat e m disk up refl fits in
    let two : RanUp (two_calls seat e) disk (Some (record { calls = 1; outcome = outcome })) (suc left) room (entry_synced seat e m) = two_up (Some (record { calls = 2; outcome = outcome })) (suc left) room seat e m disk one refl in
    let three : RanUp (three_calls seat e) disk (Some arm) left room (gate_written seat e m) = three_up (Some (record { calls = 1; outcome = outcome })) left room seat e m disk two refl fits in
    ran_down ToSync (three_calls seat e) disk (Some arm) left room outcome (gate_written seat e m) (gate_written seat e m) three
    (sync_stops arm left room (gate_written seat e m) three.behind three.up refl)
