-- The calls that put an entry.
use Rattle.std.proofs.Common.{◌≡◌, ◌≢◌, ◌⊎◌, inl, inr, ℕ, ◌+◌, ◌<◌, ◌≤◌, Bool, true, false, cond, eqb, List, [], ◌∷◌, ◌++◌, length, take, drop, Option, None, Some, refl, sym, ap, ◌∙◌, subst, arith, append_assoc, length-append}
use Rattle.std.specs.Prelude.{◌%◌, nat_le}
use Rattle.std.proofs.lemmas.Bool.{cases_lt, cases_Bool, le-leb, lt-ltb, eqb-true, eq-eqb}
use Rattle.std.proofs.lemmas.Bool.Decides.{nat_tests}
use Rattle.std.proofs.lemmas.List.{take_at, drop_at, drop-drop}
use Rattle.ports.specs.Disk.{Moment, settled, written, wrote}
use Rattle.ports.specs.declared.memory_disk.Arm.{Arm}
use Rattle.ports.specs.declared.memory_disk.Change.TheVariants.{Synced}
use Rattle.ports.specs.DiskCalls.{DiskCall, ToWrite, ToSync}
use Rattle.ports.specs.DiskSteps.{Came, makes, runs}
use Rattle.ports.specs.MemoryDisk.{DiskState, fits, garbled, is_settled, moment_of, picked, stopped_by, with_write}
use Rattle.epoch_store.specs.declared.Stored.{Stored}
use Rattle.epoch_store.specs.declared.seat.Seat.{Seat}
use Rattle.epoch_store.specs.Seat.{entry_for}
use Rattle.epoch_store.specs.Asked.{put_calls}
use Rattle.epoch_store.specs.Store.{Follows, IsEntry, made_wide, put_entries, spelled}
use Rattle.epoch_store.proofs.FileLemmas.{front-length, written_within}
use Rattle.world_rules.specs.Disks as rules
use Rattle.world_rules.specs.Disks.{ArmedStop, Disk, after_put, gate_of, leaves_open, opens_gate, put_passes, seat_of, stopped, stopped_in_put}
use Rattle.world_host.specs.Held.{ComesAs, HoldsDisk, armed_as, crashed}
use Rattle.world_host.specs.DiskLaws.{PutsAsTold}
use Rattle.world_host.proofs.DiskTurns.{Up, Lets, Passing, Stopping, minus, minus_none, none_behind, pass_on, passes_next, stop_on, stops_next, up_next}
use Rattle.world_host.proofs.DiskGarbling.{garbled_front, garbled_one}
use Rattle.world_host.proofs.BehindLemmas.{chain_put, fits_behind, same_behind, seats_are}
use Rattle.world_host.proofs.DiskOpening.{CameUp, FitsKey, comes_pass, comes_stop, fits_key, front_of, held_fresh, lets-test, minus-armed, up_of}

-- ---- one call

pub fits_is : (d : DiskState) (place count : ℕ) → 0 < count → count ≤ 64 → place + count ≤ d.room → length d.log < d.changes → fits d place count ≡ true
fits_is d place count some short within roomy =
    let some_is : eqb count 0 ≡ false = grind (arith, nat_tests, some) in
    rw (some_is, le-leb count 64 short, le-leb (place + count) d.room within, lt-ltb (length d.log) d.changes roomy) refl

pub write_passes : (d : DiskState) (place : ℕ) (bytes : List ℕ) → Passing d → fits d place (length bytes) ≡ true → makes (ToWrite place bytes) (record { disk = d; failed = false }) ≡ record { disk = with_write place bytes (pass_on d); failed = false }
write_passes d place bytes turn fitting = rw (turn, fitting) refl

write_stops : (d : DiskState) (outcome place : ℕ) (bytes : List ℕ) → Stopping outcome d → fits d place (length bytes) ≡ true → makes (ToWrite place bytes) (record { disk = d; failed = false }) ≡ record { disk = stopped_by outcome (with_write place bytes (stop_on outcome d)); failed = true }
write_stops d outcome place bytes turn fitting = rw (turn, fitting) refl

abbrev pub with_synced : DiskState → DiskState
with_synced d = record d { log = Synced ∷ d.log }

pub sync_passes : (d : DiskState) → Passing d → is_settled (moment_of d) ≡ false → length d.log < d.changes → makes ToSync (record { disk = d; failed = false }) ≡ record { disk = with_synced (pass_on d); failed = false }
sync_passes d turn torn roomy = rw (turn, torn, lt-ltb (length d.log) d.changes roomy) refl

sync_stops : (d : DiskState) (outcome : ℕ) → Stopping outcome d → makes ToSync (record { disk = d; failed = false }) ≡ record { disk = stopped_by outcome (stop_on outcome d); failed = true }
sync_stops d outcome turn = rw turn refl

-- ---- the file

-- one byte is written over
written_at : (head tail : List ℕ) (gate x y : ℕ) → gate ≡ length head → written gate (y ∷ []) (head ++ x ∷ tail) ≡ head ++ y ∷ tail
written_at head tail gate x y place =
    let whole : head ++ x ∷ tail ≡ (head ++ x ∷ []) ++ tail = sym (append_assoc head (x ∷ []) tail) in
    let within : gate ≤ length (head ++ x ∷ tail) = omega (arith, place, length-append head (x ∷ tail)) in
    let before : take gate (head ++ x ∷ tail) ≡ head = take_at head (x ∷ tail) gate (sym place) in
    let behind : drop (gate + 1) (head ++ x ∷ tail) ≡ tail = rw whole (drop_at (head ++ x ∷ []) tail (gate + 1) (omega (arith, place, length-append head (x ∷ [])))) in
    rw (written_within gate (y ∷ []) (head ++ x ∷ tail) (omega arith) within, before, behind) (append_assoc head (y ∷ []) tail)

-- bytes are written behind one byte
written_behind : (head rest bytes : List ℕ) (gate x : ℕ) → gate ≡ length head → 0 < length bytes → written (gate + 1) bytes (head ++ x ∷ rest) ≡ head ++ x ∷ (bytes ++ drop (length bytes) rest)
written_behind head rest bytes gate x place some =
    let before : List ℕ = head ++ x ∷ [] in
    let image : List ℕ = before ++ rest in
    let size : length before ≡ gate + 1 = omega (arith, place, length-append head (x ∷ [])) in
    let within : gate + 1 ≤ length image = omega (arith, size, length-append before rest) in
    let in_front : take (gate + 1) image ≡ before = take_at before rest (gate + 1) size in
    let behind : drop (gate + 1 + length bytes) image ≡ drop (length bytes) rest = sym (drop-drop (length bytes) (gate + 1) image) ∙ ap (drop (length bytes)) (drop_at before rest (gate + 1) size) in
    ap (written (gate + 1) bytes) (sym (append_assoc head (x ∷ []) rest))
    ∙ written_within (gate + 1) bytes image some within
    ∙ ap (λ (z : List ℕ). z ++ bytes ++ drop (gate + 1 + length bytes) image) in_front
    ∙ ap (λ (z : List ℕ). before ++ bytes ++ z) behind
    ∙ append_assoc before bytes (drop (length bytes) rest)
    ∙ append_assoc head (x ∷ []) (bytes ++ drop (length bytes) rest)

pub place_of : (tag : List ℕ) (n : ℕ) (d : DiskState) (e : Disk) → HoldsDisk tag n d e → (seat_of tag e).gate ≡ length (front_of tag e)
place_of tag n d e h =
    ap (λ (s : Seat). s.gate) (seats_are tag e.state e.older) ∙ sym (front-length (made_wide e.state e.older) tag (put_entries tag e.state e.older) h.long h.chain)

-- ---- what a stop leaves in the first half

-- an outcome picks the same store, whatever stands behind its gate
picked_behind : (outcome : ℕ) (head image full rest tail : List ℕ) (place count most shut : ℕ) → place ≡ length head + 1 → image ≡ head ++ shut ∷ rest → full ≡ head ++ shut ∷ tail → (more : List ℕ) × (picked outcome (record { image = full; stable = image; torn = (place, count) ∷ []; most = most }) ≡ head ++ shut ∷ more)
picked_behind outcome head image full rest tail place count most shut at is full_is =
    let before = head ++ shut ∷ [] in
    let kept = length image in
    let torn : List (ℕ × ℕ) = (place, count) ∷ [] in
    let size : length before ≡ length head + 1 = length-append head (shut ∷ []) in
    let long : length head + 1 ≤ kept = omega (arith, ap length is, length-append head (shut ∷ rest)) in
    let garbled_is = garbled_front outcome place count kept before tail (omega (arith, size, at)) (omega (arith, size, long)) in
    let whole : full ≡ before ++ tail = full_is ∙ sym (append_assoc head (shut ∷ []) tail) in
    elim (eqb outcome 0) as (λ test. (more : List ℕ) × (cond test image (cond (eqb outcome 1) full (garbled outcome torn kept 0 full)) ≡ head ++ shut ∷ more)) [
      | true ↦ (rest, is)
      | false ↦ elim (eqb outcome 1) as (λ test. (more : List ℕ) × (cond test full (garbled outcome torn kept 0 full) ≡ head ++ shut ∷ more)) [
        | true ↦ (tail, full_is)
        | false ↦ (
          garbled outcome torn kept (0 + length before) tail,
          ap (garbled outcome torn kept 0) whole ∙ garbled_is ∙ append_assoc head (shut ∷ []) (garbled outcome torn kept (0 + length before) tail),
        )
      ]
    ]

-- ---- what a stop leaves in the second half

-- The byte of the gate, as an outcome leaves it: open or not.
pub record LeftGate (wide : Bool) (head tail image : List ℕ) : Type 0 where
  pub byte : ℕ
  pub is : image ≡ head ++ byte ∷ tail
  pub opens : wide ≡ eqb byte 1

not_equal : (a b : ℕ) → a ≢ b → eqb a b ≡ false
not_equal a b apart = elim (cases_Bool (eqb a b)) [ inl same ↦ absurd (apart (eqb-true a b same)) | inr other ↦ other ]

picked_gate : (outcome gate most shut : ℕ) (head tail full : List ℕ) → gate ≡ length head → shut ≢ 1 → full ≡ head ++ shut ∷ tail → LeftGate (leaves_open outcome gate) head tail (picked outcome (record { image = written gate (1 ∷ []) full; stable = full; torn = (gate, 1) ∷ []; most = most }))
picked_gate outcome gate most shut head tail full place closed is =
    let kept = length full in
    let torn : List (ℕ × ℕ) = (gate, 1) ∷ [] in
    let late = eqb ((outcome + gate) % 256) 1 in
    let after = written gate (1 ∷ []) full in
    let opened : after ≡ head ++ 1 ∷ tail = ap (written gate (1 ∷ [])) is ∙ written_at head tail gate shut 1 place in
    let size : length head + 1 + length tail ≤ kept = omega (arith, ap length is, length-append head (shut ∷ tail)) in
    let last = garbled_one outcome kept 1 head tail size in
    let P : ℕ → Type 0 = λ g. garbled outcome ((g, 1) ∷ []) kept 0 (head ++ 1 ∷ tail) ≡ head ++ (outcome + g) % 256 ∷ tail in
    let at_gate = subst P (sym place) last in
    elim (eqb outcome 0) as (λ test. LeftGate (cond test false (cond (eqb outcome 1) true late)) head tail (cond test full (cond (eqb outcome 1) after (garbled outcome torn kept 0 after)))) [
      | true ↦ record { byte = shut; is = is; opens = sym (not_equal shut 1 closed) }
      | false ↦ elim (eqb outcome 1) as (λ test. LeftGate (cond test true late) head tail (cond test after (garbled outcome torn kept 0 after))) [
        | true ↦ record { byte = 1; is = opened; opens = refl }
        | false ↦ record { byte = (outcome + gate) % 256; is = ap (garbled outcome torn kept 0) opened ∙ at_gate; opens = refl }
      ]
    ]

-- ---- the calls of a put

lets-fewer : (a : Option Arm) (j k : ℕ) → j ≤ k → Lets a k → Lets a j
lets-fewer None j k fewer lets = tt
lets-fewer (Some arm) j k fewer lets = omega (arith, fewer, lets)

-- the bytes that are written behind the gate
abbrev bytes_of : List ℕ → Disk → Stored → List ℕ
bytes_of tag e kept = spelled (seat_of tag e).wide (entry_for (seat_of tag e) kept) ++ 0 ∷ []

abbrev first_call : ℕ → List ℕ → List DiskCall
first_call gate bytes = ToWrite (gate + 1) bytes ∷ []

abbrev second_call : ℕ → List ℕ → List DiskCall
second_call gate bytes = ToSync ∷ first_call gate bytes

abbrev third_call : ℕ → List ℕ → List DiskCall
third_call gate bytes = ToWrite gate (1 ∷ []) ∷ second_call gate bytes

abbrev fourth_call : ℕ → List ℕ → List DiskCall
fourth_call gate bytes = ToSync ∷ third_call gate bytes

abbrev first_disk : ℕ → List ℕ → DiskState → DiskState
first_disk gate bytes d = with_write (gate + 1) bytes (pass_on d)

abbrev second_disk : ℕ → List ℕ → DiskState → DiskState
second_disk gate bytes d = with_synced (pass_on (first_disk gate bytes d))

abbrev third_disk : ℕ → List ℕ → DiskState → DiskState
third_disk gate bytes d = with_write gate (1 ∷ []) (pass_on (second_disk gate bytes d))

abbrev fourth_disk : ℕ → List ℕ → DiskState → DiskState
fourth_disk gate bytes d = with_synced (pass_on (third_disk gate bytes d))

-- What a put rests on.
pub record Puts (d : DiskState) (gate : ℕ) (bytes head tail image : List ℕ) (shut : ℕ) : Type 0 where
  pub place : gate ≡ length head
  pub closed : shut ≢ 1
  pub rest : List ℕ
  pub image_is : image ≡ head ++ shut ∷ rest
  pub was : moment_of d ≡ settled image
  pub full : written (gate + 1) bytes image ≡ head ++ shut ∷ tail
  pub some : 0 < length bytes
  pub few : length bytes ≤ 64
  pub room : gate + 1 + length bytes ≤ d.room
  pub changes : length d.log + 4 ≤ d.changes

-- These calls passed, and this is the disk, with this armed.
pub record After (calls : List DiskCall) (d r : DiskState) (armed : Option Arm) : Type 0 where
  pub so : runs calls d ≡ record { disk = r; failed = false }
  pub up : Up r armed

with_log : (d r : DiskState) (armed : Option Arm) → Up d armed → r.armed ≡ d.armed → r.failing ≡ d.failing → r.stopped ≡ d.stopped → Up r armed
with_log d r armed u a f s = record { is = a ∙ u.is; sound = f ∙ u.sound; runs = s ∙ u.runs }

fit_first : (d : DiskState) (gate : ℕ) (bytes head tail image : List ℕ) (shut : ℕ) → Puts d gate bytes head tail image shut → fits d (gate + 1) (length bytes) ≡ true
fit_first d gate bytes head tail image shut p =
    fits_is d (gate + 1) (length bytes) p.some p.few p.room (omega (arith, p.changes))

fit_third : (d : DiskState) (gate : ℕ) (bytes head tail image : List ℕ) (shut : ℕ) → Puts d gate bytes head tail image shut → fits (second_disk gate bytes d) gate 1 ≡ true
fit_third d gate bytes head tail image shut p =
    fits_is (second_disk gate bytes d) gate 1 (omega arith) (omega arith) (omega (arith, p.room)) (omega (arith, p.changes))

moment_first : (d : DiskState) (gate : ℕ) (bytes head tail image : List ℕ) (shut : ℕ) → Puts d gate bytes head tail image shut → moment_of (first_disk gate bytes d) ≡ wrote (gate + 1) bytes (settled image)
moment_first d gate bytes head tail image shut p = ap (wrote (gate + 1) bytes) p.was

moment_second : (d : DiskState) (gate : ℕ) (bytes head tail image : List ℕ) (shut : ℕ) → Puts d gate bytes head tail image shut → moment_of (second_disk gate bytes d) ≡ settled (head ++ shut ∷ tail)
moment_second d gate bytes head tail image shut p =
    ap settled (ap (λ (m : Moment). written (gate + 1) bytes m.image) p.was ∙ p.full)

moment_third : (d : DiskState) (gate : ℕ) (bytes head tail image : List ℕ) (shut : ℕ) → Puts d gate bytes head tail image shut → moment_of (third_disk gate bytes d) ≡ wrote gate (1 ∷ []) (settled (head ++ shut ∷ tail))
moment_third d gate bytes head tail image shut p = ap (wrote gate (1 ∷ [])) (moment_second d gate bytes head tail image shut p)

moment_fourth : (d : DiskState) (gate : ℕ) (bytes head tail image : List ℕ) (shut : ℕ) → Puts d gate bytes head tail image shut → moment_of (fourth_disk gate bytes d) ≡ settled (head ++ 1 ∷ tail)
moment_fourth d gate bytes head tail image shut p =
    ap settled (ap (λ (m : Moment). written gate (1 ∷ []) m.image) (moment_second d gate bytes head tail image shut p) ∙ written_at head tail gate shut 1 p.place)

after_first : (d : DiskState) (gate : ℕ) (bytes head tail image : List ℕ) (shut : ℕ) (a : Option Arm) → Puts d gate bytes head tail image shut → Up d (minus 0 a) → Lets a 1 → After (first_call gate bytes) d (first_disk gate bytes d) (minus 1 a)
after_first d gate bytes head tail image shut a p u lets =
    let turn = passes_next d a 0 u lets in
    record {
      so = write_passes d (gate + 1) bytes turn (fit_first d gate bytes head tail image shut p);
      up = with_log (pass_on d) (first_disk gate bytes d) (minus 1 a) (up_next d a 0 u lets) refl refl refl;
    }

after_second : (d : DiskState) (gate : ℕ) (bytes head tail image : List ℕ) (shut : ℕ) (a : Option Arm) → Puts d gate bytes head tail image shut → After (first_call gate bytes) d (first_disk gate bytes d) (minus 1 a) → Lets a 2 → After (second_call gate bytes) d (second_disk gate bytes d) (minus 2 a)
after_second d gate bytes head tail image shut a p f lets =
    let now = first_disk gate bytes d in
    let turn = passes_next now a 1 f.up lets in
    let torn : is_settled (moment_of now) ≡ false = ap is_settled (moment_first d gate bytes head tail image shut p) in
    record {
      so = ap (makes ToSync) f.so ∙ sync_passes now turn torn (omega (arith, p.changes));
      up = with_log (pass_on now) (second_disk gate bytes d) (minus 2 a) (up_next now a 1 f.up lets) refl refl refl;
    }

after_third : (d : DiskState) (gate : ℕ) (bytes head tail image : List ℕ) (shut : ℕ) (a : Option Arm) → Puts d gate bytes head tail image shut → After (second_call gate bytes) d (second_disk gate bytes d) (minus 2 a) → Lets a 3 → After (third_call gate bytes) d (third_disk gate bytes d) (minus 3 a)
after_third d gate bytes head tail image shut a p f lets =
    let now = second_disk gate bytes d in
    let turn = passes_next now a 2 f.up lets in
    record {
      so = ap (makes (ToWrite gate (1 ∷ []))) f.so ∙ write_passes now gate (1 ∷ []) turn (fit_third d gate bytes head tail image shut p);
      up = with_log (pass_on now) (third_disk gate bytes d) (minus 3 a) (up_next now a 2 f.up lets) refl refl refl;
    }

after_fourth : (d : DiskState) (gate : ℕ) (bytes head tail image : List ℕ) (shut : ℕ) (a : Option Arm) → Puts d gate bytes head tail image shut → After (third_call gate bytes) d (third_disk gate bytes d) (minus 3 a) → Lets a 4 → After (fourth_call gate bytes) d (fourth_disk gate bytes d) (minus 4 a)
after_fourth d gate bytes head tail image shut a p f lets =
    let now = third_disk gate bytes d in
    let turn = passes_next now a 3 f.up lets in
    let torn : is_settled (moment_of now) ≡ false = ap is_settled (moment_third d gate bytes head tail image shut p) in
    record {
      so = ap (makes ToSync) f.so ∙ sync_passes now turn torn (omega (arith, p.changes));
      up = with_log (pass_on now) (fourth_disk gate bytes d) (minus 4 a) (up_next now a 3 f.up lets) refl refl refl;
    }

-- ---- what comes up behind a stop

came_up : (d x : DiskState) (outcome : ℕ) (image : List ℕ) → picked outcome (moment_of x) ≡ image → x.room ≡ d.room → x.changes ≡ d.changes → x.armed ≡ None → x.failing ≡ [] → CameUp d (crashed 0 (stopped_by outcome x)) image
came_up d x outcome image is room changes armed sound = record {
  start = is;
  log = refl;
  room = room;
  changes = changes;
  armed = armed;
  sound = sound;
  runs = refl;
}

-- The entry may be put, and the disk allows it.
pub record MayPut (tag : List ℕ) (n : ℕ) (d : DiskState) (e : Disk) (kept : Stored) : Type 0 where
  pub held : HoldsDisk tag n d e
  pub entry : IsEntry kept
  pub follows : Follows e.state kept
  pub rises : kept.next ≡ e.state.next + 1
  pub within : kept.next ≤ n

abbrev with_it : Stored → Disk → Disk
with_it kept e = rules.with_entry kept e

fits_with : (tag : List ℕ) (n : ℕ) (d : DiskState) (e : Disk) (kept : Stored) → MayPut tag n d e kept → FitsKey tag n (with_it kept e)
fits_with tag n d e kept m = record {
  long = m.held.long;
  chain = chain_put tag e.state kept e.older m.held.long m.entry m.follows m.held.chain;
  few = omega (arith, m.held.few, m.rises);
  within = m.within;
}

-- what stands behind the gate, once that was written
abbrev tail_of : List ℕ → Disk → Stored → List ℕ → List ℕ
tail_of tag e kept rest = bytes_of tag e kept ++ drop (length (bytes_of tag e kept)) rest

-- what stands behind the closed gate of the entry
abbrev rest_of : List ℕ → Disk → Stored → List ℕ → List ℕ
rest_of tag e kept rest = drop (length (bytes_of tag e kept)) rest

-- with an open gate, the file has one more entry
opened_tail : (tag : List ℕ) (e : Disk) (kept : Stored) (rest : List ℕ) → front_of tag e ++ 1 ∷ tail_of tag e kept rest ≡ front_of tag (with_it kept e) ++ 0 ∷ rest_of tag e kept rest
opened_tail tag e kept rest =
    let seat : Seat = seat_of tag e in
    let one = entry_for seat kept in
    let more : List ℕ = rest_of tag e kept rest in
    let so : front_of tag e ++ 1 ∷ tail_of tag e kept rest ≡ (front_of tag e ++ 1 ∷ spelled seat.wide one) ++ 0 ∷ more =
    ap (λ (z : List ℕ). front_of tag e ++ 1 ∷ z) (append_assoc (spelled seat.wide one) (0 ∷ []) more) ∙ sym (append_assoc (front_of tag e) (1 ∷ spelled seat.wide one) (0 ∷ more)) in
    so ∙ ap (λ (x : Seat). (front_of tag e ++ 1 ∷ spelled x.wide one) ++ 0 ∷ more) (seats_are tag e.state e.older)

pub not_one : ◌≢◌ {A = ℕ} 0 1
not_one same = omega (arith, same)

not_by_test : (byte : ℕ) → false ≡ eqb byte 1 → byte ≢ 1
not_by_test byte closed same = let one = eq-eqb byte 1 same in cc

-- the second half: the gate is open or not
half_second : (tag image rest : List ℕ) (n : ℕ) (d r : DiskState) (e : Disk) (kept : Stored) (wide : Bool) → MayPut tag n d e kept → CameUp d r image → LeftGate wide (front_of tag e) (tail_of tag e kept rest) image → HoldsDisk tag n r (stopped (cond wide (with_it kept e) e))
half_second tag image rest n d r e kept true m c g =
    let one : g.byte ≡ 1 = eqb-true g.byte 1 (sym g.opens) in
    let is : image ≡ front_of tag e ++ 1 ∷ tail_of tag e kept rest = rw one at g.is in
    held_fresh tag image n d r (with_it kept e) (fits_with tag n d e kept m) m.held.room (omega (arith, m.held.changes, m.rises)) c
    (record { shut = 0; rest = rest_of tag e kept rest; closed = not_one; file = is ∙ opened_tail tag e kept rest })
half_second tag image rest n d r e kept false m c g =
    held_fresh tag image n d r e (fits_key tag n d e m.held) m.held.room (omega (arith, m.held.changes)) c
    (record { shut = g.byte; rest = tail_of tag e kept rest; closed = not_by_test g.byte g.opens; file = g.is })

-- ---- a put

puts_of : (tag : List ℕ) (n : ℕ) (d : DiskState) (e : Disk) (kept : Stored) (m : MayPut tag n d e kept) → Puts d (seat_of tag e).gate (bytes_of tag e kept) (front_of tag e) (tail_of tag e kept m.held.rest) (front_of tag e ++ m.held.shut ∷ m.held.rest) m.held.shut
puts_of tag n d e kept m =
    let gate = (seat_of tag e).gate in
    let bytes = bytes_of tag e kept in
    let fits = fits_behind tag e.state kept e.older m.held.long in
    let size : length bytes ≡ length (spelled (seat_of tag e).wide (entry_for (seat_of tag e) kept)) + 1 = length-append (spelled (seat_of tag e).wide (entry_for (seat_of tag e) kept)) (0 ∷ []) in
    let place = place_of tag n d e m.held in
    let some : 0 < length bytes = omega (arith, size) in
    record {
      place = place;
      closed = m.held.closed;
      rest = m.held.rest;
      image_is = refl;
      was = m.held.file;
      full = written_behind (front_of tag e) m.held.rest bytes gate m.held.shut place some;
      some = some;
      few = omega (arith, size, fits.few);
      room = omega (arith, size, fits.room, m.held.room, m.held.few, m.within, m.rises);
      changes = omega (arith, m.held.changes, m.within, m.rises);
    }

held_put : (tag : List ℕ) (n : ℕ) (d : DiskState) (e : Disk) (kept : Stored) (m : MayPut tag n d e kept) → Up (fourth_disk (seat_of tag e).gate (bytes_of tag e kept) d) (armed_as (rules.passed 4 e.armed)) → HoldsDisk tag n (fourth_disk (seat_of tag e).gate (bytes_of tag e kept) d) (after_put kept e)
held_put tag n d e kept m up = record {
  shut = 0;
  rest = rest_of tag e kept m.held.rest;
  long = m.held.long;
  chain = chain_put tag e.state kept e.older m.held.long m.entry m.follows m.held.chain;
  closed = not_one;
  file = moment_fourth d (seat_of tag e).gate (bytes_of tag e kept) (front_of tag e) (tail_of tag e kept m.held.rest) (front_of tag e ++ m.held.shut ∷ m.held.rest) m.held.shut (puts_of tag n d e kept m) ∙ ap settled (opened_tail tag e kept m.held.rest);
  few = omega (arith, m.held.few, m.rises);
  within = m.within;
  armed = up.is;
  sound = up.sound;
  runs = up.runs;
  room = m.held.room;
  changes = omega (arith, m.held.changes, m.within, m.rises);
}

passes_whole : (tag : List ℕ) (n : ℕ) (d : DiskState) (e : Disk) (kept : Stored) → MayPut tag n d e kept → Lets (armed_as e.armed) 4 → ComesAs tag n (runs (put_calls (seat_of tag e) kept) d) (put_passes e) (after_put kept e) (stopped_in_put kept e)
passes_whole tag n d e kept m lets =
    let a = armed_as e.armed in
    let gate = (seat_of tag e).gate in
    let bytes = bytes_of tag e kept in
    let head = front_of tag e in
    let shut = m.held.shut in
    let image = head ++ shut ∷ m.held.rest in
    let p = puts_of tag n d e kept m in
    let P : Option Arm → Type 0 = λ b. Up d b in
    let u = subst P (sym (minus_none a)) (up_of tag n d e m.held) in
    let one = after_first d gate bytes head (tail_of tag e kept m.held.rest) image shut a p u (lets-fewer a 1 4 (omega arith) lets) in
    let two = after_second d gate bytes head (tail_of tag e kept m.held.rest) image shut a p one (lets-fewer a 2 4 (omega arith) lets) in
    let three = after_third d gate bytes head (tail_of tag e kept m.held.rest) image shut a p two (lets-fewer a 3 4 (omega arith) lets) in
    let four = after_fourth d gate bytes head (tail_of tag e kept m.held.rest) image shut a p three lets in
    let Q : Option Arm → Type 0 = λ b. Up (fourth_disk gate bytes d) b in
    comes_pass tag n (runs (put_calls (seat_of tag e) kept) d) (fourth_disk gate bytes d) (put_passes e) (after_put kept e) (stopped_in_put kept e)
    (lets-test e.armed 4 lets) four.so (held_put tag n d e kept m (subst Q (minus-armed 4 e.armed) four.up))

-- ---- stops in a put

opens_no : (stop : ArmedStop) (gate : ℕ) → stop.calls < 2 → opens_gate stop gate ≡ false
opens_no stop gate below = let few : nat_le 2 stop.calls ≡ false = grind (arith, nat_tests, below) in rw few refl

opens_yes : (stop : ArmedStop) (gate : ℕ) → 2 ≤ stop.calls → opens_gate stop gate ≡ leaves_open stop.outcome gate
opens_yes stop gate above = let many = le-leb 2 stop.calls above in rw many refl

-- The stop came in these calls, behind which this is the disk.
pub record StopsIn (calls : List DiskCall) (d x : DiskState) (outcome : ℕ) : Type 0 where
  pub so : runs calls d ≡ record { disk = stopped_by outcome x; failed = true }
  pub room : x.room ≡ d.room
  pub changes : x.changes ≡ d.changes
  pub armed : x.armed ≡ None
  pub sound : x.failing ≡ []

abbrev arm_of : ArmedStop → Arm
arm_of stop = record { calls = stop.calls; outcome = stop.outcome }

-- the entries, with this stop
abbrev with_stop : Disk → ArmedStop → Disk
with_stop e stop = record e { armed = Some stop }

ends_first : (tag : List ℕ) (n : ℕ) (d x : DiskState) (e : Disk) (stop : ArmedStop) (kept : Stored) → MayPut tag n d (with_stop e stop) kept → stop.calls < 2 → moment_of x ≡ wrote ((seat_of tag e).gate + 1) (bytes_of tag e kept) (moment_of d) → StopsIn (put_calls (seat_of tag e) kept) d x stop.outcome → ComesAs tag n (runs (put_calls (seat_of tag e) kept) d) (put_passes (with_stop e stop)) (after_put kept (with_stop e stop)) (stopped_in_put kept (with_stop e stop))
ends_first tag n d x e stop kept m below moment s =
    let f = with_stop e stop in
    let gate = (seat_of tag e).gate in
    let bytes = bytes_of tag e kept in
    let head = front_of tag e in
    let shut = m.held.shut in
    let image = head ++ shut ∷ m.held.rest in
    let p = puts_of tag n d f kept m in
    let was = moment ∙ ap (wrote (gate + 1) bytes) m.held.file in
    let at : gate + 1 ≡ length head + 1 = omega (arith, p.place) in
    let left = picked_behind stop.outcome head image (written (gate + 1) bytes image) m.held.rest (tail_of tag e kept m.held.rest) (gate + 1) (length bytes) (wrote (gate + 1) bytes (settled image)).most shut at refl p.full in
    let c = came_up d x stop.outcome (picked stop.outcome (wrote (gate + 1) bytes (settled image))) (ap (picked stop.outcome) was) s.room s.changes s.armed s.sound in
    let held : HoldsDisk tag n (crashed 0 (stopped_by stop.outcome x)) (stopped f) =
    held_fresh tag (picked stop.outcome (wrote (gate + 1) bytes (settled image))) n d (crashed 0 (stopped_by stop.outcome x)) f (fits_key tag n d f m.held) m.held.room (omega (arith, m.held.changes)) c
    (record { shut = shut; rest = left.0; closed = m.held.closed; file = left.1 }) in
    let P : Bool → Type 0 = λ t. HoldsDisk tag n (crashed 0 (stopped_by stop.outcome x)) (stopped (cond t (with_it kept f) f)) in
    let fails : put_passes f ≡ false = grind (arith, nat_tests, below) in
    comes_stop tag n (runs (put_calls (seat_of tag e) kept) d) (stopped_by stop.outcome x) (put_passes f) (after_put kept f) (stopped_in_put kept f)
    fails s.so (subst P (sym (opens_no stop (gate_of e) below)) held)

ends_second : (tag : List ℕ) (n : ℕ) (d x : DiskState) (e : Disk) (stop : ArmedStop) (kept : Stored) → MayPut tag n d (with_stop e stop) kept → 2 ≤ stop.calls → stop.calls < 4 → moment_of x ≡ wrote (seat_of tag e).gate (1 ∷ []) (moment_of (second_disk (seat_of tag e).gate (bytes_of tag e kept) d)) → StopsIn (put_calls (seat_of tag e) kept) d x stop.outcome → ComesAs tag n (runs (put_calls (seat_of tag e) kept) d) (put_passes (with_stop e stop)) (after_put kept (with_stop e stop)) (stopped_in_put kept (with_stop e stop))
ends_second tag n d x e stop kept m above below moment s =
    let f = with_stop e stop in
    let gate = (seat_of tag e).gate in
    let bytes = bytes_of tag e kept in
    let head = front_of tag e in
    let shut = m.held.shut in
    let image = head ++ shut ∷ m.held.rest in
    let p = puts_of tag n d f kept m in
    let tail = tail_of tag e kept m.held.rest in
    let full = head ++ shut ∷ tail in
    let was = moment ∙ ap (wrote gate (1 ∷ [])) (moment_second d gate bytes head tail image shut p) in
    let g = picked_gate stop.outcome gate (wrote gate (1 ∷ []) (settled full)).most shut head tail full p.place m.held.closed refl in
    let c = came_up d x stop.outcome (picked stop.outcome (wrote gate (1 ∷ []) (settled full))) (ap (picked stop.outcome) was) s.room s.changes s.armed s.sound in
    let held = half_second tag (picked stop.outcome (wrote gate (1 ∷ []) (settled full))) m.held.rest n d (crashed 0 (stopped_by stop.outcome x)) f kept (leaves_open stop.outcome gate) m c g in
    let P : Bool → Type 0 = λ t. HoldsDisk tag n (crashed 0 (stopped_by stop.outcome x)) (stopped (cond t (with_it kept f) f)) in
    let same : (seat_of tag e).gate ≡ gate_of e = (same_behind tag [] e.state e.older).gate in
    let fails : put_passes f ≡ false = grind (arith, nat_tests, below) in
    comes_stop tag n (runs (put_calls (seat_of tag e) kept) d) (stopped_by stop.outcome x) (put_passes f) (after_put kept f) (stopped_in_put kept f)
    fails s.so (subst P (ap (leaves_open stop.outcome) same ∙ sym (opens_yes stop (gate_of e) above)) held)

up_at : (r : DiskState) (arm : Arm) (j : ℕ) → arm.calls ≡ j → Up r (minus j (Some arm)) → Up r (minus arm.calls (Some arm))
up_at r arm j at u = let P : ℕ → Type 0 = λ k. Up r (minus k (Some arm)) in subst P (sym at) u

stop_zero : (tag : List ℕ) (n : ℕ) (d : DiskState) (e : Disk) (stop : ArmedStop) (kept : Stored) → MayPut tag n d (with_stop e stop) kept → stop.calls ≡ 0 → Up d (minus 0 (Some (arm_of stop))) → ComesAs tag n (runs (put_calls (seat_of tag e) kept) d) (put_passes (with_stop e stop)) (after_put kept (with_stop e stop)) (stopped_in_put kept (with_stop e stop))
stop_zero tag n d e stop kept m at u =
    let f = with_stop e stop in
    let gate = (seat_of tag e).gate in
    let bytes = bytes_of tag e kept in
    let arm = arm_of stop in
    let head = front_of tag e in
    let image = head ++ m.held.shut ∷ m.held.rest in
    let p = puts_of tag n d f kept m in
    let up = up_at d arm 0 at u in
    let x = with_write (gate + 1) bytes (stop_on stop.outcome d) in
    let so = write_stops d stop.outcome (gate + 1) bytes (stops_next d arm up) (fit_first d gate bytes head (tail_of tag e kept m.held.rest) image m.held.shut p) in
    ends_first tag n d x e stop kept m (omega (arith, at)) refl
    (record {
      so = ap (λ (c : Came). makes ToSync (makes (ToWrite gate (1 ∷ [])) (makes ToSync c))) so;
      room = refl;
      changes = refl;
      armed = none_behind d arm up;
      sound = up.sound;
    })

stop_one : (tag : List ℕ) (n : ℕ) (d : DiskState) (e : Disk) (stop : ArmedStop) (kept : Stored) → MayPut tag n d (with_stop e stop) kept → stop.calls ≡ 1 → Up d (minus 0 (Some (arm_of stop))) → ComesAs tag n (runs (put_calls (seat_of tag e) kept) d) (put_passes (with_stop e stop)) (after_put kept (with_stop e stop)) (stopped_in_put kept (with_stop e stop))
stop_one tag n d e stop kept m at u =
    let f = with_stop e stop in
    let gate = (seat_of tag e).gate in
    let bytes = bytes_of tag e kept in
    let arm = arm_of stop in
    let head = front_of tag e in
    let image = head ++ m.held.shut ∷ m.held.rest in
    let p = puts_of tag n d f kept m in
    let one = after_first d gate bytes head (tail_of tag e kept m.held.rest) image m.held.shut (Some arm) p u (omega (arith, at)) in
    let r = first_disk gate bytes d in
    let up = up_at r arm 1 at one.up in
    let x = stop_on stop.outcome r in
    let so = ap (makes ToSync) one.so ∙ sync_stops r stop.outcome (stops_next r arm up) in
    ends_first tag n d x e stop kept m (omega (arith, at)) refl
    (record {
      so = ap (λ (c : Came). makes ToSync (makes (ToWrite gate (1 ∷ [])) c)) so;
      room = refl;
      changes = refl;
      armed = none_behind r arm up;
      sound = up.sound;
    })

stop_two : (tag : List ℕ) (n : ℕ) (d : DiskState) (e : Disk) (stop : ArmedStop) (kept : Stored) → MayPut tag n d (with_stop e stop) kept → stop.calls ≡ 2 → Up d (minus 0 (Some (arm_of stop))) → ComesAs tag n (runs (put_calls (seat_of tag e) kept) d) (put_passes (with_stop e stop)) (after_put kept (with_stop e stop)) (stopped_in_put kept (with_stop e stop))
stop_two tag n d e stop kept m at u =
    let f = with_stop e stop in
    let gate = (seat_of tag e).gate in
    let bytes = bytes_of tag e kept in
    let arm = arm_of stop in
    let head = front_of tag e in
    let image = head ++ m.held.shut ∷ m.held.rest in
    let p = puts_of tag n d f kept m in
    let one = after_first d gate bytes head (tail_of tag e kept m.held.rest) image m.held.shut (Some arm) p u (omega (arith, at)) in
    let two = after_second d gate bytes head (tail_of tag e kept m.held.rest) image m.held.shut (Some arm) p one (omega (arith, at)) in
    let r = second_disk gate bytes d in
    let up = up_at r arm 2 at two.up in
    let x = with_write gate (1 ∷ []) (stop_on stop.outcome r) in
    let so = ap (makes (ToWrite gate (1 ∷ []))) two.so ∙ write_stops r stop.outcome gate (1 ∷ []) (stops_next r arm up) (fit_third d gate bytes head (tail_of tag e kept m.held.rest) image m.held.shut p) in
    ends_second tag n d x e stop kept m (omega (arith, at)) (omega (arith, at)) refl
    (record {
      so = ap (λ (c : Came). makes ToSync c) so;
      room = refl;
      changes = refl;
      armed = none_behind r arm up;
      sound = up.sound;
    })

stop_three : (tag : List ℕ) (n : ℕ) (d : DiskState) (e : Disk) (stop : ArmedStop) (kept : Stored) → MayPut tag n d (with_stop e stop) kept → stop.calls ≡ 3 → Up d (minus 0 (Some (arm_of stop))) → ComesAs tag n (runs (put_calls (seat_of tag e) kept) d) (put_passes (with_stop e stop)) (after_put kept (with_stop e stop)) (stopped_in_put kept (with_stop e stop))
stop_three tag n d e stop kept m at u =
    let f = with_stop e stop in
    let gate = (seat_of tag e).gate in
    let bytes = bytes_of tag e kept in
    let arm = arm_of stop in
    let head = front_of tag e in
    let image = head ++ m.held.shut ∷ m.held.rest in
    let p = puts_of tag n d f kept m in
    let one = after_first d gate bytes head (tail_of tag e kept m.held.rest) image m.held.shut (Some arm) p u (omega (arith, at)) in
    let two = after_second d gate bytes head (tail_of tag e kept m.held.rest) image m.held.shut (Some arm) p one (omega (arith, at)) in
    let three = after_third d gate bytes head (tail_of tag e kept m.held.rest) image m.held.shut (Some arm) p two (omega (arith, at)) in
    let r = third_disk gate bytes d in
    let up = up_at r arm 3 at three.up in
    let x = stop_on stop.outcome r in
    let so = ap (makes ToSync) three.so ∙ sync_stops r stop.outcome (stops_next r arm up) in
    ends_second tag n d x e stop kept m (omega (arith, at)) (omega (arith, at)) refl
    (record {
      so = so;
      room = refl;
      changes = refl;
      armed = none_behind r arm up;
      sound = up.sound;
    })

-- which call it is
below_four : (c : ℕ) → (c ≡ 0) ⊎ ((c ≡ 1) ⊎ ((c ≡ 2) ⊎ ((c ≡ 3) ⊎ (4 ≤ c))))
below_four c =
    elim (cases_lt c 1) [
      | inl a ↦ inl (omega (arith, a))
      | inr a ↦ elim (cases_lt c 2) [
        | inl b ↦ inr (inl (omega (arith, a, b)))
        | inr b ↦ elim (cases_lt c 3) [
          | inl x ↦ inr (inr (inl (omega (arith, b, x))))
          | inr x ↦ elim (cases_lt c 4) [
            | inl y ↦ inr (inr (inr (inl (omega (arith, x, y)))))
            | inr y ↦ inr (inr (inr (inr y)))
          ]
        ]
      ]
    ]

put_with : (tag : List ℕ) (n : ℕ) (d : DiskState) (e : Disk) (kept : Stored) (armed : Option ArmedStop) → MayPut tag n d (record e { armed = armed }) kept → ComesAs tag n (runs (put_calls (seat_of tag e) kept) d) (put_passes (record e { armed = armed })) (after_put kept (record e { armed = armed })) (stopped_in_put kept (record e { armed = armed }))
put_with tag n d e kept None m = passes_whole tag n d (record e { armed = None }) kept m tt
put_with tag n d e kept (Some stop) m =
    let f = with_stop e stop in
    let P : Option Arm → Type 0 = λ b. Up d b in
    let u = subst P (sym (minus_none (armed_as (Some stop)))) (up_of tag n d f m.held) in
    elim (below_four stop.calls) [
      | inl a ↦ stop_zero tag n d e stop kept m a u
      | inr (inl a) ↦ stop_one tag n d e stop kept m a u
      | inr (inr (inl a)) ↦ stop_two tag n d e stop kept m a u
      | inr (inr (inr (inl a))) ↦ stop_three tag n d e stop kept m a u
      | inr (inr (inr (inr a))) ↦ passes_whole tag n d f kept m a
    ]

pub put_as_told : PutsAsTold
put_as_told tag n d e kept h entry follows rises within =
    put_with tag n d e kept e.armed (record { held = h; entry = entry; follows = follows; rises = rises; within = within })
