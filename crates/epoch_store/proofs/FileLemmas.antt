-- What a crash within a put leaves of the file.
use Rattle.std.proofs.Common.{◌≡◌, ◌≢◌, ℕ, ◌+◌, ◌-◌, ◌<◌, ◌≤◌, ◌⊎◌, inl, inr, Bool, false, true, Option, None, Some, List, [], ◌∷◌, ◌++◌, length, take, drop, get_or, refl, sym, subst, ap, ◌∙◌, arith, append_assoc, append-nil, codes, length-append, length-take, length-drop}
use Rattle.std.proofs.lemmas.Bool.{cases_eq}
use Rattle.std.proofs.lemmas.Bool.Decides.{nat_tests}
use Rattle.std.proofs.lemmas.List.{take-append-drop, take_at, drop_at, drop_more, ext_get_or, get_or-take, get_or-drop}
use Rattle.std.specs.Int.{w64, to_be_bytes}
use Rattle.epoch_store.specs.declared.Stored.{Stored}
use Rattle.epoch_store.specs.declared.entry.Entry.{Entry}
use Rattle.epoch_store.specs.declared.seat.Seat.{Seat}
use Rattle.epoch_store.specs.Seat.{behind, behind_by, first_seat, moved_length, seat_from, width, width_by}
use Rattle.epoch_store.specs.Store.{entry_with, front, magic, mark, mask_bytes, numbers, spelled, spelled_by, Follows, IsChain, IsEntryOf, IsHeld, StoreAt, StoreOf}
use Rattle.ports.specs.Disk.{Leaves, is_torn, written, settled, torn_at}

-- two lists that agree on a part
pub same_part : (c s : List ℕ) (from n : ℕ) → from + n ≤ length s → length s ≤ length c → ((i : ℕ) → from ≤ i → i < from + n → get_or c i 0 ≡ get_or s i 0) → take n (drop from c) ≡ take n (drop from s)
same_part c s from n within longer same =
    let size_s : length (take n (drop from s)) ≡ n = simp (length-take, length-drop) (omega arith) in
    let size_c : length (take n (drop from c)) ≡ n = simp (length-take, length-drop) (omega arith) in
    ext_get_or 0 (take n (drop from c)) (take n (drop from s)) (size_c ∙ sym size_s) (λ i below.
    let in_n : i < n = omega (arith, size_c) in
    rw (get_or-take n (drop from c) i 0 in_n, get_or-take n (drop from s) i 0 in_n, get_or-drop from c i 0, get_or-drop from s i 0)
    (same (from + i) (omega arith) (omega arith)))

pub below_range : (place count i : ℕ) → i < place → is_torn ((place, count) ∷ []) i ≡ false
below_range place count i below = grind (arith, nat_tests)

pub above_range : (place count i : ℕ) → place + count ≤ i → is_torn ((place, count) ∷ []) i ≡ false
above_range place count i above = grind (arith, nat_tests)

-- what is written within the file or right behind it
pub written_within : (place : ℕ) (bytes image : List ℕ) → 0 < length bytes → place ≤ length image → written place bytes image ≡ take place image ++ bytes ++ drop (place + length bytes) image
written_within place [] image some within = absurd (omega arith)
written_within place (b ∷ bytes) image some within =
    let none : place - length image ≡ 0 = omega arith in
    rw none (rw (append-nil (take place image)) refl)

-- ---- how long entries are

-- how many bytes stand behind a mark, if there is one
abbrev pub moved_size : Option (List ℕ) → ℕ
moved_size None = 0
moved_size (Some tag) = moved_length

length-spelled_by : (wide : Bool) (moved : Option (List ℕ)) (state : Stored) → IsHeld wide moved state.mask.0 → 1 + length (spelled_by wide moved state) ≡ width_by wide + moved_size moved
length-spelled_by false None state held = refl
length-spelled_by true None state held = refl
length-spelled_by false (Some tag) state held =
    omega (arith, held, length-append (numbers state ++ mask_bytes false (mark false)) (tag ++ to_be_bytes w64 state.mask.0), length-append tag (to_be_bytes w64 state.mask.0))
length-spelled_by true (Some tag) state held =
    omega (arith, held, length-append (numbers state ++ mask_bytes true (mark true)) (tag ++ to_be_bytes w64 state.mask.0), length-append tag (to_be_bytes w64 state.mask.0))

gate_by : (seat : Seat) (moved : Option (List ℕ)) → (behind_by moved seat).gate ≡ seat.gate + width seat + moved_size moved
gate_by seat None = omega arith
gate_by seat (Some tag) = refl

few_by : (wide : Bool) (moved : Option (List ℕ)) → width_by wide + moved_size moved ≤ 61
few_by false None = omega arith
few_by false (Some tag) = omega arith
few_by true None = omega arith
few_by true (Some tag) = omega arith

-- the gate behind an entry
pub gate_past : (seat : Seat) (e : Entry) → IsHeld seat.wide e.moved e.kept.mask.0 → (behind seat e).gate ≡ seat.gate + (1 + length (spelled seat.wide e))
gate_past seat e held = omega (arith, gate_by seat e.moved, length-spelled_by seat.wide e.moved e.kept held)

-- it isn't far
pub gate_near : (seat : Seat) (e : Entry) → (behind seat e).gate ≤ seat.gate + 61
gate_near seat e = omega (arith, gate_by seat e.moved, few_by seat.wide e.moved)

pub few_spelled : (wide : Bool) (e : Entry) → IsHeld wide e.moved e.kept.mask.0 → length (spelled wide e) ≤ 60
few_spelled wide e held = omega (arith, length-spelled_by wide e.moved e.kept held, few_by wide e.moved)

front_first : (wide : Bool) (header : List ℕ) → length header ≡ 32 → length (magic wide ++ header) ≡ 40
front_first false header long = omega (arith, long, length-append (codes "FFSTORE1") header)
front_first true header long = omega (arith, long, length-append (codes "FFSTORE2") header)

-- the gate behind some entries stands where their bytes end
pub front-length : (wide : Bool) (header : List ℕ) (entries : List Entry) → length header ≡ 32 → IsChain (first_seat wide header) entries → length (front wide header entries) ≡ (seat_from (first_seat wide header) entries).gate
front-length wide header [] long chain = front_first wide header long
front-length wide header (e ∷ older) long chain =
    let seat : Seat = seat_from (first_seat wide header) older in
    omega (arith, front-length wide header older long chain.2, length-append (front wide header older) (1 ∷ spelled seat.wide e), gate_past seat e chain.0.holds)

-- ---- tags

tag_past : (wide : Bool) (seat : Seat) (moved : Option (List ℕ)) (mask : ℕ) → length seat.tag ≡ 32 → IsHeld wide moved mask → length (behind_by moved seat).tag ≡ 32
tag_past wide seat None mask long held = long
tag_past false seat (Some tag) mask long held = held
tag_past true seat (Some tag) mask long held = held

pub chain_tag : (first : Seat) (entries : List Entry) → length first.tag ≡ 32 → IsChain first entries → length (seat_from first entries).tag ≡ 32
chain_tag first [] long chain = long
chain_tag first (e ∷ older) long chain =
    let seat : Seat = seat_from first older in
    tag_past seat.wide seat e.moved e.kept.mask.0 (chain_tag first older long chain.2) chain.0.holds

-- ---- the file of a store, cut at its gate and right behind it

-- its bytes in front of the gate
abbrev pub front_of : {tag image : List ℕ} {state : Stored} {seat : Seat} → StoreAt tag image state seat → List ℕ
front_of {state = state} store = front store.wide store.header (entry_with store.moved state ∷ store.older)

-- the tag in force has 32 bytes
pub store_tag : (tag image : List ℕ) (state : Stored) (seat : Seat) → StoreAt tag image state seat → length seat.tag ≡ 32
store_tag tag image state seat store =
    subst (λ (s : Seat). length s.tag ≡ 32) (sym store.place) (chain_tag (first_seat store.wide store.header) (entry_with store.moved state ∷ store.older) store.long store.chain)

pub store_gate : (tag image : List ℕ) (state : Stored) (seat : Seat) (store : StoreAt tag image state seat) → seat.gate ≡ length (front_of store)
store_gate tag image state seat store =
    ap (λ (s : Seat). s.gate) store.place ∙ sym (front-length store.wide store.header (entry_with store.moved state ∷ store.older) store.long store.chain)

store_front : (tag image : List ℕ) (state : Stored) (seat : Seat) (store : StoreAt tag image state seat) → take seat.gate image ≡ front_of store
store_front tag image state seat store =
    let gate = store_gate tag image state seat store in
    rw store.bytes (take_at (front_of store) (store.shut ∷ store.rest) seat.gate (sym gate))

pub store_size : (tag image : List ℕ) (state : Stored) (seat : Seat) → StoreAt tag image state seat → seat.gate < length image
store_size tag image state seat store = omega (arith, store_gate tag image state seat store, ap length store.bytes ∙ length-append (front_of store) (store.shut ∷ store.rest))

store_with_gate : (tag image : List ℕ) (state : Stored) (seat : Seat) (store : StoreAt tag image state seat) → take (seat.gate + 1) image ≡ front_of store ++ store.shut ∷ []
store_with_gate tag image state seat store =
    let gate = store_gate tag image state seat store in
    let whole : image ≡ (front_of store ++ store.shut ∷ []) ++ store.rest = store.bytes ∙ sym (append_assoc (front_of store) (store.shut ∷ []) store.rest) in
    let size : length (front_of store ++ store.shut ∷ []) ≡ seat.gate + 1 = omega (arith, gate, length-append (front_of store) (store.shut ∷ [])) in
    ap (take (seat.gate + 1)) whole ∙ take_at (front_of store ++ store.shut ∷ []) store.rest (seat.gate + 1) size

-- a write behind the gate leaves the store, whatever a crash makes of it
pub behind_gate : (tag image c : List ℕ) (state : Stored) (seat : Seat) (count : ℕ) → StoreAt tag image state seat → Leaves (torn_at (seat.gate + 1) count (settled image)) c → StoreAt tag c state seat
behind_gate tag image c state seat count store leaves =
    let size : seat.gate < length image = store_size tag image state seat store in
    let within : 0 + (seat.gate + 1) ≤ length image = omega arith in
    let same : take (seat.gate + 1) c ≡ take (seat.gate + 1) image =
    same_part c image 0 (seat.gate + 1) within leaves.no_shorter (λ i from below. leaves.outside i (omega arith) (below_range (seat.gate + 1) count i (omega arith))) in
    let parts = take-append-drop (seat.gate + 1) c in
    record {
      wide = store.wide;
      header = store.header;
      moved = store.moved;
      older = store.older;
      shut = store.shut;
      rest = drop (seat.gate + 1) c;
      long = store.long;
      chain = store.chain;
      closed = store.closed;
      bytes =
          sym parts
          ∙ ap (λ (b : List ℕ). b ++ drop (seat.gate + 1) c) (same ∙ store_with_gate tag image state seat store)
          ∙ append_assoc (front_of store) (store.shut ∷ []) (drop (seat.gate + 1) c);
      place = store.place;
      in_force = store.in_force;
    }

-- an open gate with an entry behind it, and a closed one
pub opened : (tag image c rest : List ℕ) (state : Stored) (seat : Seat) (e : Entry) (store : StoreAt tag image state seat) → IsEntryOf seat.wide e → Follows state e.kept → c ≡ front_of store ++ 1 ∷ (spelled seat.wide e ++ 0 ∷ rest) → StoreAt (behind seat e).tag c e.kept (behind seat e)
opened tag image c rest state seat e store entry follows is =
    let there : Seat = seat_from (first_seat store.wide store.header) (entry_with store.moved state ∷ store.older) in
    record {
      wide = store.wide;
      header = store.header;
      moved = e.moved;
      older = entry_with store.moved state ∷ store.older;
      shut = 0;
      rest = rest;
      long = store.long;
      chain = (subst (λ (s : Seat). IsEntryOf s.wide e) store.place entry, follows, store.chain);
      closed = λ same. omega (arith, same);
      bytes =
          is
          ∙ ap (λ (s : Seat). front_of store ++ 1 ∷ (spelled s.wide e ++ 0 ∷ rest)) store.place
          ∙ sym (append_assoc (front_of store) (1 ∷ spelled there.wide e) (0 ∷ rest));
      place = ap (λ (s : Seat). behind s e) store.place;
      in_force = refl;
    }

-- a closed gate, whatever stands behind it
pub shut_still : (tag image c rest : List ℕ) (state : Stored) (seat : Seat) (x : ℕ) (store : StoreAt tag image state seat) → x ≢ 1 → c ≡ front_of store ++ x ∷ rest → StoreAt tag c state seat
shut_still tag image c rest state seat x store closed is = record {
  wide = store.wide;
  header = store.header;
  moved = store.moved;
  older = store.older;
  shut = x;
  rest = rest;
  long = store.long;
  chain = store.chain;
  closed = closed;
  bytes = is;
  place = store.place;
  in_force = store.in_force;
}

-- the file with bytes, and a closed gate, behind its closed gate
pub with_spelled : (tag image bytes spelling : List ℕ) (state : Stored) (seat : Seat) (store : StoreAt tag image state seat) → bytes ≡ spelling ++ 0 ∷ [] → (rest : List ℕ) × (written (seat.gate + 1) bytes image ≡ front_of store ++ store.shut ∷ (spelling ++ 0 ∷ rest))
with_spelled tag image bytes spelling state seat store spell =
    let size : seat.gate < length image = store_size tag image state seat store in
    let some : 0 < length bytes = omega (arith, ap length spell ∙ length-append spelling (0 ∷ [])) in
    let within : seat.gate + 1 ≤ length image = omega arith in
    let rest = drop (seat.gate + 1 + length bytes) image in (
      rest,
      written_within (seat.gate + 1) bytes image some within
          ∙ ap (λ (b : List ℕ). b ++ bytes ++ rest) (store_with_gate tag image state seat store)
          ∙ append_assoc (front_of store ++ store.shut ∷ []) bytes rest
          ∙ append_assoc (front_of store) (store.shut ∷ []) (bytes ++ rest)
          ∙ ap (λ (b : List ℕ). front_of store ++ store.shut ∷ (b ++ rest)) spell
          ∙ ap (λ (b : List ℕ). front_of store ++ store.shut ∷ b) (append_assoc spelling (0 ∷ []) rest),
    )

-- with an entry
pub with_entry : (tag image bytes : List ℕ) (state : Stored) (seat : Seat) (e : Entry) (store : StoreAt tag image state seat) → bytes ≡ spelled seat.wide e ++ 0 ∷ [] → (rest : List ℕ) × (written (seat.gate + 1) bytes image ≡ front_of store ++ store.shut ∷ (spelled seat.wide e ++ 0 ∷ rest))
with_entry tag image bytes state seat e store spell = with_spelled tag image bytes (spelled seat.wide e) state seat store spell

-- a file that a crash leaves in which the gate was being opened
pub torn_gate : (before behind rest c : List ℕ) (gate shut : ℕ) → gate ≡ length before → Leaves (torn_at gate 1 (settled (before ++ shut ∷ (behind ++ rest)))) c → (x : ℕ) × (more : List ℕ) × (c ≡ before ++ x ∷ (behind ++ more))
torn_gate before behind rest c gate shut place leaves =
    let image = before ++ shut ∷ (behind ++ rest) in
    let size : length image ≡ gate + 1 + length behind + length rest = simp (length-append) (omega arith) in
    let in_front : 0 + gate ≤ length image = omega arith in
    let in_back : gate + 1 + length behind ≤ length image = omega arith in
    let front_same : take gate c ≡ take gate image =
    same_part c image 0 gate in_front leaves.no_shorter (λ i from below. leaves.outside i (omega arith) (below_range gate 1 i (omega arith))) in
    let back_same : take (length behind) (drop (gate + 1) c) ≡ take (length behind) (drop (gate + 1) image) =
    same_part c image (gate + 1) (length behind) in_back leaves.no_shorter (λ i from below. leaves.outside i (omega arith) (above_range gate 1 i from)) in
    let front_is : take gate image ≡ before = take_at before (shut ∷ (behind ++ rest)) gate (sym place) in
    let cut : drop (gate + 1) image ≡ behind ++ rest =
    let whole : image ≡ (before ++ shut ∷ []) ++ (behind ++ rest) = sym (append_assoc before (shut ∷ []) (behind ++ rest)) in
    rw whole (drop_at (before ++ shut ∷ []) (behind ++ rest) (gate + 1) (omega (arith, length-append before (shut ∷ [])))) in
    let back_is : take (length behind) (drop (gate + 1) image) ≡ behind = rw cut (take_at behind rest (length behind) refl) in
    let here : gate < length c = omega (arith, leaves.no_shorter) in
    let behind_c : drop (gate + 1) c ≡ behind ++ drop (length behind) (drop (gate + 1) c) =
    sym (take-append-drop (length behind) (drop (gate + 1) c)) ∙ ap (λ (b : List ℕ). b ++ drop (length behind) (drop (gate + 1) c)) (back_same ∙ back_is) in (
      get_or c gate 0,
      drop (length behind) (drop (gate + 1) c),
      sym (take-append-drop gate c)
          ∙ ap (λ (b : List ℕ). b ++ drop gate c) (front_same ∙ front_is)
          ∙ ap (λ (b : List ℕ). before ++ b) (drop_more c gate 0 here)
          ∙ ap (λ (b : List ℕ). before ++ get_or c gate 0 ∷ b) behind_c,
    )

-- one in which the gate in front of an entry was being opened
pub torn_entry : (before spelling rest full c : List ℕ) (gate shut : ℕ) → gate ≡ length before → full ≡ before ++ shut ∷ (spelling ++ 0 ∷ rest) → Leaves (torn_at gate 1 (settled full)) c → (x : ℕ) × (more : List ℕ) × (c ≡ before ++ x ∷ (spelling ++ 0 ∷ more))
torn_entry before spelling rest full c gate shut place is leaves =
    let shape : full ≡ before ++ shut ∷ ((spelling ++ 0 ∷ []) ++ rest) = rw (append_assoc spelling (0 ∷ []) rest) is in
    let torn = torn_gate before (spelling ++ 0 ∷ []) rest c gate shut place (rw shape at leaves) in
    (torn.0, torn.1, rw (append_assoc spelling (0 ∷ []) torn.1) at torn.2)

-- while the gate is being opened, a crash leaves the store or the next one
pub at_gate : (tag image full c rest : List ℕ) (state : Stored) (seat : Seat) (e : Entry) (store : StoreAt tag image state seat) → IsEntryOf seat.wide e → Follows state e.kept → full ≡ front_of store ++ store.shut ∷ (spelled seat.wide e ++ 0 ∷ rest) → Leaves (torn_at seat.gate 1 (settled full)) c → StoreOf tag c state ⊎ StoreOf (behind seat e).tag c e.kept
at_gate tag image full c rest state seat e store entry follows is leaves =
    let torn = torn_entry (front_of store) (spelled seat.wide e) rest full c seat.gate store.shut (store_gate tag image state seat store) is leaves in
    elim (cases_eq torn.0 1) [
      | inl one ↦ inr (behind seat e, opened tag image c torn.1 state seat e store entry follows (rw one at torn.2))
      | inr other ↦ inl (seat, shut_still tag image c (spelled seat.wide e ++ 0 ∷ torn.1) state seat torn.0 store other torn.2)
    ]

-- the gate is opened in front of bytes
opened_at : (before rest full : List ℕ) (gate shut : ℕ) → gate ≡ length before → full ≡ before ++ shut ∷ rest → written gate (1 ∷ []) full ≡ before ++ 1 ∷ rest
opened_at before rest full gate shut place is =
    let size : length full ≡ gate + 1 + length rest = omega (arith, place, ap length is, length-append before (shut ∷ rest)) in
    let some : 0 < 1 = omega arith in
    let within : gate ≤ length full = omega arith in
    let front_is : take gate full ≡ before = rw is (take_at before (shut ∷ rest) gate (sym place)) in
    let back_is : drop (gate + 1) full ≡ rest =
    let whole : full ≡ (before ++ shut ∷ []) ++ rest = is ∙ sym (append_assoc before (shut ∷ []) rest) in
    rw whole (drop_at (before ++ shut ∷ []) rest (gate + 1) (omega (arith, place, length-append before (shut ∷ [])))) in
    rw (written_within gate (1 ∷ []) full some within, front_is, back_is) (append_assoc before (1 ∷ []) rest)

-- once it is open, the file is the next store
pub gate_open : (tag image full rest : List ℕ) (state : Stored) (seat : Seat) (e : Entry) (store : StoreAt tag image state seat) → IsEntryOf seat.wide e → Follows state e.kept → full ≡ front_of store ++ store.shut ∷ (spelled seat.wide e ++ 0 ∷ rest) → StoreAt (behind seat e).tag (written seat.gate (1 ∷ []) full) e.kept (behind seat e)
gate_open tag image full rest state seat e store entry follows is =
    opened tag image (written seat.gate (1 ∷ []) full) rest state seat e store entry follows
    (opened_at (front_of store) (spelled seat.wide e ++ 0 ∷ rest) full seat.gate store.shut (store_gate tag image state seat store) is)
