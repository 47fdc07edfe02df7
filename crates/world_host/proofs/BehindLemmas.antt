-- The entries by which a disk's states are put, and the seats behind them.
use Rattle.std.proofs.Common.{◌≡◌, ◌≢◌, ℕ, ◌+◌, ◌*◌, ◌≤◌, ◌^◌, Bool, true, false, ◌||◌, cond, List, [], ◌∷◌, ◌++◌, length, Option, None, Some, is_some, refl, ap, ◌∙◌, subst, arith, length-append}
use Rattle.std.specs.Int.{w64, to_be_bytes}
use Rattle.std.proofs.lemmas.Bool.{leb-false}
use Rattle.ports.specs.DiskCalls.{DiskCall}
use Rattle.epoch_store.specs.declared.Stored.{Stored}
use Rattle.epoch_store.specs.declared.seat.Seat.{Seat}
use Rattle.epoch_store.specs.Seat.{behind, behind_by, entry_for, first_seat, made_first, needs_wide, next_seat, seat_behind, seat_from, width_by}
use Rattle.epoch_store.specs.Asked.{entry_reads, gate_reads}
use Rattle.epoch_store.specs.Store.{Comes, Follows, IsChain, IsEntry, IsEntryOf, IsHeld, StoreAt, entry_with, front, made_wide, put_entries, spelled_by}

-- the first seat of the file with these states, and the entries that keep them
abbrev pub first_of : List ℕ → Stored → List Stored → Seat
first_of tag state older = first_seat (made_wide state older) tag

-- ---- the seat behind them

first_moves : (wide : Bool) (tag : List ℕ) → cond (wide || cond wide false true) None (Some tag) ≡ None
first_moves true tag = refl
first_moves false tag = refl

-- the entry of a store that is made moves nothing
made_entry : (tag : List ℕ) (state : Stored) → entry_for (made_first tag state) state ≡ entry_with None state
made_entry tag state = ap (λ (m : Option (List ℕ)). entry_with m state) (first_moves (needs_wide state.mask.0) tag)

-- the seat behind states that were put is the one behind their entries
pub seats_are : (tag : List ℕ) (state : Stored) (older : List Stored) → seat_behind tag state older ≡ seat_from (first_of tag state older) (put_entries tag state older)
seats_are tag state [] = ap (behind (made_first tag state)) (made_entry tag state)
seats_are tag state (before ∷ older) = ap (λ (seat : Seat). behind seat (entry_for (seat_behind tag before older) state)) (seats_are tag before older)

next_tag : (stays : Bool) (seat : Seat) → (behind_by (cond stays None (Some seat.tag)) seat).tag ≡ seat.tag
next_tag true seat = refl
next_tag false seat = refl

-- a state that is put leaves the tag
pub tag_stays : (seat : Seat) (state : Stored) → (next_seat seat state).tag ≡ seat.tag
tag_stays seat state = next_tag (seat.wide || cond (needs_wide state.mask.0) false true) seat

pub tag_behind : (tag : List ℕ) (state : Stored) (older : List Stored) → (seat_behind tag state older).tag ≡ tag
tag_behind tag state [] = tag_stays (made_first tag state) state
tag_behind tag state (before ∷ older) = tag_stays (seat_behind tag before older) state ∙ tag_behind tag before older

-- ---- what the tag doesn't change

-- seats at one place, whatever tag is in force
pub record SamePlace (a b : Seat) : Type 0 where
  pub gate : a.gate ≡ b.gate
  pub wide : a.wide ≡ b.wide

further : (stays : Bool) (s t : List ℕ) (a b : Seat) → SamePlace a b → SamePlace (behind_by (cond stays None (Some s)) a) (behind_by (cond stays None (Some t)) b)
further true s t a b same = record { gate = λ i. same.gate i + width_by (same.wide i); wide = same.wide }
further false s t a b same = record { gate = λ i. same.gate i + width_by (same.wide i) + 40; wide = refl }

next_same : (a b : Seat) (state : Stored) → SamePlace a b → SamePlace (next_seat a state) (next_seat b state)
next_same a b state same =
    let fits : Bool = cond (needs_wide state.mask.0) false true in
    let P : Bool → Type 0 = λ wide. SamePlace (next_seat a state) (behind_by (cond (wide || fits) None (Some b.tag)) b) in
    subst P same.wide (further (a.wide || fits) a.tag b.tag a b same)

-- the seat behind states is at the same place for each tag
pub same_behind : (s t : List ℕ) (state : Stored) (older : List Stored) → SamePlace (seat_behind s state older) (seat_behind t state older)
same_behind s t state [] = next_same (made_first s state) (made_first t state) state (record { gate = refl; wide = refl })
same_behind s t state (before ∷ older) = next_same (seat_behind s before older) (seat_behind t before older) state (same_behind s t before older)

moves_same : (stays : Bool) (s t : List ℕ) → is_some (cond stays None (Some s)) ≡ is_some (cond stays None (Some t))
moves_same true s t = refl
moves_same false s t = refl

-- how many calls read a gate
abbrev reads_of : Bool → ℕ
reads_of false = 1
reads_of true = 2

length-gate : (seat : Seat) (moved : Bool) (earlier : List DiskCall) → length (gate_reads seat moved ++ earlier) ≡ reads_of moved + length earlier
length-gate seat false earlier = omega arith
length-gate seat true earlier = omega arith

-- the reads of their gates are as many for each tag
pub reads_same : (s t : List ℕ) (a b : Seat) (state : Stored) (older : List Stored) → length (entry_reads a (put_entries s state older)) ≡ length (entry_reads b (put_entries t state older))
reads_same s t a b state [] = refl
reads_same s t a b state (before ∷ older) =
    let x : Seat = seat_behind s before older in
    let y : Seat = seat_behind t before older in
    let fits : Bool = cond (needs_wide state.mask.0) false true in
    let P : Bool → Type 0 = λ wide. is_some (entry_for x state).moved ≡ is_some (cond (wide || fits) None (Some y.tag)) in
    let moves : is_some (entry_for x state).moved ≡ is_some (entry_for y state).moved = subst P (same_behind s t before older).wide (moves_same (x.wide || fits) x.tag y.tag) in
    let one = length-gate (seat_from a (put_entries s before older)) (is_some (entry_for x state).moved) (entry_reads a (put_entries s before older)) in
    let other = length-gate (seat_from b (put_entries t before older)) (is_some (entry_for y state).moved) (entry_reads b (put_entries t before older)) in
    omega (arith, one, other, ap reads_of moves, reads_same s t a b before older)

-- ---- the entry of a state that is put

held_by : (narrow : Bool) (tag : List ℕ) (mask : ℕ) → needs_wide mask ≡ narrow → length tag ≡ 32 → IsHeld false (cond (false || cond narrow false true) None (Some tag)) mask
held_by true tag mask needs long = long
held_by false tag mask needs long = leb-false (2 ^ 31) mask needs

-- it holds the mask
held_put : (wide : Bool) (tag : List ℕ) (mask : ℕ) → length tag ≡ 32 → IsHeld wide (cond (wide || cond (needs_wide mask) false true) None (Some tag)) mask
held_put true tag mask long = tt
held_put false tag mask long = held_by (needs_wide mask) tag mask refl long

entry_put : (seat : Seat) (kept : Stored) → length seat.tag ≡ 32 → IsEntry kept → IsEntryOf seat.wide (entry_for seat kept)
entry_put seat kept long entry = record { keeps = entry; holds = held_put seat.wide seat.tag kept.mask.0 long }

comes_put : (tag : List ℕ) (seat : Seat) (state kept : Stored) (older : List Stored) → Follows state kept → Comes (put_entries tag state older) (entry_for seat kept)
comes_put tag seat state kept [] follows = follows
comes_put tag seat state kept (before ∷ older) follows = follows

-- one more state is put
pub chain_put : (tag : List ℕ) (state kept : Stored) (older : List Stored) → length tag ≡ 32 → IsEntry kept → Follows state kept → IsChain (first_of tag state older) (put_entries tag state older) → IsChain (first_of tag kept (state ∷ older)) (put_entries tag kept (state ∷ older))
chain_put tag state kept older long entry follows chain =
    let seat : Seat = seat_behind tag state older in
    let one : IsEntryOf seat.wide (entry_for seat kept) = entry_put seat kept (ap length (tag_behind tag state older) ∙ long) entry in
    (subst (λ (x : Seat). IsEntryOf x.wide (entry_for seat kept)) (seats_are tag state older) one, comes_put tag seat state kept older follows, chain)

held_made : (wide : Bool) (mask : ℕ) → needs_wide mask ≡ wide → IsHeld wide None mask
held_made true mask needs = tt
held_made false mask needs = leb-false (2 ^ 31) mask needs

-- a store is made
pub chain_made : (tag : List ℕ) (state : Stored) → IsEntry state → IsChain (first_of tag state []) (put_entries tag state [])
chain_made tag state entry = (record { keeps = entry; holds = held_made (needs_wide state.mask.0) state.mask.0 refl }, refl, tt)

-- the last state is that of an entry
pub entry_last : (tag : List ℕ) (state : Stored) (older : List Stored) → IsChain (first_of tag state older) (put_entries tag state older) → IsEntry state
entry_last tag state [] chain = chain.0.keeps
entry_last tag state (before ∷ older) chain = chain.0.keeps

-- ---- the file

-- a file with these entries is a store of the last state
pub store_of : (tag image : List ℕ) (state : Stored) (older : List Stored) (shut : ℕ) (rest : List ℕ) → length tag ≡ 32 → IsChain (first_of tag state older) (put_entries tag state older) → shut ≢ 1
    → image ≡ front (made_wide state older) tag (put_entries tag state older) ++ shut ∷ rest → StoreAt tag image state (seat_behind tag state older)
store_of tag image state [] shut rest long chain closed is = record {
  wide = made_wide state [];
  header = tag;
  moved = None;
  older = [];
  shut = shut;
  rest = rest;
  long = long;
  chain = chain;
  closed = closed;
  bytes = is;
  place = seats_are tag state [];
  in_force = tag_behind tag state [];
}
store_of tag image state (before ∷ older) shut rest long chain closed is = record {
  wide = made_wide before older;
  header = tag;
  moved = (entry_for (seat_behind tag before older) state).moved;
  older = put_entries tag before older;
  shut = shut;
  rest = rest;
  long = long;
  chain = chain;
  closed = closed;
  bytes = is;
  place = seats_are tag state (before ∷ older);
  in_force = tag_behind tag state (before ∷ older);
}

-- ---- how far they reach

-- so many entries reach no further, narrow ones or wide ones, of which one may be a migration entry
abbrev IsWithin : Bool → ℕ → ℕ → Type 0
IsWithin false gate count = gate ≤ 40 + 17 * count
IsWithin true gate count = gate ≤ 80 + 21 * count

within_first : (wide : Bool) → IsWithin wide 40 0
within_first false = omega arith
within_first true = omega arith

within_next : (wide fits : Bool) (tag : List ℕ) (seat : Seat) (count : ℕ) → seat.wide ≡ wide → IsWithin wide seat.gate count → let next = behind_by (cond (wide || fits) None (Some tag)) seat in IsWithin next.wide next.gate (count + 1)
within_next true fits tag seat count is within = rw is (omega (arith, within))
within_next false true tag seat count is within = rw is (omega (arith, within))
within_next false false tag seat count is within = rw is (omega (arith, within))

within_behind : (tag : List ℕ) (state : Stored) (older : List Stored) → IsWithin (seat_behind tag state older).wide (seat_behind tag state older).gate (length older + 1)
within_behind tag state [] =
    let first : Seat = made_first tag state in
    within_next first.wide (cond (needs_wide state.mask.0) false true) tag first 0 refl (within_first first.wide)
within_behind tag state (before ∷ older) =
    let seat : Seat = seat_behind tag before older in
    let now : Seat = next_seat seat state in
    let more : length older + 1 + 1 ≡ length (before ∷ older) + 1 = omega arith in
    subst (IsWithin now.wide now.gate) more (within_next seat.wide (cond (needs_wide state.mask.0) false true) seat.tag seat (length older + 1) refl (within_behind tag before older))

-- The bytes behind the gate are few, and there is room for them behind so many entries.
pub record FitsBehind (gate count long : ℕ) : Type 0 where
  pub few : long ≤ 60
  pub room : gate + 2 + long ≤ 102 + 21 * count

fits_by : (wide fits : Bool) (tag : List ℕ) (gate count : ℕ) (kept : Stored) → length tag ≡ 32 → IsWithin wide gate count → FitsBehind gate count (length (spelled_by wide (cond (wide || fits) None (Some tag)) kept))
fits_by true fits tag gate count kept long within = record { few = omega arith; room = omega (arith, within) }
fits_by false true tag gate count kept long within = record { few = omega arith; room = omega (arith, within) }
fits_by false false tag gate count kept long within =
    let size = length-append tag (to_be_bytes w64 kept.mask.0) in
    record { few = omega (arith, long, size); room = omega (arith, long, size, within) }

-- the entry of one more state fits behind them
pub fits_behind : (tag : List ℕ) (state kept : Stored) (older : List Stored) → length tag ≡ 32
    → let seat = seat_behind tag state older in FitsBehind seat.gate (length older + 1) (length (spelled_by seat.wide (entry_for seat kept).moved kept))
fits_behind tag state kept older long =
    let seat : Seat = seat_behind tag state older in
    fits_by seat.wide (cond (needs_wide kept.mask.0) false true) seat.tag seat.gate (length older + 1) kept (ap length (tag_behind tag state older) ∙ long) (within_behind tag state older)
