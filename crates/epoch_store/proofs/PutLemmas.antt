-- What a put does to the moments of a disk.
use Rattle.std.proofs.Common.{◌≡◌, ℕ, ◌+◌, inl, Bool, true, false, ◌||◌, None, Some, if◌then◌else◌, List, [], ◌∷◌, ◌++◌, length, refl, sym, ap, ◌∙◌, subst, arith, Result, Ok, Err, OnOk}
use Rattle.std.proofs.lemmas.Bool.Decides.{nat_tests}
use Rattle.epoch_store.specs.declared.Stored.{Stored}
use Rattle.epoch_store.specs.declared.entry.Entry.{Entry}
use Rattle.epoch_store.specs.declared.seat.Seat.{Seat}
use Rattle.epoch_store.specs.Seat.{behind, behind_by, entry_for, moved_by, needs_wide, next_seat}
use Rattle.epoch_store.specs.Store.{spelled, IsEntry, IsEntryOf, IsHeld, Follows, IsSettled, LeavesOneOf, LeavesState}
use Rattle.epoch_store.specs.Calls.{SettlesAs}
use Rattle.epoch_store.proofs.FileLemmas.{behind_gate, at_gate, gate_open, with_entry}
use Rattle.ports.specs.Disk.{Moment, Leaves, Since, IsAmong, Fails, settled, torn_at, written}
use Rattle.ports.proofs.MomentLemmas.{settled_only}
use Rattle.ports.proofs.SinceLemmas.{Since-same, Since-weaken}

-- ---- the entry by which a state is put

-- the tag in force stays
tag_by : (seat : Seat) (stays : Bool) → (behind_by (if stays then None else Some seat.tag) seat).tag ≡ seat.tag
tag_by seat true = refl
tag_by seat false = refl

pub put_tag : (seat : Seat) (next : Stored) → (next_seat seat next).tag ≡ seat.tag
put_tag seat next = tag_by seat (seat.wide || (if needs_wide next.mask.0 then false else true))

held_by : (wide needs : Bool) (tag : List ℕ) (mask : ℕ) → length tag ≡ 32 → needs ≡ needs_wide mask → IsHeld wide (if wide || (if needs then false else true) then None else Some tag) mask
held_by true needs tag mask long is = tt
held_by false true tag mask long is = long
held_by false false tag mask long is = grind (arith, nat_tests, is)

pub put_held : (seat : Seat) (next : Stored) → length seat.tag ≡ 32 → IsHeld seat.wide (moved_by seat next.mask.0) next.mask.0
put_held seat next long = held_by seat.wide (needs_wide next.mask.0) seat.tag next.mask.0 long refl

pub put_entry_of : (seat : Seat) (next : Stored) → length seat.tag ≡ 32 → IsEntry next → IsEntryOf seat.wide (entry_for seat next)
put_entry_of seat next long entry = record { keeps = entry; holds = put_held seat next long }

-- ---- moments

-- where nothing is modelled
pub untold : (P : Moment → Type 0) (newer : List Moment) → newer ≡ [] → Since P [] newer
untold P newer none = rw none (Since-same P [])

-- while the entry is being written
pub while_entry : (tag other : List ℕ) (state next : Stored) (seat : Seat) (count : ℕ) (older newer : List Moment) → IsSettled tag state seat older → Fails (torn_at (seat.gate + 1) count) older newer → Since (LeavesOneOf tag state other next) older newer
while_entry tag other state next seat count [] newer at fails = untold _ newer fails
while_entry tag other state next seat count (now ∷ past) newer at fails =
    let torn = torn_at (seat.gate + 1) count in
    Since-weaken (IsAmong (torn now)) (LeavesOneOf tag state other next) (now ∷ past) newer
    (λ m among c leaves.
    let P : Moment → Type 0 = λ was. Leaves (torn was) c in
    inl (seat, behind_gate tag now.image c state seat count at.1 (subst P at.0 (among c leaves))))
    fails

-- while the gate is being opened
pub while_gate : (tag other bytes : List ℕ) (state : Stored) (seat : Seat) (e : Entry) (older middle newer : List Moment) → IsEntryOf seat.wide e → Follows state e.kept → bytes ≡ spelled seat.wide e ++ 0 ∷ [] → IsSettled tag state seat older
    → (seat.tag ≡ tag → (behind seat e).tag ≡ other) → SettlesAs (written (seat.gate + 1) bytes) older middle → Fails (torn_at seat.gate 1) middle newer → Since (LeavesOneOf tag state other e.kept) middle newer
while_gate tag other bytes state seat e [] middle newer entry follows spell at moves full fails =
    let none : newer ≡ [] = rw full at fails in
    rw full (untold _ newer none)
while_gate tag other bytes state seat e (was ∷ past) [] newer entry follows spell at moves full fails = absurd full
while_gate tag other bytes state seat e (was ∷ past) (now ∷ later) newer entry follows spell at moves full fails =
    let shape = with_entry tag was.image bytes state seat e at.1 spell in
    let torn = torn_at seat.gate 1 in
    let weaker : (m : Moment) → IsAmong (torn now) m → LeavesOneOf tag state (behind seat e).tag e.kept m = λ m among c leaves.
    let P : Moment → Type 0 = λ moment. Leaves (torn moment) c in
    at_gate tag was.image (written (seat.gate + 1) bytes was.image) c shape.0 state seat e at.1 entry follows shape.1 (subst P full (among c leaves)) in
    subst (λ (t : List ℕ). Since (LeavesOneOf tag state t e.kept) (now ∷ later) newer) (moves at.1.in_force)
    (Since-weaken (IsAmong (torn now)) (LeavesOneOf tag state (behind seat e).tag e.kept) (now ∷ later) newer weaker fails)

-- once the gate is open
pub after_gate : (tag other bytes : List ℕ) (state : Stored) (seat : Seat) (e : Entry) (older middle newer : List Moment) → IsEntryOf seat.wide e → Follows state e.kept → bytes ≡ spelled seat.wide e ++ 0 ∷ [] → IsSettled tag state seat older
    → (seat.tag ≡ tag → (behind seat e).tag ≡ other) → SettlesAs (written (seat.gate + 1) bytes) older middle → SettlesAs (written seat.gate (1 ∷ [])) middle newer → IsSettled other e.kept (behind seat e) newer
after_gate tag other bytes state seat e [] middle newer entry follows spell at moves full open_now =
    let none : newer ≡ [] = rw full at open_now in
    rw none tt
after_gate tag other bytes state seat e (was ∷ past) [] newer entry follows spell at moves full open_now = absurd full
after_gate tag other bytes state seat e (was ∷ past) (now ∷ later) [] entry follows spell at moves full open_now = absurd open_now
after_gate tag other bytes state seat e (was ∷ past) (now ∷ later) (last ∷ rest) entry follows spell at moves full open_now =
    let shape = with_entry tag was.image bytes state seat e at.1 spell in
    let store = gate_open tag was.image (written (seat.gate + 1) bytes was.image) shape.0 state seat e at.1 entry follows shape.1 in
    let image : now.image ≡ written (seat.gate + 1) bytes was.image = ap (λ (m : Moment). m.image) full in
    let last_image : last.image ≡ written seat.gate (1 ∷ []) now.image = ap (λ (m : Moment). m.image) open_now in
    subst (λ (t : List ℕ). IsSettled t e.kept (behind seat e) (last ∷ rest)) (moves at.1.in_force)
    (open_now ∙ ap settled (sym last_image), rw (last_image, image) store)

-- a settled store is all that a crash leaves
pub settled_leaves_state : (tag : List ℕ) (state : Stored) (seat : Seat) (moments : List Moment) → IsSettled tag state seat moments → LeavesState tag state moments
settled_leaves_state tag state seat [] at = tt
settled_leaves_state tag state seat (now ∷ past) at = λ c leaves.
    let P : Moment → Type 0 = λ moment. Leaves moment c in
    let same = settled_only now.image c (subst P at.0 leaves) in
    (seat, rw same at.1)

-- ---- a put of an entry, as it is told for any tag behind it

-- what is told of each moment
pub told_moments : (tag : List ℕ) (state : Stored) (seat : Seat) (entry e : Entry) (other : List ℕ → List ℕ) (older newer : List Moment) → entry ≡ e → ((before : List ℕ) → seat.tag ≡ before → (behind seat e).tag ≡ other before)
    → ((before after : List ℕ) → IsSettled before state seat older → (seat.tag ≡ before → (behind seat entry).tag ≡ after) → Since (LeavesOneOf before state after entry.kept) older newer)
    → IsSettled tag state seat older → Since (LeavesOneOf tag state (other tag) e.kept) older newer
told_moments tag state seat entry e other older newer is moves told at =
    let P : Entry → Type 0 = λ x. Since (LeavesOneOf tag state (other tag) x.kept) older newer in
    subst P is (told tag (other tag) at (λ same. ap (λ (x : Entry). (behind seat x).tag) is ∙ moves tag same))

-- what is told of its end
pub told_settled : {T E : Type 0} → (result : Result T E) (state : Stored) (seat : Seat) (entry e : Entry) (other : List ℕ → List ℕ) (older newer : List Moment) → entry ≡ e → ((before : List ℕ) → seat.tag ≡ before → (behind seat e).tag ≡ other before)
    → OnOk result ((before after : List ℕ) → IsSettled before state seat older → (seat.tag ≡ before → (behind seat entry).tag ≡ after) → IsSettled after entry.kept (behind seat entry) newer)
    → OnOk result ((tag : List ℕ) → IsSettled tag state seat older → IsSettled (other tag) e.kept (behind seat e) newer)
told_settled (Err error) state seat entry e other older newer is moves told = tt
told_settled (Ok value) state seat entry e other older newer is moves told = λ tag at.
    let P : Entry → Type 0 = λ x. IsSettled (other tag) x.kept (behind seat x) newer in
    subst P is (told tag (other tag) at (λ same. ap (λ (x : Entry). (behind seat x).tag) is ∙ moves tag same))

pub told_leaves : {T E : Type 0} → (result : Result T E) (state next : Stored) (seat behind : Seat) (other : List ℕ → List ℕ) (older newer : List Moment)
    → OnOk result ((tag : List ℕ) → IsSettled tag state seat older → IsSettled (other tag) next behind newer)
    → OnOk result ((tag : List ℕ) → IsSettled tag state seat older → LeavesState (other tag) next newer)
told_leaves (Err error) state next seat behind other older newer told = tt
told_leaves (Ok value) state next seat behind other older newer told = λ tag at. settled_leaves_state (other tag) next behind newer (told tag at)

-- an entry by which a state is put leaves the tag
pub put_moves : (seat : Seat) (next : Stored) (before : List ℕ) → seat.tag ≡ before → (next_seat seat next).tag ≡ before
put_moves seat next before same = put_tag seat next ∙ same
