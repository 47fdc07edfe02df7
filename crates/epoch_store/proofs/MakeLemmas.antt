-- Making a store.
use Rattle.std.proofs.Common.{◌≡◌, ℕ, ◌+◌, ◌<◌, ◌≤◌, ◌^◌, Bool, true, false, ◌||◌, if◌then◌else◌, Option, None, Some, List, [], ◌∷◌, length, drop, refl, sym, ap, ◌∙◌, arith, Result, Ok, Err, append-nil}
use Rattle.std.proofs.lemmas.Bool.Decides.{nat_tests}
use Rattle.std.proofs.lemmas.List.{nil_from_length, drop_all}
use Rattle.ff_ids.specs.declared.TheConstants.{MAX_RINGS}
use Rattle.ff_ids.specs.declared.Mask.{Mask}
use Rattle.epoch_store.specs.declared.Stored.{Stored}
use Rattle.epoch_store.specs.declared.StoreError.{StoreError}
use Rattle.epoch_store.specs.declared.StoreError.TheVariants.{Fault, Taken, Broken, OtherKey, OutOfMemory}
use Rattle.epoch_store.specs.Seat.{behind, entry_for, made_first, made_seat, needs_wide}
use Rattle.epoch_store.specs.Calls.{HasLength, IsOpened, SettlesAs}
use Rattle.epoch_store.specs.Store.{entry_with, first_entry, made, IsHeld, IsSettled}
use Rattle.epoch_store.proofs.PutLemmas.{put_tag}
use Rattle.ports.specs.Disk.{Moment, Fails, Measures, settled, stays, torn_at, written}
use Rattle.ports.proofs.SinceLemmas.{Fails-same, Fails-torn}

-- the file was opened, or something failed
pub opened_stays : (a b : List Moment) (result : Result Unit StoreError) → IsOpened a b result → Fails stays a b
opened_stays a b (Ok value) opened = Fails-same a b opened
opened_stays a b (Err Fault) opened = opened
opened_stays a b (Err (Taken len)) opened = absurd opened
opened_stays a b (Err (Broken place byte)) opened = absurd opened
opened_stays a b (Err (OtherKey place byte)) opened = absurd opened
opened_stays a b (Err OutOfMemory) opened = Fails-same a b opened

pub opened_torn : (place count : ℕ) (a b : List Moment) (result : Result Unit StoreError) → IsOpened a b result → Fails (torn_at place count) a b
opened_torn place count a b result opened = Fails-torn place count a b (opened_stays a b result opened)

-- a length that was measured
pub measured : (moments : List Moment) (n : ℕ) → Measures moments n → n ≤ 0 → HasLength moments 0
measured [] n is none = tt
measured (now ∷ past) n is none = omega (arith, is)

pub written_first : (bytes image : List ℕ) → length image ≡ 0 → written 0 bytes image ≡ bytes
written_first [] image none = nil_from_length image none
written_first (b ∷ bytes) image none =
    let empty : image ≡ [] = nil_from_length image none in
    let rest : drop (0 + length (b ∷ bytes)) [] ≡ [] = drop_all {X = ℕ} (0 + length (b ∷ bytes)) [] (omega arith) in
    rw (empty, rest) (append-nil (b ∷ bytes))

-- ---- the entry of a store that is made

stays_by : (needs : Bool) (tag : List ℕ) → (if needs || (if needs then false else true) then None else Some tag) ≡ None
stays_by true tag = refl
stays_by false tag = refl

-- it moves nothing
pub made_entry : (tag : List ℕ) (state : Stored) → entry_for (made_first tag state) state ≡ entry_with None state
made_entry tag state = ap (λ (moved : Option (List ℕ)). entry_with moved state) (stays_by (needs_wide state.mask.0) tag)

held_by : (needs : Bool) (mask : ℕ) → needs ≡ needs_wide mask → IsHeld needs None mask
held_by true mask is = tt
held_by false mask is = grind (arith, nat_tests, is)

-- and is as wide as its mask needs
pub made_held : (state : Stored) → IsHeld (needs_wide state.mask.0) None state.mask.0
made_held state = held_by (needs_wide state.mask.0) state.mask.0 refl

-- the store that was made is in the file
pub made_store : (tag bytes : List ℕ) (mask : Mask) (a b : List Moment) → length tag ≡ 32 → mask.0 < 2 ^ MAX_RINGS → bytes ≡ made tag (first_entry mask) → HasLength a 0 → SettlesAs (written 0 bytes) a b → IsSettled tag (first_entry mask) (made_seat tag (first_entry mask)) b
made_store tag bytes mask [] b size small spell empty settles = rw settles tt
made_store tag bytes mask (was ∷ older) [] size small spell empty settles = absurd settles
made_store tag bytes mask (was ∷ older) (now ∷ past) size small spell empty settles =
    let first : Stored = first_entry mask in
    let whole : now ≡ settled (made tag first) = settles ∙ ap settled (written_first bytes was.image empty ∙ spell) in
    let image : now.image ≡ made tag first = ap (λ (m : Moment). m.image) whole in (
      whole ∙ ap settled (sym image),
      record {
        wide = needs_wide mask.0;
        header = tag;
        moved = None;
        older = [];
        shut = 0;
        rest = [];
        long = size;
        chain = (record { keeps = record { next_small = omega arith; epoch_small = omega arith; mask_small = small }; holds = made_held first }, refl, tt);
        closed = λ one. omega (arith, one);
        bytes = image;
        place = ap (behind (made_first tag first)) (made_entry tag first);
        in_force = put_tag (made_first tag first) first;
      },
    )
