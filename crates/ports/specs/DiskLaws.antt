-- The law of disks, for a disk in memory: at each of its moments a crash may leave the file as it is.
use Rattle.std.proofs.Common.{◌≡◌, ℕ, ◌+◌, ◌-◌, ◌<◌, ◌≤◌, ◌⊎◌, inl, inr, Bool, true, false, ◌&&◌, ◌||◌, max, List, [], ◌∷◌, ◌++◌, length, get_or, leb, ltb, refl, sym, ◌∙◌, arith, rules, length-append, length-take, length-drop}
use Rattle.std.proofs.lemmas.List.{places, length-replicate}
use Rattle.std.proofs.lemmas.List.Folds.{list_any-append}
use Rattle.std.proofs.lemmas.Bool.Decides.{nat_tests}
use Rattle.ports.specs.Disk.{Moment, LeavesItself, LeavesImage, Each, is_torn, written, end_of, settled, wrote}
use Rattle.ports.specs.MemoryDisk.{now_of, past_of, moments_of}
use Rattle.ports.specs.declared.memory_disk.Change.{Change}
use Rattle.ports.specs.declared.memory_disk.Change.TheVariants.{Wrote, Synced, Stopped}

-- a write makes the file at least so long
pub length-written : (place : ℕ) (bytes image : List ℕ) → length (written place bytes image) ≡ max (length image) (end_of place (length bytes))
length-written place [] image = grind arith
length-written place (b ∷ bytes) image = simp (length-append, length-take, length-drop, length-replicate) (grind arith)

pub get_or-written_outside : (place : ℕ) (bytes image : List ℕ) (i : ℕ) → i < length image → (i < place) ⊎ (place + length bytes ≤ i) → get_or (written place bytes image) i 0 ≡ get_or image i 0
get_or-written_outside place [] image i within outside = refl
get_or-written_outside place (b ∷ bytes) image i within (inl before) = search (rules, places)
get_or-written_outside place (b ∷ bytes) image i within (inr after) = search (rules, places)

-- a crash may leave a settled file
pub settled_leaves : (bytes : List ℕ) → LeavesItself (settled bytes)
settled_leaves bytes = record { no_shorter = omega arith; no_longer = omega arith; outside = λ i within apart. refl }

or_left : (a b : Bool) → (a || b) ≡ false → a ≡ false
or_left true b none = cc
or_left false b none = refl

or_right : (a b : Bool) → (a || b) ≡ false → b ≡ false
or_right true b none = cc
or_right false b none = none

-- a range that leaves a place alone
pub apart_from_range : (place count i : ℕ) → (leb place i && ltb (i - place) count) ≡ false → (i < place) ⊎ (place + count ≤ i)
apart_from_range place count i apart = grind (arith, nat_tests)

-- what a list of ranges leaves alone, a shorter list does too
pub not_torn_before : (ranges : List (ℕ × ℕ)) (place count i : ℕ) → is_torn (ranges ++ (place, count) ∷ []) i ≡ false → is_torn ranges i ≡ false
not_torn_before ranges place count i apart =
    or_left _ _ (sym (list_any-append _ ranges ((place, count) ∷ [])) ∙ apart)

pub not_in_last : (ranges : List (ℕ × ℕ)) (place count i : ℕ) → is_torn (ranges ++ (place, count) ∷ []) i ≡ false → (i < place) ⊎ (place + count ≤ i)
not_in_last ranges place count i apart =
    let last = or_right _ _ (sym (list_any-append _ ranges ((place, count) ∷ [])) ∙ apart) in
    apart_from_range place count i (or_left _ _ last)

-- a crash may leave what was written whole
pub wrote_leaves : (place : ℕ) (bytes : List ℕ) (moment : Moment) → LeavesItself moment → LeavesItself (wrote place bytes moment)
wrote_leaves place bytes moment left = record {
  no_shorter = omega (arith, length-written place bytes moment.image, left.no_shorter);
  no_longer = omega (arith, length-written place bytes moment.image, left.no_longer);
  outside = λ i within apart.
      let in_image : i < length moment.image = omega (arith, left.no_shorter) in
      get_or-written_outside place bytes moment.image i in_image (not_in_last moment.torn place (length bytes) i apart)
      ∙ left.outside i within (not_torn_before moment.torn place (length bytes) i apart);
}

-- at each moment a crash may leave the file as it is
pub now_leaves : (start : List ℕ) (log : List Change) → LeavesItself (now_of start log)
now_leaves start [] = settled_leaves start
now_leaves start (Wrote place bytes ∷ log) = wrote_leaves place bytes.items (now_of start log) (now_leaves start log)
now_leaves start (Synced ∷ log) = settled_leaves _
now_leaves start (Stopped outcome ∷ log) = settled_leaves _

past_leaves : (start : List ℕ) (log : List Change) → Each LeavesItself (past_of start log)
past_leaves start [] = tt
past_leaves start (change ∷ log) = (now_leaves start log, past_leaves start log)

pub moments_leave : (start : List ℕ) (log : List Change) → LeavesImage (moments_of start log)
moments_leave start log = (now_leaves start log, past_leaves start log)
