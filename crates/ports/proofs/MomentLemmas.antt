-- What a crash may leave, moment after moment.
use Rattle.std.proofs.Common.{◌≡◌, ℕ, zero, suc, ◌+◌, ◌<◌, ◌%◌, sym, true, false, List, [], ◌∷◌, ◌++◌, length, get_or, refl, ap, ◌∙◌, arith, length-append, cond, eqb, add-zero}
use Rattle.std.proofs.lemmas.List.{ext_get_or}
use Rattle.std.proofs.lemmas.Bool.Decides.{nat_tests}
use Rattle.ports.specs.Disk.{Moment, Leaves, LeavesItself, settled, torn_at, wrote, IsAmong}
use Rattle.ports.specs.MemoryDisk.{picked, garbled, is_unstable, now_of}
use Rattle.ports.specs.DiskLaws.{not_torn_before}
use Rattle.ports.specs.declared.memory_disk.Change.{Change}
use Rattle.ports.specs.declared.memory_disk.Change.TheVariants.{Wrote, Synced, Stopped}

pub length-garbled : (outcome : ℕ) (torn : List (ℕ × ℕ)) (kept place : ℕ) (bytes : List ℕ) → length (garbled outcome torn kept place bytes) ≡ length bytes
length-garbled outcome torn kept place [] = refl
length-garbled outcome torn kept place (b ∷ bytes) = rw (length-garbled outcome torn kept (place + 1) bytes) refl

pub get_or-garbled_stable : (outcome : ℕ) (torn : List (ℕ × ℕ)) (kept place i : ℕ) (bytes : List ℕ) → is_unstable torn kept (place + i) ≡ false → get_or (garbled outcome torn kept place bytes) i 0 ≡ get_or bytes i 0
get_or-garbled_stable outcome torn kept place i [] stable = refl
get_or-garbled_stable outcome torn kept place zero (b ∷ bytes) stable =
    let here : is_unstable torn kept place ≡ false = rw add-zero at stable in rw here refl
get_or-garbled_stable outcome torn kept place (suc i) (b ∷ bytes) stable =
    let at : place + suc i ≡ place + 1 + i = omega arith in
    get_or-garbled_stable outcome torn kept (place + 1) i bytes (rw at at stable)

pub get_or-garbled_unstable : (outcome : ℕ) (torn : List (ℕ × ℕ)) (kept place i : ℕ) (bytes : List ℕ) → i < length bytes → is_unstable torn kept (place + i) ≡ true → get_or (garbled outcome torn kept place bytes) i 0 ≡ (outcome + (place + i)) % 256
get_or-garbled_unstable outcome torn kept place i [] within torn_there = absurd (omega arith)
get_or-garbled_unstable outcome torn kept place zero (b ∷ bytes) within torn_there =
    let here : is_unstable torn kept place ≡ true = rw add-zero at torn_there in
    let at : place + zero ≡ place = omega arith in rw (here, at) refl
get_or-garbled_unstable outcome torn kept place (suc i) (b ∷ bytes) within torn_there =
    let at : place + suc i ≡ place + 1 + i = omega arith in
    let below : i < length bytes = omega arith in
    get_or-garbled_unstable outcome torn kept (place + 1) i bytes below (rw at at torn_there) ∙ ap (λ (j : ℕ). (outcome + j) % 256) (sym at)

garbled_leaves : (outcome : ℕ) (moment : Moment) → LeavesItself moment → Leaves moment (garbled outcome moment.torn (length moment.stable) 0 moment.image)
garbled_leaves outcome moment left = record {
  no_shorter = omega (arith, length-garbled outcome moment.torn (length moment.stable) 0 moment.image, left.no_shorter);
  no_longer = omega (arith, length-garbled outcome moment.torn (length moment.stable) 0 moment.image, left.no_longer);
  outside = λ i within apart.
      let stable : is_unstable moment.torn (length moment.stable) (0 + i) ≡ false =
      let from : 0 + i ≡ i = omega arith in
      rw (from, apart) (grind (arith, nat_tests)) in
      get_or-garbled_stable outcome moment.torn (length moment.stable) 0 i moment.image stable ∙ left.outside i within apart;
}

-- a crash may leave what an outcome picks
pub picked_leaves : (outcome : ℕ) (moment : Moment) → LeavesItself moment → Leaves moment (picked outcome moment)
picked_leaves outcome moment left =
    elim (eqb outcome 0) as (λ test. Leaves moment (cond test moment.stable (cond (eqb outcome 1) moment.image (garbled outcome moment.torn (length moment.stable) 0 moment.image)))) [
      | true ↦ record { no_shorter = omega arith; no_longer = omega (arith, left.no_shorter, left.no_longer); outside = λ i within apart. refl }
      | false ↦ elim (eqb outcome 1) as (λ test. Leaves moment (cond test moment.image (garbled outcome moment.torn (length moment.stable) 0 moment.image))) [
        | true ↦ left
        | false ↦ garbled_leaves outcome moment left
      ]
    ]

-- a settled file leaves itself alone
pub settled_only : (bytes c : List ℕ) → Leaves (settled bytes) c → c ≡ bytes
settled_only bytes c leaves =
    let size : length c ≡ length bytes = omega (arith, leaves.no_shorter, leaves.no_longer) in
    ext_get_or 0 c bytes size (λ i within. leaves.outside i (omega arith) refl)

-- what an outcome picks is no more than what a crash may leave
pub picked_among : (outcome : ℕ) (moment : Moment) → LeavesItself moment → IsAmong moment (settled (picked outcome moment))
picked_among outcome moment left c leaves =
    let only = settled_only (picked outcome moment) c leaves in
    rw only (picked_leaves outcome moment left)

-- a moment leaves no more than it does after a write that may have come about
pub before_torn_among : (place count : ℕ) (moment : Moment) → IsAmong (torn_at place count moment) moment
before_torn_among place count moment c leaves = record {
  no_shorter = leaves.no_shorter;
  no_longer = omega (arith, leaves.no_longer);
  outside = λ i within apart. leaves.outside i within (not_torn_before moment.torn place count i apart);
}

-- a write leaves what one leaves that may have come about
pub wrote_among : (place : ℕ) (bytes : List ℕ) (moment : Moment) → IsAmong (torn_at place (length bytes) moment) (wrote place bytes moment)
wrote_among place bytes moment c leaves = record {
  no_shorter = leaves.no_shorter;
  no_longer = leaves.no_longer;
  outside = leaves.outside;
}

not_nil : {X : Type 0} → (xs : List X) (x : X) → xs ++ x ∷ [] ≡ [] → ⊥
not_nil xs x none = let size = ap length none in omega (arith, length-append xs (x ∷ []))

-- with no write since the last sync, the file is settled
pub settled_unless_torn : (start : List ℕ) (log : List Change) → (now_of start log).torn ≡ [] → now_of start log ≡ settled (now_of start log).image
settled_unless_torn start [] none = refl
settled_unless_torn start (Wrote place bytes ∷ log) none = absurd (not_nil _ _ none)
settled_unless_torn start (Synced ∷ log) none = refl
settled_unless_torn start (Stopped outcome ∷ log) none = refl
