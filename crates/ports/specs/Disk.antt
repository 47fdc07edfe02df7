-- What a disk's file is, moment after moment, and what a crash may leave of it.
use Rattle.std.specs.Prelude.{◌≡◌, ℕ, ◌+◌, ◌-◌, ◌<◌, ◌≤◌, ◌⊎◌, Bool, false, ◌&&◌, ◌==◌, nat_le, nat_lt, if◌then◌else◌, max, List, [], ◌∷◌, ◌++◌, length, take, drop, replicate, slice_index}
use Rattle.std.specs.List.{list_any, AllByRecursion}
use Rattle.ports.specs.declared.Opened.{Opened}
use Rattle.ports.specs.declared.Opened.TheVariants.{Done, Failed, OutOfMemory}

-- one moment: the bytes that a read gives, those that it gave at the last sync, the ranges written since
-- then (each a place and a count), and the greatest length that those writes gave
pub record Moment : Type 0 where
  pub image : List ℕ
  pub stable : List ℕ
  pub torn : List (ℕ × ℕ)
  pub most : ℕ

-- the byte at this place lies in one of the ranges
abbrev pub is_torn : List (ℕ × ℕ) → ℕ → Bool
is_torn ranges i = list_any (λ range. nat_le range.0 i && nat_lt (i - range.0) range.1) ranges

-- what a crash at this moment may leave: a length between that at the last sync and the greatest since,
-- any bytes in the ranges and past the old end, and elsewhere the old ones
pub record Leaves (moment : Moment) (c : List ℕ) : Type 0 where
  pub no_shorter : length moment.stable ≤ length c
  pub no_longer : length c ≤ moment.most
  pub outside : (i : ℕ) → i < length moment.stable → is_torn moment.torn i ≡ false → slice_index c i ≡ slice_index moment.stable i

-- the bytes with others written over them at a place, past the end too; a hole before them holds zeros, and
-- to write nothing changes nothing
abbrev pub written : ℕ → List ℕ → List ℕ → List ℕ
written place [] image = image
written place (b ∷ bytes) image =
    take place image ++ replicate (place - length image) 0 ++ (b ∷ bytes) ++ drop (place + length (b ∷ bytes)) image

-- where a write of so many bytes ends, if it writes any
abbrev pub end_of : ℕ → ℕ → ℕ
end_of place count = if count == 0 then 0 else place + count

-- a crash leaves these bytes and no others
abbrev pub settled : List ℕ → Moment
settled bytes = record { image = bytes; stable = bytes; torn = []; most = length bytes }

-- a write of so many bytes at a place that may or may not have come about
abbrev pub torn_at : ℕ → ℕ → Moment → Moment
torn_at place count moment = record moment {
  torn = moment.torn ++ (place, count) ∷ [];
  most = max moment.most (end_of place count);
}

-- the write of these bytes at a place
abbrev pub wrote : ℕ → List ℕ → Moment → Moment
wrote place bytes moment = record moment {
  image = written place bytes moment.image;
  torn = moment.torn ++ (place, length bytes) ∷ [];
  most = max moment.most (end_of place (length bytes));
}

-- nothing comes about
abbrev pub stays : Moment → Moment
stays moment = moment

-- one step further, where moments are modelled
abbrev pub next : (Moment → Moment) → List Moment → List Moment
next step [] = []
next step (now ∷ past) = step now ∷ now ∷ past

-- each of the moments has P
abbrev pub Each : (Moment → Type 0) → List Moment → Type 0
Each P moments = AllByRecursion P moments

-- the newer moments are the older ones and then some, each of which has P
pub record Since (P : Moment → Type 0) (older newer : List Moment) : Type 0 where
  pub more : List Moment
  pub grew : newer ≡ more ++ older
  pub each : Each P more

-- what a crash at one moment may leave, one at the other may leave too
abbrev pub IsAmong : Moment → Moment → Type 0
IsAmong other moment = (c : List ℕ) → Leaves moment c → Leaves other c

-- after a call that failed: each new moment leaves no more than the last one after the step
abbrev pub Fails : (Moment → Moment) → List Moment → List Moment → Type 0
Fails step [] newer = newer ≡ []
Fails step (now ∷ past) newer = Since (IsAmong (step now)) (now ∷ past) newer

-- after a sync: what a crash leaves is the image. A file that is settled already need not move on
abbrev pub Settles : List Moment → List Moment → Type 0
Settles [] newer = newer ≡ []
Settles (now ∷ past) newer = (newer ≡ settled now.image ∷ now ∷ past) ⊎ ((now ≡ settled now.image) × (newer ≡ now ∷ past))

-- to open a file changes nothing of it
abbrev pub Opens : List Moment → List Moment → Opened → Type 0
Opens older newer Done = newer ≡ older
Opens older newer Failed = Fails stays older newer
Opens older newer OutOfMemory = newer ≡ older

-- the length of the file, where it is modelled
abbrev pub Measures : List Moment → ℕ → Type 0
Measures [] n = Unit {0}
Measures (now ∷ past) n = n ≡ length now.image

-- the first n bytes of the buffer are those of the file from the place on, as many as the buffer holds and
-- the file has, where the file is modelled
abbrev pub ReadsPart : List Moment → ℕ → List ℕ → ℕ → Type 0
ReadsPart [] place filled n = Unit {0}
ReadsPart (now ∷ past) place filled n = take n filled ≡ take (length filled) (drop place now.image)

-- behind those bytes the buffer is as it was, where the file is modelled
abbrev pub KeepsRest : List Moment → ℕ → List ℕ → List ℕ → Type 0
KeepsRest [] n before filled = Unit {0}
KeepsRest (now ∷ past) n before filled = drop n filled ≡ drop n before

-- a crash may leave the file as it is
abbrev pub LeavesItself : Moment → Type 0
LeavesItself moment = Leaves moment moment.image

-- at each moment
abbrev pub LeavesImage : List Moment → Type 0
LeavesImage moments = Each LeavesItself moments
