-- What the move of a store upholds, whatever ended it: which group's store the file is then, and what was written of it.
use Rattle.std.specs.Prelude.{◌≡◌, ℕ, ◌<◌, ◌≤◌, ◌⊎◌, List, [], ◌∷◌, Result, Ok, Err}
use Rattle.std.specs.Io.KnownBytes.{Appends}
use Rattle.epoch_store.specs.declared.Stored.{Stored}
use Rattle.epoch_store.specs.declared.seat.Seat.{Seat}
use Rattle.epoch_store.specs.Calls.{HoldsStore, SettlesAs, same}
use Rattle.epoch_store.specs.Store.{IsSettled, LeavesState}
use Rattle.play.specs.Plays.{IoState}
use Rattle.ports.specs.Contents.{TookFront}
use Rattle.ports.specs.Disk.{Fails, Moment, Since, stays}
use Rattle.ports.specs.Outside.{OfDisk}
use Rattle.signer.specs.Lives.{EndsEither, EndsNow, MovedLives, MovesLives, Spent}
use Rattle.authority.specs.declared.halt.Halt.{Halt}
use Rattle.authority.specs.declared.halt.Halt.TheVariants as halt
use Rattle.authority.specs.declared.moving.Moving.{Moving}
use Rattle.authority.specs.Migrating.{LeavesOne, count_of, migrated_line, new_tag, old_tag, seat_moved, state_moved}
use Rattle.authority.specs.Moved.{IsMigration}
use Rattle.node_command.specs.Spendings.{SpendsNone}
use Rattle.command_line.specs.Causes.{status_of_halt}
use Rattle.command_line.specs.Ends.{Tells}
use Rattle.command_line.specs.declared.status.Status.{Status}

-- The whole text was read, and sets this up; a store of the key in the group that it leaves was found, with this state.
pub record FoundToMove (o : Stored) (was : IoState) (old : OfDisk) : Type 0 where
  pub moving : Moving
  pub between : IoState
  pub read : IsMigration was between moving
  pub seat : Seat
  pub found : HoldsStore (old_tag moving) o seat old.moments

-- Such a store was found, and the key has an index left.
pub record MayMove (was : IoState) (old : OfDisk) : Type 0 where
  pub opened : Stored
  pub there : FoundToMove opened was old
  pub within : opened.next < count_of there.moving

-- The file is settled as the store of the key in the new group, with the next index raised by 1, the epoch found, and each ring of
-- the new group enabled: each crash leaves such a store. Where a crash before left the store that was found, each crash between left
-- that one or this one. Nothing of the key was spent: where crashes before ended lives of it in the old group, each crash now ends
-- them in the new group, and each crash between in the one or the other.
pub record HasMoved (was : IoState) (old new : OfDisk) : Type 0 where
  pub may : MayMove was old
  pub left : IsSettled (new_tag may.there.moving) (state_moved may.there.moving may.opened)
      (seat_moved may.there.moving may.opened may.there.seat) new.moments
  pub any_moment : LeavesState (old_tag may.there.moving) may.opened old.moments
      → Since (LeavesOne may.there.moving may.opened) old.moments new.moments
  pub lives : MovedLives (old_tag may.there.moving) (new_tag may.there.moving)
      old.moments new.moments
  pub any_life : MovesLives (old_tag may.there.moving) (new_tag may.there.moving)
      old.moments new.moments

-- A crash now ends such lives, under the one tag or the other; the file is modelled.
abbrev pub EndsEitherNow : List ℕ → List ℕ → List ℕ → List Spent → List Moment → Type 0
EndsEitherNow tag other before spent [] = ⊥
EndsEitherNow tag other before spent (now ∷ past) = EndsEither tag other before spent now

-- The disk failed in the move: where a crash before left the store that was found, each crash, now and at each moment between, leaves
-- that one or the moved one. Nothing of the key was spent: where crashes before ended lives of it in the old group, each crash, now
-- and at each moment between, ends them in the one or the other.
pub record FailedToMove (was : IoState) (old new : OfDisk) : Type 0 where
  pub may : MayMove was old
  pub any_moment : LeavesState (old_tag may.there.moving) may.opened old.moments
      → Since (LeavesOne may.there.moving may.opened) old.moments new.moments
  pub any_life : MovesLives (old_tag may.there.moving) (new_tag may.there.moving)
      old.moments new.moments
  pub lives : (before : List ℕ) (spent : List Spent)
      → EndsNow (old_tag may.there.moving) before spent old.moments
      → EndsEitherNow (old_tag may.there.moving) (new_tag may.there.moving) before spent
      new.moments

-- Such a store was found, and the key has no index left: it is settled with the state that was found.
pub record IsGone (next : ℕ) (was : IoState) (old new : OfDisk) : Type 0 where
  pub opened : Stored
  pub there : FoundToMove opened was old
  pub next_is : next ≡ opened.next
  pub gone : count_of there.moving ≤ next
  pub still : IsSettled (old_tag there.moving) opened there.seat new.moments

-- Nothing was put: each crash, now and at each moment between, leaves what one would have left before, and ends lives as before.
-- Nothing was written.
pub record IsUnmoved (was between : IoState) (old new : OfDisk) : Type 0 where
  pub kept : Fails stays old.moments new.moments
  pub none : SpendsNone was.taken between.taken old new

-- What became of the file, and what was written, by the answer: the line of the move is written behind the move alone, and nothing
-- else is.
abbrev pub MovesBy : IoState → IoState → OfDisk → OfDisk → Result (Unit {0}) Halt → Type 0
MovesBy was between old new (Ok _) =
    (h : HasMoved was old new) × Appends was.taken between.taken (migrated_line h.may.opened)
MovesBy was between old new (Err halt.WriteFault) =
    (h : HasMoved was old new) × TookFront was.taken between.taken (migrated_line h.may.opened)
MovesBy was between old new (Err halt.StoreFault) =
    IsUnmoved was between old new
    ⊎ (FailedToMove was old new × Appends was.taken between.taken [])
MovesBy was between old new (Err (halt.Exhausted next)) =
    IsUnmoved was between old new × IsGone next was old new
MovesBy was between old new (Err (halt.StoreBroken place byte)) =
    IsUnmoved was between old new × SettlesAs same old.moments new.moments
MovesBy was between old new (Err other) = IsUnmoved was between old new

-- What `migrate` upholds, under every status: the file became that, and the line of the cause follows what was written.
pub record Migration (was now : IoState) (old new : OfDisk) (s : Status) : Type 0 where
  pub result : Result (Unit {0}) Halt
  pub between : IoState
  pub moves : MovesBy was between old new result
  pub tells : Tells (status_of_halt result) between now s
