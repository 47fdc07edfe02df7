-- What the move of a store to another group does: what is owed to the text, what comes of the disk, and what was taken and
-- written, by the answer.
use Rattle.std.specs.Prelude.{◌≡◌, ℕ, ◌+◌, ◌<◌, ◌≤◌, ◌⊎◌, nat_lt, if◌then◌else◌, List, [], ◌∷◌, ◌++◌, Option, Some, None, Result, Ok, Err, codes, decimal}
use Rattle.epoch_store.specs.declared.Stored.{Stored}
use Rattle.epoch_store.specs.declared.seat.Seat.{Seat}
use Rattle.epoch_store.specs.Asked.{ReadsUpTo, entry_calls, open_calls}
use Rattle.epoch_store.specs.Calls.{HoldsStore}
use Rattle.epoch_store.specs.Seat.{behind}
use Rattle.epoch_store.specs.Store.{IsSettled, LeavesOneOf, LeavesState, entry_with, migrated}
use Rattle.ff_ids.specs.Masks.{all_rings}
use Rattle.line_text.specs.declared.bad_word.BadWord.{BadWord}
use Rattle.play.specs.Plays.{IoState}
use Rattle.play.specs.declared.stop.Stop.{Stop}
use Rattle.play.specs.declared.stop.Stop.TheVariants as stop
use Rattle.ports.specs.Count.{next_count}
use Rattle.ports.specs.Disk.{Moment, Since}
use Rattle.ports.specs.DiskCalls.{AsFarAs, DiskCall, with_calls}
use Rattle.ports.specs.Outside.{OfDisk}
use Rattle.schedule_texts.specs.declared.line.SecretLine.{SecretLine}
use Rattle.schedule_texts.specs.declared.migrate.MigrateText.TheVariants as migrate
use Rattle.sign_keys.specs.Keys.{index_count}
use Rattle.signer.specs.Lives.{MovedLives, MovesLives}
use Rattle.text_trace.specs.Trace.{Continuation}
use Rattle.whole_text.specs.Gathered.{IsUnfinished, owed_whole}
use Rattle.authority.specs.declared.halt.Halt.{Halt}
use Rattle.authority.specs.declared.halt.Halt.TheVariants as halt
use Rattle.authority.specs.declared.moving.Moving.{Moving}
use Rattle.authority.specs.Enrolling.{IsBroken, IsOpened, IsUnopened, OpeningFails}
use Rattle.authority.specs.Moved.{IsMigration, left_setting, migrate_judging, migrate_setting}
use Rattle.authority.specs.Settings.{key_of, tag_of}
use Rattle.authority.specs.Telling.{IsCut, IsTold}

-- ## The store that moves

-- the mark of the store in the group that it leaves
abbrev pub old_tag : Moving → List ℕ
old_tag m = tag_of (left_setting m)

-- and in the group to which it moves
abbrev pub new_tag : Moving → List ℕ
new_tag m = tag_of m.setting

-- how many indexes the key has
abbrev pub count_of : Moving → ℕ
count_of m = index_count (key_of m.setting)

-- the state behind the move: next raised by 1, the epoch found, and each ring of the new group enabled
abbrev pub state_moved : Moving → Stored → Stored
state_moved m o = migrated o (record { 0 = all_rings m.setting.group.t })

-- the calls that put the entry that moves a store that was found with this state and this seat; the last call first
abbrev pub move_calls : Moving → Stored → Seat → List DiskCall
move_calls m o seat = entry_calls seat (entry_with (Some (new_tag m)) (state_moved m o))

-- the seat behind it
abbrev pub seat_moved : Moving → Stored → Seat → Seat
seat_moved m o seat = behind seat (entry_with (Some (new_tag m)) (state_moved m o))

-- each crash leaves the store as it was found, or as it moved
abbrev pub LeavesOne : Moving → Stored → Moment → Type 0
LeavesOne m o moment = LeavesOneOf (old_tag m) o (new_tag m) (state_moved m o) moment

-- ## What is owed

-- the line of a store that was found with this state and moved
abbrev pub migrated_line : Stored → List ℕ
migrated_line o = codes "migrated " ++ decimal (o.next + 1) ++ codes " " ++ decimal o.epoch ++ 10 ∷ []

-- nothing where the key is used up
abbrev pub line_for : Stored → Moving → List ℕ
line_for o m = if nat_lt o.next (count_of m) then migrated_line o else []

abbrev pub told_for_move : Option Moving → Stored → List ℕ
told_for_move None o = []
told_for_move (Some m) o = line_for o m

abbrev pub told_at_end : Stored → List SecretLine → List ℕ
told_at_end o lines = told_for_move (migrate_setting lines) o

-- What a text is owed that moves a store, where the store that is found has this state: at its end, the line of the store that
-- moved, if the key has an index left.
abbrev pub moved_on : Stored → Continuation BadWord
moved_on o = owed_whole migrate_judging migrate.Start (told_at_end o)

-- ## The move

-- From a store with this state and this seat, one entry was put, and no other call made: the store is now settled as that of the
-- new group, and at each moment of the call a crash leaves the old store or the new one.
pub record IsMoved (m : Moving) (o : Stored) (seat : Seat) (old new : OfDisk) : Type 0 where
  pub faults : new.faults ≡ old.faults
  pub calls : new.calls ≡ with_calls (move_calls m o seat) old.calls
  pub left : (tag : List ℕ) → IsSettled tag o seat old.moments → IsSettled (new_tag m) (state_moved m o) (seat_moved m o seat) new.moments
  pub any_moment : (tag : List ℕ) → IsSettled tag o seat old.moments → Since (LeavesOneOf tag o (new_tag m) (state_moved m o)) old.moments new.moments

-- The disk failed in the put, and no call came behind that.
pub record FailsToMove (m : Moving) (o : Stored) (seat : Seat) (old new : OfDisk) : Type 0 where
  pub faults : new.faults ≡ next_count old.faults
  pub calls : AsFarAs (move_calls m o seat) old.calls new.calls
  pub any_moment : (tag : List ℕ) → IsSettled tag o seat old.moments → Since (LeavesOneOf tag o (new_tag m) (state_moved m o)) old.moments new.moments

-- What comes behind the opening, where the key has an index left.
abbrev pub MovesOpened : Moving → Stored → Seat → IoState → IoState → OfDisk → OfDisk → Result (Unit {0}) Halt → Type 0
MovesOpened m o seat between now old new (Ok _) = IsMoved m o seat old new × IsTold between now (migrated_line o)
MovesOpened m o seat between now old new (Err (halt.Refused line w)) = ⊥
MovesOpened m o seat between now old new (Err halt.ReadFault) = ⊥
MovesOpened m o seat between now old new (Err halt.WriteFault) = IsMoved m o seat old new × IsCut between now (migrated_line o)
MovesOpened m o seat between now old new (Err halt.StoreFault) = (now ≡ between) × FailsToMove m o seat old new
MovesOpened m o seat between now old new (Err (halt.StoreBroken place byte)) = ⊥
MovesOpened m o seat between now old new (Err (halt.StoreTaken len)) = ⊥
MovesOpened m o seat between now old new (Err (halt.Exhausted next)) = ⊥
MovesOpened m o seat between now old new (Err halt.OutOfMemory) = (now ≡ between) × (new ≡ old)

-- ## The store, from its opening on

-- The calls that open the store under this name, with this seat behind its entries, and then those that move it.
pub record OpensAndMoves (name : List ℕ) (m : Moving) (o : Stored) (seat : Seat) (moments : List Moment) (old new : Option (List DiskCall)) : Type 0 where
  pub between : Option (List DiskCall)
  pub opened : ReadsUpTo (open_calls name) moments seat old between
  pub made : new ≡ with_calls (move_calls m o seat) between

-- A store of the key in the old group was found under this name, with an index left. It is now settled as the store of the key in
-- the new group, with the next index raised by 1, the epoch found, and each ring of the new group enabled: each crash leaves such a
-- store. Where a crash before left the store that was found, each crash between left that one or this one. Where crashes before
-- ended lives of the key in the old group, each crash now ends them in the new group, with nothing more spent, and each crash between
-- in the one or the other.
pub record IsMigrated (name : List ℕ) (m : Moving) (old new : OfDisk) (o : Stored) : Type 0 where
  pub faults : new.faults ≡ old.faults
  pub seat : Seat
  pub found : HoldsStore (old_tag m) o seat old.moments
  pub within : o.next < count_of m
  pub calls : OpensAndMoves name m o seat old.moments old.calls new.calls
  pub left : IsSettled (new_tag m) (state_moved m o) (seat_moved m o seat) new.moments
  pub any_moment : LeavesState (old_tag m) o old.moments → Since (LeavesOne m o) old.moments new.moments
  pub lives : MovedLives (old_tag m) (new_tag m) old.moments new.moments
  pub any_life : MovesLives (old_tag m) (new_tag m) old.moments new.moments

-- The store moved, and its line was written.
pub record AllMigrated (name : List ℕ) (m : Moving) (between now : IoState) (old new : OfDisk) : Type 0 where
  pub opened : Stored
  pub moved : IsMigrated name m old new opened
  pub told : IsTold between now (migrated_line opened)

-- The store moved, and the write of its line failed.
pub record TellingFails (name : List ℕ) (m : Moving) (between now : IoState) (old new : OfDisk) : Type 0 where
  pub opened : Stored
  pub moved : IsMigrated name m old new opened
  pub cut : IsCut between now (migrated_line opened)

-- The calls that open the store, and those that move it, as far as they came.
pub record OpensAndFails (name : List ℕ) (m : Moving) (o : Stored) (seat : Seat) (moments : List Moment) (old new : Option (List DiskCall)) : Type 0 where
  pub between : Option (List DiskCall)
  pub opened : ReadsUpTo (open_calls name) moments seat old between
  pub last : AsFarAs (move_calls m o seat) between new

-- The store was found with an index left, and the disk failed in its move: where a crash before left the store that was found, each
-- crash leaves that one or the moved one. Where crashes before ended lives of the key in the old group, each crash ends them in the
-- one or the other, with nothing more spent.
pub record MovingFails (name : List ℕ) (m : Moving) (old new : OfDisk) : Type 0 where
  pub opened : Stored
  pub seat : Seat
  pub found : HoldsStore (old_tag m) opened seat old.moments
  pub within : opened.next < count_of m
  pub faults : new.faults ≡ next_count old.faults
  pub calls : OpensAndFails name m opened seat old.moments old.calls new.calls
  pub any_moment : LeavesState (old_tag m) opened old.moments → Since (LeavesOne m opened) old.moments new.moments
  pub any_life : MovesLives (old_tag m) (new_tag m) old.moments new.moments

-- The key has no index left: the store was opened, and no more.
pub record IsUsedUp (name : List ℕ) (m : Moving) (next : ℕ) (old new : OfDisk) : Type 0 where
  pub opened : Stored
  pub seat : Seat
  pub opening : IsOpened name (left_setting m) opened seat old new
  pub next_is : next ≡ opened.next
  pub gone : count_of m ≤ next

-- Memory was refused behind the opening, and nothing was put.
pub record IsStarved (name : List ℕ) (m : Moving) (old new : OfDisk) : Type 0 where
  pub opened : Stored
  pub seat : Seat
  pub opening : IsOpened name (left_setting m) opened seat old new
  pub within : opened.next < count_of m

-- ## The whole

-- What comes behind the reading of a text that sets this up.
abbrev pub MigratesBehind : List ℕ → Moving → IoState → IoState → OfDisk → OfDisk → Result (Unit {0}) Halt → Type 0
MigratesBehind name m between now old new (Ok _) = AllMigrated name m between now old new
MigratesBehind name m between now old new (Err (halt.Refused line w)) = ⊥
MigratesBehind name m between now old new (Err halt.ReadFault) = ⊥
MigratesBehind name m between now old new (Err halt.WriteFault) = TellingFails name m between now old new
MigratesBehind name m between now old new (Err halt.StoreFault) = (now ≡ between) × (OpeningFails name old new ⊎ MovingFails name m old new)
MigratesBehind name m between now old new (Err (halt.StoreBroken place byte)) = (now ≡ between) × IsBroken name (left_setting m) (halt.StoreBroken place byte) old new
MigratesBehind name m between now old new (Err (halt.StoreTaken len)) = ⊥
MigratesBehind name m between now old new (Err (halt.Exhausted next)) = (now ≡ between) × IsUsedUp name m next old new
MigratesBehind name m between now old new (Err halt.OutOfMemory) = (now ≡ between) × (IsUnopened name old new ⊎ IsStarved name m old new)

-- The text was read whole, and nothing written or done for it yet; and so it went on.
pub record Went (was : IoState) (Rest : Moving → IoState → Type 0) : Type 0 where
  pub moving : Moving
  pub between : IoState
  pub read : IsMigration was between moving
  pub rest : Rest moving between

-- The text wasn't read to its end, and the disk wasn't touched.
abbrev pub IsUnread : IoState → IoState → OfDisk → OfDisk → Stop BadWord → Type 0
IsUnread was now old new s = IsUnfinished migrate_judging migrate.Start was now s × (new ≡ old)

-- What the move of a store took, wrote, did and left, by its answer.
abbrev pub Migrates : List ℕ → IoState → IoState → OfDisk → OfDisk → Result (Unit {0}) Halt → Type 0
Migrates name was now old new (Err (halt.Refused line w)) = IsUnread was now old new (stop.Refused line w)
Migrates name was now old new (Err halt.ReadFault) = IsUnread was now old new stop.ReadFault
Migrates name was now old new (Err halt.OutOfMemory) =
    IsUnread was now old new stop.OutOfMemory ⊎ Went was (λ m between. MigratesBehind name m between now old new (Err halt.OutOfMemory))
Migrates name was now old new result = Went was (λ m between. MigratesBehind name m between now old new result)
