-- What comes of the move of a store, by its answer.
use Rattle.std.proofs.Common.{◌≡◌, ℕ, ◌<◌, true, List, [], ◌∷◌, Some, Result, Ok, Err, refl, sym, ap, subst, ◌∙◌, inl, inr}
use Rattle.epoch_store.specs.declared.seat.Seat.{Seat}
use Rattle.epoch_store.specs.declared.Stored.{Stored}
use Rattle.epoch_store.specs.Asked.{entry_calls}
use Rattle.epoch_store.specs.Seat.{behind}
use Rattle.epoch_store.specs.Store.{IsSettled, LeavesOneOf, LeavesState, entry_with, migrated}
use Rattle.ff_ids.specs.declared.Mask.{Mask}
use Rattle.ff_ids.specs.Masks.{all_rings}
use Rattle.line_text.specs.declared.bad_word.BadWord.{BadWord}
use Rattle.play.specs.Plays.{IoState}
use Rattle.play.specs.declared.stop.Stop.{Stop}
use Rattle.play.specs.declared.stop.Stop.TheVariants as stop
use Rattle.ports.specs.Count.{next_count}
use Rattle.ports.specs.Disk.{Fails, IsAmong, Moment, Since, stays}
use Rattle.ports.specs.DiskCalls.{AsFarAs, with_calls}
use Rattle.ports.specs.Outside.{OfDisk}
use Rattle.ports.proofs.SinceLemmas.{Since-same, Since-trans, Since-weaken}
use Rattle.schedule_texts.specs.declared.migrate.MigrateText.TheVariants as migrate
use Rattle.signer.specs.Lives.{EndsEither, EndsLives, MovedLives, MovesLives}
use Rattle.signer.proofs.LivingLemmas.{kept_by_move, kept_by_opening}
use Rattle.whole_text.specs.Gathered.{IsUnfinished, nothing}
use Rattle.whole_text.proofs.WholeLemmas.{never-unwritten}
use Rattle.authority.specs.declared.halt.Halt.{Halt}
use Rattle.authority.specs.declared.halt.Halt.TheVariants as halt
use Rattle.authority.specs.declared.moving.Moving.{Moving}
use Rattle.authority.specs.Halts.{halt_of}
use Rattle.authority.specs.Enrolling.{IsOpened, OpensStore}
use Rattle.authority.specs.Moved.{IsMigration, left_setting, migrate_judging}
use Rattle.authority.specs.Telling.{is_writable}
use Rattle.authority.specs.Migrating.{FailsToMove, IsMigrated, IsMoved, LeavesOne, Migrates, MigratesBehind, MovesOpened, MovingFails, count_of, new_tag, old_tag, seat_moved, state_moved}

-- ## The move

-- what is said of a tag and a mask is said of those of the new group
own : (P : List ℕ → Mask → Type 0) (tag : List ℕ) (mask : Mask) (m : Moving) → tag ≡ new_tag m → mask ≡ record { 0 = all_rings m.setting.group.t } → P tag mask → P (new_tag m) (record { 0 = all_rings m.setting.group.t })
own P tag mask m tag_is mask_is h = subst (λ x. P (new_tag m) x) mask_is (subst (λ t. P t mask) tag_is h)

-- the store is settled as that of this tag
abbrev Settles : Stored → Seat → OfDisk → OfDisk → List ℕ → Mask → Type 0
Settles o seat old new tag mask = (before : List ℕ) → IsSettled before o seat old.moments → IsSettled tag (migrated o mask) (behind seat (entry_with (Some tag) (migrated o mask))) new.moments

abbrev AnyMoment : Stored → Seat → OfDisk → OfDisk → List ℕ → Mask → Type 0
AnyMoment o seat old new tag mask = (before : List ℕ) → IsSettled before o seat old.moments → Since (LeavesOneOf before o tag (migrated o mask)) old.moments new.moments

pub is-moved : (m : Moving) (o : Stored) (seat : Seat) (tag : List ℕ) (mask : Mask) (old new : OfDisk) → tag ≡ new_tag m → mask ≡ record { 0 = all_rings m.setting.group.t } → new.faults ≡ old.faults
    → new.calls ≡ with_calls (entry_calls seat (entry_with (Some tag) (migrated o mask))) old.calls → Settles o seat old new tag mask → AnyMoment o seat old new tag mask → IsMoved m o seat old new
is-moved m o seat tag mask old new tag_is mask_is faults calls left any = record {
  faults = faults;
  calls = own (λ t x. new.calls ≡ with_calls (entry_calls seat (entry_with (Some t) (migrated o x))) old.calls) tag mask m tag_is mask_is calls;
  left = own (Settles o seat old new) tag mask m tag_is mask_is left;
  any_moment = own (AnyMoment o seat old new) tag mask m tag_is mask_is any;
}

pub not-moved : (m : Moving) (o : Stored) (seat : Seat) (tag : List ℕ) (mask : Mask) (old new : OfDisk) → tag ≡ new_tag m → mask ≡ record { 0 = all_rings m.setting.group.t } → new.faults ≡ next_count old.faults
    → AsFarAs (entry_calls seat (entry_with (Some tag) (migrated o mask))) old.calls new.calls → AnyMoment o seat old new tag mask → FailsToMove m o seat old new
not-moved m o seat tag mask old new tag_is mask_is faults calls any = record {
  faults = faults;
  calls = own (λ t x. AsFarAs (entry_calls seat (entry_with (Some t) (migrated o x))) old.calls new.calls) tag mask m tag_is mask_is calls;
  any_moment = own (AnyMoment o seat old new) tag mask m tag_is mask_is any;
}

-- ## Behind the opening

-- the mask of the moved store
abbrev mask_moved : Moving → Mask
mask_moved m = record { 0 = all_rings m.setting.group.t }

-- the opening leaves what a crash before would have left
kept : (m : Moving) (o : Stored) (older newer : List Moment) → LeavesState (old_tag m) o older → Fails stays older newer → Since (LeavesOne m o) older newer
kept m o [] newer leaves fails = subst (λ ms. Since (LeavesOne m o) [] ms) (sym fails) (Since-same (LeavesOne m o) [])
kept m o (now ∷ past) newer leaves fails = Since-weaken (IsAmong now) (LeavesOne m o) (now ∷ past) newer (λ moment among c left. inl (leaves c (among c left))) fails

-- and so does the move
any-behind : (name : List ℕ) (m : Moving) (o : Stored) (seat : Seat) (old mid new : OfDisk) → IsOpened name (left_setting m) o seat old mid
    → ((tag : List ℕ) → IsSettled tag o seat mid.moments → Since (LeavesOneOf tag o (new_tag m) (state_moved m o)) mid.moments new.moments)
    → LeavesState (old_tag m) o old.moments → Since (LeavesOne m o) old.moments new.moments
any-behind name m o seat old mid new open_ any leaves =
    Since-trans (LeavesOne m o) old.moments mid.moments new.moments (kept m o old.moments mid.moments leaves open_.kept) (any (old_tag m) open_.settled)

-- and so do the lives of the key
lives-behind : (name : List ℕ) (m : Moving) (o : Stored) (seat : Seat) (old mid new : OfDisk) → IsOpened name (left_setting m) o seat old mid
    → ((tag : List ℕ) → IsSettled tag o seat mid.moments → Since (LeavesOneOf tag o (new_tag m) (state_moved m o)) mid.moments new.moments)
    → MovesLives (old_tag m) (new_tag m) old.moments new.moments
lives-behind name m o seat old mid new open_ any before spent ends =
    let tag = old_tag m in
    let kept = kept_by_opening tag before spent old.moments mid.moments ends open_.kept in
    let moved = kept_by_move tag (new_tag m) o seat (mask_moved m) mid.moments new.moments open_.settled (any tag open_.settled) in
    Since-trans (EndsEither tag (new_tag m) before spent) old.moments mid.moments new.moments
    (Since-weaken (EndsLives tag before spent) (EndsEither tag (new_tag m) before spent) old.moments mid.moments (λ moment lived c leaves. inl (lived c leaves)) kept.0)
    (moved.0 before spent kept.1)

lives-moved : (name : List ℕ) (m : Moving) (o : Stored) (seat : Seat) (old mid new : OfDisk) → IsOpened name (left_setting m) o seat old mid → IsMoved m o seat mid new → MovedLives (old_tag m) (new_tag m) old.moments new.moments
lives-moved name m o seat old mid new open_ h before spent ends =
    let tag = old_tag m in
    let kept = kept_by_opening tag before spent old.moments mid.moments ends open_.kept in
    let moved = kept_by_move tag (new_tag m) o seat (mask_moved m) mid.moments new.moments open_.settled (h.any_moment tag open_.settled) in
    moved.1 (seat_moved m o seat) (h.left tag open_.settled) before spent kept.1

migrated-behind : (name : List ℕ) (m : Moving) (o : Stored) (seat : Seat) (old mid new : OfDisk) → IsOpened name (left_setting m) o seat old mid → o.next < count_of m → IsMoved m o seat mid new → IsMigrated name m old new o
migrated-behind name m o seat old mid new open_ within h = record {
  faults = h.faults ∙ open_.faults;
  seat = seat;
  found = open_.found;
  within = within;
  calls = record { between = mid.calls; opened = open_.calls; made = h.calls };
  left = h.left (old_tag m) open_.settled;
  any_moment = any-behind name m o seat old mid new open_ h.any_moment;
  lives = lives-moved name m o seat old mid new open_ h;
  any_life = lives-behind name m o seat old mid new open_ h.any_moment;
}

fails-behind : (name : List ℕ) (m : Moving) (o : Stored) (seat : Seat) (old mid new : OfDisk) → IsOpened name (left_setting m) o seat old mid → o.next < count_of m → FailsToMove m o seat mid new → MovingFails name m old new
fails-behind name m o seat old mid new open_ within h = record {
  opened = o;
  seat = seat;
  found = open_.found;
  within = within;
  faults = h.faults ∙ ap next_count open_.faults;
  calls = record { between = mid.calls; opened = open_.calls; last = h.calls };
  any_moment = any-behind name m o seat old mid new open_ h.any_moment;
  any_life = lives-behind name m o seat old mid new open_ h.any_moment;
}

-- what came behind the opening
pub behind-opening : (name : List ℕ) (m : Moving) (o : Stored) (seat : Seat) (between now : IoState) (old mid new : OfDisk) (r : Result (Unit {0}) Halt) → IsOpened name (left_setting m) o seat old mid → o.next < count_of m → MovesOpened m o seat between now mid new r → MigratesBehind name m between now old new r
behind-opening name m o seat between now old mid new (Ok _) open_ within h = record { opened = o; moved = migrated-behind name m o seat old mid new open_ within h.0; told = h.1 }
behind-opening name m o seat between now old mid new (Err (halt.Refused line w)) open_ within h = absurd h
behind-opening name m o seat between now old mid new (Err halt.ReadFault) open_ within h = absurd h
behind-opening name m o seat between now old mid new (Err halt.WriteFault) open_ within h = record { opened = o; moved = migrated-behind name m o seat old mid new open_ within h.0; cut = h.1 }
behind-opening name m o seat between now old mid new (Err halt.StoreFault) open_ within h = (h.0, inr (fails-behind name m o seat old mid new open_ within h.1))
behind-opening name m o seat between now old mid new (Err (halt.StoreBroken place byte)) open_ within h = absurd h
behind-opening name m o seat between now old mid new (Err (halt.StoreTaken len)) open_ within h = absurd h
behind-opening name m o seat between now old mid new (Err (halt.Exhausted next)) open_ within h = absurd h
behind-opening name m o seat between now old mid new (Err halt.OutOfMemory) open_ within h =
    (h.0, inr (record { opened = o; seat = seat; opening = subst (λ disk. IsOpened name (left_setting m) o seat old disk) (sym h.1) open_; within = within }))

-- a store that wasn't opened
pub unopened-behind : (name : List ℕ) (m : Moving) (between : IoState) (old new : OfDisk) (h : Halt) → OpensStore name (left_setting m) old new (Err h) → MigratesBehind name m between between old new (Err h)
unopened-behind name m between old new (halt.Refused line w) is = absurd is
unopened-behind name m between old new halt.ReadFault is = absurd is
unopened-behind name m between old new halt.WriteFault is = absurd is
unopened-behind name m between old new halt.StoreFault is = (refl, inl is)
unopened-behind name m between old new (halt.StoreBroken place byte) is = (refl, is)
unopened-behind name m between old new (halt.StoreTaken len) is = absurd is
unopened-behind name m between old new (halt.Exhausted next) is = absurd is
unopened-behind name m between old new halt.OutOfMemory is = (refl, inl is)

pub unopened-writable : (name : List ℕ) (m : Moving) (old new : OfDisk) (h : Halt) → OpensStore name (left_setting m) old new (Err h) → is_writable (Err h) ≡ true
unopened-writable name m old new (halt.Refused line w) is = refl
unopened-writable name m old new halt.ReadFault is = refl
unopened-writable name m old new halt.WriteFault is = absurd is
unopened-writable name m old new halt.StoreFault is = refl
unopened-writable name m old new (halt.StoreBroken place byte) is = refl
unopened-writable name m old new (halt.StoreTaken len) is = refl
unopened-writable name m old new (halt.Exhausted next) is = refl
unopened-writable name m old new halt.OutOfMemory is = refl

-- ## The whole

-- a text that was read whole, and what came behind that
pub went : (name : List ℕ) (m : Moving) (was between now : IoState) (old new : OfDisk) (r : Result (Unit {0}) Halt) → IsMigration was between m → MigratesBehind name m between now old new r → Migrates name was now old new r
went name m was between now old new (Ok _) read h = record { moving = m; between = between; read = read; rest = h }
went name m was between now old new (Err (halt.Refused line w)) read h = absurd h
went name m was between now old new (Err halt.ReadFault) read h = absurd h
went name m was between now old new (Err halt.WriteFault) read h = record { moving = m; between = between; read = read; rest = h }
went name m was between now old new (Err halt.StoreFault) read h = record { moving = m; between = between; read = read; rest = h }
went name m was between now old new (Err (halt.StoreBroken place byte)) read h = record { moving = m; between = between; read = read; rest = h }
went name m was between now old new (Err (halt.StoreTaken len)) read h = absurd h
went name m was between now old new (Err (halt.Exhausted next)) read h = record { moving = m; between = between; read = read; rest = h }
went name m was between now old new (Err halt.OutOfMemory) read h = inr (record { moving = m; between = between; read = read; rest = h })

-- a text that wasn't read to its end
pub unread : (name : List ℕ) (was now : IoState) (disk : OfDisk) (s : Stop BadWord) → IsUnfinished migrate_judging migrate.Start was now s → Migrates name was now disk disk (Err (halt_of s))
unread name was now disk (stop.Refused line w) h = (h, refl)
unread name was now disk stop.ReadFault h = (h, refl)
unread name was now disk stop.WriteFault h = absurd (never-unwritten migrate_judging migrate.Start was now (h nothing))
unread name was now disk stop.OutOfMemory h = inl (h, refl)

pub unread-writable : (was now : IoState) (s : Stop BadWord) → IsUnfinished migrate_judging migrate.Start was now s → is_writable (Err (halt_of s)) ≡ true
unread-writable was now (stop.Refused line w) h = refl
unread-writable was now stop.ReadFault h = refl
unread-writable was now stop.WriteFault h = absurd (never-unwritten migrate_judging migrate.Start was now (h nothing))
unread-writable was now stop.OutOfMemory h = refl
