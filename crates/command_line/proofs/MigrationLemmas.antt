-- What the move of a store leaves, whatever ended it.
use Rattle.std.proofs.Common.{◌≡◌, ℕ, take, List, [], ◌∷◌, ◌++◌, Result, Ok, Err, sym, subst, ap, inl, inr}
use Rattle.std.specs.Io.KnownBytes.{Appends}
use Rattle.std.proofs.KnownBytes.{Appends-trans}
use Rattle.ports.specs.Contents.{TookFront}
use Rattle.ports.specs.Disk.{Fails, Moment, Since, stays}
use Rattle.ports.specs.Outside.{OfDisk}
use Rattle.ports.proofs.SinceLemmas.{Fails-same, newest_has}
use Rattle.line_text.specs.declared.bad_word.BadWord.{BadWord}
use Rattle.play.specs.Plays.{IoState}
use Rattle.play.specs.declared.stop.Stop.{Stop}
use Rattle.play.specs.declared.stop.Stop.TheVariants as stop
use Rattle.schedule_texts.specs.declared.migrate.MigrateText.TheVariants as migrate
use Rattle.signer.specs.Lives.{EndsEither, EndsNow, Spent}
use Rattle.authority.specs.declared.halt.Halt.{Halt}
use Rattle.authority.specs.declared.halt.Halt.TheVariants as halt
use Rattle.authority.specs.declared.moving.Moving.{Moving}
use Rattle.authority.specs.Migrating.{IsMigrated, IsUnread, IsUsedUp, Migrates, MovingFails, migrated_line, new_tag, old_tag}
use Rattle.authority.specs.Moved.{IsMigration, migrate_judging}
use Rattle.epoch_store.specs.declared.Stored.{Stored}
use Rattle.command_line.specs.Causes.{status_of_halt}
use Rattle.command_line.specs.Ends.{Tells}
use Rattle.command_line.specs.Migration.{EndsEitherNow, FailedToMove, HasMoved, IsGone, IsUnmoved, Migration, MovesBy}
use Rattle.command_line.proofs.EnrolmentLemmas.{spends-none, spends-none-unread}
use Rattle.command_line.proofs.MigrateLemmas.{found-to-move}
use Rattle.command_line.specs.declared.status.Status.{Status}

abbrev Answer : Type 0
Answer = Result (Unit {0}) Halt

-- ## The file

none-left : (now : Moment) (past more : List Moment) → [] ≡ more ++ now ∷ past → ⊥
none-left now past [] is = cc
none-left now past (m ∷ more) is = cc

abbrev has-moved : (name : List ℕ) (was between : IoState) (m : Moving) (o : Stored) (old new : OfDisk) → IsMigration was between m → IsMigrated name m old new o → HasMoved was old new
has-moved name was between m o old new read h = record {
  may = record { opened = o; there = found-to-move was between m o h.seat old read h.found; within = h.within };
  left = h.left;
  any_moment = h.any_moment;
  lives = h.lives;
  any_life = h.any_life;
}

-- what each new moment has, and the last one before, the last one has
now-either : (tag other before : List ℕ) (spent : List Spent) (older newer : List Moment) → EndsNow tag before spent older → Since (EndsEither tag other before spent) older newer → EndsEitherNow tag other before spent newer
now-either tag other before spent [] newer ends since = absurd ends
now-either tag other before spent (now ∷ past) [] ends since = absurd (none-left now past since.more since.grew)
now-either tag other before spent (now ∷ past) (m ∷ later) ends since = newest_has (EndsEither tag other before spent) now m past later (λ c left. inl (ends c left)) since

failed-to-move : (name : List ℕ) (was between : IoState) (m : Moving) (old new : OfDisk) → IsMigration was between m → MovingFails name m old new → FailedToMove was old new
failed-to-move name was between m old new read h = record {
  may = record { opened = h.opened; there = found-to-move was between m h.opened h.seat old read h.found; within = h.within };
  any_moment = h.any_moment;
  any_life = h.any_life;
  lives = λ before spent ends. now-either (old_tag m) (new_tag m) before spent old.moments new.moments ends (h.any_life before spent ends);
}

is-gone : (name : List ℕ) (was between : IoState) (m : Moving) (next : ℕ) (old new : OfDisk) → IsMigration was between m → IsUsedUp name m next old new → IsGone next was old new
is-gone name was between m next old new read h = record {
  opened = h.opened;
  there = found-to-move was between m h.opened h.seat old read h.opening.found;
  next_is = h.next_is;
  gone = h.gone;
  still = h.opening.settled;
}

-- ## What was written

-- nothing behind the text
silent : (was between mid : IoState) (m : Moving) → IsMigration was between m → mid ≡ between → Appends was.taken mid.taken []
silent was between mid m read same = subst (λ (x : IoState). Appends was.taken x.taken []) (sym same) read.whole.wrote

wrote-behind : (was between mid : IoState) (m : Moving) (text : List ℕ) → IsMigration was between m → Appends between.taken mid.taken text → Appends was.taken mid.taken text
wrote-behind was between mid m text read wrote = Appends-trans was.taken between.taken mid.taken [] text read.whole.wrote wrote

cut-behind : (was between mid : IoState) (m : Moving) (text : List ℕ) → IsMigration was between m → TookFront between.taken mid.taken text → TookFront was.taken mid.taken text
cut-behind was between mid m text read cut = record { count = cut.count; short = cut.short; gained = wrote-behind was between mid m (take cut.count text) read cut.gained }

-- nothing was written or put
unmoved : (was between mid : IoState) (m : Moving) (old new : OfDisk) → IsMigration was between m → mid ≡ between → Fails stays old.moments new.moments → IsUnmoved was mid old new
unmoved was between mid m old new read same kept = record { kept = kept; none = spends-none was.taken mid.taken old new (silent was between mid m read same) kept }

unread : (was mid : IoState) (old new : OfDisk) (s : Stop BadWord) → IsUnread was mid old new s → IsUnmoved was mid old new
unread was mid old new s h = record {
  kept = Fails-same old.moments new.moments (ap (λ (d : OfDisk). d.moments) h.1);
  none = spends-none-unread migrate_judging migrate.Start was mid old new s h.0 h.1;
}

-- ## The answers

moves-by : (name : List ℕ) (was mid : IoState) (old new : OfDisk) (r : Answer) → Migrates name was mid old new r → MovesBy was mid old new r
moves-by name was mid old new (Ok _) h =
    let e = h.rest in
    (has-moved name was h.between h.moving e.opened old new h.read e.moved, wrote-behind was h.between mid h.moving (migrated_line e.opened) h.read e.told.wrote)
moves-by name was mid old new (Err (halt.Refused line w)) h = unread was mid old new (stop.Refused line w) h
moves-by name was mid old new (Err halt.ReadFault) h = unread was mid old new stop.ReadFault h
moves-by name was mid old new (Err halt.WriteFault) h =
    let e = h.rest in
    (has-moved name was h.between h.moving e.opened old new h.read e.moved, cut-behind was h.between mid h.moving (migrated_line e.opened) h.read e.cut.wrote)
moves-by name was mid old new (Err halt.StoreFault) h =
    elim h.rest.1 [
      | inl opening ↦ inl (unmoved was h.between mid h.moving old new h.read h.rest.0 opening.moments)
      | inr e ↦ inr (failed-to-move name was h.between h.moving old new h.read e, silent was h.between mid h.moving h.read h.rest.0)
    ]
moves-by name was mid old new (Err (halt.StoreBroken place byte)) h = (unmoved was h.between mid h.moving old new h.read h.rest.0 h.rest.1.kept, h.rest.1.settles)
moves-by name was mid old new (Err (halt.StoreTaken len)) h = absurd h.rest
moves-by name was mid old new (Err (halt.Exhausted next)) h =
    (unmoved was h.between mid h.moving old new h.read h.rest.0 h.rest.1.opening.kept, is-gone name was h.between h.moving next old new h.read h.rest.1)
moves-by name was mid old new (Err halt.OutOfMemory) h =
    elim h [
      | inl cut ↦ unread was mid old new stop.OutOfMemory cut
      | inr w ↦ elim w.rest.1 [
        | inl opening ↦ unmoved was w.between mid w.moving old new w.read w.rest.0 opening.moments
        | inr e ↦ unmoved was w.between mid w.moving old new w.read w.rest.0 e.opening.kept
      ]
    ]

pub migrate-upheld : (name : List ℕ) (was mid now : IoState) (old new : OfDisk) (r : Answer) (s : Status) → Migrates name was mid old new r → Tells (status_of_halt r) mid now s → Migration was now old new s
migrate-upheld name was mid now old new r s h t = record { result = r; between = mid; moves = moves-by name was mid old new r h; tells = t }
