-- What follows from how the move of a store ended.
use Rattle.std.proofs.Common.{◌≡◌, ◌<◌, ◌≤◌, ℕ, false, take, drop, Option, Some, None, List, [], Result, Ok, Err, refl, sym, subst, ap, ◌∙◌, inl, inr, arith, append-nil, take-append-drop, ltb, lt-ltb}
use Rattle.std.specs.Prelude.{IfSome}
use Rattle.std.specs.Io.KnownBytes.{Appends}
use Rattle.std.proofs.KnownBytes.{Appends-nil}
use Rattle.std.proofs.lemmas.Bool.Decides.{nat_tests}
use Rattle.ports.specs.Count.{next_count}
use Rattle.ports.specs.Outside.{OfDisk}
use Rattle.epoch_store.specs.declared.Stored.{Stored}
use Rattle.epoch_store.specs.declared.seat.Seat.{Seat}
use Rattle.epoch_store.specs.Calls.{HoldsStore, OpensAs}
use Rattle.epoch_store.specs.Store.{StoreOf}
use Rattle.play.specs.Plays.{IoState}
use Rattle.play.specs.declared.stop.Stop.TheVariants as stop
use Rattle.schedule_texts.specs.declared.line.SecretLine.{SecretLine}
use Rattle.schedule_texts.specs.declared.migrate.MigrateText.TheVariants as migrate
use Rattle.text_trace.specs.Lines.{seen}
use Rattle.text_trace.specs.Trace.{Every}
use Rattle.whole_text.specs.Gathered.{lines_from, told_of, unread}
use Rattle.authority.specs.declared.halt.Halt.{Halt}
use Rattle.authority.specs.declared.halt.Halt.TheVariants as halt
use Rattle.authority.specs.declared.moving.Moving.{Moving}
use Rattle.authority.specs.Halts.{halt_for}
use Rattle.authority.specs.Migrating.{IsUsedUp, Migrates, count_of, line_for, migrated_line, moved_on, old_tag, told_at_end, told_for_move}
use Rattle.authority.specs.Moved.{IsMigration, left_setting, migrate_judging, migrate_setting}
use Rattle.command_line.specs.Causes.{for_word, status_of_halt}
use Rattle.command_line.specs.Ends.{Counts, DiskCounts, Tells}
use Rattle.command_line.specs.Migration.{FoundToMove}
use Rattle.command_line.specs.Traced.{IsComplete}
use Rattle.command_line.specs.TracedAs.{IsOwedBehind, MigrateCompletes, NoneFailed, OnImage, TracedFound, TracedWhole}
use Rattle.command_line.specs.TracedAs as as_
use Rattle.command_line.proofs.BehindLemmas.{cut-by, done-by, or-cut, same-lines, still-unfailed, told-unfailed, unrefused, whole-traced}
use Rattle.command_line.proofs.CompleteLemmas.{rose}
use Rattle.command_line.proofs.EndLemmas.{counts-by, for-words}
use Rattle.command_line.proofs.EnrollLemmas.{failed, found-is, opens, tag-long}
use Rattle.command_line.proofs.StoreLemmas.{first-answered}
use Rattle.command_line.proofs.TraceLemmas.{traced}
use Rattle.command_line.specs.declared.status.Status.{Status}
use Rattle.command_line.specs.declared.status.Status.TheVariants as status

abbrev Answer : Type 0
Answer = Result (Unit {0}) Halt

-- ## The trace

told-line : (was between : IoState) (m : Moving) (o : Stored) (read : IsMigration was between m) → told_at_end o read.lines ≡ line_for o m
told-line was between m o read = ap (λ x. told_for_move x o) read.moving

line-within : (m : Moving) (o : Stored) → o.next < count_of m → line_for o m ≡ migrated_line o
line-within m o within = rw (lt-ltb o.next (count_of m) within) refl

line-gone : (m : Moving) (o : Stored) → count_of m ≤ o.next → line_for o m ≡ []
line-gone m o gone = let none : ltb o.next (count_of m) ≡ false = grind (arith, nat_tests) in rw none refl

-- nothing was written behind the text, and this is owed behind it
silent : (was between mid now : IoState) (m : Moving) (o : Stored) (first answer : Status) → IsMigration was between m → mid ≡ between → IsOwedBehind (line_for o m) first → Tells first mid now answer → TracedWhole (moved_on o) was now answer
silent was between mid now m o first answer read same owing tells =
    whole-traced migrate_judging migrate.Start (told_at_end o) read.lines was between mid now first answer [] (line_for o m) read.whole
    (subst (λ x. Appends between.taken x.taken []) (sym same) (Appends-nil between.taken)) (ap (λ x. x.left) same) (told-line was between m o read) owing tells

abbrev pub found-to-move : (was between : IoState) (m : Moving) (o : Stored) (seat : Seat) (old : OfDisk) → IsMigration was between m → HoldsStore (old_tag m) o seat old.moments → FoundToMove o was old
found-to-move was between m o seat old read found = record { moving = m; between = between; read = read; seat = seat; found = found }

pub migrate-traced : (name : List ℕ) (was mid now : IoState) (old new : OfDisk) (r : Answer) (s : Status) → Migrates name was mid old new r → Tells (status_of_halt r) mid now s → TracedFound FoundToMove moved_on was now old s
migrate-traced name was mid now old new (Ok _) s h t =
    let e = h.rest in
    let line = migrated_line e.opened in
    as_.Opened e.opened (found-to-move was h.between h.moving e.opened e.moved.seat old h.read e.moved.found)
    (whole-traced migrate_judging migrate.Start (told_at_end e.opened) h.read.lines was h.between mid now status.Ok s line [] h.read.whole e.told.wrote e.told.left
    (told-line was h.between h.moving e.opened h.read ∙ line-within h.moving e.opened e.moved.within ∙ sym (append-nil line)) refl t)
migrate-traced name was mid now old new (Err (halt.Refused line w)) s h t = as_.CutOff (λ o. traced Every for_word (moved_on o) was now s (record { result = Err (stop.Refused line w); between = mid; runs = h.0 (told_at_end o); tells = t }))
migrate-traced name was mid now old new (Err halt.ReadFault) s h t = as_.CutOff (λ o. traced Every for_word (moved_on o) was now s (record { result = Err stop.ReadFault; between = mid; runs = h.0 (told_at_end o); tells = t }))
migrate-traced name was mid now old new (Err halt.WriteFault) s h t =
    let e = h.rest in
    let line = migrated_line e.opened in
    let cut = e.cut.wrote in
    as_.Opened e.opened (found-to-move was h.between h.moving e.opened e.moved.seat old h.read e.moved.found)
    (whole-traced migrate_judging migrate.Start (told_at_end e.opened) h.read.lines was h.between mid now status.WriteFault s (take cut.count line) (drop cut.count line) h.read.whole cut.gained e.cut.left
    (told-line was h.between h.moving e.opened h.read ∙ line-within h.moving e.opened e.moved.within ∙ sym (take-append-drop cut.count line)) tt t)
migrate-traced name was mid now old new (Err halt.StoreFault) s h t =
    elim h.rest.1 [
      | inl opening ↦ as_.Unopened (λ o. silent was h.between mid now h.moving o status.StoreFault s h.read h.rest.0 tt t)
      | inr e ↦ as_.Opened e.opened (found-to-move was h.between h.moving e.opened e.seat old h.read e.found) (silent was h.between mid now h.moving e.opened status.StoreFault s h.read h.rest.0 tt t)
    ]
migrate-traced name was mid now old new (Err (halt.StoreBroken place byte)) s h t = as_.Unopened (λ o. silent was h.between mid now h.moving o (status.StoreBroken place byte) s h.read h.rest.0 tt t)
migrate-traced name was mid now old new (Err (halt.StoreTaken len)) s h t = absurd h.rest
migrate-traced name was mid now old new (Err (halt.Exhausted next)) s h t =
    let e = h.rest.1 in
    let none = line-gone h.moving e.opened (subst (λ (n : ℕ). count_of h.moving ≤ n) e.next_is e.gone) in
    as_.Opened e.opened (found-to-move was h.between h.moving e.opened e.seat old h.read e.opening.found) (silent was h.between mid now h.moving e.opened (status.Exhausted next) s h.read h.rest.0 none t)
migrate-traced name was mid now old new (Err halt.OutOfMemory) s h t =
    elim h [
      | inl cut ↦ as_.CutOff (λ o. traced Every for_word (moved_on o) was now s (record { result = Err stop.OutOfMemory; between = mid; runs = cut.0 (told_at_end o); tells = t }))
      | inr w ↦ elim w.rest.1 [
        | inl opening ↦ as_.Unopened (λ o. silent was w.between mid now w.moving o status.OutOfMemory s w.read w.rest.0 tt t)
        | inr e ↦ as_.Opened e.opened (found-to-move was w.between w.moving e.opened e.seat old w.read e.opening.found) (silent was w.between mid now w.moving e.opened status.OutOfMemory s w.read w.rest.0 tt t)
      ]
    ]

-- ## The counts

-- of a text whose trace is told by any state
none-found : Stored
none-found = record { next = 0; epoch = 0; mask = record { 0 = 0 } }

pub migrate-counts : (name : List ℕ) (was mid now : IoState) (old new : OfDisk) (r : Answer) (s : Status) → Migrates name was mid old new r → Tells (status_of_halt r) mid now s → Counts was now s
migrate-counts name was mid now old new (Ok _) s h t = done-by was mid now t.failed status.Ok t.line s tt (told-unfailed was h.between mid (migrated_line h.rest.opened) h.read.whole.unfailed h.rest.told) t.says t.reads t.writes
migrate-counts name was mid now old new (Err (halt.Refused line w)) s h t = counts-by Every for_word (moved_on none-found) was mid now t.failed (Err (stop.Refused line w)) t.line s for-words (h.0 (told_at_end none-found)) t.says t.reads t.writes
migrate-counts name was mid now old new (Err halt.ReadFault) s h t = counts-by Every for_word (moved_on none-found) was mid now t.failed (Err stop.ReadFault) t.line s for-words (h.0 (told_at_end none-found)) t.says t.reads t.writes
migrate-counts name was mid now old new (Err halt.WriteFault) s h t =
    cut-by was mid now t.failed t.line s (h.rest.cut.reads ∙ h.read.whole.unfailed.reads) (h.rest.cut.writes ∙ ap next_count h.read.whole.unfailed.writes) t.says t.reads t.writes
migrate-counts name was mid now old new (Err halt.StoreFault) s h t = done-by was mid now t.failed status.StoreFault t.line s tt (still-unfailed was h.between mid h.read.whole.unfailed h.rest.0) t.says t.reads t.writes
migrate-counts name was mid now old new (Err (halt.StoreBroken place byte)) s h t =
    done-by was mid now t.failed (status.StoreBroken place byte) t.line s tt (still-unfailed was h.between mid h.read.whole.unfailed h.rest.0) t.says t.reads t.writes
migrate-counts name was mid now old new (Err (halt.StoreTaken len)) s h t = absurd h.rest
migrate-counts name was mid now old new (Err (halt.Exhausted next)) s h t = done-by was mid now t.failed (status.Exhausted next) t.line s tt (still-unfailed was h.between mid h.read.whole.unfailed h.rest.0) t.says t.reads t.writes
migrate-counts name was mid now old new (Err halt.OutOfMemory) s h t =
    elim h [
      | inl cut ↦ counts-by Every for_word (moved_on none-found) was mid now t.failed (Err stop.OutOfMemory) t.line s for-words (cut.0 (told_at_end none-found)) t.says t.reads t.writes
      | inr w ↦ done-by was mid now t.failed status.OutOfMemory t.line s tt (still-unfailed was w.between mid w.read.whole.unfailed w.rest.0) t.says t.reads t.writes
    ]

pub migrate-disk : (name : List ℕ) (was mid now : IoState) (old new : OfDisk) (r : Answer) (s : Status) → Migrates name was mid old new r → Tells (status_of_halt r) mid now s → DiskCounts old new s
migrate-disk name was mid now old new (Ok _) s h t = or-cut t.failed status.Ok t.line s t.says (DiskCounts old new) h.rest.moved.faults (inl h.rest.moved.faults)
migrate-disk name was mid now old new (Err (halt.Refused line w)) s h t = let same = ap (λ d. d.faults) h.1 in or-cut t.failed (status.BadInput line w) t.line s t.says (DiskCounts old new) same (inl same)
migrate-disk name was mid now old new (Err halt.ReadFault) s h t = let same = ap (λ d. d.faults) h.1 in or-cut t.failed status.ReadFault t.line s t.says (DiskCounts old new) same (inl same)
migrate-disk name was mid now old new (Err halt.WriteFault) s h t = or-cut t.failed status.WriteFault t.line s t.says (DiskCounts old new) (inl h.rest.moved.faults) (inl h.rest.moved.faults)
migrate-disk name was mid now old new (Err halt.StoreFault) s h t =
    let up : new.faults ≡ next_count old.faults = elim h.rest.1 [ inl opening ↦ opening.faults | inr e ↦ e.faults ] in
    or-cut t.failed status.StoreFault t.line s t.says (DiskCounts old new) up (inr up)
migrate-disk name was mid now old new (Err (halt.StoreBroken place byte)) s h t = or-cut t.failed (status.StoreBroken place byte) t.line s t.says (DiskCounts old new) h.rest.1.faults (inl h.rest.1.faults)
migrate-disk name was mid now old new (Err (halt.StoreTaken len)) s h t = absurd h.rest
migrate-disk name was mid now old new (Err (halt.Exhausted next)) s h t = or-cut t.failed (status.Exhausted next) t.line s t.says (DiskCounts old new) h.rest.1.opening.faults (inl h.rest.1.opening.faults)
migrate-disk name was mid now old new (Err halt.OutOfMemory) s h t =
    let same : new.faults ≡ old.faults = elim h [
      | inl cut ↦ ap (λ d. d.faults) cut.1
      | inr w ↦ elim w.rest.1 [ inl opening ↦ opening.faults | inr e ↦ e.opening.faults ]
    ] in
    or-cut t.failed status.OutOfMemory t.line s t.says (DiskCounts old new) same (inl same)

-- ## Where it is whole

-- what was read is what the text sets up
same-moving : (was between : IoState) (all : List ℕ) (a m : Moving) (lines : List SecretLine) → was.left ≡ Some all → IsMigration was between a → lines_from migrate_judging (unread migrate.Start) (seen all) ≡ Ok lines → migrate_setting lines ≡ Some m → a ≡ m
same-moving was between all a m lines left read are sets =
    let same = same-lines migrate_judging migrate.Start was between all read.lines lines left read.whole are in
    let one : Some a ≡ Some m = sym read.moving ∙ ap migrate_setting same ∙ sets in
    cc

-- a key that has an index left isn't used up
not-gone : (m : Moving) (a o : Stored) (next : ℕ) → a ≡ o → o.next < count_of m → next ≡ a.next → count_of m ≤ next → ⊥
not-gone m a o next same some next_is gone = let n = ap (λ (x : Stored). x.next) same in omega (arith, n, some, next_is, gone)

used-up : (name : List ℕ) (a m : Moving) (o : Stored) (next : ℕ) (old new : OfDisk) → a ≡ m → OnImage old.moments (λ image. StoreOf (old_tag m) image o) → o.next < count_of m → IsUsedUp name a next old new → ⊥
used-up name a m o next old new same there some e =
    let found : e.opened ≡ o = found-is (old_tag m) old.moments e.opened o e.seat (tag-long (left_setting m)) (subst (λ x. HoldsStore (old_tag x) e.opened e.seat old.moments) same e.opening.found) there in
    not-gone m e.opened o next found some e.next_is (subst (λ (x : Moving). count_of x ≤ next) same e.gone)

migrate-whole : (name : List ℕ) (was mid now : IoState) (old new : OfDisk) (r : Answer) (s : Status) (all : List ℕ) (lines : List SecretLine) (m : Moving) (o : Stored) → was.left ≡ Some all → Migrates name was mid old new r → Counts was now s
    → lines_from migrate_judging (unread migrate.Start) (seen all) ≡ Ok lines → migrate_setting lines ≡ Some m → OnImage old.moments (λ image. StoreOf (old_tag m) image o) → o.next < count_of m → NoneFailed was now old new → s ≡ status_of_halt r → IsComplete (status_of_halt r)
migrate-whole name was mid now old new (Ok _) s all lines m o left h counts are sets there some fine is = inl refl
migrate-whole name was mid now old new (Err (halt.Refused line w)) s all lines m o left h counts are sets there some fine is =
    absurd (unrefused (moved_on o) was mid all line w left (h.0 (told_at_end o)) (ap (λ x. (told_of (told_at_end o) x).cause) are))
migrate-whole name was mid now old new (Err halt.ReadFault) s all lines m o left h counts are sets there some fine is =
    let at : Counts was now status.ReadFault = subst (Counts was now) is counts in
    absurd (fine.reads (rose was.read_faults now.read_faults at.0))
migrate-whole name was mid now old new (Err halt.WriteFault) s all lines m o left h counts are sets there some fine is =
    let at : Counts was now status.WriteFault = subst (Counts was now) is counts in
    absurd (fine.writes (rose was.write_faults now.write_faults at.1))
migrate-whole name was mid now old new (Err halt.StoreFault) s all lines m o left h counts are sets there some fine is =
    let up : new.faults ≡ next_count old.faults = elim h.rest.1 [ inl opening ↦ opening.faults | inr e ↦ e.faults ] in
    absurd (fine.disk (rose old.faults new.faults up))
migrate-whole name was mid now old new (Err (halt.StoreBroken place byte)) s all lines m o left h counts are sets there some fine is =
    let same = same-moving was h.between all h.moving m lines left h.read are sets in
    let b = h.rest.1 in
    absurd (opens (old_tag m) old.moments o b.error (tag-long (left_setting m)) there (subst (λ x. OpensAs (old_tag x) old.moments (failed b.error)) same b.reads)
    (λ e. let x : halt.StoreFault ≡ halt.StoreBroken place byte = sym (ap halt_for e) ∙ b.is in cc) (λ e. let x : halt.OutOfMemory ≡ halt.StoreBroken place byte = sym (ap halt_for e) ∙ b.is in cc))
migrate-whole name was mid now old new (Err (halt.StoreTaken len)) s all lines m o left h counts are sets there some fine is = absurd h.rest
migrate-whole name was mid now old new (Err (halt.Exhausted next)) s all lines m o left h counts are sets there some fine is =
    absurd (used-up name h.moving m o next old new (same-moving was h.between all h.moving m lines left h.read are sets) there some h.rest.1)
migrate-whole name was mid now old new (Err halt.OutOfMemory) s all lines m o left h counts are sets there some fine is = inr refl

migrate-told : (name : List ℕ) (left : Option (List ℕ)) (was mid now : IoState) (old new : OfDisk) (r : Answer) (s : Status) → was.left ≡ left → Migrates name was mid old new r → Tells (status_of_halt r) mid now s → Counts was now s
    → IfSome left (λ all. (lines : List SecretLine) (m : Moving) (o : Stored) → lines_from migrate_judging (unread migrate.Start) (seen all) ≡ Ok lines → migrate_setting lines ≡ Some m → OnImage old.moments (λ image. StoreOf (old_tag m) image o) → o.next < count_of m → NoneFailed was now old new → IsComplete s)
migrate-told name None was mid now old new r s left h t counts = tt
migrate-told name (Some all) was mid now old new r s left h t counts = λ lines m o are sets there some fine.
    first-answered was mid now t.failed (status_of_halt r) t.line s t.says counts fine.writes (migrate-whole name was mid now old new r s all lines m o left h counts are sets there some fine)

pub migrate-completes : (name : List ℕ) (was mid now : IoState) (old new : OfDisk) (r : Answer) (s : Status) → Migrates name was mid old new r → Tells (status_of_halt r) mid now s → Counts was now s → MigrateCompletes was now old new s
migrate-completes name was mid now old new r s h t counts = migrate-told name was.left was mid now old new r s refl h t counts
