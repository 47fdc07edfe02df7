-- What follows from how the making of a store ended.
use Rattle.std.proofs.Common.{◌≡◌, ℕ, Bool, true, false, length, take, drop, Option, Some, None, List, [], ◌∷◌, Result, Ok, Err, refl, sym, subst, ap, ◌∙◌, inl, inr, append-nil, take-append-drop}
use Rattle.std.specs.Prelude.{IfSome}
use Rattle.std.specs.Io.KnownBytes.{Appends}
use Rattle.std.proofs.KnownBytes.{Appends-nil}
use Rattle.ports.specs.Count.{Rose, next_count}
use Rattle.ports.specs.Disk.{Moment}
use Rattle.epoch_store.specs.Calls.{HasLength}
use Rattle.play.specs.Plays.{IoState}
use Rattle.play.specs.declared.stop.Stop.TheVariants as stop
use Rattle.schedule_texts.specs.declared.secret.SecretText.TheVariants as secret
use Rattle.text_trace.specs.Lines.{seen}
use Rattle.text_trace.specs.Trace.{Every}
use Rattle.authority.specs.declared.halt.Halt.{Halt}
use Rattle.authority.specs.declared.halt.Halt.TheVariants as halt
use Rattle.authority.specs.declared.setting.Setting.{Setting}
use Rattle.ports.specs.Outside.{OfDisk}
use Rattle.authority.specs.Settings.{secret_judging, told_for}
use Rattle.authority.specs.Texts.{IsSecret}
use Rattle.authority.specs.Making.{Makes, key_line_of, stored, told_at_end}
use Rattle.command_line.specs.Causes.{Says, for_word, status_of_halt}
use Rattle.command_line.specs.Ends.{Counts, DiskCounts, Tells}
use Rattle.command_line.specs.Traced.{IsComplete}
use Rattle.command_line.specs.TracedAs.{NoneFailed, OnImage, StoreCompletes, TracedEither, IsOwedBehind}
use Rattle.command_line.specs.Upheld.{IsStoreMade, OnMade}
use Rattle.command_line.proofs.BehindLemmas.{cut-by, done-by, or-cut, still-unfailed, told-unfailed, unrefused, whole-traced}
use Rattle.command_line.proofs.CompleteLemmas.{rose}
use Rattle.command_line.proofs.EndLemmas.{counts-by, for-words}
use Rattle.command_line.proofs.TraceLemmas.{traced}
use Rattle.command_line.specs.declared.status.Status.{Status}
use Rattle.command_line.specs.declared.status.Status.TheVariants as status

abbrev Answer : Type 0
Answer = Result (Unit {0}) Halt

told-line : (was between : IoState) (s : Setting) (read : IsSecret was between s) → told_at_end read.lines ≡ key_line_of s
told-line was between s read = ap (λ o. told_for o key_line_of) read.setting

-- nothing was written behind the text
silent : (was between mid now : IoState) (s : Setting) (first answer : Status) (read : IsSecret was between s) → mid ≡ between → IsOwedBehind (key_line_of s) first → Tells first mid now answer → TracedEither stored was now answer
silent was between mid now s first answer read same owing tells =
    inr (whole-traced secret_judging secret.Start told_at_end read.lines was between mid now first answer [] (key_line_of s) read.whole
    (subst (λ m. Appends between.taken m.taken []) (sym same) (Appends-nil between.taken)) (ap (λ m. m.left) same) (told-line was between s read) owing tells)

pub store-traced : (name : List ℕ) (was mid now : IoState) (old new : OfDisk) (r : Answer) (s : Status) → Makes name was mid old new r → Tells (status_of_halt r) mid now s → TracedEither stored was now s
store-traced name was mid now old new (Ok _) s h tells =
    inr (whole-traced secret_judging secret.Start told_at_end h.read.lines was h.between mid now status.Ok s (key_line_of h.setting) [] h.read.whole h.rest.1.wrote h.rest.1.left
    (told-line was h.between h.setting h.read ∙ sym (append-nil (key_line_of h.setting))) refl tells)
store-traced name was mid now old new (Err (halt.Refused line w)) s h tells = inl (traced Every for_word stored was now s (record { result = Err (stop.Refused line w); between = mid; runs = h.0 told_at_end; tells = tells }))
store-traced name was mid now old new (Err halt.ReadFault) s h tells = inl (traced Every for_word stored was now s (record { result = Err stop.ReadFault; between = mid; runs = h.0 told_at_end; tells = tells }))
store-traced name was mid now old new (Err halt.WriteFault) s h tells =
    let line = key_line_of h.setting in
    let cut = h.rest.1.wrote in
    inr (whole-traced secret_judging secret.Start told_at_end h.read.lines was h.between mid now status.WriteFault s (take cut.count line) (drop cut.count line) h.read.whole cut.gained h.rest.1.left
    (told-line was h.between h.setting h.read ∙ sym (take-append-drop cut.count line)) tt tells)
store-traced name was mid now old new (Err halt.StoreFault) s h tells = silent was h.between mid now h.setting status.StoreFault s h.read h.rest.0 tt tells
store-traced name was mid now old new (Err (halt.StoreBroken place byte)) s h tells = absurd h.rest
store-traced name was mid now old new (Err (halt.StoreTaken len)) s h tells = silent was h.between mid now h.setting (status.StoreTaken len) s h.read h.rest.0 tt tells
store-traced name was mid now old new (Err (halt.Exhausted next)) s h tells = absurd h.rest
store-traced name was mid now old new (Err halt.OutOfMemory) s h tells =
    elim h [
      | inl unread ↦ inl (traced Every for_word stored was now s (record { result = Err stop.OutOfMemory; between = mid; runs = unread.0 told_at_end; tells = tells }))
      | inr went ↦ silent was went.between mid now went.setting status.OutOfMemory s went.read went.rest.0 tt tells
    ]

-- ## The counts

pub store-counts : (name : List ℕ) (was mid now : IoState) (old new : OfDisk) (r : Answer) (s : Status) → Makes name was mid old new r → Tells (status_of_halt r) mid now s → Counts was now s
store-counts name was mid now old new (Ok _) s h t =
    done-by was mid now t.failed status.Ok t.line s tt (told-unfailed was h.between mid (key_line_of h.setting) h.read.whole.unfailed h.rest.1) t.says t.reads t.writes
store-counts name was mid now old new (Err (halt.Refused line w)) s h t = counts-by Every for_word stored was mid now t.failed (Err (stop.Refused line w)) t.line s for-words (h.0 told_at_end) t.says t.reads t.writes
store-counts name was mid now old new (Err halt.ReadFault) s h t = counts-by Every for_word stored was mid now t.failed (Err stop.ReadFault) t.line s for-words (h.0 told_at_end) t.says t.reads t.writes
store-counts name was mid now old new (Err halt.WriteFault) s h t =
    cut-by was mid now t.failed t.line s (h.rest.1.reads ∙ h.read.whole.unfailed.reads) (h.rest.1.writes ∙ ap next_count h.read.whole.unfailed.writes) t.says t.reads t.writes
store-counts name was mid now old new (Err halt.StoreFault) s h t = done-by was mid now t.failed status.StoreFault t.line s tt (still-unfailed was h.between mid h.read.whole.unfailed h.rest.0) t.says t.reads t.writes
store-counts name was mid now old new (Err (halt.StoreBroken place byte)) s h t = absurd h.rest
store-counts name was mid now old new (Err (halt.StoreTaken len)) s h t = done-by was mid now t.failed (status.StoreTaken len) t.line s tt (still-unfailed was h.between mid h.read.whole.unfailed h.rest.0) t.says t.reads t.writes
store-counts name was mid now old new (Err (halt.Exhausted next)) s h t = absurd h.rest
store-counts name was mid now old new (Err halt.OutOfMemory) s h t =
    elim h [
      | inl unread ↦ counts-by Every for_word stored was mid now t.failed (Err stop.OutOfMemory) t.line s for-words (unread.0 told_at_end) t.says t.reads t.writes
      | inr went ↦ done-by was mid now t.failed status.OutOfMemory t.line s tt (still-unfailed was went.between mid went.read.whole.unfailed went.rest.0) t.says t.reads t.writes
    ]

pub store-disk : (name : List ℕ) (was mid now : IoState) (old new : OfDisk) (r : Answer) (s : Status) → Makes name was mid old new r → Tells (status_of_halt r) mid now s → DiskCounts old new s
store-disk name was mid now old new (Ok _) s h t = or-cut t.failed status.Ok t.line s t.says (DiskCounts old new) h.rest.0.faults (inl h.rest.0.faults)
store-disk name was mid now old new (Err (halt.Refused line w)) s h t = let same = ap (λ d. d.faults) h.1 in or-cut t.failed (status.BadInput line w) t.line s t.says (DiskCounts old new) same (inl same)
store-disk name was mid now old new (Err halt.ReadFault) s h t = let same = ap (λ d. d.faults) h.1 in or-cut t.failed status.ReadFault t.line s t.says (DiskCounts old new) same (inl same)
store-disk name was mid now old new (Err halt.WriteFault) s h t = or-cut t.failed status.WriteFault t.line s t.says (DiskCounts old new) (inl h.rest.0.faults) (inl h.rest.0.faults)
store-disk name was mid now old new (Err halt.StoreFault) s h t = or-cut t.failed status.StoreFault t.line s t.says (DiskCounts old new) h.rest.1.faults (inr h.rest.1.faults)
store-disk name was mid now old new (Err (halt.StoreBroken place byte)) s h t = absurd h.rest
store-disk name was mid now old new (Err (halt.StoreTaken len)) s h t = or-cut t.failed (status.StoreTaken len) t.line s t.says (DiskCounts old new) h.rest.1.faults (inl h.rest.1.faults)
store-disk name was mid now old new (Err (halt.Exhausted next)) s h t = absurd h.rest
store-disk name was mid now old new (Err halt.OutOfMemory) s h t =
    elim h [
      | inl unread ↦ let same = ap (λ d. d.faults) unread.1 in or-cut t.failed status.OutOfMemory t.line s t.says (DiskCounts old new) same (inl same)
      | inr went ↦ or-cut t.failed status.OutOfMemory t.line s t.says (DiskCounts old new) went.rest.1.faults (inl went.rest.1.faults)
    ]

-- ## What it upholds, and where it is whole

pub store-upheld : (name : List ℕ) (was mid now : IoState) (old new : OfDisk) (r : Answer) (s : Status) → Makes name was mid old new r → Tells (status_of_halt r) mid now s → OnMade s (IsStoreMade was old new)
store-upheld name was mid now old new (Ok _) s h t =
    or-cut t.failed status.Ok t.line s t.says (λ x. OnMade x (IsStoreMade was old new)) (record { setting = h.setting; between = h.between; read = h.read; image = h.rest.0.image }) tt
store-upheld name was mid now old new (Err (halt.Refused line w)) s h t = or-cut t.failed (status.BadInput line w) t.line s t.says (λ x. OnMade x (IsStoreMade was old new)) tt tt
store-upheld name was mid now old new (Err halt.ReadFault) s h t = or-cut t.failed status.ReadFault t.line s t.says (λ x. OnMade x (IsStoreMade was old new)) tt tt
store-upheld name was mid now old new (Err halt.WriteFault) s h t = or-cut t.failed status.WriteFault t.line s t.says (λ x. OnMade x (IsStoreMade was old new)) tt tt
store-upheld name was mid now old new (Err halt.StoreFault) s h t = or-cut t.failed status.StoreFault t.line s t.says (λ x. OnMade x (IsStoreMade was old new)) tt tt
store-upheld name was mid now old new (Err (halt.StoreBroken place byte)) s h t = absurd h.rest
store-upheld name was mid now old new (Err (halt.StoreTaken len)) s h t = or-cut t.failed (status.StoreTaken len) t.line s t.says (λ x. OnMade x (IsStoreMade was old new)) tt tt
store-upheld name was mid now old new (Err (halt.Exhausted next)) s h t = absurd h.rest
store-upheld name was mid now old new (Err halt.OutOfMemory) s h t = or-cut t.failed status.OutOfMemory t.line s t.says (λ x. OnMade x (IsStoreMade was old new)) tt tt

-- no write failed, so that the answer is the first cause
pub first-answered : (was mid now : IoState) (failed : Bool) (first : Status) (line : List ℕ) (s : Status) → Says failed first line s → Counts was now s → ¬ (Rose was.write_faults now.write_faults) → (s ≡ first → IsComplete first) → IsComplete s
first-answered was mid now false first line s says counts written complete = subst IsComplete (sym says.0) (complete says.0)
first-answered was mid now true first line s says counts written complete =
    let cut : Counts was now status.WriteFault = subst (Counts was now) says.0 counts in
    absurd (written (rose was.write_faults now.write_faults cut.1))

empty-taken : (moments : List Moment) (len : ℕ) → HasLength moments len → OnImage moments (λ image. length image ≡ 0) → (len ≡ 0 → ⊥) → ⊥
empty-taken [] len has empty some = empty
empty-taken (m ∷ past) len has empty some = some (sym has ∙ empty)

store-whole : (name : List ℕ) (was mid now : IoState) (old new : OfDisk) (r : Answer) (s : Status) (all : List ℕ) → was.left ≡ Some all → Makes name was mid old new r → Tells (status_of_halt r) mid now s → Counts was now s
    → (stored (seen all)).cause ≡ None → OnImage old.moments (λ image. length image ≡ 0) → NoneFailed was now old new → s ≡ status_of_halt r → IsComplete (status_of_halt r)
store-whole name was mid now old new (Ok _) s all left h t counts none empty fine is = inl refl
store-whole name was mid now old new (Err (halt.Refused line w)) s all left h t counts none empty fine is =
    absurd (unrefused stored was mid all line w left (h.0 told_at_end) none)
store-whole name was mid now old new (Err halt.ReadFault) s all left h t counts none empty fine is =
    let at : Counts was now status.ReadFault = subst (Counts was now) is counts in
    absurd (fine.reads (rose was.read_faults now.read_faults at.0))
store-whole name was mid now old new (Err halt.WriteFault) s all left h t counts none empty fine is =
    let at : Counts was now status.WriteFault = subst (Counts was now) is counts in
    absurd (fine.writes (rose was.write_faults now.write_faults at.1))
store-whole name was mid now old new (Err halt.StoreFault) s all left h t counts none empty fine is = absurd (fine.disk (rose old.faults new.faults h.rest.1.faults))
store-whole name was mid now old new (Err (halt.StoreBroken place byte)) s all left h t counts none empty fine is = absurd h.rest
store-whole name was mid now old new (Err (halt.StoreTaken len)) s all left h t counts none empty fine is = absurd (empty-taken old.moments len h.rest.1.has empty h.rest.1.some)
store-whole name was mid now old new (Err (halt.Exhausted next)) s all left h t counts none empty fine is = absurd h.rest
store-whole name was mid now old new (Err halt.OutOfMemory) s all left h t counts none empty fine is = inr refl

store-told : (name : List ℕ) (left : Option (List ℕ)) (was mid now : IoState) (old new : OfDisk) (r : Answer) (s : Status) → was.left ≡ left → Makes name was mid old new r → Tells (status_of_halt r) mid now s → Counts was now s
    → IfSome left (λ all. (stored (seen all)).cause ≡ None → OnImage old.moments (λ image. length image ≡ 0) → NoneFailed was now old new → IsComplete s)
store-told name None was mid now old new r s left h t counts = tt
store-told name (Some all) was mid now old new r s left h t counts = λ none empty fine.
    first-answered was mid now t.failed (status_of_halt r) t.line s t.says counts fine.writes (store-whole name was mid now old new r s all left h t counts none empty fine)

pub store-completes : (name : List ℕ) (was mid now : IoState) (old new : OfDisk) (r : Answer) (s : Status) → Makes name was mid old new r → Tells (status_of_halt r) mid now s → Counts was now s → StoreCompletes was now old new s
store-completes name was mid now old new r s h t counts = store-told name was.left was mid now old new r s refl h t counts
