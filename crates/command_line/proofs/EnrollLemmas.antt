-- What follows from how an enrolment ended.
use Rattle.std.proofs.Common.{◌≡◌, ◌≢◌, ◌+◌, ◌<◌, ◌≤◌, ◌⊎◌, ℕ, true, false, length, take, drop, Option, Some, None, List, [], ◌∷◌, ◌++◌, Result, Ok, Err, refl, sym, subst, ap, ◌∙◌, inl, inr, arith, append-nil, append_assoc, length-append, take-append-drop, ltb, lt-ltb}
use Rattle.std.specs.Prelude.{IfSome}
use Rattle.std.specs.Io.KnownBytes.{Appends}
use Rattle.std.proofs.Math.Nat.{le-max_right}
use Rattle.std.proofs.KnownBytes.{Appends-nil, Appends-trans}
use Rattle.secrets.proofs.StoreTags.{length-store_tag}
use Rattle.sign_keys.specs.Keys.{index_count}
use Rattle.ports.specs.Count.{next_count}
use Rattle.ports.specs.Disk.{Moment}
use Rattle.epoch_store.specs.declared.seat.Seat.{Seat}
use Rattle.epoch_store.specs.declared.StoreError.{StoreError}
use Rattle.epoch_store.specs.declared.StoreError.TheVariants as store
use Rattle.epoch_store.specs.declared.Stored.{Stored}
use Rattle.epoch_store.specs.Calls.{AnswersAs, HoldsStore, OnRead, OpensAs, StoreState, answer_of}
use Rattle.epoch_store.specs.Reading.{Finds}
use Rattle.epoch_store.specs.Store.{StoreOf}
use Rattle.epoch_store.proofs.FoundLemmas.{one_state, store_found}
use Rattle.play.specs.Plays.{IoState, Unfailed}
use Rattle.play.specs.declared.stop.Stop.TheVariants as stop
use Rattle.records.specs.declared.CertBody.{CertBody}
use Rattle.schedule_texts.specs.declared.line.RosterLine.{RosterLine}
use Rattle.schedule_texts.specs.declared.roster.RosterText.TheVariants as roster
use Rattle.text_trace.specs.Lines.{seen}
use Rattle.text_trace.specs.Trace.{Every}
use Rattle.whole_text.specs.Gathered.{lines_from, told_of, unread}
use Rattle.authority.specs.declared.halt.Halt.{Halt}
use Rattle.authority.specs.declared.halt.Halt.TheVariants as halt
use Rattle.authority.specs.declared.setting.Setting.{Setting}
use Rattle.authority.specs.Halts.{halt_for}
use Rattle.ports.specs.Outside.{OfDisk}
use Rattle.authority.specs.Settings.{asked_in, key_of, roster_judging, roster_setting, tag_of, told_for}
use Rattle.authority.specs.Telling.{IsTold}
use Rattle.authority.specs.Texts.{IsRoster}
use Rattle.authority.specs.Lines.{enrolled, lines_for, lines_within, signed_line, signed_lines, told_at_end}
use Rattle.authority.specs.Signing.{IsPart}
use Rattle.authority.specs.Enrolling.{AreEnrolled, Enrols, IsEnough}
use Rattle.command_line.specs.Causes.{for_word, status_of_halt}
use Rattle.command_line.specs.Ends.{Counts, DiskCounts, Tells}
use Rattle.command_line.specs.Traced.{IsComplete}
use Rattle.command_line.specs.TracedAs.{EnrollCompletes, FoundToEnroll, IsOwedBehind, NoneFailed, OnImage, TracedFound, TracedWhole, enrolled_from}
use Rattle.command_line.specs.TracedAs as as_
use Rattle.command_line.proofs.BehindLemmas.{cut-by, done-by, or-cut, same-lines, still-unfailed, told-unfailed, unrefused, whole-traced}
use Rattle.command_line.proofs.CompleteLemmas.{rose}
use Rattle.command_line.proofs.EndLemmas.{counts-by, for-words}
use Rattle.command_line.proofs.StoreLemmas.{first-answered}
use Rattle.command_line.proofs.TraceLemmas.{traced}
use Rattle.command_line.specs.declared.status.Status.{Status}
use Rattle.command_line.specs.declared.status.Status.TheVariants as status

abbrev Answer : Type 0
Answer = Result (Unit {0}) Halt

-- ## The trace

told-lines : (was between : IoState) (s : Setting) (lines : List RosterLine) (next : ℕ) → IsRoster was between s lines → told_at_end next lines ≡ lines_for next (asked_in lines) s
told-lines was between s lines next read = ap (λ o. told_for o (lines_for next (asked_in lines))) read.setting

-- a part of the trace was written
written : (was between mid now : IoState) (s : Setting) (lines : List RosterLine) (next : ℕ) (first answer : Status) (text rest : List ℕ) → IsRoster was between s lines → IsTold between mid text → lines_for next (asked_in lines) s ≡ text ++ rest → IsOwedBehind rest first → Tells first mid now answer
    → TracedWhole (enrolled next) was now answer
written was between mid now s lines next first answer text rest read told same owing tells =
    whole-traced roster_judging roster.Start (told_at_end next) lines was between mid now first answer text rest read.whole told.wrote told.left (told-lines was between s lines next read ∙ same) owing tells

-- nothing was written behind the text, whatever store there is
silent : (was between mid now : IoState) (s : Setting) (lines : List RosterLine) (first answer : Status) → IsRoster was between s lines → mid ≡ between → ((rest : List ℕ) → IsOwedBehind rest first) → Tells first mid now answer → (o : Stored) → TracedWhole (enrolled_from o) was now answer
silent was between mid now s lines first answer read same owing tells o =
    let rest = lines_for o.next (asked_in lines) s in
    whole-traced roster_judging roster.Start (told_at_end o.next) lines was between mid now first answer [] rest read.whole
    (subst (λ m. Appends between.taken m.taken []) (sym same) (Appends-nil between.taken)) (ap (λ m. m.left) same) (told-lines was between s lines o.next read) (owing rest) tells

-- the lines of the first certificates, and then those of the others
pub split-within : (s : Setting) (i : ℕ) (done rest : List CertBody) → i + length done ≤ index_count (key_of s) → lines_within s.group (key_of s) i (done ++ rest) ≡ signed_lines s.group (key_of s) i done ++ lines_within s.group (key_of s) (i + length done) rest
split-within s i [] rest few = ap (λ (k : ℕ). lines_within s.group (key_of s) k rest) (omega arith)
split-within s i (c ∷ done) rest few =
    let has : ltb i (index_count (key_of s)) ≡ true = lt-ltb i (index_count (key_of s)) (omega arith) in
    rw has
    (ap (λ (t : List ℕ). signed_line s.group (key_of s) i c ++ t) (split-within s (i + 1) done rest (omega arith))
    ∙ sym (append_assoc (signed_line s.group (key_of s) i c) (signed_lines s.group (key_of s) (i + 1) done) (lines_within s.group (key_of s) (i + 1 + length done) rest))
    ∙ ap (λ (k : ℕ). (signed_line s.group (key_of s) i c ++ signed_lines s.group (key_of s) (i + 1) done) ++ lines_within s.group (key_of s) k rest) (omega arith))

one-within : (s : Setting) (i : ℕ) (c : CertBody) (rest : List CertBody) → i < index_count (key_of s) → lines_within s.group (key_of s) i (c ∷ rest) ≡ signed_line s.group (key_of s) i c ++ lines_within s.group (key_of s) (i + 1) rest
one-within s i c rest few = rw (lt-ltb i (index_count (key_of s)) few) refl

-- the lines of the first certificates were written
first-written : (was between mid now : IoState) (s : Setting) (lines : List RosterLine) (next : ℕ) (done : List CertBody) (one : CertBody) (part : IsPart (asked_in lines) done one) (first answer : Status) → IsRoster was between s lines → next + length done ≤ index_count (key_of s)
    → IsTold between mid (signed_lines s.group (key_of s) next done) → ((rest : List ℕ) → IsOwedBehind rest first) → Tells first mid now answer → TracedWhole (enrolled next) was now answer
first-written was between mid now s lines next done one part first answer read few told owing tells =
    let rest = lines_within s.group (key_of s) (next + length done) (one ∷ part.rest) in
    written was between mid now s lines next first answer (signed_lines s.group (key_of s) next done) rest read told
    (ap (λ cs. lines_within s.group (key_of s) next cs) part.are ∙ split-within s next done (one ∷ part.rest) few) (owing rest) tells

found-of : (name : List ℕ) (was between : IoState) (s : Setting) (lines : List RosterLine) (certs : List CertBody) (o : Stored) (old new : OfDisk) → IsRoster was between s lines → AreEnrolled name s o certs old new → FoundToEnroll o was old
found-of name was between s lines certs o old new read e = record { setting = s; lines = lines; between = between; read = read; seat = e.seat; found = e.found }

found-either : (name : List ℕ) (was between : IoState) (s : Setting) (lines : List RosterLine) (done more : List CertBody) (o : Stored) (old new : OfDisk) → IsRoster was between s lines → AreEnrolled name s o done old new ⊎ AreEnrolled name s o more old new → FoundToEnroll o was old
found-either name was between s lines done more o old new read (inl e) = found-of name was between s lines done o old new read e
found-either name was between s lines done more o old new read (inr e) = found-of name was between s lines more o old new read e

pub enroll-traced : (name : List ℕ) (was mid now : IoState) (old new : OfDisk) (r : Answer) (s : Status) → Enrols name was mid old new r → Tells (status_of_halt r) mid now s → TracedFound FoundToEnroll enrolled_from was now old s
enroll-traced name was mid now old new (Ok _) s h t =
    let e = h.rest in
    as_.Opened e.opened (found-of name was h.between h.setting h.lines (asked_in h.lines) e.opened old new h.read e.enrolled)
    (written was h.between mid now h.setting h.lines e.opened.next status.Ok s (lines_for e.opened.next (asked_in h.lines) h.setting) [] h.read e.told (sym (append-nil (lines_for e.opened.next (asked_in h.lines) h.setting))) refl t)
enroll-traced name was mid now old new (Err (halt.Refused line w)) s h t = as_.CutOff (λ o. traced Every for_word (enrolled_from o) was now s (record { result = Err (stop.Refused line w); between = mid; runs = h.0 (told_at_end o.next); tells = t }))
enroll-traced name was mid now old new (Err halt.ReadFault) s h t = as_.CutOff (λ o. traced Every for_word (enrolled_from o) was now s (record { result = Err stop.ReadFault; between = mid; runs = h.0 (told_at_end o.next); tells = t }))
enroll-traced name was mid now old new (Err halt.WriteFault) s h t =
    let e = h.rest in
    let cut = e.cut.wrote in
    let g = h.setting.group in
    let k = key_of h.setting in
    let line = signed_line g k (e.opened.next + length e.done) e.one in
    let before = signed_lines g k e.opened.next e.done in
    let behind = lines_within g k (e.opened.next + length e.done + 1) e.part.rest in
    let same : lines_for e.opened.next (asked_in h.lines) h.setting ≡ (before ++ take cut.count line) ++ (drop cut.count line ++ behind) =
    ap (λ cs. lines_within g k e.opened.next cs) e.part.are ∙ split-within h.setting e.opened.next e.done (e.one ∷ e.part.rest) (omega (arith, e.within))
    ∙ ap (λ (x : List ℕ). before ++ x) (one-within h.setting (e.opened.next + length e.done) e.one e.part.rest e.within ∙ ap (λ (x : List ℕ). x ++ behind) (sym (take-append-drop cut.count line)) ∙ append_assoc (take cut.count line) (drop cut.count line) behind)
    ∙ sym (append_assoc before (take cut.count line) (drop cut.count line ++ behind)) in
    as_.Opened e.opened (found-of name was h.between h.setting h.lines (e.done ++ e.one ∷ []) e.opened old new h.read e.enrolled)
    (whole-traced roster_judging roster.Start (told_at_end e.opened.next) h.lines was h.between mid now status.WriteFault s (before ++ take cut.count line) (drop cut.count line ++ behind) h.read.whole
    (Appends-trans h.between.taken e.mid.taken mid.taken before (take cut.count line) e.told.wrote cut.gained) (e.cut.left ∙ e.told.left) (told-lines was h.between h.setting h.lines e.opened.next h.read ∙ same) tt t)
enroll-traced name was mid now old new (Err halt.StoreFault) s h t =
    elim h.rest [
      | inl opening ↦ as_.Unopened (silent was h.between mid now h.setting h.lines status.StoreFault s h.read opening.0 (λ rest. tt) t)
      | inr e ↦ as_.Opened e.opened (record { setting = h.setting; lines = h.lines; between = h.between; read = h.read; seat = e.seat; found = e.found }) (first-written was h.between mid now h.setting h.lines e.opened.next e.done e.one e.part status.StoreFault s h.read (omega (arith, e.within)) e.told (λ rest. tt) t)
    ]
enroll-traced name was mid now old new (Err (halt.StoreBroken place byte)) s h t = as_.Unopened (silent was h.between mid now h.setting h.lines (status.StoreBroken place byte) s h.read h.rest.0 (λ rest. tt) t)
enroll-traced name was mid now old new (Err (halt.StoreTaken len)) s h t = absurd h.rest
enroll-traced name was mid now old new (Err (halt.Exhausted next)) s h t =
    let e = h.rest in
    as_.Opened e.opened (found-of name was h.between h.setting h.lines e.done e.opened old new h.read e.enrolled)
    (written was h.between mid now h.setting h.lines e.opened.next (status.Exhausted next) s (lines_for e.opened.next (asked_in h.lines) h.setting) [] h.read e.told (sym (append-nil (lines_for e.opened.next (asked_in h.lines) h.setting))) refl t)
enroll-traced name was mid now old new (Err halt.OutOfMemory) s h t =
    elim h [
      | inl cut ↦ as_.CutOff (λ o. traced Every for_word (enrolled_from o) was now s (record { result = Err stop.OutOfMemory; between = mid; runs = cut.0 (told_at_end o.next); tells = t }))
      | inr w ↦ elim w.rest [
        | inl opening ↦ as_.Unopened (silent was w.between mid now w.setting w.lines status.OutOfMemory s w.read opening.0 (λ rest. tt) t)
        | inr e ↦ as_.Opened e.opened (found-either name was w.between w.setting w.lines e.done (e.done ++ e.one ∷ []) e.opened old new w.read e.enrolled) (first-written was w.between mid now w.setting w.lines e.opened.next e.done e.one e.part status.OutOfMemory s w.read e.within e.told (λ rest. tt) t)
      ]
    ]

-- ## The counts

pub enroll-counts : (name : List ℕ) (was mid now : IoState) (old new : OfDisk) (r : Answer) (s : Status) → Enrols name was mid old new r → Tells (status_of_halt r) mid now s → Counts was now s
enroll-counts name was mid now old new (Ok _) s h t = done-by was mid now t.failed status.Ok t.line s tt (told-unfailed was h.between mid _ h.read.whole.unfailed h.rest.told) t.says t.reads t.writes
enroll-counts name was mid now old new (Err (halt.Refused line w)) s h t = counts-by Every for_word (enrolled 0) was mid now t.failed (Err (stop.Refused line w)) t.line s for-words (h.0 (told_at_end 0)) t.says t.reads t.writes
enroll-counts name was mid now old new (Err halt.ReadFault) s h t = counts-by Every for_word (enrolled 0) was mid now t.failed (Err stop.ReadFault) t.line s for-words (h.0 (told_at_end 0)) t.says t.reads t.writes
enroll-counts name was mid now old new (Err halt.WriteFault) s h t =
    let e = h.rest in
    let before = told-unfailed was h.between e.mid _ h.read.whole.unfailed e.told in
    cut-by was mid now t.failed t.line s (e.cut.reads ∙ before.reads) (e.cut.writes ∙ ap next_count before.writes) t.says t.reads t.writes
enroll-counts name was mid now old new (Err halt.StoreFault) s h t =
    let before : Unfailed was mid = elim h.rest [
      | inl opening ↦ still-unfailed was h.between mid h.read.whole.unfailed opening.0
      | inr e ↦ told-unfailed was h.between mid _ h.read.whole.unfailed e.told
    ] in
    done-by was mid now t.failed status.StoreFault t.line s tt before t.says t.reads t.writes
enroll-counts name was mid now old new (Err (halt.StoreBroken place byte)) s h t =
    done-by was mid now t.failed (status.StoreBroken place byte) t.line s tt (still-unfailed was h.between mid h.read.whole.unfailed h.rest.0) t.says t.reads t.writes
enroll-counts name was mid now old new (Err (halt.StoreTaken len)) s h t = absurd h.rest
enroll-counts name was mid now old new (Err (halt.Exhausted next)) s h t =
    done-by was mid now t.failed (status.Exhausted next) t.line s tt (told-unfailed was h.between mid _ h.read.whole.unfailed h.rest.told) t.says t.reads t.writes
enroll-counts name was mid now old new (Err halt.OutOfMemory) s h t =
    elim h [
      | inl cut ↦ counts-by Every for_word (enrolled 0) was mid now t.failed (Err stop.OutOfMemory) t.line s for-words (cut.0 (told_at_end 0)) t.says t.reads t.writes
      | inr w ↦
          let before : Unfailed was mid = elim w.rest [
            | inl opening ↦ still-unfailed was w.between mid w.read.whole.unfailed opening.0
            | inr e ↦ told-unfailed was w.between mid _ w.read.whole.unfailed e.told
          ] in
          done-by was mid now t.failed status.OutOfMemory t.line s tt before t.says t.reads t.writes
    ]

faults-either : (name : List ℕ) (s : Setting) (done more : List CertBody) (o : Stored) (old new : OfDisk) → AreEnrolled name s o done old new ⊎ AreEnrolled name s o more old new → new.faults ≡ old.faults
faults-either name s done more o old new (inl e) = e.faults
faults-either name s done more o old new (inr e) = e.faults

pub enroll-disk : (name : List ℕ) (was mid now : IoState) (old new : OfDisk) (r : Answer) (s : Status) → Enrols name was mid old new r → Tells (status_of_halt r) mid now s → DiskCounts old new s
enroll-disk name was mid now old new (Ok _) s h t = or-cut t.failed status.Ok t.line s t.says (DiskCounts old new) h.rest.enrolled.faults (inl h.rest.enrolled.faults)
enroll-disk name was mid now old new (Err (halt.Refused line w)) s h t = let same = ap (λ d. d.faults) h.1 in or-cut t.failed (status.BadInput line w) t.line s t.says (DiskCounts old new) same (inl same)
enroll-disk name was mid now old new (Err halt.ReadFault) s h t = let same = ap (λ d. d.faults) h.1 in or-cut t.failed status.ReadFault t.line s t.says (DiskCounts old new) same (inl same)
enroll-disk name was mid now old new (Err halt.WriteFault) s h t = or-cut t.failed status.WriteFault t.line s t.says (DiskCounts old new) (inl h.rest.enrolled.faults) (inl h.rest.enrolled.faults)
enroll-disk name was mid now old new (Err halt.StoreFault) s h t =
    let up : new.faults ≡ next_count old.faults = elim h.rest [ inl opening ↦ opening.1.faults | inr e ↦ e.faults ] in
    or-cut t.failed status.StoreFault t.line s t.says (DiskCounts old new) up (inr up)
enroll-disk name was mid now old new (Err (halt.StoreBroken place byte)) s h t = or-cut t.failed (status.StoreBroken place byte) t.line s t.says (DiskCounts old new) h.rest.1.faults (inl h.rest.1.faults)
enroll-disk name was mid now old new (Err (halt.StoreTaken len)) s h t = absurd h.rest
enroll-disk name was mid now old new (Err (halt.Exhausted next)) s h t = or-cut t.failed (status.Exhausted next) t.line s t.says (DiskCounts old new) h.rest.enrolled.faults (inl h.rest.enrolled.faults)
enroll-disk name was mid now old new (Err halt.OutOfMemory) s h t =
    let same : new.faults ≡ old.faults = elim h [
      | inl cut ↦ ap (λ d. d.faults) cut.1
      | inr w ↦ elim w.rest [ inl opening ↦ opening.1.faults | inr e ↦ faults-either name w.setting e.done (e.done ++ e.one ∷ []) e.opened old new e.enrolled ]
    ] in
    or-cut t.failed status.OutOfMemory t.line s t.says (DiskCounts old new) same (inl same)

-- ## Where it is whole

pub tag-long : (s : Setting) → length (tag_of s) ≡ 32
tag-long s = length-store_tag s.group (key_of s)

-- the roster that was read is the one that is told
record IsSame (s : Setting) (lines : List RosterLine) (setting : Setting) (asked : List RosterLine) : Type 0 where
  lines_are : lines ≡ asked
  setting_is : s ≡ setting

same-roster : (was between : IoState) (all : List ℕ) (s : Setting) (lines : List RosterLine) (setting : Setting) (asked : List RosterLine) → was.left ≡ Some all → IsRoster was between s lines → lines_from roster_judging (unread roster.Start) (seen all) ≡ Ok asked → roster_setting asked ≡ Some setting → IsSame s lines setting asked
same-roster was between all s lines setting asked left read are sets =
    let same = same-lines roster_judging roster.Start was between all lines asked left read.whole are in
    let one : Some s ≡ Some setting = sym read.setting ∙ ap roster_setting same ∙ sets in
    record { lines_are = same; setting_is = cc }

-- a store that is there is opened
abbrev pub failed : StoreError → Result StoreState StoreError
failed e = Err e

unread-opened : (tag image : List ℕ) (o : Stored) (e : StoreError) → length tag ≡ 32 → StoreOf tag image o → AnswersAs tag image (failed e) → ⊥
unread-opened tag image o e long there reads =
    let found = reads.only (Finds o there.0) (store_found tag image o there.0 long there.1) in
    let ok : failed e ≡ Ok (record { state = o; seat = there.0; failed = false }) = reads.answer ∙ ap (answer_of image) (sym found) in
    cc

image-opens : (tag image : List ℕ) (o : Stored) (e : StoreError) → length tag ≡ 32 → StoreOf tag image o → OnRead (failed e) (AnswersAs tag image (failed e)) → e ≢ store.Fault → e ≢ store.OutOfMemory → ⊥
image-opens tag image o store.Fault long there reads fault memory = fault refl
image-opens tag image o store.OutOfMemory long there reads fault memory = memory refl
image-opens tag image o (store.Taken len) long there reads fault memory = unread-opened tag image o (store.Taken len) long there reads
image-opens tag image o (store.Broken place byte) long there reads fault memory = unread-opened tag image o (store.Broken place byte) long there reads
image-opens tag image o (store.OtherKey place byte) long there reads fault memory = unread-opened tag image o (store.OtherKey place byte) long there reads

pub opens : (tag : List ℕ) (moments : List Moment) (o : Stored) (e : StoreError) → length tag ≡ 32 → OnImage moments (λ image. StoreOf tag image o) → OpensAs tag moments (failed e) → e ≢ store.Fault → e ≢ store.OutOfMemory → ⊥
opens tag [] o e long there reads fault memory = there
opens tag (m ∷ past) o e long there reads fault memory = image-opens tag m.image o e long there reads fault memory

-- the state of a store that is there is what is found
pub found-is : (tag : List ℕ) (moments : List Moment) (a o : Stored) (seat : Seat) → length tag ≡ 32 → HoldsStore tag a seat moments → OnImage moments (λ image. StoreOf tag image o) → a ≡ o
found-is tag [] a o seat long holds there = absurd there
found-is tag (m ∷ past) a o seat long holds there = one_state tag m.image a o long (seat, holds) there

-- a key that has an index for each isn't used up
not-gone : (s : Setting) (a o : Stored) (certs done : List CertBody) (one : CertBody) (next : ℕ) → a ≡ o → IsEnough s o.next certs → IsPart certs done one → next ≡ a.next + length done → index_count (key_of s) ≤ next → ⊥
not-gone s a o certs done one next same (inl enough) part next_is gone =
    let n = ap (λ (x : Stored). x.next) same in
    let l = ap length part.are ∙ length-append done (one ∷ part.rest) in
    omega (arith, n, l, enough, next_is, gone)
not-gone s a o certs done one next same (inr none) part next_is gone =
    let l = ap length part.are ∙ length-append done (one ∷ part.rest) in
    let z = ap length none in
    omega (arith, l, z)

enroll-whole : (name : List ℕ) (was mid now : IoState) (old new : OfDisk) (r : Answer) (s : Status) (all : List ℕ) (asked : List RosterLine) (setting : Setting) (o : Stored) → was.left ≡ Some all → Enrols name was mid old new r → Counts was now s
    → lines_from roster_judging (unread roster.Start) (seen all) ≡ Ok asked → roster_setting asked ≡ Some setting → OnImage old.moments (λ image. StoreOf (tag_of setting) image o) → IsEnough setting o.next (asked_in asked) → NoneFailed was now old new → s ≡ status_of_halt r → IsComplete (status_of_halt r)
enroll-whole name was mid now old new (Ok _) s all asked setting o left h counts are sets there enough fine is = inl refl
enroll-whole name was mid now old new (Err (halt.Refused line w)) s all asked setting o left h counts are sets there enough fine is =
    absurd (unrefused (enrolled 0) was mid all line w left (h.0 (told_at_end 0)) (ap (λ x. (told_of (told_at_end 0) x).cause) are))
enroll-whole name was mid now old new (Err halt.ReadFault) s all asked setting o left h counts are sets there enough fine is =
    let at : Counts was now status.ReadFault = subst (Counts was now) is counts in
    absurd (fine.reads (rose was.read_faults now.read_faults at.0))
enroll-whole name was mid now old new (Err halt.WriteFault) s all asked setting o left h counts are sets there enough fine is =
    let at : Counts was now status.WriteFault = subst (Counts was now) is counts in
    absurd (fine.writes (rose was.write_faults now.write_faults at.1))
enroll-whole name was mid now old new (Err halt.StoreFault) s all asked setting o left h counts are sets there enough fine is =
    let up : new.faults ≡ next_count old.faults = elim h.rest [ inl opening ↦ opening.1.faults | inr e ↦ e.faults ] in
    absurd (fine.disk (rose old.faults new.faults up))
enroll-whole name was mid now old new (Err (halt.StoreBroken place byte)) s all asked setting o left h counts are sets there enough fine is =
    let same = same-roster was h.between all h.setting h.lines setting asked left h.read are sets in
    let b = h.rest.1 in
    absurd (opens (tag_of setting) old.moments o b.error (tag-long setting) there (subst (λ x. OpensAs (tag_of x) old.moments (failed b.error)) same.setting_is b.reads)
    (λ e. let x : halt.StoreFault ≡ halt.StoreBroken place byte = sym (ap halt_for e) ∙ b.is in cc) (λ e. let x : halt.OutOfMemory ≡ halt.StoreBroken place byte = sym (ap halt_for e) ∙ b.is in cc))
enroll-whole name was mid now old new (Err (halt.StoreTaken len)) s all asked setting o left h counts are sets there enough fine is = absurd h.rest
enroll-whole name was mid now old new (Err (halt.Exhausted next)) s all asked setting o left h counts are sets there enough fine is =
    let same = same-roster was h.between all h.setting h.lines setting asked left h.read are sets in
    let e = h.rest in
    let found : e.opened ≡ o = found-is (tag_of setting) old.moments e.opened o e.enrolled.seat (tag-long setting) (subst (λ x. HoldsStore (tag_of x) e.opened e.enrolled.seat old.moments) same.setting_is e.enrolled.found) there in
    let part = subst (λ ls. IsPart (asked_in ls) e.done e.one) same.lines_are e.part in
    let gone = subst (λ (x : Setting). index_count (key_of x) ≤ next) same.setting_is (subst (λ (n : ℕ). index_count (key_of h.setting) ≤ n) (sym e.gone) (le-max_right e.opened.next (index_count (key_of h.setting)))) in
    absurd (not-gone setting e.opened o (asked_in asked) e.done e.one next found enough part e.next_is gone)
enroll-whole name was mid now old new (Err halt.OutOfMemory) s all asked setting o left h counts are sets there enough fine is = inr refl

enroll-told : (name : List ℕ) (left : Option (List ℕ)) (was mid now : IoState) (old new : OfDisk) (r : Answer) (s : Status) → was.left ≡ left → Enrols name was mid old new r → Tells (status_of_halt r) mid now s → Counts was now s
    → IfSome left (λ all. (lines : List RosterLine) (setting : Setting) (o : Stored) → lines_from roster_judging (unread roster.Start) (seen all) ≡ Ok lines → roster_setting lines ≡ Some setting → OnImage old.moments (λ image. StoreOf (tag_of setting) image o) → IsEnough setting o.next (asked_in lines) → NoneFailed was now old new → IsComplete s)
enroll-told name None was mid now old new r s left h t counts = tt
enroll-told name (Some all) was mid now old new r s left h t counts = λ lines setting o are sets there enough fine.
    first-answered was mid now t.failed (status_of_halt r) t.line s t.says counts fine.writes (enroll-whole name was mid now old new r s all lines setting o left h counts are sets there enough fine)

pub enroll-completes : (name : List ℕ) (was mid now : IoState) (old new : OfDisk) (r : Answer) (s : Status) → Enrols name was mid old new r → Tells (status_of_halt r) mid now s → Counts was now s → EnrollCompletes was now old new s
enroll-completes name was mid now old new r s h t counts = enroll-told name was.left was mid now old new r s refl h t counts
