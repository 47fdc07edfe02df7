-- What follows from how the run of a member ended.
use Rattle.std.proofs.Common.{◌≡◌, ◌≢◌, ℕ, Bool, true, false, length, Option, Some, None, List, [], ◌∷◌, ◌++◌, Result, Ok, Err, refl, sym, subst, ap, ◌∙◌, inl, inr, arith}
use Rattle.std.specs.Prelude.{IfErr, OnOk}
use Rattle.std.specs.Io.KnownBytes.{Appends, Consumes}
use Rattle.std.proofs.KnownBytes.{Appends-trans, Consumes-whole}
use Rattle.line_text.specs.declared.bad_word.BadWord.{BadWord}
use Rattle.ports.specs.Contents.{IsUsedUp}
use Rattle.ports.specs.Count.{Rose, next_count}
use Rattle.play.specs.Plays as plays
use Rattle.play.specs.Plays.{IoState, Unfailed}
use Rattle.play.specs.declared.stop.Stop.TheVariants as stop
use Rattle.schedule_texts.specs.declared.kit.KitText.TheVariants as kit
use Rattle.schedule_texts.specs.declared.kit_line.KitLine.{KitLine}
use Rattle.text_trace.specs.Lines.{seen, text_lines}
use Rattle.text_trace.specs.Trace.{Every, Continuation}
use Rattle.whole_text.specs.Gathered.{IsWhole, lines_from, nothing, owed_whole, told_of, unread}
use Rattle.ports.specs.Outside.{OfDisk}
use Rattle.node_command.specs.declared.halt.NodeHalt.{NodeHalt}
use Rattle.node_command.specs.declared.halt.NodeHalt.TheVariants as halt
use Rattle.node_command.specs.declared.stay.Stay.{Stay}
use Rattle.node_command.specs.Members.{kit_judging}
use Rattle.node_command.specs.Running.{IsCaused, Takes, TookAlone, TookWhole}
use Rattle.node_command.specs.Spendings.{Spends}
use Rattle.command_line.specs.Causes.{RunEnd, Says, cause_line, for_word, status_of, status_of_node}
use Rattle.command_line.specs.Ends.{Counts, Is, NodeCounts, NodeEnds, RestsFed, RunsFed, Tells, NetState}
use Rattle.command_line.specs.Serving.{IsBehindText, IsNodeDone, IsUntouched, NodeTraced, NodeTraced.CutOff, NodeTraced.Whole, NodeUpheld, OnUnrefused, TakenWhole}
use Rattle.command_line.specs.Traced.{Traced}
use Rattle.command_line.specs.TracedAs.{NodeEndsWell, NoneFailed}
use Rattle.command_line.proofs.BehindLemmas.{cut-by, done-by, or-cut, unrefused}
use Rattle.command_line.proofs.CompleteLemmas.{rose}
use Rattle.command_line.proofs.EndLemmas.{counts-by, for-words}
use Rattle.command_line.proofs.TraceLemmas.{at-end, seen-whole, traced}
use Rattle.command_line.specs.declared.status.Status.{Status}
use Rattle.command_line.specs.declared.status.Status.TheVariants as status

abbrev Answer : Type 0
Answer = Result (Unit {0}) NodeHalt

-- what is owed to a member's text, where this is told of its lines
abbrev told_by : (List KitLine → List ℕ) → Continuation BadWord
told_by tell = owed_whole kit_judging kit.Start tell

pub node-ends : (name : List ℕ) (stay : Stay) (was mid now : IoState) (old new : OfDisk) (before after : NetState) (r : Answer) (first s : Status) → Takes was mid old new r → IsCaused name was old new r → OnOk r (new.faults ≡ old.faults)
    → IfErr r (λ h. h ≡ halt.StoreFault → Rose old.faults new.faults) → IfErr r (λ h. h ≡ halt.LinkFault → after.faults ≡ next_count before.faults) → RunsFed stay was mid old new before after r
    → RestsFed stay was mid old before r → Spends was mid old new before.faults after.faults r → first ≡ status_of_node r → Tells first mid now s → NodeEnds name stay was now old new before after s
node-ends name stay was mid now old new before after r first s takes cause no_disk_fault store link runs rests spends is tells =
    record { result = r; between = mid; takes = takes; cause = cause; no_disk_fault = no_disk_fault; store_fault = store; link_fault = link; runs = runs; rests = rests; spends = spends; tells = subst (λ f. Tells f mid now s) is tells }

-- ## What was taken

-- where the text was cut off
cut-off : (was mid now : IoState) (r : RunEnd BadWord) (s : Status) → ((tell : List KitLine → List ℕ) → plays.Runs BadWord Every (Is (told_by tell)) text_lines was mid r) → Tells (status_of r) mid now s → NodeTraced was now s
cut-off was mid now r s stood tells = CutOff (λ tell. traced Every for_word (told_by tell) was now s (record { result = r; between = mid; runs = stood tell; tells = tells }))

whole-taken : (lines : List KitLine) (was between mid now : IoState) (cause s : Status) → IsWhole kit_judging kit.Start was between lines → mid.left ≡ between.left → IsBehindText cause → Tells cause mid now s → TakenWhole was now s
whole-taken lines was between mid now cause s whole left behind tells =
    let same = seen-whole whole.seen_lines whole.bytes whole.taken.whole in
    let left_now : now.left ≡ between.left = tells.left ∙ left in
    record {
      cause = cause;
      failed = tells.failed;
      bytes = whole.bytes;
      lines = lines;
      line = tells.line;
      says = tells.says;
      behind = behind;
      read = subst (λ (o : Option (List ℕ)). Consumes was.left o whole.bytes) (sym left_now) whole.read;
      few = let n = ap length same in omega (arith, n, whole.taken.few);
      used_up = subst IsUsedUp (sym left_now) whole.used_up;
      all = Consumes-whole was.left between.left whole.bytes (λ left. left ≡ whole.bytes) whole.read (at-end between.left whole.used_up) refl;
      are = ap (λ ls. lines_from kit_judging (unread kit.Start) ls) same ∙ whole.are;
    }

took-traced : (was mid now : IoState) (failed : Bool) (cause s : Status) → TookWhole was mid failed → IsBehindText cause → Tells cause mid now s → NodeTraced was now s
took-traced was mid now failed cause s t behind tells = Whole (whole-taken t.lines was t.between mid now cause s t.whole t.left behind tells)

pub node-traced : (was mid now : IoState) (old new : OfDisk) (r : Answer) (s : Status) → Takes was mid old new r → Tells (status_of_node r) mid now s → NodeTraced was now s
node-traced was mid now old new (Ok _) s h t = took-traced was mid now false status.Ok s h tt t
node-traced was mid now old new (Err (halt.Refused line w)) s h t = cut-off was mid now (Err (stop.Refused line w)) s h.0 t
node-traced was mid now old new (Err halt.ReadFault) s h t = cut-off was mid now (Err stop.ReadFault) s h.0 t
node-traced was mid now old new (Err halt.WriteFault) s h t = took-traced was mid now true status.WriteFault s h tt t
node-traced was mid now old new (Err halt.StoreFault) s h t = took-traced was mid now false status.StoreFault s h tt t
node-traced was mid now old new (Err (halt.StoreBroken place byte)) s h t = took-traced was mid now false (status.StoreBroken place byte) s h tt t
node-traced was mid now old new (Err halt.LinkFault) s h t = Whole (whole-taken h.0.lines was mid mid now status.LinkFault s h.0.whole refl tt t)
node-traced was mid now old new (Err (halt.Exhausted next)) s h t = took-traced was mid now false (status.Exhausted next) s h tt t
node-traced was mid now old new (Err halt.OutOfMemory) s h t =
    elim h [
      | inl unread ↦ cut-off was mid now (Err stop.OutOfMemory) s unread.0 t
      | inr whole ↦ took-traced was mid now false status.OutOfMemory s whole tt t
    ]

-- ## The counts

took-unfailed : (was mid : IoState) → TookWhole was mid false → Unfailed was mid
took-unfailed was mid t = record { reads = t.reads ∙ t.whole.unfailed.reads; writes = t.writes ∙ t.whole.unfailed.writes }

-- the text was cut off
cut-counts : (was mid now : IoState) (r : RunEnd BadWord) (s : Status) → plays.Runs BadWord Every (Is (told_by nothing)) text_lines was mid r → Tells (status_of r) mid now s → Counts was now s
cut-counts was mid now r s stood t = counts-by Every for_word (told_by nothing) was mid now t.failed r t.line s for-words stood t.says t.reads t.writes

pub node-counts : (was mid now : IoState) (old new : OfDisk) (r : Answer) (s : Status) → Takes was mid old new r → Tells (status_of_node r) mid now s → Counts was now s
node-counts was mid now old new (Ok _) s h t = done-by was mid now t.failed status.Ok t.line s tt (took-unfailed was mid h) t.says t.reads t.writes
node-counts was mid now old new (Err (halt.Refused line w)) s h t = cut-counts was mid now (Err (stop.Refused line w)) s (h.0 nothing) t
node-counts was mid now old new (Err halt.ReadFault) s h t = cut-counts was mid now (Err stop.ReadFault) s (h.0 nothing) t
node-counts was mid now old new (Err halt.WriteFault) s h t =
    cut-by was mid now t.failed t.line s (h.reads ∙ h.whole.unfailed.reads) (h.writes ∙ ap next_count h.whole.unfailed.writes) t.says t.reads t.writes
node-counts was mid now old new (Err halt.StoreFault) s h t = done-by was mid now t.failed status.StoreFault t.line s tt (took-unfailed was mid h) t.says t.reads t.writes
node-counts was mid now old new (Err (halt.StoreBroken place byte)) s h t = done-by was mid now t.failed (status.StoreBroken place byte) t.line s tt (took-unfailed was mid h) t.says t.reads t.writes
node-counts was mid now old new (Err halt.LinkFault) s h t = done-by was mid now t.failed status.LinkFault t.line s tt h.0.whole.unfailed t.says t.reads t.writes
node-counts was mid now old new (Err (halt.Exhausted next)) s h t = done-by was mid now t.failed (status.Exhausted next) t.line s tt (took-unfailed was mid h) t.says t.reads t.writes
node-counts was mid now old new (Err halt.OutOfMemory) s h t =
    elim h [
      | inl unread ↦ cut-counts was mid now (Err stop.OutOfMemory) s (unread.0 nothing) t
      | inr whole ↦ done-by was mid now t.failed status.OutOfMemory t.line s tt (took-unfailed was mid whole) t.says t.reads t.writes
    ]

same-faults : (old new : OfDisk) → new ≡ old → new.faults ≡ old.faults
same-faults old new same = ap (λ (d : OfDisk). d.faults) same

same-moments : (old new : OfDisk) → new ≡ old → new.moments ≡ old.moments
same-moments old new same = ap (λ (d : OfDisk). d.moments) same

pub node-disk : (was mid now : IoState) (old new : OfDisk) (r : Answer) (s : Status) → Takes was mid old new r → OnOk r (new.faults ≡ old.faults)
    → IfErr r (λ h. h ≡ halt.StoreFault → Rose old.faults new.faults) → Tells (status_of_node r) mid now s → NodeCounts old new s
node-disk was mid now old new (Ok _) s h no_disk_fault store t = or-cut t.failed status.Ok t.line s t.says (NodeCounts old new) no_disk_fault tt
node-disk was mid now old new (Err (halt.Refused line w)) s h no_disk_fault store t = or-cut t.failed (status.BadInput line w) t.line s t.says (NodeCounts old new) (same-faults old new h.1) tt
node-disk was mid now old new (Err halt.ReadFault) s h no_disk_fault store t = or-cut t.failed status.ReadFault t.line s t.says (NodeCounts old new) (same-faults old new h.1) tt
node-disk was mid now old new (Err halt.WriteFault) s h no_disk_fault store t = or-cut t.failed status.WriteFault t.line s t.says (NodeCounts old new) tt tt
node-disk was mid now old new (Err halt.StoreFault) s h no_disk_fault store t = or-cut t.failed status.StoreFault t.line s t.says (NodeCounts old new) (store refl) tt
node-disk was mid now old new (Err (halt.StoreBroken place byte)) s h no_disk_fault store t = or-cut t.failed (status.StoreBroken place byte) t.line s t.says (NodeCounts old new) tt tt
node-disk was mid now old new (Err halt.LinkFault) s h no_disk_fault store t = or-cut t.failed status.LinkFault t.line s t.says (NodeCounts old new) (same-faults old new h.1) tt
node-disk was mid now old new (Err (halt.Exhausted next)) s h no_disk_fault store t = or-cut t.failed (status.Exhausted next) t.line s t.says (NodeCounts old new) tt tt
node-disk was mid now old new (Err halt.OutOfMemory) s h no_disk_fault store t = or-cut t.failed status.OutOfMemory t.line s t.says (NodeCounts old new) tt tt

-- ## Where nothing was written

told-nothing : (r : Result (List KitLine) BadWord) → (told_of nothing r).output ≡ []
told-nothing (Ok lines) = refl
told-nothing (Err w) = refl

front-empty : (text rest : List ℕ) → [] ≡ text ++ rest → text ≡ []
front-empty [] rest e = refl
front-empty (x ∷ text) rest e = absurd (let n = ap length e in omega (arith, n))

-- what was written of a text that was cut off is the line of the answer, where that is the first cause
wrote-line : (was now : IoState) (s : Status) → Traced (told_by nothing) was now s → s ≢ status.WriteFault → Appends was.taken now.taken (cause_line s)
wrote-line was now s t other = by t.failed t.says
  where
    wrote : Appends was.taken now.taken t.line
    wrote = subst (λ x. Appends was.taken now.taken (x ++ t.line)) (front-empty t.text t.rest (sym (told-nothing (lines_from kit_judging (unread kit.Start) (seen t.bytes))) ∙ t.front)) t.wrote

    by : (failed : Bool) → Says failed (status_of t.result) t.line s → Appends was.taken now.taken (cause_line s)
    by false says = subst (λ x. Appends was.taken now.taken x) (says.1 ∙ ap cause_line (sym says.0)) wrote
    by true says = absurd (other says.0)

untouched-cut : (was mid now : IoState) (old new : OfDisk) (r : RunEnd BadWord) (s : Status) → plays.Runs BadWord Every (Is (told_by nothing)) text_lines was mid r → new ≡ old → Tells (status_of r) mid now s → s ≢ status.WriteFault → IsUntouched s was now old new
untouched-cut was mid now old new r s stood same tells other = record {
  wrote = wrote-line was now s (traced Every for_word (told_by nothing) was now s (record { result = r; between = mid; runs = stood; tells = tells })) other;
  faults = same-faults old new same;
  moments = same-moments old new same;
}

-- what was written where the port could not be bound
untouched-alone : (was mid now : IoState) (old new : OfDisk) → TookAlone was mid → new ≡ old → Appends mid.taken now.taken (cause_line status.LinkFault) → IsUntouched status.LinkFault was now old new
untouched-alone was mid now old new alone same wrote = record {
  wrote = Appends-trans was.taken mid.taken now.taken [] (cause_line status.LinkFault) alone.whole.wrote wrote;
  faults = same-faults old new same;
  moments = same-moments old new same;
}

refused-other : (line : ℕ) (w : BadWord) → status.BadInput line w ≢ status.WriteFault
refused-other line w e = cc

read-other : status.ReadFault ≢ status.WriteFault
read-other e = cc

pub node-upheld : (was mid now : IoState) (old new : OfDisk) (r : Answer) (s : Status) → Takes was mid old new r → Tells (status_of_node r) mid now s → NodeUpheld was now old new s
node-upheld was mid now old new (Ok _) s h t = or-cut t.failed status.Ok t.line s t.says (NodeUpheld was now old new) tt tt
node-upheld was mid now old new (Err (halt.Refused line w)) s h t = by t.failed t.says
  where
    by : (failed : Bool) → Says failed (status.BadInput line w) t.line s → NodeUpheld was now old new s
    by false says = subst (NodeUpheld was now old new) (sym says.0) (untouched-cut was mid now old new (Err (stop.Refused line w)) (status.BadInput line w) (h.0 nothing) h.1 (subst (λ x. Tells (status.BadInput line w) mid now x) says.0 t) (refused-other line w))
    by true says = subst (NodeUpheld was now old new) (sym says.0) tt
node-upheld was mid now old new (Err halt.ReadFault) s h t = by t.failed t.says
  where
    by : (failed : Bool) → Says failed status.ReadFault t.line s → NodeUpheld was now old new s
    by false says = subst (NodeUpheld was now old new) (sym says.0) (untouched-cut was mid now old new (Err stop.ReadFault) status.ReadFault (h.0 nothing) h.1 (subst (λ x. Tells status.ReadFault mid now x) says.0 t) read-other)
    by true says = subst (NodeUpheld was now old new) (sym says.0) tt
node-upheld was mid now old new (Err halt.WriteFault) s h t = or-cut t.failed status.WriteFault t.line s t.says (NodeUpheld was now old new) tt tt
node-upheld was mid now old new (Err halt.StoreFault) s h t = or-cut t.failed status.StoreFault t.line s t.says (NodeUpheld was now old new) tt tt
node-upheld was mid now old new (Err (halt.StoreBroken place byte)) s h t = or-cut t.failed (status.StoreBroken place byte) t.line s t.says (NodeUpheld was now old new) tt tt
node-upheld was mid now old new (Err halt.LinkFault) s h t = by t.failed t.says
  where
    by : (failed : Bool) → Says failed status.LinkFault t.line s → NodeUpheld was now old new s
    by false says = subst (NodeUpheld was now old new) (sym says.0) (untouched-alone was mid now old new h.0 h.1 (subst (λ x. Appends mid.taken now.taken x) says.1 t.wrote))
    by true says = subst (NodeUpheld was now old new) (sym says.0) tt
node-upheld was mid now old new (Err (halt.Exhausted next)) s h t = or-cut t.failed (status.Exhausted next) t.line s t.says (NodeUpheld was now old new) tt tt
node-upheld was mid now old new (Err halt.OutOfMemory) s h t = or-cut t.failed status.OutOfMemory t.line s t.says (NodeUpheld was now old new) tt tt

-- ## Where it is whole

pub node-whole : (was mid now : IoState) (old new : OfDisk) (r : Answer) (s : Status) (all : List ℕ) → was.left ≡ Some all → Takes was mid old new r → IfErr r (λ h. h ≡ halt.StoreFault → Rose old.faults new.faults) → Counts was now s
    → (told_by nothing (seen all)).cause ≡ None → NoneFailed was now old new → s ≡ status_of_node r → IsNodeDone (status_of_node r)
node-whole was mid now old new (Ok _) s all left h store counts none fine is = tt
node-whole was mid now old new (Err (halt.Refused line w)) s all left h store counts none fine is =
    absurd (unrefused (told_by nothing) was mid all line w left (h.0 nothing) none)
node-whole was mid now old new (Err halt.ReadFault) s all left h store counts none fine is =
    let at : Counts was now status.ReadFault = subst (Counts was now) is counts in
    absurd (fine.reads (rose was.read_faults now.read_faults at.0))
node-whole was mid now old new (Err halt.WriteFault) s all left h store counts none fine is =
    let at : Counts was now status.WriteFault = subst (Counts was now) is counts in
    absurd (fine.writes (rose was.write_faults now.write_faults at.1))
node-whole was mid now old new (Err halt.StoreFault) s all left h store counts none fine is = absurd (fine.disk (store refl))
node-whole was mid now old new (Err (halt.StoreBroken place byte)) s all left h store counts none fine is = tt
node-whole was mid now old new (Err halt.LinkFault) s all left h store counts none fine is = tt
node-whole was mid now old new (Err (halt.Exhausted next)) s all left h store counts none fine is = tt
node-whole was mid now old new (Err halt.OutOfMemory) s all left h store counts none fine is = tt

-- no write failed, so that the answer is the first cause
node-answered : (was now : IoState) (failed : Bool) (first : Status) (line : List ℕ) (s : Status) → Says failed first line s → Counts was now s → ¬ (Rose was.write_faults now.write_faults) → (s ≡ first → IsNodeDone first) → IsNodeDone s
node-answered was now false first line s says counts written done = subst IsNodeDone (sym says.0) (done says.0)
node-answered was now true first line s says counts written done =
    let cut : Counts was now status.WriteFault = subst (Counts was now) says.0 counts in
    absurd (written (rose was.write_faults now.write_faults cut.1))

node-told : (left : Option (List ℕ)) (was mid now : IoState) (old new : OfDisk) (r : Answer) (s : Status) → was.left ≡ left → Takes was mid old new r → IfErr r (λ h. h ≡ halt.StoreFault → Rose old.faults new.faults)
    → Tells (status_of_node r) mid now s → Counts was now s → OnUnrefused left (NoneFailed was now old new → IsNodeDone s)
node-told None was mid now old new r s left h store t counts = tt
node-told (Some all) was mid now old new r s left h store t counts = λ none fine.
    node-answered was now t.failed (status_of_node r) t.line s t.says counts fine.writes (node-whole was mid now old new r s all left h store counts none fine)

pub node-unrefused : (was mid now : IoState) (old new : OfDisk) (r : Answer) (s : Status) → Takes was mid old new r → IfErr r (λ h. h ≡ halt.StoreFault → Rose old.faults new.faults) → Tells (status_of_node r) mid now s → Counts was now s → NodeEndsWell was now old new s
node-unrefused was mid now old new r s h store t counts = node-told was.left was mid now old new r s refl h store t counts

-- ## The command

node-used : (r : Answer) → status_of_node r ≢ status.Usage
node-used (Ok _) e = cc
node-used (Err (halt.Refused line w)) e = cc
node-used (Err halt.ReadFault) e = cc
node-used (Err halt.WriteFault) e = cc
node-used (Err halt.StoreFault) e = cc
node-used (Err (halt.StoreBroken place byte)) e = cc
node-used (Err halt.LinkFault) e = cc
node-used (Err (halt.Exhausted next)) e = cc
node-used (Err halt.OutOfMemory) e = cc

pub node-command : (failed : Bool) (r : Answer) (line : List ℕ) (s : Status) → Says failed (status_of_node r) line s → s ≢ status.Usage
node-command false r line s says e = node-used r (sym says.0 ∙ e)
node-command true r line s says e = let same : status.WriteFault ≡ status.Usage = sym says.0 ∙ e in cc
