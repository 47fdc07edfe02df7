-- A run that took its whole text, and what it then wrote.
use Rattle.std.proofs.Common.{◌≡◌, ℕ, Bool, true, false, length, Option, Some, None, List, [], ◌++◌, Ok, refl, sym, subst, ap, ◌∙◌, inl, arith}
use Rattle.std.specs.Prelude.{IfSome}
use Rattle.std.specs.Io.KnownBytes.{Appends, Consumes}
use Rattle.std.proofs.KnownBytes.{Appends-trans, Consumes-whole}
use Rattle.line_text.specs.declared.bad_word.BadWord.{BadWord}
use Rattle.ports.specs.Contents.{IsUsedUp}
use Rattle.ports.specs.Count.{counted, next_count}
use Rattle.play.specs.Plays.{IoState, StopsRun, Unfailed}
use Rattle.play.specs.declared.stop.Stop.TheVariants as stop
use Rattle.text_trace.specs.Lines.{seen, text_lines}
use Rattle.text_trace.specs.Trace.{Continuation, Every, Trace}
use Rattle.whole_text.specs.Gathered.{IsWhole, Judging, lines_from, owed_whole, told_of, unread}
use Rattle.authority.specs.Telling.{IsTold}
use Rattle.command_line.specs.Causes.{Says}
use Rattle.command_line.specs.Ends.{Counts, Is, Tells}
use Rattle.command_line.specs.TracedAs.{IsOwedBehind, TracedWhole}
use Rattle.command_line.proofs.EndLemmas.{none_shorter}
use Rattle.command_line.proofs.TraceLemmas.{at-end, refused-told, seen-whole}
use Rattle.command_line.specs.declared.status.Status.{Status}
use Rattle.command_line.specs.declared.status.Status.TheVariants as status

-- nothing failed, and nothing more was done
pub still-unfailed : (was between mid : IoState) → Unfailed was between → mid ≡ between → Unfailed was mid
still-unfailed was between mid fine same = subst (Unfailed was) (sym same) fine

-- nothing failed, and then these bytes were written
pub told-unfailed : (was between mid : IoState) (text : List ℕ) → Unfailed was between → IsTold between mid text → Unfailed was mid
told-unfailed was between mid text fine told = record { reads = told.unfailed.reads ∙ fine.reads; writes = told.unfailed.writes ∙ fine.writes }

-- the lines that were read of a whole text are those that its bytes are
pub same-lines : {F L : Type 0} (j : Judging F L) (form : F) (was between : IoState) (all : List ℕ) (read lines : List L) → was.left ≡ Some all → IsWhole j form was between read → lines_from j (unread form) (seen all) ≡ Ok lines → read ≡ lines
same-lines j form was between all read lines left whole are =
    let bytes : all ≡ whole.bytes = subst (λ o. IfSome o (λ x. x ≡ whole.bytes)) left (Consumes-whole was.left between.left whole.bytes (λ x. x ≡ whole.bytes) whole.read (at-end between.left whole.used_up) refl) in
    let both : Ok read ≡ Ok lines = sym whole.are ∙ ap (lines_from j (unread form)) (sym (ap seen bytes ∙ seen-whole whole.seen_lines whole.bytes whole.taken.whole)) ∙ are in
    cc

abbrev cause_of : Trace BadWord → Option BadWord
cause_of t = t.cause

-- a text whose trace has no cause isn't refused
pub unrefused : (owed : Continuation BadWord) (was mid : IoState) (all : List ℕ) (line : ℕ) (w : BadWord) → was.left ≡ Some all → StopsRun BadWord Every (Is owed) text_lines was mid (stop.Refused line w) → (owed (seen all)).cause ≡ None → ⊥
unrefused owed was mid all line w left stood none =
    let told = subst (λ o. IfSome o (λ bytes. owed (seen bytes) ≡ record { output = stood.text; cause = Some w })) left
    (refused-told owed stood.lines stood.bytes stood.text w stood.last was.left mid.left stood.read stood.taken.whole stood.stands stood.refuses) in
    let e : Some w ≡ None = sym (ap cause_of told) ∙ none in cc

pub whole-traced : {F L : Type 0} (j : Judging F L) (form : F) (tell : List L → List ℕ) (lines : List L) (was between mid now : IoState) (cause s : Status) (text rest : List ℕ)
    → IsWhole j form was between lines → Appends between.taken mid.taken text → mid.left ≡ between.left → tell lines ≡ text ++ rest → IsOwedBehind rest cause → Tells cause mid now s → TracedWhole (owed_whole j form tell) was now s
whole-traced j form tell lines was between mid now cause s text rest whole wrote left told owing tells =
    let same = seen-whole whole.seen_lines whole.bytes whole.taken.whole in
    let left_now : now.left ≡ between.left = tells.left ∙ left in
    record {
      cause = cause;
      failed = tells.failed;
      bytes = whole.bytes;
      text = text;
      rest = rest;
      line = tells.line;
      says = tells.says;
      read = subst (λ (o : Option (List ℕ)). Consumes was.left o whole.bytes) (sym left_now) whole.read;
      few = let n = ap length same in omega (arith, n, whole.taken.few);
      used_up = subst IsUsedUp (sym left_now) whole.used_up;
      all = Consumes-whole was.left between.left whole.bytes (λ left. left ≡ whole.bytes) whole.read (at-end between.left whole.used_up) refl;
      wrote = Appends-trans was.taken mid.taken now.taken text tells.line (Appends-trans was.taken between.taken mid.taken [] text whole.wrote wrote) tells.wrote;
      front = ap (λ ls. told_of tell (lines_from j (unread form) ls)) same ∙ ap (told_of tell) whole.are ∙ ap (λ t. record { output = t; cause = None }) told;
      owing = owing;
    }

-- the statuses that may come behind a whole text, or of a workload, but that a write failed
abbrev pub IsDone : Status → Type 0
IsDone status.Ok = Unit {0}
IsDone (status.Forged line who body) = Unit {0}
IsDone status.StoreFault = Unit {0}
IsDone (status.StoreBroken place byte) = Unit {0}
IsDone status.LinkFault = Unit {0}
IsDone (status.Exhausted next) = Unit {0}
IsDone status.OutOfMemory = Unit {0}
IsDone (status.StoreTaken len) = Unit {0}
IsDone _ = ⊥

-- the counts behind one of them
done-counts : (was mid now : IoState) (first : Status) → IsDone first → Unfailed was mid → now.read_faults ≡ mid.read_faults → now.write_faults ≡ mid.write_faults → Counts was now first
done-counts was mid now status.Ok done h r w = record { reads = r ∙ h.reads; writes = w ∙ h.writes }
done-counts was mid now status.StoreFault done h r w = record { reads = r ∙ h.reads; writes = w ∙ h.writes }
done-counts was mid now (status.StoreBroken place byte) done h r w = record { reads = r ∙ h.reads; writes = w ∙ h.writes }
done-counts was mid now (status.Exhausted next) done h r w = record { reads = r ∙ h.reads; writes = w ∙ h.writes }
done-counts was mid now status.OutOfMemory done h r w = record { reads = r ∙ h.reads; writes = w ∙ h.writes }
done-counts was mid now (status.StoreTaken len) done h r w = record { reads = r ∙ h.reads; writes = w ∙ h.writes }
done-counts was mid now status.Usage done h r w = absurd done
done-counts was mid now (status.BadInput line _) done h r w = absurd done
done-counts was mid now (status.Forged line who body) done h r w = record { reads = r ∙ h.reads; writes = w ∙ h.writes }
done-counts was mid now status.ReadFault done h r w = absurd done
done-counts was mid now status.WriteFault done h r w = absurd done
done-counts was mid now status.LinkFault done h r w = record { reads = r ∙ h.reads; writes = w ∙ h.writes }

pub done-by : (was mid now : IoState) (failed : Bool) (first : Status) (line : List ℕ) (s : Status) → IsDone first → Unfailed was mid → Says failed first line s → now.read_faults ≡ mid.read_faults → now.write_faults ≡ counted failed mid.write_faults → Counts was now s
done-by was mid now false first line s done h says r w = subst (Counts was now) (sym says.0) (done-counts was mid now first done h r w)
done-by was mid now true first line s done h says r w = subst (Counts was now) (sym says.0) (inl (r ∙ h.reads), w ∙ ap next_count h.writes)

-- where a write of the trace failed
pub cut-by : (was mid now : IoState) (failed : Bool) (line : List ℕ) (s : Status) → mid.read_faults ≡ was.read_faults → mid.write_faults ≡ next_count was.write_faults → Says failed status.WriteFault line s → now.read_faults ≡ mid.read_faults → now.write_faults ≡ counted failed mid.write_faults → Counts was now s
cut-by was mid now false line s reads writes says r w = subst (Counts was now) (sym says.0) (inl (r ∙ reads), w ∙ writes)
cut-by was mid now true line s reads writes says r w = none_shorter _ says.1.short

-- what is said of the first cause is said of the answer, unless that is that a write failed
pub or-cut : (failed : Bool) (first : Status) (line : List ℕ) (s : Status) → Says failed first line s → (P : Status → Type 0) → P first → P status.WriteFault → P s
or-cut false first line s says P known cut = subst P (sym says.0) known
or-cut true first line s says P known cut = subst P (sym says.0) cut
