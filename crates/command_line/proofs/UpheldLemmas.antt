-- What holds of each command, from how its run ended.
use Rattle.std.proofs.Common.{◌≡◌, ◌≢◌, Bool, true, false, List, ℕ, sym, ◌∙◌, ap, inl, Result, Ok, Err, Option, Some, subst}
use Rattle.std.specs.Prelude.{IfSome}
use Rattle.play.specs.Plays.{IoState}
use Rattle.play.specs.declared.stop.Stop.TheVariants as stop
use Rattle.text_trace.specs.Trace.{Every, Continuation}
use Rattle.world_replay.specs.Causes.{IsJudged}
use Rattle.command_line.specs.Replayed.{replayed}
use Rattle.verifier.specs.Answered.{verified}
use Rattle.authority.specs.declared.halt.Halt.{Halt}
use Rattle.authority.specs.declared.halt.Halt.TheVariants as halt
use Rattle.ports.specs.Outside.{OfDisk}
use Rattle.command_line.specs.Causes.{RunEnd, Says, for_cause, for_word, status_by, status_of_halt}
use Rattle.command_line.specs.Ends.{Counts, DiskCounts, DiskCountsAs, EndsBy, NetState, FaultsAs}
use Rattle.command_line.specs.EndsAs.{EndsAs}
use Rattle.command_line.specs.TracedAs.{CompletesAs, TracedAs}
use Rattle.command_line.specs.Traced.{Completes, TracedBy}
use Rattle.command_line.specs.Upheld.{Upholds}
use Rattle.command_line.proofs.BehindLemmas.{or-cut}
use Rattle.command_line.proofs.CompleteLemmas.{completes}
use Rattle.command_line.proofs.EndLemmas.{AreRefusals, IsRefusal, ends-counts, for-causes, for-words, not-usage}
use Rattle.command_line.proofs.EnrollLemmas.{enroll-completes, enroll-counts, enroll-disk, enroll-traced}
use Rattle.command_line.proofs.EnrolmentLemmas.{enroll-upheld}
use Rattle.command_line.proofs.HeadlineLemmas.{headline}
use Rattle.command_line.proofs.MigrateLemmas.{migrate-completes, migrate-counts, migrate-disk, migrate-traced}
use Rattle.command_line.proofs.MigrationLemmas.{migrate-upheld}
use Rattle.command_line.proofs.NodeLemmas.{node-command, node-counts, node-disk, node-traced}
use Rattle.command_line.proofs.JournalLemmas.{node-upholds}
use Rattle.command_line.proofs.OpenedLemmas.{node-completes}
use Rattle.command_line.proofs.SoakLemmas.{soak-command, soak-completes, soak-counts, soak-disk, soak-traced, soak-upheld}
use Rattle.command_line.proofs.StoreLemmas.{store-completes, store-counts, store-disk, store-traced, store-upheld}
use Rattle.command_line.proofs.TraceLemmas.{traced}
use Rattle.command_line.proofs.VerificationLemmas.{verification}
use Rattle.command_line.specs.declared.command.Command.{Command}
use Rattle.command_line.specs.declared.command.Command.TheVariants.{Replay, Verify, Store, Enroll, Migrate, Node, Soak}
use Rattle.command_line.specs.declared.status.Status.{Status}
use Rattle.command_line.specs.declared.status.Status.TheVariants as status

-- what holds of a run of the command
pub record AllOf (c : Command) (was now : IoState) (old new : OfDisk) (before after : NetState) (s : Status) : Type 0 where
  pub command : s ≢ status.Usage
  pub traced : TracedAs c was now old new s
  pub complete : CompletesAs c was now old new s
  pub upholds : Upholds c was now old new before after s
  pub counts : Counts was now s
  pub faults : DiskCountsAs c old new s

-- a cause of a run over a text is no fault of a disk
refused-faults : (old new : OfDisk) (first : Status) → IsRefusal first → new ≡ old → DiskCounts old new first
refused-faults old new (status.BadInput line w) is same = ap (λ d. d.faults) same
refused-faults old new (status.Forged line who body) is same = ap (λ d. d.faults) same
refused-faults old new _ is same = absurd is

text-faults : {C : Type 0} → (refusal : ℕ → C → Status) (old new : OfDisk) (r : RunEnd C) → AreRefusals refusal → new ≡ old → DiskCounts old new (status_by refusal r)
text-faults refusal old new (Ok _) are same = ap (λ d. d.faults) same
text-faults refusal old new (Err (stop.Refused line c)) are same = refused-faults old new (refusal line c) (are line c) same
text-faults refusal old new (Err stop.ReadFault) are same = ap (λ d. d.faults) same
text-faults refusal old new (Err stop.WriteFault) are same = inl (ap (λ d. d.faults) same)
text-faults refusal old new (Err stop.OutOfMemory) are same = ap (λ d. d.faults) same

text-disk : {C : Type 0} → (P : C → Type 0) (refusal : ℕ → C → Status) (owed : Continuation C) (was now : IoState) (old new : OfDisk) (s : Status) → AreRefusals refusal → EndsBy P refusal owed was now s → new ≡ old → DiskCounts old new s
text-disk P refusal owed was now old new s are e same =
    or-cut e.tells.failed (status_by refusal e.result) e.tells.line s e.tells.says (DiskCounts old new) (text-faults refusal old new e.result are same) (inl (ap (λ d. d.faults) same))

-- what holds of a run over a text
record OfText {C : Type 0} (P : C → Type 0) (refusal : ℕ → C → Status) (owed : Continuation C) (was now : IoState) (old new : OfDisk) (s : Status) : Type 0 where
  command : s ≢ status.Usage
  traced_by : TracedBy P refusal owed was now s
  complete : Completes owed was now s
  counts : Counts was now s
  faults : DiskCounts old new s

of-text : {C : Type 0} → (P : C → Type 0) (refusal : ℕ → C → Status) (owed : Continuation C) (was now : IoState) (old new : OfDisk) (s : Status) → AreRefusals refusal → EndsBy P refusal owed was now s → new ≡ old → OfText P refusal owed was now old new s
of-text P refusal owed was now old new s are e same =
    let t = traced P refusal owed was now s e in
    let n = ends-counts P refusal owed was now s are e in
    record {
      command = not-usage refusal e.tells.failed e.result e.tells.line s are e.tells.says;
      traced_by = t;
      complete = completes P refusal owed was now s n t;
      counts = n;
      faults = text-disk P refusal owed was now old new s are e same;
    }

-- how a command of an authority ends is no want of a command
halt-used : (r : Result (Unit {0}) Halt) → status_of_halt r ≢ status.Usage
halt-used (Ok _) e = cc
halt-used (Err (halt.Refused line w)) e = cc
halt-used (Err halt.ReadFault) e = cc
halt-used (Err halt.WriteFault) e = cc
halt-used (Err halt.StoreFault) e = cc
halt-used (Err (halt.StoreBroken place byte)) e = cc
halt-used (Err (halt.StoreTaken len)) e = cc
halt-used (Err (halt.Exhausted next)) e = cc
halt-used (Err halt.OutOfMemory) e = cc

halt-command : (failed : Bool) (r : Result (Unit {0}) Halt) (line : List ℕ) (s : Status) → Says failed (status_of_halt r) line s → s ≢ status.Usage
halt-command false r line s says e = halt-used r (sym says.0 ∙ e)
halt-command true r line s says e = let same : status.WriteFault ≡ status.Usage = sym says.0 ∙ e in cc

pub all-of : (c : Command) (name : List ℕ) (was now : IoState) (old new : OfDisk) (before after : NetState) (s : Status) → EndsAs c name was now old new before after s → AllOf c was now old new before after s
all-of Replay name was now old new before after s h =
    let t = of-text IsJudged for_cause replayed was now old new s for-causes h.0 h.1 in
    record { command = t.command; traced = t.traced_by; complete = t.complete; upholds = headline was now s h.0; counts = t.counts; faults = t.faults }
all-of Verify name was now old new before after s h =
    let t = of-text Every for_word verified was now old new s for-words h.0 h.1 in
    record { command = t.command; traced = t.traced_by; complete = t.complete; upholds = verification was now s h.0; counts = t.counts; faults = t.faults }
all-of Store name was now old new before after s h =
    let n = store-counts name was h.between now old new h.result s h.stands h.tells in
    record {
      command = halt-command h.tells.failed h.result h.tells.line s h.tells.says;
      traced = store-traced name was h.between now old new h.result s h.stands h.tells;
      complete = store-completes name was h.between now old new h.result s h.stands h.tells n;
      upholds = store-upheld name was h.between now old new h.result s h.stands h.tells;
      counts = n;
      faults = store-disk name was h.between now old new h.result s h.stands h.tells;
    }
all-of Enroll name was now old new before after s h =
    let n = enroll-counts name was h.between now old new h.result s h.stands h.tells in
    record {
      command = halt-command h.tells.failed h.result h.tells.line s h.tells.says;
      traced = enroll-traced name was h.between now old new h.result s h.stands h.tells;
      complete = enroll-completes name was h.between now old new h.result s h.stands h.tells n;
      upholds = enroll-upheld name was h.between now old new h.result s h.stands h.tells;
      counts = n;
      faults = enroll-disk name was h.between now old new h.result s h.stands h.tells;
    }
all-of Migrate name was now old new before after s h =
    let n = migrate-counts name was h.between now old new h.result s h.stands h.tells in
    record {
      command = halt-command h.tells.failed h.result h.tells.line s h.tells.says;
      traced = migrate-traced name was h.between now old new h.result s h.stands h.tells;
      complete = migrate-completes name was h.between now old new h.result s h.stands h.tells n;
      upholds = migrate-upheld name was h.between now old new h.result s h.stands h.tells;
      counts = n;
      faults = migrate-disk name was h.between now old new h.result s h.stands h.tells;
    }
all-of (Node stay) name was now old new before after s h =
    let n = node-counts was h.between now old new h.result s h.takes h.tells in
    record {
      command = node-command h.tells.failed h.result h.tells.line s h.tells.says;
      traced = node-traced was h.between now old new h.result s h.takes h.tells;
      complete = node-completes name was h.between now old new h.result s h.takes h.store_fault h.cause h.tells n;
      upholds = node-upholds stay was h.between now old new before after h.result s h.takes h.rests h.spends h.tells;
      counts = n;
      faults = node-disk was h.between now old new h.result s h.takes h.no_disk_fault h.store_fault h.tells;
    }
all-of (Soak seed members rounds) name was now old new before after s h = record {
  command = soak-command seed members rounds was now s h.0;
  traced = soak-traced seed members rounds was now s h.0;
  complete = soak-completes seed members rounds was now s h.0;
  upholds = soak-upheld seed members rounds was now s h.0;
  counts = soak-counts seed members rounds was now s h.0;
  faults = soak-disk seed members rounds was now old new s h.0 h.1;
}

-- ## The words

-- what holds of the command that the words name
pub on-command : (P : Command → Type 0) (named found : Option Command) (c : Command) → found ≡ named → found ≡ Some c → P c → IfSome named P
on-command P named found c same is h = subst (λ (o : Option Command). IfSome o P) (sym (sym same ∙ is)) h

pub faults-of : (named found : Option Command) (c : Command) (old new : OfDisk) (s : Status) → found ≡ named → found ≡ Some c → DiskCountsAs c old new s → FaultsAs named old new s
faults-of named found c old new s same is h = subst (λ (o : Option Command). FaultsAs o old new s) (sym (sym same ∙ is)) h
