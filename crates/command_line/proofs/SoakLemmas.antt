-- What follows from how the run of a workload ended.
use Rattle.std.proofs.Common.{◌≡◌, ◌≢◌, ℕ, Bool, true, false, List, [], Some, None, refl, sym, subst, ap, ◌∙◌, inl, inr}
use Rattle.std.specs.Io.KnownBytes.{Appends}
use Rattle.std.proofs.KnownBytes.{Appends-nil, Appends-trans}
use Rattle.play.specs.Plays.{IoState, Unfailed}
use Rattle.ports.specs.Count.{Rose}
use Rattle.ports.specs.Outside.{OfDisk}
use Rattle.world_laws.specs.Texts.{IsForgedAt}
use Rattle.world_laws.proofs.FlowWalks.{each-once}
use Rattle.world_laws.proofs.ForgedLines.{texts-hand-over}
use Rattle.world_laws.proofs.Walking.{texts-come, texts-lawful}
use Rattle.world_rules.specs.declared.cause.Cause.TheVariants as causes
use Rattle.world_rules.specs.Forgeries.{Forgery}
use Rattle.world_replay.specs.Causes.{grammar}
use Rattle.world_replay.specs.Soaking.{spelled_lines, workload_walk}
use Rattle.soak_lines.specs.Workload.{workload}
use Rattle.world_text.specs.Lines.{line_text}
use Rattle.command_line.specs.Causes.{Says}
use Rattle.command_line.specs.Ends.{Counts, DiskCounts, Tells}
use Rattle.command_line.specs.Soaking.{IsSoaked, OnForged, SoakCompletes, SoakEnds, SoakUpheld, Soaks, TracedSoak}
use Rattle.command_line.specs.Traced.{IsComplete}
use Rattle.command_line.proofs.BehindLemmas.{cut-by, done-by, or-cut}
use Rattle.command_line.proofs.CompleteLemmas.{rose}
use Rattle.command_line.specs.declared.status.Status.{Status}
use Rattle.command_line.specs.declared.status.Status.TheVariants as status

-- nothing was done
unmoved : (was now : IoState) → now ≡ was → Unfailed was now
unmoved was now same = record { reads = ap (λ (x : IoState). x.read_faults) same; writes = ap (λ (x : IoState). x.write_faults) same }

counts-from : (seed members rounds : ℕ) (was mid now : IoState) (first s : Status) → Soaks seed members rounds was mid first → Tells first mid now s → Counts was now s
counts-from seed members rounds was mid now status.Ok s h t = done-by was mid now t.failed status.Ok t.line s tt h.1.unfailed t.says t.reads t.writes
counts-from seed members rounds was mid now (status.Forged line who body) s h t = done-by was mid now t.failed (status.Forged line who body) t.line s tt (unmoved was mid h.1) t.says t.reads t.writes
counts-from seed members rounds was mid now status.WriteFault s h t = cut-by was mid now t.failed t.line s h.1.reads h.1.writes t.says t.reads t.writes
counts-from seed members rounds was mid now status.OutOfMemory s h t = done-by was mid now t.failed status.OutOfMemory t.line s tt (unmoved was mid h) t.says t.reads t.writes
counts-from seed members rounds was mid now _ s h t = absurd h

pub soak-counts : (seed members rounds : ℕ) (was now : IoState) (s : Status) → SoakEnds seed members rounds was now s → Counts was now s
soak-counts seed members rounds was now s e = counts-from seed members rounds was e.between now e.first s e.soaks e.tells

never-usage : (seed members rounds : ℕ) (was mid : IoState) (first : Status) → Soaks seed members rounds was mid first → first ≢ status.Usage
never-usage seed members rounds was mid first h is = subst (Soaks seed members rounds was mid) is h

command-from : (seed members rounds : ℕ) (was mid : IoState) (failed : Bool) (first : Status) (line : List ℕ) (s : Status) → Soaks seed members rounds was mid first → Says failed first line s → s ≢ status.Usage
command-from seed members rounds was mid false first line s h says is = never-usage seed members rounds was mid first h (sym says.0 ∙ is)
command-from seed members rounds was mid true first line s h says is = let same : status.WriteFault ≡ status.Usage = sym says.0 ∙ is in cc

pub soak-command : (seed members rounds : ℕ) (was now : IoState) (s : Status) → SoakEnds seed members rounds was now s → s ≢ status.Usage
soak-command seed members rounds was now s e = command-from seed members rounds was e.between e.tells.failed e.first e.tells.line s e.soaks e.tells.says

faults-from : (seed members rounds : ℕ) (was mid : IoState) (old new : OfDisk) (first : Status) → Soaks seed members rounds was mid first → new ≡ old → DiskCounts old new first
faults-from seed members rounds was mid old new status.Ok h same = ap (λ d. d.faults) same
faults-from seed members rounds was mid old new (status.Forged line who body) h same = ap (λ d. d.faults) same
faults-from seed members rounds was mid old new status.WriteFault h same = inl (ap (λ d. d.faults) same)
faults-from seed members rounds was mid old new status.OutOfMemory h same = ap (λ d. d.faults) same
faults-from seed members rounds was mid old new _ h same = absurd h

pub soak-disk : (seed members rounds : ℕ) (was now : IoState) (old new : OfDisk) (s : Status) → SoakEnds seed members rounds was now s → new ≡ old → DiskCounts old new s
soak-disk seed members rounds was now old new s e same =
    or-cut e.tells.failed e.first e.tells.line s e.tells.says (DiskCounts old new) (faults-from seed members rounds was e.between old new e.first e.soaks same) (inl (ap (λ d. d.faults) same))

-- what was written before the line of the cause
record Written (seed members rounds : ℕ) (was mid : IoState) (first : Status) : Type 0 where
  text : List ℕ
  left : mid.left ≡ was.left
  wrote : Appends was.taken mid.taken text
  soaked : IsSoaked seed members rounds text first

nothing-written : (was mid : IoState) → mid ≡ was → Appends was.taken mid.taken []
nothing-written was mid same = subst (λ (m : IoState). Appends was.taken m.taken []) (sym same) (Appends-nil was.taken)

written : (seed members rounds : ℕ) (was mid : IoState) (first : Status) → Soaks seed members rounds was mid first → Written seed members rounds was mid first
written seed members rounds was mid status.Ok h = record { text = _; left = h.1.left; wrote = h.1.wrote; soaked = (h.0, refl) }
written seed members rounds was mid (status.Forged line who body) h = record { text = []; left = ap (λ (x : IoState). x.left) h.1; wrote = nothing-written was mid h.1; soaked = (h.0, refl) }
written seed members rounds was mid status.WriteFault h =
    let cut = h.1.wrote in
    record { text = _; left = h.1.left; wrote = cut.gained; soaked = (h.0, record { count = cut.count; short = cut.short; same = refl }) }
written seed members rounds was mid status.OutOfMemory h = record { text = []; left = ap (λ (x : IoState). x.left) h; wrote = nothing-written was mid h; soaked = refl }
written seed members rounds was mid _ h = absurd h

pub soak-traced : (seed members rounds : ℕ) (was now : IoState) (s : Status) → SoakEnds seed members rounds was now s → TracedSoak seed members rounds was now s
soak-traced seed members rounds was now s e =
    let w = written seed members rounds was e.between e.first e.soaks in
    record {
      first = e.first;
      failed = e.tells.failed;
      text = w.text;
      line = e.tells.line;
      says = e.tells.says;
      left = e.tells.left ∙ w.left;
      wrote = Appends-trans was.taken e.between.taken now.taken w.text e.tells.line w.wrote e.tells.wrote;
      soaked = w.soaked;
    }

whole-from : (seed members rounds : ℕ) (was mid now : IoState) (first s : Status) → Soaks seed members rounds was mid first → Counts was now s → (workload_walk seed members rounds).cause ≡ None → ¬ (Rose was.write_faults now.write_faults) → s ≡ first → IsComplete first
whole-from seed members rounds was mid now status.Ok s h counts none written is = inl refl
whole-from seed members rounds was mid now (status.Forged line who body) s h counts none written is =
    absurd (let both : Some (causes.Forged who body) ≡ None = sym h.0.cause ∙ none in cc)
whole-from seed members rounds was mid now status.WriteFault s h counts none written is =
    let cut : Counts was now status.WriteFault = subst (Counts was now) is counts in
    absurd (written (rose was.write_faults now.write_faults cut.1))
whole-from seed members rounds was mid now status.OutOfMemory s h counts none written is = inr refl
whole-from seed members rounds was mid now _ s h counts none written is = absurd h

complete-from : (seed members rounds : ℕ) (was mid now : IoState) (failed : Bool) (first : Status) (line : List ℕ) (s : Status) → Soaks seed members rounds was mid first → Says failed first line s → Counts was now s → SoakCompletes seed members rounds was now s
complete-from seed members rounds was mid now false first line s h says counts none written = subst IsComplete (sym says.0) (whole-from seed members rounds was mid now first s h counts none written says.0)
complete-from seed members rounds was mid now true first line s h says counts none written =
    let cut : Counts was now status.WriteFault = subst (Counts was now) says.0 counts in
    absurd (written (rose was.write_faults now.write_faults cut.1))

pub soak-completes : (seed members rounds : ℕ) (was now : IoState) (s : Status) → SoakEnds seed members rounds was now s → SoakCompletes seed members rounds was now s
soak-completes seed members rounds was now s e =
    complete-from seed members rounds was e.between now e.tells.failed e.first e.tells.line s e.soaks e.tells.says (soak-counts seed members rounds was now s e)

forged-from : (seed members rounds : ℕ) (text : List ℕ) (first : Status) → IsSoaked seed members rounds text first → OnForged first (IsForgedAt grammar (spelled_lines (workload seed members rounds)) (workload_walk seed members rounds))
forged-from seed members rounds text (status.Forged line who body) h =
    let lines = spelled_lines (workload seed members rounds) in
    let f : Forgery = record { who = who; body = body } in
    subst (λ n. IsForgedAt grammar lines (workload_walk seed members rounds) n f) (sym h.0.line) (texts-hand-over line_text lines f h.0.cause)
forged-from seed members rounds text _ h = tt

pub soak-upheld : (seed members rounds : ℕ) (was now : IoState) (s : Status) → SoakEnds seed members rounds was now s → SoakUpheld seed members rounds was now s
soak-upheld seed members rounds was now s e =
    let t = soak-traced seed members rounds was now s e in
    record {
      trace = t;
      played = texts-come line_text (spelled_lines (workload seed members rounds));
      lawful = texts-lawful line_text (spelled_lines (workload seed members rounds));
      flowed = each-once line_text (spelled_lines (workload seed members rounds));
      forged = forged-from seed members rounds t.text t.first t.soaked;
    }
