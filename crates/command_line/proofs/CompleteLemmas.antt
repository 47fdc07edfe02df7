-- A text that no line refuses is run to its end, where neither side failed and memory is not refused.
use Rattle.std.proofs.Common.{◌≡◌, ℕ, Bool, true, false, Option, Some, None, Ok, Err, List, refl, sym, subst, ap, ◌∙◌, inl, inr, arith}
use Rattle.std.specs.Prelude.{IfSome}
use Rattle.ports.specs.Count.{Rose, next_count}
use Rattle.play.specs.Plays.{IoState}
use Rattle.play.specs.declared.stop.Stop.TheVariants as stop
use Rattle.text_trace.specs.Lines.{seen}
use Rattle.text_trace.specs.Trace.{Continuation, Trace}
use Rattle.command_line.specs.Causes.{RunEnd, Says, status_by}
use Rattle.command_line.specs.Ends.{Counts}
use Rattle.command_line.specs.Traced.{Completes, IsComplete, IsTrace, TracedBy}
use Rattle.command_line.specs.declared.status.Status.{Status}
use Rattle.command_line.specs.declared.status.Status.TheVariants as status

pub rose : (old new : ℕ) → new ≡ next_count old → Rose old new
rose old new is = omega (arith, is)

complete-first : {C : Type 0} → (refusal : ℕ → C → Status) (owed : Continuation C) (all : List ℕ) (was now : IoState) (text : List ℕ) (r : RunEnd C) → Counts was now (status_by refusal r) → IsTrace owed (Some all) text r
    → (owed (seen all)).cause ≡ None → ¬ (Rose was.read_faults now.read_faults) → ¬ (Rose was.write_faults now.write_faults) → IsComplete (status_by refusal r)
complete-first refusal owed all was now text (Ok _) counts exact none read written = inl refl
complete-first {C} refusal owed all was now text (Err (stop.Refused line c)) counts exact none read written =
    absurd (let both : Some c ≡ None = sym (ap (λ (t : Trace C). t.cause) exact) ∙ none in cc)
complete-first refusal owed all was now text (Err stop.ReadFault) counts exact none read written = absurd (read (rose was.read_faults now.read_faults counts.0))
complete-first refusal owed all was now text (Err stop.WriteFault) counts exact none read written = absurd (written (rose was.write_faults now.write_faults counts.1))
complete-first refusal owed all was now text (Err stop.OutOfMemory) counts exact none read written = inr refl

-- a write that failed can't have been
complete-at : {C : Type 0} → (refusal : ℕ → C → Status) (owed : Continuation C) (left : Option (List ℕ)) (was now : IoState) (text line : List ℕ) (failed : Bool) (r : RunEnd C) (s : Status) → Says failed (status_by refusal r) line s → Counts was now s → IsTrace owed left text r
    → IfSome left (λ all. (owed (seen all)).cause ≡ None → ¬ (Rose was.read_faults now.read_faults) → ¬ (Rose was.write_faults now.write_faults) → IsComplete s)
complete-at refusal owed None was now text line failed r s says counts exact = tt
complete-at refusal owed (Some all) was now text line false r s says counts exact = λ none read written.
    subst IsComplete (sym says.0) (complete-first refusal owed all was now text r (subst (Counts was now) says.0 counts) exact none read written)
complete-at refusal owed (Some all) was now text line true r s says counts exact = λ none read written.
    let cut : Counts was now status.WriteFault = subst (Counts was now) says.0 counts in
    absurd (written (rose was.write_faults now.write_faults cut.1))

pub completes : {C : Type 0} → (P : C → Type 0) (refusal : ℕ → C → Status) (owed : Continuation C) (was now : IoState) (s : Status) → Counts was now s → TracedBy P refusal owed was now s → Completes owed was now s
completes P refusal owed was now s counts t = complete-at refusal owed was.left was now t.text t.line t.failed t.result s t.says counts t.exact
