-- What a run leaves, from what it left before the line of its cause.
use Rattle.std.proofs.Common.{◌≡◌, ◌≢◌, ◌<◌, ℕ, Bool, true, false, List, Result, Ok, Err, sym, subst, ◌∙◌, ap, inl, inr, arith}
use Rattle.ports.specs.Count.{counted, next_count}
use Rattle.play.specs.Plays.{IoState, Runs, Unfailed}
use Rattle.play.specs.declared.stop.Stop.TheVariants as stop
use Rattle.text_trace.specs.Lines.{text_lines}
use Rattle.text_trace.specs.Trace.{Continuation}
use Rattle.authority.specs.declared.halt.Halt.{Halt}
use Rattle.world_rules.specs.declared.cause.Cause.TheVariants as causes
use Rattle.command_line.specs.Causes.{IsFront, RunEnd, Says, cause_line, for_cause, for_word, status_by, status_of_halt}
use Rattle.command_line.specs.Ends.{Counts, EndsBy, HaltEnds, Is, Tells}
use Rattle.command_line.specs.declared.status.Status.{Status}
use Rattle.command_line.specs.declared.status.Status.TheVariants as status

-- the status of a line that a text refuses
abbrev pub IsRefusal : Status → Type 0
IsRefusal (status.BadInput line word) = Unit {0}
IsRefusal (status.Forged line who body) = Unit {0}
IsRefusal _ = ⊥

abbrev pub AreRefusals : {C : Type 0} → (ℕ → C → Status) → Type 0
AreRefusals {C} refusal = (line : ℕ) (c : C) → IsRefusal (refusal line c)

pub for-words : AreRefusals for_word
for-words line word = tt

pub for-causes : AreRefusals for_cause
for-causes line (causes.Bad word) = tt
for-causes line (causes.Forged who body) = tt

unfailed : (was between now : IoState) → Unfailed was between → now.read_faults ≡ between.read_faults → now.write_faults ≡ between.write_faults → Unfailed was now
unfailed was between now first reads writes = record { reads = reads ∙ first.reads; writes = writes ∙ first.writes }

refused-counts : (was now : IoState) (first : Status) → IsRefusal first → Unfailed was now → Counts was now first
refused-counts was now (status.BadInput line word) is h = h
refused-counts was now (status.Forged line who body) is h = h
refused-counts was now _ is h = absurd is

told : {C : Type 0} → (P : C → Type 0) (refusal : ℕ → C → Status) (owed : Continuation C) (was between now : IoState) (r : RunEnd C) → AreRefusals refusal → Runs C P (Is owed) text_lines was between r → now.read_faults ≡ between.read_faults → now.write_faults ≡ between.write_faults → Counts was now (status_by refusal r)
told P refusal owed was between now (Ok _) are stood reads writes = unfailed was between now stood.unfailed reads writes
told P refusal owed was between now (Err (stop.Refused line c)) are stood reads writes = refused-counts was now (refusal line c) (are line c) (unfailed was between now stood.unfailed reads writes)
told P refusal owed was between now (Err stop.ReadFault) are stood reads writes = (reads ∙ stood.failed, writes ∙ stood.kept)
told P refusal owed was between now (Err stop.WriteFault) are stood reads writes = (inl (reads ∙ stood.kept), writes ∙ stood.failed)
told P refusal owed was between now (Err stop.OutOfMemory) are stood reads writes =
    elim stood [
      | inl same ↦ record { reads = reads ∙ ap (λ (x : IoState). x.read_faults) same; writes = writes ∙ ap (λ (x : IoState). x.write_faults) same }
      | inr starved ↦ unfailed was between now starved.unfailed reads writes
    ]

pub none_shorter : {A : Type 0} (n : ℕ) → n < 0 → A
none_shorter n h = absurd (omega arith)

cut : {C : Type 0} → (P : C → Type 0) (refusal : ℕ → C → Status) (owed : Continuation C) (was between now : IoState) (r : RunEnd C) (line : List ℕ) → Runs C P (Is owed) text_lines was between r → IsFront line (cause_line (status_by refusal r)) → now.read_faults ≡ between.read_faults → now.write_faults ≡ next_count between.write_faults → Counts was now status.WriteFault
cut P refusal owed was between now (Ok _) line stood front reads writes = none_shorter _ front.short
cut P refusal owed was between now (Err (stop.Refused number c)) line stood front reads writes = (inl (reads ∙ stood.unfailed.reads), writes ∙ ap next_count stood.unfailed.writes)
cut P refusal owed was between now (Err stop.ReadFault) line stood front reads writes = (inr (reads ∙ stood.failed), writes ∙ ap next_count stood.kept)
cut P refusal owed was between now (Err stop.WriteFault) line stood front reads writes = none_shorter _ front.short
cut P refusal owed was between now (Err stop.OutOfMemory) line stood front reads writes = none_shorter _ front.short

pub counts-by : {C : Type 0} → (P : C → Type 0) (refusal : ℕ → C → Status) (owed : Continuation C) (was between now : IoState) (failed : Bool) (r : RunEnd C) (line : List ℕ) (s : Status) → AreRefusals refusal → Runs C P (Is owed) text_lines was between r → Says failed (status_by refusal r) line s
    → now.read_faults ≡ between.read_faults → now.write_faults ≡ counted failed between.write_faults → Counts was now s
counts-by P refusal owed was between now false r line s are stood says reads writes = subst (Counts was now) (sym says.0) (told P refusal owed was between now r are stood reads writes)
counts-by P refusal owed was between now true r line s are stood says reads writes = subst (Counts was now) (sym says.0) (cut P refusal owed was between now r line stood says.1 reads writes)

refused-used : (first : Status) → IsRefusal first → first ≢ status.Usage
refused-used first is usage = subst IsRefusal usage is

used : {C : Type 0} → (refusal : ℕ → C → Status) (r : RunEnd C) → AreRefusals refusal → status_by refusal r ≢ status.Usage
used refusal (Ok _) are usage = cc
used refusal (Err (stop.Refused line c)) are usage = refused-used (refusal line c) (are line c) usage
used refusal (Err stop.ReadFault) are usage = cc
used refusal (Err stop.WriteFault) are usage = cc
used refusal (Err stop.OutOfMemory) are usage = cc

pub not-usage : {C : Type 0} → (refusal : ℕ → C → Status) (failed : Bool) (r : RunEnd C) (line : List ℕ) (s : Status) → AreRefusals refusal → Says failed (status_by refusal r) line s → s ≢ status.Usage
not-usage refusal false r line s are says usage = used refusal r are (sym says.0 ∙ usage)
not-usage refusal true r line s are says usage = let same : status.WriteFault ≡ status.Usage = sym says.0 ∙ usage in cc

pub ends-counts : {C : Type 0} → (P : C → Type 0) (refusal : ℕ → C → Status) (owed : Continuation C) (was now : IoState) (s : Status) → AreRefusals refusal → EndsBy P refusal owed was now s → Counts was now s
ends-counts P refusal owed was now s are e = counts-by P refusal owed was e.between now e.tells.failed e.result e.tells.line s are e.runs e.tells.says e.tells.reads e.tells.writes

-- a run over a text that ended so, and whose line of the cause was then written or cut
pub concluded : {C : Type 0} → (P : C → Type 0) (refusal : ℕ → C → Status) (owed : Continuation C) (was between now : IoState) (r : RunEnd C) (first s : Status) → Runs C P (Is owed) text_lines was between r → first ≡ status_by refusal r → Tells first between now s → EndsBy P refusal owed was now s
concluded P refusal owed was between now r first s ran is tells = record { result = r; between = between; runs = ran; tells = subst (λ f. Tells f between now s) is tells }

-- a command of an authority that ended so, and whose line of the cause was then written or cut
pub halt-ends : (P : IoState → Result (Unit {0}) Halt → Type 0) (r : Result (Unit {0}) Halt) (first s : Status) (mid now : IoState) → P mid r → first ≡ status_of_halt r → Tells first mid now s → HaltEnds P now s
halt-ends P r first s mid now stands is tells = record { result = r; between = mid; stands = stands; tells = subst (λ f. Tells f mid now s) is tells }
