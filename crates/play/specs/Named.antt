-- What is owed for causes of one kind, as for causes of another, which names each of them.
use Rattle.std.specs.Prelude.{◌≡◌, Result, Ok, Err}
use Rattle.std.specs.Option.{option_map}
use Rattle.text_trace.specs.Trace.{Continuation, Trace}
use Rattle.play.specs.declared.script.Refusal.{Refusal}
use Rattle.play.specs.declared.script.Refusal.TheVariants as refusal
use Rattle.play.specs.declared.stop.Stop.{Stop}
use Rattle.play.specs.declared.stop.Stop.TheVariants as stop

-- No two causes have one name, and a cause is one that P holds of where Q holds of its name.
pub record IsNaming (C D : Type 0) (P : C → Type 0) (Q : D → Type 0) (name : C → D) : Type 0 where
  pub apart : (a b : C) → name a ≡ name b → a ≡ b
  pub judged : (c : C) → Q (name c) → P c

-- The trace, with its cause by name.
abbrev pub trace_as : {C D : Type 0} → (C → D) → Trace C → Trace D
trace_as name t = record { output = t.output; cause = option_map name t.cause }

-- What is owed, with its causes by name.
abbrev pub owed_as : {C D : Type 0} → (C → D) → Continuation C → Continuation D
owed_as name owed = λ lines. trace_as name (owed lines)

-- This is owed where A says what is, with its causes by name.
pub record OwesAs (C D : Type 0) (name : C → D) (A : Continuation C → Type 0) (f : Continuation D) : Type 0 where
  pub owed : Continuation C
  pub is : A owed
  pub same : f ≡ owed_as name owed

-- What a script answers to a line or to the end, with its cause by name.
abbrev pub answer_as : {T C D : Type 0} → (C → D) → Result T (Refusal C) → Result T (Refusal D)
answer_as name (Ok done) = Ok done
answer_as name (Err (refusal.Refused cause)) = Err (refusal.Refused (name cause))
answer_as name (Err refusal.OutOfMemory) = Err refusal.OutOfMemory

-- Why a run stopped, with its cause by name.
abbrev pub stop_as : {C D : Type 0} → (C → D) → Stop C → Stop D
stop_as name (stop.Refused line cause) = stop.Refused line (name cause)
stop_as name stop.ReadFault = stop.ReadFault
stop_as name stop.WriteFault = stop.WriteFault
stop_as name stop.OutOfMemory = stop.OutOfMemory

-- How a run ended, with its cause by name.
abbrev pub run_as : {T C D : Type 0} → (C → D) → Result T (Stop C) → Result T (Stop D)
run_as name (Ok done) = Ok done
run_as name (Err s) = Err (stop_as name s)
