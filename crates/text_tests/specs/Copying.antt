-- A script to try the loop with: it writes each line again, and refuses some.
use Rattle.std.specs.Prelude.{◌≡◌, ℕ, Bool, true, false, ◌-◌, ◌==◌, List, [], ◌∷◌, Option, Some, None, slice_index, codes, if◌then◌else◌}
use Rattle.std.proofs.Common.{refl, subst, sym}
use Rattle.text_trace.specs.Lines.{has_line_feed, has_no_feed}
use Rattle.text_trace.specs.Trace.{Continuation, Trace, Waits, before}
use Rattle.text_trace.proofs.TraceLemmas.{waits-same}
use Rattle.text_trace.proofs.WholeLemmas.{unfed}

-- Why the line is refused: no line may come any more, it has no line feed, or it begins with `#`.
abbrev pub line_fault : ℕ → List ℕ → Option ℕ
line_fault room bytes =
    if room == 0 then Some 1
    else (if has_line_feed bytes then (if slice_index bytes 0 == 35 then Some 3 else None) else Some 2)

abbrev pub unless_refused : Option ℕ → Trace ℕ → Trace ℕ
unless_refused (Some cause) rest = record { output = []; cause = Some cause }
unless_refused None rest = rest

-- Each line again, and at the end a line of its own.
abbrev pub copied : ℕ → List (List ℕ) → Trace ℕ
copied room [] = record { output = codes "end"; cause = None }
copied room (line ∷ lines) = unless_refused (line_fault room line) (before line (copied (room - 1) lines))

refused-unfed : (b : Bool) (cause : Option ℕ) (rest : Trace ℕ) → (unless_refused (if b then Some 1 else (if false then cause else Some 2)) rest).output ≡ []
refused-unfed true cause rest = refl
refused-unfed false cause rest = refl

copied-silent : (room : ℕ) (line : List ℕ) (rest : List (List ℕ)) → has_no_feed line ≡ true → (copied room (line ∷ rest)).output ≡ []
copied-silent room line rest clear =
    let fault : Bool → Option ℕ = λ fed. if room == 0 then Some 1 else (if fed then (if slice_index line 0 == 35 then Some 3 else None) else Some 2) in
    subst (λ (fed : Bool). (unless_refused (fault fed) (before line (copied (room - 1) rest))).output ≡ []) (sym (unfed line clear)) (refused-unfed (room == 0) (if slice_index line 0 == 35 then Some 3 else None) (before line (copied (room - 1) rest)))

ends-somewhere : (room cause : ℕ) → (copied room []).cause ≡ Some cause → ⊥
ends-somewhere room cause e = cc

copied-waits : (room : ℕ) → Waits ℕ (copied room)
copied-waits room = record { silent = copied-silent room; unrefused = λ cause any all. ends-somewhere room cause (all []) }

pub waits : (room : ℕ) (f : Continuation ℕ) → f ≡ copied room → Waits ℕ f
waits room f same = waits-same ℕ f (copied room) same (copied-waits room)
