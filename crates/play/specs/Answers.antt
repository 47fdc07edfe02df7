-- What a script answers to a line, and to the end of the text.
use Rattle.std.specs.Prelude.{◌≡◌, ℕ, true, List, [], ◌∷◌, Some, None, Result, Ok, Err}
use Rattle.text_trace.specs.Lines.{has_line_feed}
use Rattle.text_trace.specs.Trace.{Continuation, Steps, Ends, Refuses, Admits}
use Rattle.play.specs.declared.script.Refusal.{Refusal}
use Rattle.play.specs.declared.script.Refusal.TheVariants as refusal

-- From A, what is owed before the line, to B, what is owed after it: a line with its line feed is taken, and the
-- text is what is written for it; or the line is refused; or memory is, for a line that isn't for a cause that P holds of.
abbrev pub AnswersLine : (C : Type 0) → (C → Type 0) → (Continuation C → Type 0) → (Continuation C → Type 0) → List ℕ → List ℕ → Result (Unit {0}) (Refusal C) → Type 0
AnswersLine C P A B bytes text (Ok _) = (has_line_feed bytes ≡ true) × Steps C A B (bytes ∷ []) text
AnswersLine C P A B bytes text (Err (refusal.Refused c)) = Refuses C A [] (Some bytes) [] c
AnswersLine C P A B bytes text (Err refusal.OutOfMemory) = (has_line_feed bytes ≡ true) × Admits C P A [] (Some bytes)

-- The text may end here, and is what is written at the end; or the end is refused; or memory is, for an end that isn't.
abbrev pub AnswersEnd : (C : Type 0) → (C → Type 0) → (Continuation C → Type 0) → List ℕ → Result (Unit {0}) (Refusal C) → Type 0
AnswersEnd C P A text (Ok _) = Ends C A [] text
AnswersEnd C P A text (Err (refusal.Refused c)) = Refuses C A [] None [] c
AnswersEnd C P A text (Err refusal.OutOfMemory) = Admits C P A [] None
