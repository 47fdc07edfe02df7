-- The trace of a text: what is written for its lines, and what refuses it; and how a trace goes on.
use Rattle.std.specs.Prelude.{◌≡◌, true, ℕ, List, [], ◌∷◌, ◌++◌, Option, Some, None}
use Rattle.text_trace.specs.Lines.{has_no_feed}

-- What is written for the lines that are taken, and what refuses the text, if anything does.
pub record Trace (C : Type 0) : Type 0 where
  pub output : List ℕ
  pub cause : Option C

-- This was written before the rest of the trace.
abbrev pub before : {C : Type 0} → List ℕ → Trace C → Trace C
before written t = record { output = written ++ t.output; cause = t.cause }

-- What is owed is a function of the lines that come.
abbrev pub Continuation : Type 0 → Type 0
Continuation C = List (List ℕ) → Trace C

-- The text is the trace of these lines, whatever comes after them; for that, something is owed of which B holds.
pub record GoesOn (C : Type 0) (B : Continuation C → Type 0) (f : Continuation C) (lines : List (List ℕ)) (text : List ℕ) : Type 0 where
  pub later : Continuation C
  pub owes : B later
  pub same : (rest : List (List ℕ)) → f (lines ++ rest) ≡ before text (later rest)

-- These lines lead from what A says is owed to what B says, and the text is their trace.
abbrev pub Steps : (C : Type 0) → (Continuation C → Type 0) → (Continuation C → Type 0) → List (List ℕ) → List ℕ → Type 0
Steps C A B lines text = (f : Continuation C) → A f → GoesOn C B f lines text

-- Any cause.
abbrev pub Every : {C : Type 0} → C → Type 0
Every c = Unit {0}

-- No cause of those that P holds of refuses the text whatever comes.
abbrev pub IsFree : (C : Type 0) → (C → Type 0) → Continuation C → Type 0
IsFree C P f = (c : C) → P c → ((lines : List (List ℕ)) → (f lines).cause ≡ Some c) → ⊥

-- There is no cause that refuses the text whatever comes: so it isn't refused yet.
abbrev pub IsUnrefused : (C : Type 0) → Continuation C → Type 0
IsUnrefused C f = IsFree C Every f

-- What is owed between two lines: nothing is written for a line that isn't ended, nor for what follows it; and the text
-- isn't refused yet.
pub record Waits (C : Type 0) (f : Continuation C) : Type 0 where
  pub silent : (line : List ℕ) (rest : List (List ℕ)) → has_no_feed line ≡ true → (f (line ∷ rest)).output ≡ []
  pub unrefused : IsUnrefused C f

-- The text is exactly what is written for these lines, none of which is refused.
abbrev pub Writes : (C : Type 0) → (Continuation C → Type 0) → List (List ℕ) → List ℕ → Type 0
Writes C A lines text = Steps C A (Waits C) lines text

-- These are all the lines, and the text is the whole trace.
abbrev pub Ends : (C : Type 0) → (Continuation C → Type 0) → List (List ℕ) → List ℕ → Type 0
Ends C A lines text = (f : Continuation C) → A f → f lines ≡ record { output = text; cause = None }

-- After these lines the next one is refused, or with none the end of the text is; the text is the trace till then.
abbrev pub Refuses : (C : Type 0) → (Continuation C → Type 0) → List (List ℕ) → Option (List ℕ) → List ℕ → C → Type 0
Refuses C A lines (Some line) text c = (f : Continuation C) → A f → (rest : List (List ℕ)) → f (lines ++ line ∷ rest) ≡ record { output = text; cause = Some c }
Refuses C A lines None text c = (f : Continuation C) → A f → f lines ≡ record { output = text; cause = Some c }

-- The line behind these isn't refused for a cause that P holds of; or with none the end of the text isn't refused.
abbrev pub Admits : (C : Type 0) → (C → Type 0) → (Continuation C → Type 0) → List (List ℕ) → Option (List ℕ) → Type 0
Admits C P A lines (Some line) = (f : Continuation C) → A f → IsFree C P (λ rest. f (lines ++ line ∷ rest))
Admits C P A lines None = (f : Continuation C) → A f → (f lines).cause ≡ None

-- Something is owed.
pub record Owing (C : Type 0) (A : Continuation C → Type 0) : Type 0 where
  pub owed : Continuation C
  pub is : A owed
