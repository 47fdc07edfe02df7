-- How parts of a trace join.
use Rattle.std.proofs.Common.{◌≡◌, ℕ, List, [], ◌∷◌, ◌++◌, Option, Some, None, refl, ap, sym, ◌∙◌, subst, append_assoc}
use Rattle.text_trace.specs.Trace.{Trace, before, Continuation, Steps, Every, IsFree, Waits, Writes, Ends, Refuses, Admits}

before-before : {C : Type 0} → (a b : List ℕ) (t : Trace C) → before a (before b t) ≡ before (a ++ b) t
before-before a b t = ap (λ (o : List ℕ). record { output = o; cause = t.cause }) (sym (append_assoc a b t.output))

-- no line, and nothing written
pub steps-none : (C : Type 0) (A : Continuation C → Type 0) → Steps C A A [] []
steps-none C A = λ f owes. record { later = f; owes = owes; same = λ rest. refl }

-- some lines, and then others
pub steps-join : (C : Type 0) (A B D : Continuation C → Type 0) (lines others : List (List ℕ)) (text more : List ℕ) → Steps C A B lines text → Steps C B D others more → Steps C A D (lines ++ others) (text ++ more)
steps-join C A B D lines others text more first second = λ f owes.
    let one = first f owes in
    let two = second one.later one.owes in
    record {
      later = two.later;
      owes = two.owes;
      same = λ rest.
          ap f (append_assoc lines others rest) ∙ one.same (others ++ rest) ∙ ap (before text) (two.same rest) ∙ before-before text more (two.later rest);
    }

-- what is owed later may be said in other words
pub steps-weaker : (C : Type 0) (A B D : Continuation C → Type 0) (lines : List (List ℕ)) (text : List ℕ) → ((f : Continuation C) → B f → D f) → Steps C A B lines text → Steps C A D lines text
steps-weaker C A B D lines text weaker steps = λ f owes.
    let one = steps f owes in
    record { later = one.later; owes = weaker one.later one.owes; same = one.same }

-- some lines, and then the others to the end
pub ends-join : (C : Type 0) (A B : Continuation C → Type 0) (lines others : List (List ℕ)) (text more : List ℕ) → Steps C A B lines text → Ends C B others more → Ends C A (lines ++ others) (text ++ more)
ends-join C A B lines others text more first last = λ f owes.
    let one = first f owes in
    one.same others ∙ ap (before text) (last one.later one.owes)

-- some lines, then others, and then one that is refused
pub refuses-join : (C : Type 0) (A B : Continuation C → Type 0) (lines others : List (List ℕ)) (last : Option (List ℕ)) (text more : List ℕ) (c : C) → Steps C A B lines text → Refuses C B others last more c → Refuses C A (lines ++ others) last (text ++ more) c
refuses-join C A B lines others (Some line) text more c first last = λ f owes rest.
    let one = first f owes in
    ap f (append_assoc lines others (line ∷ rest)) ∙ one.same (others ++ line ∷ rest) ∙ ap (before text) (last one.later one.owes rest)
refuses-join C A B lines others None text more c first last = λ f owes.
    let one = first f owes in
    one.same others ∙ ap (before text) (last one.later one.owes)

-- a function that is this one waits as this one does
pub waits-same : (C : Type 0) (f g : Continuation C) → f ≡ g → Waits C g → Waits C f
waits-same C f g same waits = subst (Waits C) (sym same) waits

-- what is refused has its cause whatever comes
pub free-as : (C : Type 0) (P : C → Type 0) (f g : Continuation C) → ((lines : List (List ℕ)) → (f lines).cause ≡ (g lines).cause) → IsFree C P g → IsFree C P f
free-as C P f g same free = λ c p all. free c p (λ lines. sym (same lines) ∙ all lines)

-- some lines, and then one that isn't refused, or an end
pub admits-join : (C : Type 0) (P : C → Type 0) (A B : Continuation C → Type 0) (lines others : List (List ℕ)) (last : Option (List ℕ)) (text : List ℕ) → Steps C A B lines text → Admits C P B others last → Admits C P A (lines ++ others) last
admits-join C P A B lines others (Some line) text first last = λ f owes.
    let one = first f owes in
    free-as C P (λ rest. f ((lines ++ others) ++ line ∷ rest)) (λ rest. one.later (others ++ line ∷ rest))
    (λ rest. ap (λ (ls : List (List ℕ)). (f ls).cause) (append_assoc lines others (line ∷ rest)) ∙ ap (λ (t : Trace C). t.cause) (one.same (others ++ line ∷ rest)))
    (last one.later one.owes)
admits-join C P A B lines others None text first last = λ f owes.
    let one = first f owes in
    ap (λ (t : Trace C). t.cause) (one.same others) ∙ last one.later one.owes

-- None of the lines whose trace is written is refused.
pub none-refused : (C : Type 0) (A : Continuation C → Type 0) (earlier : List (List ℕ)) (line : List ℕ) (others : List (List ℕ)) (text early : List ℕ) (c : C) → Writes C A (earlier ++ line ∷ others) text → (f : Continuation C) → A f → Refuses C (λ g. g ≡ f) earlier (Some line) early c → ⊥
none-refused C A earlier line others text early c writes f owes refuses =
    let one = writes f owes in
    one.owes.unrefused c tt (λ rest.
    ap (λ (t : Trace C). t.cause) (sym (one.same rest) ∙ ap f (append_assoc earlier (line ∷ others) rest) ∙ refuses f refl (others ++ rest)))
