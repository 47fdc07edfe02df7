-- What one line does to what is owed.
use Rattle.std.proofs.Common.{◌≡◌, ℕ, ◌+◌, true, false, List, [], ◌∷◌, Option, Some, None, Result, Ok, Err, refl, ap, sym, subst, ◌∙◌}
use Rattle.std.specs.Prelude.{IsOkAnd}
use Rattle.std.specs.List.{join_with_byte}
use Rattle.line_text.specs.declared.bad_word.BadWord.{BadWord}
use Rattle.line_text.specs.declared.bad_word.BadWord.TheVariants as words
use Rattle.line_text.specs.Answers.{Progress}
use Rattle.line_text.proofs.FrameLemmas.{fed_again}
use Rattle.schedule_direct.specs.declared.direct.Direct.{Direct}
use Rattle.schedule_direct.specs.declared.line.DirectLine.{DirectLine}
use Rattle.schedule_direct.specs.Grammar as grammar
use Rattle.schedule_direct.specs.Grammar.{spelled_words}
use Rattle.schedule_direct.specs.Rows.{TakesMemory, is_ended}
use Rattle.text_trace.specs.Lines.{has_line_feed}
use Rattle.text_trace.specs.Trace.{Admits, before, Ends, Every, Continuation, Refuses, Steps, Trace}
use Rattle.text_trace.proofs.TraceLemmas.{free-as}
use Rattle.trace.specs.Answers.{Recorded, answer, told}
use Rattle.trace.specs.Walk.{from_line, played, replayed, trace_in, walk}
use Rattle.trace.proofs.UnfedLemmas.{played-unrefused}
use Rattle.trace.proofs.WrittenLemmas.{spelled}
use Rattle.replay.specs.declared.life.Life.{Life}
use Rattle.replay.specs.Plays.{IsPlaced, Plays}
use Rattle.replay.specs.Playing.{Owes}

-- a line that is taken is reported, and then the rest
pub played-taken : (p : Progress Direct) (r : Option Recorded) (bytes : List ℕ) (l : DirectLine) (rest : List (List ℕ)) → grammar.judge p bytes ≡ Ok l → played p r (bytes ∷ rest) ≡ before (told bytes (answer r l)) (played (grammar.behind p l) (answer r l).recorded rest)
played-taken p r bytes l rest judged =
    ap (λ (j : Result DirectLine BadWord). trace_in (from_line r bytes j (λ k. walk rest (grammar.behind p k) (answer r k).recorded))) judged

-- a refused line ends the trace
pub played-refused : (p : Progress Direct) (r : Option Recorded) (bytes : List ℕ) (w : BadWord) (rest : List (List ℕ)) → grammar.judge p bytes ≡ Err w → played p r (bytes ∷ rest) ≡ record { output = []; cause = Some w }
played-refused p r bytes w rest judged =
    ap (λ (j : Result DirectLine BadWord). trace_in (from_line r bytes j (λ k. walk rest (grammar.behind p k) (answer r k).recorded))) judged

at-lines : (f g : Continuation BadWord) (lines : List (List ℕ)) → f ≡ g → f lines ≡ g lines
at-lines f g lines same = ap (λ (h : Continuation BadWord). h lines) same

-- a line is taken
pub line-steps : (p : Progress Direct) (life later : Option Life) (bytes text : List ℕ) (l : DirectLine) → grammar.judge p bytes ≡ Ok l
    → ((r : Option Recorded) → Plays life r → Plays later (answer r l).recorded)
    → ((r : Option Recorded) → Plays life r → text ≡ told bytes (answer r l))
    → ((r : Option Recorded) → IsPlaced p.form p.number r → IsPlaced (grammar.after p.form l) (p.number + 1) (answer r l).recorded)
    → Steps BadWord (Owes p life) (Owes (grammar.behind p l) later) (bytes ∷ []) text
line-steps p life later bytes text l judged plays told_text placed = λ f owes.
    let r = owes.recorded in
    record {
      later = played (grammar.behind p l) (answer r l).recorded;
      owes = record { recorded = (answer r l).recorded; plays = plays r owes.plays; placed = placed r owes.placed; same = refl };
      same = λ rest.
          at-lines f (played p r) (bytes ∷ rest) owes.same ∙ played-taken p r bytes l rest judged
          ∙ ap (λ (t : List ℕ). before t (played (grammar.behind p l) (answer r l).recorded rest)) (sym (told_text r owes.plays));
    }

-- a line is refused
pub line-refuses : (p : Progress Direct) (life : Option Life) (bytes : List ℕ) (w : BadWord) → grammar.judge p bytes ≡ Err w → Refuses BadWord (Owes p life) [] (Some bytes) [] w
line-refuses p life bytes w judged = λ f owes rest. at-lines f (played p owes.recorded) (bytes ∷ rest) owes.same ∙ played-refused p owes.recorded bytes w rest judged

-- memory is refused for a line that isn't
pub line-admits : (p : Progress Direct) (life : Option Life) (bytes : List ℕ) (l : DirectLine) → grammar.judge p bytes ≡ Ok l → Admits BadWord Every (Owes p life) [] (Some bytes)
line-admits p life bytes l judged = λ f owes.
    let r = owes.recorded in
    free-as BadWord Every (λ rest. f (bytes ∷ rest)) (played (grammar.behind p l) (answer r l).recorded)
    (λ rest. ap (λ (t : Trace BadWord). t.cause) (at-lines f (played p r) (bytes ∷ rest) owes.same ∙ played-taken p r bytes l rest judged))
    (played-unrefused (grammar.behind p l) (answer r l).recorded)

-- the text ends
pub end-ends : (p : Progress Direct) (life : Option Life) → is_ended p.form ≡ true → Ends BadWord (Owes p life) [] []
end-ends p life ended = λ f owes. at-lines f (played p owes.recorded) [] owes.same ∙ rw ended refl

pub end-refuses : (p : Progress Direct) (life : Option Life) → is_ended p.form ≡ false → Refuses BadWord (Owes p life) [] None [] words.End
end-refuses p life ended = λ f owes. at-lines f (played p owes.recorded) [] owes.same ∙ rw ended refl

-- the whole of a text is owed at first
pub owes-first : (f : Continuation BadWord) → f ≡ replayed → Owes grammar.opening None f
owes-first f same = record { recorded = None; plays = tt; placed = tt; same = same }

-- a line that is taken ends with its line feed
pub judged-fed : (p : Progress Direct) (bytes : List ℕ) (l : DirectLine) → grammar.judge p bytes ≡ Ok l → has_line_feed bytes ≡ true
judged-fed p bytes l judged =
    subst (λ (b : List ℕ). has_line_feed b ≡ true) (sym (spelled p bytes l judged).bytes_are) (fed_again (join_with_byte 32 (spelled_words l)))

abbrev Starves : Progress Direct → Option Life → List ℕ → Type 0
Starves p life bytes = (has_line_feed bytes ≡ true) × Admits BadWord Every (Owes p life) [] (Some bytes)

-- memory is refused behind reading it
pub told-starved : (p : Progress Direct) (life : Option Life) (bytes : List ℕ) (l : DirectLine) → grammar.judge p bytes ≡ Ok l → Starves p life bytes
told-starved p life bytes l judged = (judged-fed p bytes l judged, line-admits p life bytes l judged)

starved : (p : Progress Direct) (life : Option Life) (bytes : List ℕ) (j : Result DirectLine BadWord) → grammar.judge p bytes ≡ j → IsOkAnd j TakesMemory → Starves p life bytes
starved p life bytes (Ok l) judged takes = told-starved p life bytes l judged
starved p life bytes (Err w) judged takes = absurd takes

-- memory is refused in reading it
pub read-starved : (p : Progress Direct) (life : Option Life) (bytes : List ℕ) → IsOkAnd (grammar.judge p bytes) TakesMemory → Starves p life bytes
read-starved p life bytes takes = starved p life bytes (grammar.judge p bytes) refl takes
