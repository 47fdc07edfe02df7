-- The answer of one form, among those of several.
use Rattle.std.proofs.Common.{ℕ, List, Result, Ok, Err, subst, sym}
use Rattle.line_text.specs.declared.bad_word.BadWord.{BadWord}
use Rattle.line_text.specs.declared.bad_word.LineFault.{LineFault}
use Rattle.line_text.specs.declared.bad_word.LineFault.TheVariants as faults
use Rattle.line_text.specs.Answers.{AnswersBy}
use Rattle.line_text.specs.Frame.{Row, row_line, row_of_line}
use Rattle.line_text.proofs.FrameLemmas.{mapped, row_mapped}

abbrev answer_of : {L M : Type 0} → (L → M) → Result L LineFault → Result M LineFault
answer_of of (Ok l) = Ok (of l)
answer_of of (Err fault) = Err fault

answers_mapped : {L M : Type 0} (of : L → M) (Takes : L → Type 0) (Among : M → Type 0) → ((l : L) → Takes l → Among (of l)) → (judged : Result L BadWord) (answer : Result L LineFault) → AnswersBy Takes judged answer → AnswersBy Among (mapped of judged) (answer_of of answer)
answers_mapped of Takes Among takes (Ok l) (Ok x) h = cc
answers_mapped of Takes Among takes (Err w) (Ok x) h = cc
answers_mapped of Takes Among takes (Ok l) (Err (faults.Bad w)) h = cc
answers_mapped of Takes Among takes (Err v) (Err (faults.Bad w)) h = cc
answers_mapped of Takes Among takes (Ok l) (Err faults.OutOfMemory) h = takes l h
answers_mapped of Takes Among takes (Err w) (Err faults.OutOfMemory) h = absurd h

pub answers-of : {L M : Type 0} (of : L → M) (Takes : L → Type 0) (Among : M → Type 0) → ((l : L) → Takes l → Among (of l)) → (row : Result (Row L) BadWord) (words : List (List ℕ)) (answer : Result L LineFault) → AnswersBy Takes (row_line row words) answer
    → AnswersBy Among (row_line (row_of_line of row) words) (answer_of of answer)
answers-of {L} {M} of Takes Among takes row words answer h =
    subst (λ (r : Result M BadWord). AnswersBy Among r (answer_of of answer)) (sym (row_mapped of row words)) (answers_mapped of Takes Among takes (row_line row words) answer h)
