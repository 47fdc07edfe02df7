-- What a reader answers.
use Rattle.std.specs.Prelude.{◌≡◌, ℕ, ◌+◌, Bool, List, Option, Some, None, Result, Ok, Err, IsOkAnd}
use Rattle.line_text.specs.declared.bad_word.BadWord.{BadWord}
use Rattle.line_text.specs.declared.bad_word.LineFault.{LineFault}
use Rattle.line_text.specs.declared.bad_word.LineFault.TheVariants as faults
use Rattle.line_text.specs.Fields.{bytes_in, hex_up_to, name}
use Rattle.line_text.specs.Frame.{Next, Row, unless_bad}

-- An answer, beside the judgement: the same; or want of memory, where it is a value that takes some.
abbrev pub AnswersBy : {X : Type 0} → (X → Type 0) → Result X BadWord → Result X LineFault → Type 0
AnswersBy Takes judged (Ok x) = judged ≡ Ok x
AnswersBy Takes judged (Err (faults.Bad word)) = judged ≡ Err word
AnswersBy Takes judged (Err faults.OutOfMemory) = IsOkAnd judged Takes

-- the bad word of an answer
abbrev pub refusal : {X : Type 0} → Result X BadWord → Option BadWord
refusal (Ok x) = None
refusal (Err word) = Some word

-- what a reader knows of a text that is read in the form F: the number of the next line, from 1 on, and what
-- the form keeps
pub record Progress (F : Type 0) : Type 0 where
  pub number : ℕ
  pub form : F

-- the bytes that a word spells, no more than so many, or the bad word
abbrev pub read_bytes : ℕ → List ℕ → Result (List ℕ) BadWord
read_bytes most word = unless_bad (hex_up_to most word) (Ok (bytes_in word))

-- the name that a word is, or the bad word
abbrev pub read_name : List ℕ → Result (List ℕ) BadWord
read_name word = unless_bad (name word) (Ok word)

-- what is known of a text behind a line
abbrev pub moved : {F L : Type 0} → (F → L → F) → Progress F → L → Progress F
moved after p line = record { number = p.number + 1; form = after p.form line }

-- what is known of a text behind an answer: a refusal changes nothing
abbrev pub progress_after : {F L : Type 0} → (F → L → F) → Progress F → Result L LineFault → Progress F
progress_after after p (Ok line) = moved after p line
progress_after after p (Err fault) = p

-- The answer to bytes that are this line: the line, or want of memory, where it takes some.
abbrev pub AnswersThat : {L : Type 0} → (L → Type 0) → L → Result L LineFault → Type 0
AnswersThat Takes line (Ok x) = x ≡ line
AnswersThat Takes line (Err (faults.Bad refused)) = ⊥
AnswersThat Takes line (Err faults.OutOfMemory) = Takes line

-- The answer to bytes with this first bad word, or with none.
abbrev pub Refuses : {L : Type 0} → Option BadWord → Result L LineFault → Type 0
Refuses word (Ok line) = word ≡ None
Refuses word (Err (faults.Bad refused)) = word ≡ Some refused
Refuses word (Err faults.OutOfMemory) = word ≡ None

-- what a form says of the next line
abbrev pub next_line : {F L : Type 0} → (F → Bool) → (F → List (List ℕ) → Result (Row L) BadWord) → Progress F → Next L
next_line is_ended row p = record { ended = is_ended p.form; number = p.number; row = row p.form }
