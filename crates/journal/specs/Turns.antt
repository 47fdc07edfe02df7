-- Turns of a node: their lines, and reading one from left to right.
use Rattle.std.specs.Prelude.{◌≡◌, ℕ, ◌^◌, ◌<◌, ◌≤◌, if◌then◌else◌, List, [], ◌∷◌, ◌++◌, Option, Some, None, Result, Ok, Err, codes, decimal}
use Rattle.std.specs.Str.{bytes_eq}
use Rattle.hex.specs.Hex.{IsBytes, encode_lower}
use Rattle.journal.specs.declared.fault.EventFault.{EventFault}
use Rattle.journal.specs.declared.fault.EventFault.TheVariants as answers
use Rattle.journal.specs.declared.turn.FoundHeard.{FoundHeard}
use Rattle.journal.specs.declared.turn.FoundHeard.TheVariants as found
use Rattle.journal.specs.declared.turn.Heard.{Heard}
use Rattle.journal.specs.declared.turn.Heard.TheVariants as heard
use Rattle.journal.specs.declared.turn.HeardKind.{HeardKind}
use Rattle.journal.specs.declared.turn.HeardKind.TheVariants as kind
use Rattle.journal.specs.declared.turn.Turn.{Turn}
use Rattle.journal.specs.declared.words.Misread.{Misread}
use Rattle.journal.specs.Failing.{FailsIn}
use Rattle.journal.specs.Words.{Step, among, both, bytes_of, chosen, is_literal, made, nothing_at, number, token_at}

-- ---- the line

-- two lower case digits for each byte, or `-` for no bytes
abbrev pub bytes_text : List ℕ → List ℕ
bytes_text [] = codes "-"
bytes_text (b ∷ bytes) = encode_lower (b ∷ bytes)

abbrev pub heard_text : Heard → List ℕ
heard_text (heard.Got bytes) = codes "got " ++ bytes_text bytes
heard_text heard.Nothing = codes "nothing"
heard_text heard.Failed = codes "failed"

-- The number, what was heard, and the ticks. No line feed ends it.
abbrev pub turn_text : Turn → List ℕ
turn_text t = codes "turn " ++ decimal t.number ++ codes " " ++ heard_text t.heard ++ codes " ticks " ++ decimal t.ticks

abbrev pub IsHeard : Heard → Type 0
IsHeard (heard.Got bytes) = IsBytes bytes
IsHeard _ = Unit {0}

-- Each number of the turn is in its range, and this is its one line.
pub record IsTurn (text : List ℕ) (t : Turn) : Type 0 where
  pub first : 1 ≤ t.number
  pub fits : t.number < 2 ^ 32
  pub heard : IsHeard t.heard
  pub ticks : t.ticks ≤ 64
  pub spelled : text ≡ turn_text t

-- ---- reading

abbrev pub heard_word : HeardKind → List ℕ
heard_word kind.Got = codes "got"
heard_word kind.Nothing = codes "nothing"
heard_word kind.Failed = codes "failed"

abbrev pub every_heard : List HeardKind
every_heard = kind.Got ∷ kind.Nothing ∷ kind.Failed ∷ []

-- the bytes of which the word is the digits, in lower case, or none for `-`
abbrev pub bytes_or_dash : List ℕ → Option (List ℕ)
bytes_or_dash word = if bytes_eq word (codes "-") then Some [] else bytes_of word

abbrev pub heard_behind : HeardKind → Step Heard
heard_behind kind.Got = made heard.Got (token_at bytes_or_dash)
heard_behind kind.Nothing = made (λ _. heard.Nothing) nothing_at
heard_behind kind.Failed = made (λ _. heard.Failed) nothing_at

unfoldable pub heard_at : Step Heard
heard_at = chosen (among heard_word every_heard) heard_behind

-- the number from 1 on, what was heard, and up to 64 ticks
unfoldable pub turn_at : Step Turn
turn_at =
    made (λ p. record { number = p.1.0; heard = p.1.1.0; ticks = p.1.1.1.1 })
    (both (token_at (is_literal (codes "turn"))) (both (token_at (number 1 4294967295)) (both heard_at (both (token_at (is_literal (codes "ticks"))) (token_at (number 0 64))))))

-- ---- what calls give

abbrev pub or_no_bytes : Option (List ℕ) → List ℕ
or_no_bytes None = []
or_no_bytes (Some bytes) = bytes

-- what was found before memory was taken: of a datagram, its digits, if it has bytes
abbrev pub heard_found : FoundHeard → Heard
heard_found (found.Got bytes) = heard.Got (or_no_bytes bytes)
heard_found found.Nothing = heard.Nothing
heard_found found.Failed = heard.Failed

-- The parts that were found are those of the turn that is read, or it is the place of the fault.
abbrev pub FindsTurn : Result (ℕ × FoundHeard × ℕ) Misread → Result Turn ℕ → Type 0
FindsTurn (Ok x) read = read ≡ Ok (record { number = x.0; heard = heard_found x.1; ticks = x.2 })
FindsTurn (Err e) read = read ≡ Err e.place

-- Only a datagram takes memory.
abbrev pub HeardTakesMemory : Heard → Type 0
HeardTakesMemory (heard.Got bytes) = Unit {0}
HeardTakesMemory _ = ⊥

-- The answer is the turn that is read, or the place of the fault, unless memory was wanted.
abbrev pub GivesTurn : Result Turn ℕ → Result Turn EventFault → Type 0
GivesTurn (Ok t) (Ok answer) = answer ≡ t
GivesTurn (Ok t) (Err fault) = (fault ≡ answers.OutOfMemory) × HeardTakesMemory t.heard
GivesTurn (Err place) answer = answer ≡ Err (answers.BadEvent place)

-- The answer is this turn, or want of memory, where it takes some.
abbrev pub IsGivenTurn : Turn → Result Turn EventFault → Type 0
IsGivenTurn t (Ok answer) = answer ≡ t
IsGivenTurn t (Err fault) = (fault ≡ answers.OutOfMemory) × HeardTakesMemory t.heard

-- The fault is at the first word that fails as a turn's, or want of memory.
abbrev pub TurnFailsAs : List ℕ → EventFault → Type 0
TurnFailsAs text (answers.BadEvent place) = FailsIn IsTurn text place
TurnFailsAs text answers.OutOfMemory = Unit {0}
