-- Where a text fails, said of the texts of all events and not of how one is read.
use Rattle.std.specs.Prelude.{◌≡◌, ℕ, ◌+◌, List, [], ◌∷◌, ◌++◌, length}
use Rattle.std.specs.List.{join_with_byte}
use Rattle.line_text.specs.Words.{parts}
use Rattle.journal.specs.declared.event.Event.{Event}
use Rattle.journal.specs.declared.fault.EventFault.{EventFault}
use Rattle.journal.specs.declared.fault.EventFault.TheVariants as answers
use Rattle.journal.specs.Spelling.{IsEvent}
use Rattle.journal.specs.Texts.{event_text}

-- These words begin the text of an event.
pub record Begins (words : List (List ℕ)) : Type 0 where
  pub event : Event
  pub more : List (List ℕ)
  pub is_event : IsEvent (event_text event) event
  pub same : parts (event_text event) ≡ words ++ more

-- These words are the text of an event.
pub record IsWhole (words : List (List ℕ)) : Type 0 where
  pub event : Event
  pub is_event : IsEvent (event_text event) event
  pub same : parts (event_text event) ≡ words

-- Behind these words the first of the others can't stand in an event; or there is none, and one is missing.
abbrev pub IsStuck : List (List ℕ) → List (List ℕ) → Type 0
IsStuck front [] = IsWhole front → ⊥
IsStuck front (word ∷ rest) = Begins (front ++ word ∷ []) → ⊥

-- The text fails at this place: the words before it begin an event's text, and at it begins the first that fails,
-- or the text ends there and a word is missing.
pub record FailsAt (text : List ℕ) (place : ℕ) : Type 0 where
  pub front : List (List ℕ)
  pub behind : List (List ℕ)
  pub words : parts text ≡ front ++ behind
  pub at : place + length (join_with_byte 32 behind) ≡ length text
  pub begins : Begins front
  pub stuck : IsStuck front behind

abbrev pub FailsAs : List ℕ → EventFault → Type 0
FailsAs text (answers.BadEvent place) = FailsAt text place
FailsAs text answers.OutOfMemory = Unit {0}
