-- Which lines are apart by their texts.
use Rattle.std.specs.Prelude.{◌≡◌, ℕ, ◌^◌, ◌<◌, true, List, None}
use Rattle.hex.specs.Hex.{IsBytes}
use Rattle.journal.specs.declared.event.Event as journal
use Rattle.journal.specs.declared.event.What.TheVariants as told
use Rattle.journal.specs.declared.turn.Turn.{Turn}
use Rattle.journal.specs.Texts.{event_text}
use Rattle.journal.specs.Turns.{turn_text}
use Rattle.node_rules.specs.Told.{is_of_call}
use Rattle.turn_rules.specs.Courses.{datagram_in}
use Rattle.turn_rules.specs.Journals.{end_text}

-- The text of an event that sends no datagram isn't that of one which does.
abbrev pub SendingsAreApart : Type 0
SendingsAreApart = (e : journal.Event) (moment number to : ℕ) (bytes : List ℕ) → e.moment < 2 ^ 64 → moment < 2 ^ 64 → datagram_in e.what ≡ None
    → event_text e ≡ event_text (record { moment = moment; what = told.Sent number to bytes }) → ⊥

-- A datagram as a line reports it.
pub record Sending : Type 0 where
  pub moment : ℕ
  pub number : ℕ
  pub to : ℕ
  pub bytes : List ℕ

abbrev pub sending_event : Sending → journal.Event
sending_event x = record { moment = x.moment; what = told.Sent x.number x.to x.bytes }

-- Its numbers have 64 bits.
pub record IsSending (x : Sending) : Type 0 where
  pub moment : x.moment < 2 ^ 64
  pub number : x.number < 2 ^ 64
  pub to : x.to < 2 ^ 64
  pub bytes : IsBytes x.bytes

-- One text reports one.
abbrev pub TextsTellSendings : Type 0
TextsTellSendings = (x y : Sending) → IsSending x → IsSending y → event_text (sending_event x) ≡ event_text (sending_event y) → x ≡ y

-- What a call tells isn't spelled as the loss of a datagram.
abbrev pub LossesAreApart : Type 0
LossesAreApart = (e : journal.Event) (moment number : ℕ) → is_of_call e.what ≡ true → event_text e ≡ event_text (record { moment = moment; what = told.Lost number }) → ⊥

-- The line of a turn is no event's, and neither is the last.
abbrev pub TurnsAreApart : Type 0
TurnsAreApart = (e : journal.Event) (turn : Turn) → turn_text turn ≡ event_text e → ⊥

abbrev pub EndsAreApart : Type 0
EndsAreApart = (e : journal.Event) → end_text ≡ event_text e → ⊥

abbrev pub TurnsAreNoEnds : Type 0
TurnsAreNoEnds = (turn : Turn) → turn_text turn ≡ end_text → ⊥
