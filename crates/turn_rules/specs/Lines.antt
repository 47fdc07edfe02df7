-- The lines of a journal.
use Rattle.std.specs.Prelude.{ℕ, List, [], ◌∷◌, ◌++◌, flat_map}
use Rattle.journal.specs.declared.event.Event as journal
use Rattle.journal.specs.declared.event.What as whats
use Rattle.journal.specs.declared.turn.Turn.{Turn}
use Rattle.journal.specs.Texts.{event_text}
use Rattle.journal.specs.Turns.{turn_text}

abbrev pub with_feed : List ℕ → List ℕ
with_feed line = line ++ 10 ∷ []

abbrev pub line_of : journal.Event → List ℕ
line_of e = with_feed (event_text e)

-- the line that gives this, at this moment
abbrev pub event_line : ℕ → whats.What → List ℕ
event_line moment what = line_of (record { moment = moment; what = what })

-- the lines of these events
abbrev pub lines_of : List journal.Event → List ℕ
lines_of events = flat_map line_of events

-- A line of the journal: that of a turn, or of an event.
pub data JournalLine : Type 0 where
  OfTurn : (turn : Turn) → JournalLine
  OfEvent : (event : journal.Event) → JournalLine

-- without the line feed
abbrev pub line_text : JournalLine → List ℕ
line_text (OfTurn turn) = turn_text turn
line_text (OfEvent event) = event_text event

abbrev pub line_bytes : JournalLine → List ℕ
line_bytes (OfTurn turn) = with_feed (turn_text turn)
line_bytes (OfEvent event) = line_of event

abbrev pub bytes_of : List JournalLine → List ℕ
bytes_of lines = flat_map line_bytes lines
