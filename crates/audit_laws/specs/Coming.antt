-- What is still to come of the journal of a life, where its lines so far have come.
use Rattle.std.specs.Prelude.{ℕ, ◌-◌, Bool, List, [], ◌∷◌, ◌++◌, Option, Some, None, map, if◌then◌else◌}
use Rattle.journal.specs.declared.event.Event as journal
use Rattle.journal.specs.declared.event.What.TheVariants as told
use Rattle.journal.specs.declared.turn.Turn.{Turn}
use Rattle.journal.specs.declared.turn.Heard.{Heard}
use Rattle.journal.specs.declared.turn.Heard.TheVariants as heard
use Rattle.node_rules.specs.Nodes.{Setting, Node}
use Rattle.node_rules.specs.Calls.{Call}
use Rattle.node_rules.specs.Lives.{Delivers, call_of}
use Rattle.turn_rules.specs.Turns.{Act, acts_of, ticks_of}
use Rattle.turn_rules.specs.Lines.{JournalLine, OfEvent, line_text}
use Rattle.turn_rules.specs.Courses.{course, number_of, tells_all}
use Rattle.turn_rules.specs.Journals.{end_text}

-- Where a journal stands between two lines: the node as the last call that began has left it; how many datagrams were sent in
-- lines that came; the moment of the last line where that sent a datagram, so that its loss may come; what the call has reported of
-- which no line has come; and how many ticks of the turn are to come behind it.
pub record Place : Type 0 where
  pub node : Node
  pub sent : ℕ
  pub pending : Option ℕ
  pub owed : List journal.Event
  pub ticks : ℕ

-- A call is made, and nothing that it reported has come.
abbrev pub place_of : Call → ℕ → ℕ → Place
place_of call sent ticks = record { node = call.node; sent = sent; pending = None; owed = call.told; ticks = ticks }

-- The line of a turn has come, with what was heard in it and its ticks.
abbrev pub place_in : Setting → Node → ℕ → Heard → ℕ → Place
place_in s n sent (heard.Got bytes) ticks = place_of (call_of s n (Delivers bytes)) sent ticks
place_in s n sent heard.Nothing ticks = record { node = n; sent = sent; pending = None; owed = []; ticks = ticks }
place_in s n sent heard.Failed ticks = record { node = n; sent = sent; pending = None; owed = []; ticks = ticks }

-- ---- what is to come

-- that the last of so many datagrams was lost, at this moment
abbrev pub loss_of : ℕ → ℕ → journal.Event
loss_of sent moment = record { moment = moment; what = told.Lost (number_of (sent - 1)) }

-- the same, if it was
abbrev pub loss_lines : (ℕ → Bool) → ℕ → Option ℕ → List JournalLine
loss_lines lost sent None = []
loss_lines lost sent (Some moment) = if lost (sent - 1) then OfEvent (loss_of sent moment) ∷ [] else []

-- the lines of what is owed, and those of these acts
abbrev pub lines_behind : Setting → (ℕ → Bool) → Place → List Act → List JournalLine
lines_behind s lost p acts =
    (course s lost acts (tells_all lost p.owed (record { node = p.node; sent = p.sent; lines = [] }))).lines

-- The texts of the lines to come, if these turns are to come behind the present one.
unfoldable pub coming : Setting → (ℕ → Bool) → Bool → List Turn → Place → List (List ℕ)
coming s lost leaves turns p =
    map line_text (loss_lines lost p.sent p.pending ++ lines_behind s lost p (ticks_of p.ticks ++ acts_of turns leaves)) ++ end_text ∷ []
