-- How what is to come of a journal unfolds, line by line.
use Rattle.std.specs.Prelude.{◌≡◌, ℕ, ◌+◌, ◌-◌, ◌<◌, Bool, true, false, List, [], ◌∷◌, Some, None}
use Rattle.std.specs.List.{AllByRecursion}
use Rattle.journal.specs.declared.event.Event as journal
use Rattle.journal.specs.declared.event.What.TheVariants as told
use Rattle.journal.specs.declared.turn.Turn.{Turn}
use Rattle.journal.specs.Texts.{event_text}
use Rattle.journal.specs.Turns.{turn_text}
use Rattle.node_rules.specs.Nodes.{Setting, Node}
use Rattle.node_rules.specs.Calls.{Call}
use Rattle.node_rules.specs.Lives.{Ticks, Leaves, call_of}
use Rattle.turn_rules.specs.Courses.{datagram_in, may_tick, number_of}
use Rattle.turn_rules.specs.Journals.{end_text, journal_over}
use Rattle.audit_laws.specs.Coming.{Place, coming, loss_of, place_in, place_of}

-- ---- the last datagram

-- Where it was lost, that comes first;
abbrev pub LossesComeFirst : Type 0
LossesComeFirst = (s : Setting) (lost : ℕ → Bool) (leaves : Bool) (turns : List Turn) (p : Place) (moment : ℕ)
    → lost (p.sent - 1) ≡ true
    → coming s lost leaves turns (record p { pending = Some moment })
    ≡ event_text (loss_of p.sent moment) ∷ coming s lost leaves turns (record p { pending = None })

-- and where it wasn't, nothing comes of it.
abbrev pub NothingElseIsLost : Type 0
NothingElseIsLost = (s : Setting) (lost : ℕ → Bool) (leaves : Bool) (turns : List Turn) (p : Place) (moment : ℕ)
    → lost (p.sent - 1) ≡ false
    → coming s lost leaves turns (record p { pending = Some moment }) ≡ coming s lost leaves turns (record p { pending = None })

-- ---- what is owed

-- The first of the owed events comes next: one that sends no datagram as it is,
abbrev pub OwedEventsCome : Type 0
OwedEventsCome = (s : Setting) (lost : ℕ → Bool) (leaves : Bool) (turns : List Turn) (n : Node) (sent ticks : ℕ) (e : journal.Event) (owed : List journal.Event)
    → datagram_in e.what ≡ None
    → coming s lost leaves turns (record { node = n; sent = sent; pending = None; owed = e ∷ owed; ticks = ticks })
    ≡ event_text e ∷ coming s lost leaves turns (record { node = n; sent = sent; pending = None; owed = owed; ticks = ticks })

-- the line of a datagram, with its number, whose loss then may come.
abbrev pub sent_as : ℕ → ℕ → ℕ → List ℕ → journal.Event
sent_as sent moment to bytes = record { moment = moment; what = told.Sent (number_of sent) to bytes }

abbrev pub OwedDatagramsCome : Type 0
OwedDatagramsCome = (s : Setting) (lost : ℕ → Bool) (leaves : Bool) (turns : List Turn) (n : Node) (sent ticks moment number to : ℕ) (bytes : List ℕ) (owed : List journal.Event)
    → coming s lost leaves turns (record { node = n; sent = sent; pending = None; owed = (record { moment = moment; what = told.Sent number to bytes }) ∷ owed; ticks = ticks })
    ≡ event_text (sent_as sent moment to bytes) ∷ coming s lost leaves turns (record { node = n; sent = sent + 1; pending = Some moment; owed = owed; ticks = ticks })

-- ---- where nothing is owed

-- The next tick is made, if it can be counted;
abbrev pub TicksAreMade : Type 0
TicksAreMade = (s : Setting) (lost : ℕ → Bool) (leaves : Bool) (turns : List Turn) (n : Node) (sent ticks : ℕ)
    → may_tick s n ≡ true → 0 < ticks
    → coming s lost leaves turns (record { node = n; sent = sent; pending = None; owed = []; ticks = ticks })
    ≡ coming s lost leaves turns (place_of (call_of s n Ticks) sent (ticks - 1))

abbrev pub TicksAreLeftOut : Type 0
TicksAreLeftOut = (s : Setting) (lost : ℕ → Bool) (leaves : Bool) (turns : List Turn) (n : Node) (sent ticks : ℕ)
    → may_tick s n ≡ false → 0 < ticks
    → coming s lost leaves turns (record { node = n; sent = sent; pending = None; owed = []; ticks = ticks })
    ≡ coming s lost leaves turns (record { node = n; sent = sent; pending = None; owed = []; ticks = ticks - 1 })

-- behind the last tick the next turn comes, and what it got is delivered;
abbrev pub TurnsCome : Type 0
TurnsCome = (s : Setting) (lost : ℕ → Bool) (leaves : Bool) (turn : Turn) (turns : List Turn) (n : Node) (sent : ℕ)
    → coming s lost leaves (turn ∷ turns) (record { node = n; sent = sent; pending = None; owed = []; ticks = 0 })
    ≡ turn_text turn ∷ coming s lost leaves turns (place_in s n sent turn.heard turn.ticks)

-- behind the last turn the node leaves, if it is to;
abbrev pub LeavingComes : Type 0
LeavingComes = (s : Setting) (lost : ℕ → Bool) (n : Node) (sent : ℕ)
    → coming s lost true [] (record { node = n; sent = sent; pending = None; owed = []; ticks = 0 }) ≡ coming s lost false [] (place_of (call_of s n Leaves) sent 0)

-- and then the journal ends.
abbrev pub JournalsEnd : Type 0
JournalsEnd = (s : Setting) (lost : ℕ → Bool) (n : Node) (sent : ℕ)
    → coming s lost false [] (record { node = n; sent = sent; pending = None; owed = []; ticks = 0 }) ≡ end_text ∷ []

-- ---- the whole

-- A journal is what is to come where the life has begun, if that sent nothing.
abbrev pub JournalsComeWhole : Type 0
JournalsComeWhole = (s : Setting) (start : Call) (turns : List Turn) (lost : ℕ → Bool) (leaves : Bool)
    → AllByRecursion (λ e. datagram_in e.what ≡ None) start.told
    → journal_over s start turns lost leaves ≡ coming s lost leaves turns (place_of start 0 0)
