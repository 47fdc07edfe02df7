-- How a run over a text went in which long lines are cut, which no script takes.
use Rattle.std.specs.Prelude.{ℕ, List, Option, Bool, Result}
use Rattle.text_trace.specs.Trace.{Continuation}
use Rattle.play.specs.declared.long_lines.LongLines.TheVariants.{Cut}
use Rattle.play.specs.declared.stop.Stop.{Stop}
use Rattle.play.specs.PlaysBy.{AdvancedBy, ConsumedBy, ContinuesBy, FinishedBy, FollowsBy, IsAdmittedBy, LinesBy, RefusedBy, RunsBy, StarvedBy, StopsBy, StopsRunBy, TurnsBy, UnreadBy, UnwrittenBy}
use Rattle.play.specs.Taking.{IsLastBy}
pub use Rattle.play.specs.PlaysBy.{IoState, Unfailed, has_written, io}
pub use Rattle.play.specs.Taking.{IsUnended, bytes_of}

abbrev pub Lines : ℕ → List (List ℕ) → List ℕ → Type 0
Lines room lines bytes = LinesBy Cut room lines bytes

abbrev pub Advanced : (C : Type 0) → (Continuation C → Type 0) → (Continuation C → Type 0) → ℕ → ℕ → ℕ → ℕ → IoState → IoState → Type 0
Advanced C A B first next room later was now = AdvancedBy Cut C A B first next room later was now

abbrev pub ConsumedLines : (List (List ℕ) → Type 0) → ℕ → ℕ → Option (List ℕ) → Option (List ℕ) → Type 0
ConsumedLines Reaches room later before after = ConsumedBy Cut Reaches room later before after

abbrev pub Finished : (C : Type 0) → (Continuation C → Type 0) → ℕ → IoState → IoState → Type 0
Finished C A room was now = FinishedBy Cut C A room was now

abbrev pub IsLast : Option (List ℕ) → Option (List ℕ) → Type 0
IsLast last left = IsLastBy Cut last left

abbrev pub Refused : (C : Type 0) → (Continuation C → Type 0) → ℕ → ℕ → ℕ → C → IoState → IoState → Type 0
Refused C A room first number cause was now = RefusedBy Cut C A room first number cause was now

abbrev pub Unread : (C : Type 0) → (Continuation C → Type 0) → ℕ → IoState → IoState → Type 0
Unread C A room was now = UnreadBy Cut C A room was now

abbrev pub Follows : (C : Type 0) → (Continuation C → Type 0) → List (List ℕ) → Option (List ℕ) → List ℕ → Type 0
Follows C A lines last text = FollowsBy Cut C A lines last text

abbrev pub Unwritten : (C : Type 0) → (Continuation C → Type 0) → ℕ → IoState → IoState → Type 0
Unwritten C A room was now = UnwrittenBy Cut C A room was now

abbrev pub IsAdmitted : (C : Type 0) → (C → Type 0) → (Continuation C → Type 0) → List (List ℕ) → Option (List ℕ) → Option (List ℕ) → Type 0
IsAdmitted C P A lines last left = IsAdmittedBy Cut C P A lines last left

abbrev pub Starved : (C : Type 0) → (C → Type 0) → (Continuation C → Type 0) → ℕ → IoState → IoState → Type 0
Starved C P A room was now = StarvedBy Cut C P A room was now

abbrev pub Stops : (C : Type 0) → (C → Type 0) → (Continuation C → Type 0) → ℕ → ℕ → IoState → IoState → Stop C → Type 0
Stops C P A first room was now s = StopsBy Cut C P A first room was now s

abbrev pub Continues : (C : Type 0) → (C → Type 0) → (Continuation C → Type 0) → ℕ → ℕ → IoState → IoState → Result (Unit {0}) (Stop C) → Type 0
Continues C P A first room was now result = ContinuesBy Cut C P A first room was now result

abbrev pub StopsRun : (C : Type 0) → (C → Type 0) → (Continuation C → Type 0) → ℕ → IoState → IoState → Stop C → Type 0
StopsRun C P A room was now s = StopsRunBy Cut C P A room was now s

abbrev pub Runs : (C : Type 0) → (C → Type 0) → (Continuation C → Type 0) → ℕ → IoState → IoState → Result (Unit {0}) (Stop C) → Type 0
Runs C P A room was now result = RunsBy Cut C P A room was now result

abbrev pub Turns : (C : Type 0) → (C → Type 0) → (Continuation C → Type 0) → (Continuation C → Type 0) → ℕ → ℕ → ℕ → IoState → IoState → Result Bool (Stop C) → Type 0
Turns C P A B first room later was now result = TurnsBy Cut C P A B first room later was now result
