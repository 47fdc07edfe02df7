-- A line of a world so far: what is kept and what is written of it.
use Rattle.std.specs.Prelude.{◌≡◌, ℕ, ◌<◌, Bool, true, false, not, ◌==◌, if◌then◌else◌, List, [], ◌∷◌, ◌++◌, Option, Some, None, is_some, Result, Ok, Err, IfSome, map}
use Rattle.std.specs.List.{position, slice_get}
use Rattle.std.specs.Option.{option_map, option_map_or}
use Rattle.ff_ids.specs.Masks.{ring_count}
use Rattle.sign_keys.specs.Keys.{index_count}
use Rattle.validate.specs.Certified.{certificate_of}
use Rattle.records.specs.declared.Body.{Body}
use Rattle.records.specs.declared.Body.TheVariants.{Note, Accusation}
use Rattle.fields.specs.declared.NoMemory.{NoMemory}
use Rattle.node_core.specs.Told.{IsPrefix}
use Rattle.node_rules.specs.Lives.{Leaves}
use Rattle.world_rules.specs.Settings.{Setting, is_liar, is_node}
use Rattle.schedule_world.specs.declared.line.WorldLine.TheVariants as lines
use Rattle.schedule_world.specs.declared.line.WorldLine.{WorldLine}
use Rattle.journal.specs.declared.event.What.TheVariants as happened
use Rattle.world_rules.specs.Worlds.{World as ModelWorld, is_running, named_so, next_of_liar, running}
use Rattle.world_rules.specs.Forgeries.{Forgery}
use Rattle.world_rules.specs.declared.verdict.RefusalReason.{RefusalReason}
use Rattle.world_rules.specs.declared.verdict.RefusalReason.TheVariants as whys
use Rattle.world_rules.specs.declared.verdict.Verdict.TheVariants as verdicts
use Rattle.world_rules.specs.Refusals.{asks_for_unknown, holds_of, key_named, newest_signed, noted_named, starter_named}
use Rattle.world_rules.specs.Steps.{Answer, Execution, NodeEvent, and_then, arms, begun, calls, does, epoch_meant, flows, flows_one, gives, gives_each, hands, hands_sent, lies, moment_of, quiet, starts, starts_in_vain, stops, ticks}
use Rattle.world_rules.specs.Walk.{behind_line}
use Rattle.world.specs.declared.fault.WorldFault.{WorldFault}
use Rattle.world.specs.declared.fault.WorldFault.TheVariants as faults
use Rattle.journal.specs.declared.event.Event as journal
use Rattle.world.specs.Telling.{call_lines, told_lines}
use Rattle.world.specs.Holding.{Kept, Holds, numbers}

-- The host at this place is the member's.
abbrev pub IsPlace : Kept → ℕ → ℕ → Type 0
IsPlace v at m = slice_get (numbers v) at ≡ Some m

-- The member is a node, and has its host there; or it is none.
abbrev pub IsNodePlace : Setting → Kept → ℕ → Option ℕ → Type 0
IsNodePlace s v m None = is_node s m ≡ false
IsNodePlace s v m (Some at) = (is_node s m ≡ true) × IsPlace v at m

-- The same of liars.
abbrev pub IsLiarPlace : Setting → Kept → ℕ → Option ℕ → Type 0
IsLiarPlace s v m None = is_liar s m ≡ false
IsLiarPlace s v m (Some at) = (is_liar s m ≡ true) × (slice_get (map (λ x. x.member) v.liars) at ≡ Some m)

-- ---- courses

-- What is kept stands for the line so far, and behind `base` the events that it has brought are written.
pub record At (s : Setting) (before : List NodeEvent) (base : List ℕ) (v : Kept) (out : List ℕ) (c : Execution) : Type 0 where
  pub holds : Holds s c.world (before ++ c.told) v
  pub written : out ≡ base ++ told_lines c.told

-- A part of a line went as it is meant; or what is forged in it is named; or memory was refused. What was written stays.
abbrev pub Goes : Setting → List NodeEvent → List ℕ → Kept → List ℕ → Result Execution Forgery → Result (Unit {0}) WorldFault → Type 0
Goes s before base v out r (Ok done) = (c : Execution) × (r ≡ Ok c) × At s before base v out c
Goes s before base v out r (Err (faults.Forged who body)) = (r ≡ Err (record { who = who; body = body })) × IsPrefix base out
Goes s before base v out r (Err faults.OutOfMemory) = IsPrefix base out

-- ---- parts of lines

-- These lines were written; or memory was refused, and what was written stays.
abbrev pub WritesLines : List ℕ → List ℕ → List ℕ → Result (Unit {0}) NoMemory → Type 0
WritesLines old new lines (Ok done) = new ≡ old ++ lines
WritesLines old new lines (Err refused) = IsPrefix old new

-- The same of a part that answers for a world.
abbrev pub WritesText : List ℕ → List ℕ → List ℕ → Result (Unit {0}) WorldFault → Type 0
WritesText old new text (Ok done) = new ≡ old ++ text
WritesText old new text (Err (faults.Forged who body)) = ⊥
WritesText old new text (Err faults.OutOfMemory) = IsPrefix old new

-- What is written for a life that began.
abbrev pub began_text : ℕ → ℕ → ℕ → List journal.Event → List ℕ
began_text life m sent events = behind_line (Some (verdicts.Began life)) ++ 10 ∷ [] ++ call_lines m sent events

-- Nothing of it is forged; or what is forged is named; or memory was refused.
abbrev pub Tests : Setting → ModelWorld → List NodeEvent → Kept → Option Forgery → Result (Unit {0}) WorldFault → Type 0
Tests s w told v found (Ok done) = (found ≡ None) × Holds s w told v
Tests s w told v found (Err (faults.Forged who body)) = found ≡ Some (record { who = who; body = body })
Tests s w told v found (Err faults.OutOfMemory) = Unit {0}

-- That the node was handed the datagram with this number.
abbrev pub got_by : Setting → ModelWorld → ℕ → ℕ → NodeEvent
got_by s w m number = record { who = m; event = record { moment = moment_of s m (w.hosts m).current; what = happened.Got number } }

-- The member runs, and has its host there; or it doesn't run.
abbrev pub IsRunner : Kept → ModelWorld → ℕ → Option ℕ → Type 0
IsRunner v w m None = is_running w m ≡ false
IsRunner v w m (Some at) = (is_running w m ≡ true) × IsPlace v at m

-- A datagram was taken and handed over; or none is left, and nothing was done.
abbrev pub FlowsOne : Setting → List NodeEvent → List ℕ → Kept → List ℕ → Execution → Option (ℕ × List ℕ) → Result Bool WorldFault → Type 0
FlowsOne s before base v out c d (Ok true) = (next : ℕ × List ℕ) × (d ≡ Some next) × Goes s before base v out (flows_one s next c) (Ok tt)
FlowsOne s before base v out c d (Ok false) = (d ≡ None) × At s before base v out c
FlowsOne s before base v out c d (Err fault) = (next : ℕ × List ℕ) × (d ≡ Some next) × Goes s before base v out (flows_one s next c) (Err fault)

-- The bytes are handed over, if the node is to have them.
abbrev pub hands_if : Setting → ℕ → Bool → List ℕ → Execution → Result Execution Forgery
hands_if s m true bytes c = hands s m bytes c
hands_if s m false bytes c = Ok c

-- Each of the nodes is handed the bytes that runs when its turn comes.
abbrev pub hands_each : Setting → List ℕ → List ℕ → Execution → Result Execution Forgery
hands_each s [] bytes c = Ok c
hands_each s (m ∷ ms) bytes c = and_then (hands_if s m (is_running c.world m) bytes c) (hands_each s ms bytes)

-- What a line does that brings no verdict of its own.
abbrev pub course_of : Setting → WorldLine → Execution → Result Execution Forgery
course_of s (lines.Stop m outcome) c = Ok (record c { world = stops m c.world })
course_of s (lines.Arm m calls outcome) c = Ok (record c { world = arms m (record { calls = calls; outcome = outcome }) c.world })
course_of s (lines.Tick m n) c = Ok (ticks s m n c)
course_of s (lines.Leave m) c = Ok (calls s m Leaves c)
course_of s (lines.Deliver number m) c = hands_sent s m number (slice_get c.world.sent number) c
course_of s (lines.Raw m bytes) c = hands s m bytes c
course_of s (lines.Give name m) c = gives s m (named_so c.world name) c
course_of s (lines.Flow most) c = flows s most c
course_of s (lines.GiveAll name) c = gives_each s (running s c.world) (named_so c.world name) c
course_of s line c = Ok c

-- ---- answers

-- What stands behind the line: its verdict, and a line for each event.
abbrev pub behind_text : Answer → List ℕ
behind_text a = behind_line a.verdict ++ 10 ∷ [] ++ told_lines a.told

-- This answer was written behind the line, and what is kept stands for the world that it brings.
pub record Replied (s : Setting) (before : List NodeEvent) (v : Kept) (old new : List ℕ) (a : Answer) : Type 0 where
  pub holds : Holds s a.world (before ++ a.told) v
  pub written : new ≡ old ++ behind_text a

-- A line, whose own text is written, was answered as it is meant; or what is forged in it is named; or memory was refused.
abbrev pub Replies : Setting → List NodeEvent → Kept → List ℕ → List ℕ → Result Answer Forgery → Result (Unit {0}) WorldFault → Type 0
Replies s before v old new r (Ok done) = (a : Answer) × (r ≡ Ok a) × Replied s before v old new a
Replies s before v old new r (Err (faults.Forged who body)) = (r ≡ Err (record { who = who; body = body })) × IsPrefix old new
Replies s before v old new r (Err faults.OutOfMemory) = IsPrefix old new

-- The start of a life, or that the key is used up, which is seen once the store is open.
abbrev pub starts_if_left : Setting → ℕ → ModelWorld → Answer
starts_if_left s m w =
    let first = (w.hosts m).disk.state.next in
    if first == s.indexes then starts_in_vain m first w else starts s m w

-- Why a line can't be done, as far as it is seen before a store is opened.
abbrev pub before_opening : WorldLine → Option RefusalReason → Option RefusalReason
before_opening (lines.Start m) (Some (whys.UsedUp first)) = None
before_opening line why = why

-- The next index of a liar's key, if it is used up.
abbrev pub key_used_up : Setting → ModelWorld → ℕ → Option ℕ
key_used_up s w key = if next_of_liar w key == s.indexes then Some (next_of_liar w key) else None

-- The last rows of the table, but for a node's key that is used up.
abbrev pub last_rows : Setting → ModelWorld → WorldLine → List (Bool × RefusalReason)
last_rows s w line =
    (holds_of (λ m. not (is_some (newest_signed w m))) (noted_named line), whys.NoNote)
    ∷ (holds_of (λ key. next_of_liar w key == s.indexes) (key_named line), whys.UsedUp (option_map_or (next_of_liar w) (key_named line) 0))
    ∷ (asks_for_unknown w line, whys.UnknownMember)
    ∷ []

-- What a line does that can be done; but whether a key is used up is seen once the store is open.
abbrev pub does_or_opens : Setting → ModelWorld → WorldLine → Result Answer Forgery
does_or_opens s w (lines.Start m) = Ok (starts_if_left s m w)
does_or_opens s w line = does s w line

-- The node that is to start doesn't run.
abbrev pub CanStart : ModelWorld → WorldLine → Type 0
CanStart w line = IfSome (starter_named line) (λ m. is_running w m ≡ false)

-- The owner of the key that is to sign is a liar.
abbrev pub NamesLiar : Setting → WorldLine → Type 0
NamesLiar s line = IfSome (key_named line) (λ key. is_liar s key ≡ true)

-- The body that a line has a liar sign.
abbrev pub body_in : ModelWorld → WorldLine → Option Body
body_in w (lines.SignNote key note name) = Some (Note note)
body_in w (lines.SignAccusation key accuser accused epoch ring name) =
    option_map (λ e. Accusation (record { accuser = accuser; accused = accused; epoch = e; ring = ring })) (epoch_meant w accused epoch)
body_in w line = None

abbrev pub signs : Setting → ℕ → List ℕ → ModelWorld → Option Body → Answer
signs s key name w None = quiet (begun w)
signs s key name w (Some body) = lies s key body name w

-- ---- liars that are to sign

-- Where the liar is.
abbrev pub liar_place_of : Kept → ℕ → Option ℕ
liar_place_of v m = position (λ x. x.member == m) v.liars

-- The key of the liar there, if there is one, has an index left.
abbrev pub HasLeafAt : Kept → Option ℕ → Type 0
HasLeafAt v None = Unit {0}
HasLeafAt v (Some at) = IfSome (slice_get v.liars at) (λ x. (x.key.next == index_count x.key.key) ≡ false)

-- The liar whose key is to sign has a leaf left.
abbrev pub CanSign : Kept → WorldLine → Type 0
CanSign v line = IfSome (key_named line) (λ key. HasLeafAt v (liar_place_of v key))

-- ---- questions

-- The ring that a line asks about is one of the group's.
abbrev pub HasItsRing : Kept → WorldLine → Type 0
HasItsRing v (lines.Monitor m ring of) = ring.0 < ring_count v.authority.group.t
HasItsRing v line = Unit {0}

-- Where the member has its host.
abbrev pub place_of : Kept → ℕ → Option ℕ
place_of v m = position (λ x. x.member == m) v.hosts

-- The node there, if one runs, has the certificate of this member.
abbrev pub KnowsAt : Kept → ℕ → Option ℕ → Type 0
KnowsAt v of None = Unit {0}
KnowsAt v of (Some at) = IfSome (slice_get v.hosts at) (λ x. IfSome x.node (λ n. is_some (certificate_of n.roster of) ≡ true))

-- The node that is asked, if it runs, has the certificate of the member that it is asked about.
abbrev pub CanTell : Kept → WorldLine → Type 0
CanTell v (lines.Monitor m ring of) = KnowsAt v of (place_of v m)
CanTell v line = Unit {0}

-- The same of the node there.
abbrev pub CanTellAt : Kept → ℕ → WorldLine → Type 0
CanTellAt v at (lines.Monitor m ring of) = KnowsAt v of (Some at)
CanTellAt v at line = Unit {0}
