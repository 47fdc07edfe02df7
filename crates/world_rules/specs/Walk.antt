-- The one walk over the text of a schedule. What is written, what ends the text, the lives of the nodes and what each
-- key has spent are all read off it.
use Rattle.std.specs.Prelude.{ℕ, ◌+◌, List, [], ◌∷◌, ◌++◌, length, Option, Some, None, Result, Ok, Err, flat_map, codes, decimal, replicate}
use Rattle.ff_ids.specs.declared.Group.{Group}
use Rattle.ff_ids.specs.Heals.{Heal}
use Rattle.lms_ots.specs.declared.OtsKind.TheVariants.{W1}
use Rattle.lms_tree.specs.declared.TreeKind.TheVariants.{H5}
use Rattle.sign_keys.specs.declared.kinds.Kinds.{Kinds}
use Rattle.signer.specs.Lives.{Spent}
use Rattle.journal.specs.Texts.{body_text, event_text}
use Rattle.line_text.specs.declared.bad_word.BadWord.{BadWord}
use Rattle.text_trace.specs.Trace.{Continuation, Trace}
use Rattle.schedule_world.specs.declared.line.WorldLine.TheVariants as lines
use Rattle.schedule_world.specs.declared.line.WorldLine.{WorldLine}
use Rattle.world_rules.specs.Settings.{Owner, Setting}
use Rattle.world_rules.specs.Keys.{setting_for}
use Rattle.world_rules.specs.Worlds.{Life, World, begun_world, lives_of, spent_of}
use Rattle.world_rules.specs.Forgeries.{Forgery}
use Rattle.world_rules.specs.declared.cause.Cause.{Cause}
use Rattle.world_rules.specs.declared.cause.Cause.TheVariants as causes
use Rattle.world_rules.specs.declared.verdict.Verdict.{Verdict}
use Rattle.world_rules.specs.Verdicts.{verdict_text}
use Rattle.world_rules.specs.Steps.{Answer, NodeEvent, step}

-- ## Texts

abbrev pub behind_line : Option Verdict → List ℕ
behind_line None = []
behind_line (Some verdict) = codes " : " ++ verdict_text verdict

-- The node in whose life the event came, and the event.
abbrev pub told_text : NodeEvent → List ℕ
told_text t = codes "@" ++ decimal t.who ++ codes " " ++ event_text t.event

abbrev pub owner_text : Owner → List ℕ
owner_text None = codes "authority"
owner_text (Some m) = decimal m

-- What is forged, as the line that ends an output says it.
abbrev pub forgery_text : Forgery → List ℕ
forgery_text f = owner_text f.who ++ codes " " ++ body_text f.body

-- ## Lines

-- The roster, as far as it was read, with the group, the kinds of keys and whether nodes that lost each other are to come
-- together again; none of these says anything before its line.
pub record Roster : Type 0 where
  pub group : Group
  pub kinds : Kinds
  pub heal : Option Heal
  pub correct : List ℕ
  pub liars : List ℕ

abbrev pub no_roster : Roster
no_roster = record {
  group = record { tag = replicate 16 0; t = 1; timeout = 1; period = 1; misses = 1 };
  kinds = record { ots = W1; tree = H5; bottom = None };
  heal = None;
  correct = [];
  liars = [];
}

-- What has come of a text: its roster, or its world.
pub data Stage : Type 0 where
  Lists : (roster : Roster) → Stage
  Plays : (setting : Setting) (world : World) → Stage

-- What a line brings: what has come of the text, a verdict, and events.
pub record Brought : Type 0 where
  pub stage : Stage
  pub verdict : Option Verdict
  pub told : List NodeEvent

abbrev pub just : Stage → Brought
just stage = record { stage = stage; verdict = None; told = [] }

abbrev pub setting_in : Roster → Setting
setting_in r = setting_for r.group r.kinds r.heal r.correct r.liars

-- A line of the roster. The line `begin` opens the world, by what makes a roster its setting.
abbrev pub listed : (Roster → Setting) → Roster → WorldLine → Stage
listed make r (lines.Group group) = Lists (record r { group = group })
listed make r (lines.Kinds ots tree bottom) = Lists (record r { kinds = record { ots = ots; tree = tree; bottom = bottom } })
listed make r (lines.Heal heal) = Lists (record r { heal = Some heal })
listed make r (lines.Node m) = Lists (record r { correct = r.correct ++ m ∷ [] })
listed make r (lines.Liar m) = Lists (record r { liars = r.liars ++ m ∷ [] })
listed make r lines.Begin = Plays (make r) (begun_world (make r))
listed make r _ = Lists r

abbrev pub stepped : Setting → Result Answer Forgery → Result Brought Forgery
stepped s (Err found) = Err found
stepped s (Ok a) = Ok (record { stage = Plays s a.world; verdict = a.verdict; told = a.told })

abbrev pub brought : (Roster → Setting) → Stage → WorldLine → Result Brought Forgery
brought make (Lists r) line = Ok (just (listed make r line))
brought make (Plays s w) line = stepped s (step s w line)

-- ## The walk

-- A grammar: what a reader of it keeps between lines, at first and behind a line; what a line is, or its bad word; the
-- bad word of a text that ends there; and the one spelling of a line.
pub record Grammar (P : Type 0) : Type 0 where
  pub start : P
  pub behind : P → WorldLine → P
  pub judge : P → List ℕ → Result WorldLine BadWord
  pub end_fault : P → Option BadWord
  pub spelled : WorldLine → List ℕ

-- A line that is taken: what had come of the text before it, the line, and what it brought.
pub record Taken : Type 0 where
  pub before : Stage
  pub line : WorldLine
  pub brought : Brought

-- The lines that are taken, one after another; what has come of the text behind them; and what ends it early, if
-- anything does.
pub record Walk : Type 0 where
  pub taken : List Taken
  pub stage : Stage
  pub cause : Option Cause

abbrev pub ends_with : Stage → Cause → Walk
ends_with stage cause = record { taken = []; stage = stage; cause = Some cause }

abbrev pub at_end : Stage → Option BadWord → Walk
at_end stage None = record { taken = []; stage = stage; cause = None }
at_end stage (Some word) = ends_with stage (causes.Bad word)

abbrev pub onto : Taken → Walk → Walk
onto t w = record { taken = t ∷ w.taken; stage = w.stage; cause = w.cause }

-- A forged line is not taken; after a taken one the walk goes on.
abbrev pub from_answer : Stage → WorldLine → Result Brought Forgery → (Stage → Walk) → Walk
from_answer stage line (Err found) rest = ends_with stage (causes.Forged found.who found.body)
from_answer stage line (Ok b) rest = onto (record { before = stage; line = line; brought = b }) (rest b.stage)

-- A refused line is not taken.
abbrev pub from_line : (Roster → Setting) → Stage → Result WorldLine BadWord → (WorldLine → Stage → Walk) → Walk
from_line make stage (Err word) rest = ends_with stage (causes.Bad word)
from_line make stage (Ok line) rest = from_answer stage line (brought make stage line) (rest line)

-- The walk over the lines of which so much was read before.
abbrev pub walk : {P : Type 0} → Grammar P → (Roster → Setting) → List (List ℕ) → P → Stage → Walk
walk g make [] p stage = at_end stage (g.end_fault p)
walk g make (bytes ∷ rest) p stage =
    from_line make stage (g.judge p bytes) (λ line after. walk g make rest (g.behind p line) after)

abbrev pub walk_over : {P : Type 0} → Grammar P → (Roster → Setting) → List (List ℕ) → Walk
walk_over g make text = walk g make text g.start (Lists no_roster)

-- ## What is read off a walk

-- What is written for a line: its spelling and its verdict, and a line for each event.
abbrev pub taken_text : {P : Type 0} → Grammar P → Taken → List ℕ
taken_text g t = g.spelled t.line ++ behind_line t.brought.verdict ++ 10 ∷ [] ++ flat_map (λ e. told_text e ++ 10 ∷ []) t.brought.told

abbrev pub output_of : {P : Type 0} → Grammar P → List Taken → List ℕ
output_of g taken = flat_map (taken_text g) taken

-- The trace.
abbrev pub trace_in : {P : Type 0} → Grammar P → Walk → Trace Cause
trace_in g w = record { output = output_of g w.taken; cause = w.cause }

-- The line that ends the walk, counted from 1.
abbrev pub last_line : Walk → ℕ
last_line w = length w.taken + 1

-- The events that are reported.
abbrev pub events_in : Walk → List NodeEvent
events_in w = flat_map (λ t. t.brought.told) w.taken

-- The lives of a node, one after another.
abbrev pub lives_at : Stage → ℕ → List Life
lives_at (Lists r) m = []
lives_at (Plays s w) m = lives_of w m

abbrev pub lives_in : Walk → ℕ → List Life
lives_in w m = lives_at w.stage m

-- What a key has spent over all its lives.
abbrev pub spent_at : Stage → Owner → List Spent
spent_at (Lists r) who = []
spent_at (Plays s w) who = spent_of w who

abbrev pub spent_in : Walk → Owner → List Spent
spent_in w who = spent_at w.stage who

-- What is owed for the lines of which so much was read before.
abbrev pub played : {P : Type 0} → Grammar P → (Roster → Setting) → P → Stage → Continuation Cause
played g make p stage = λ text. trace_in g (walk g make text p stage)
