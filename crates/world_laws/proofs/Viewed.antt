-- Lives with the same records have one view, and a question for a view is answered by it.
use Rattle.std.proofs.Common.{◌≡◌, ℕ, Bool, true, false, cond, List, [], ◌∷◌, Option, Some, None, inl, inr, refl, ap, sym, ◌∙◌, subst}
use Rattle.std.specs.Prelude.{Result, Ok, Err}
use Rattle.std.specs.List.{AllByRecursion}
use Rattle.ff_ids.specs.declared.RingNo.{RingNo}
use Rattle.life_laws.proofs.Lists.{In, In-from_Contains}
use Rattle.life_laws.proofs.SameLemmas.{one-view}
use Rattle.line_text.specs.declared.bad_word.BadWord.{BadWord}
use Rattle.node_rules.specs.Nodes.{state_of}
use Rattle.schedule_world.specs.declared.line.WorldLine.{WorldLine}
use Rattle.schedule_world.specs.declared.line.WorldLine.TheVariants as lines
use Rattle.world_rules.specs.Settings.{Setting}
use Rattle.world_rules.specs.Disks.{lets_pass, opening_calls, put_passes}
use Rattle.world_rules.specs.Worlds.{Host, Life, World, with_host}
use Rattle.world_rules.specs.Forgeries.{Forgery}
use Rattle.world_rules.specs.Refusals.{why_not}
use Rattle.world_rules.specs.Steps.{Answer, Execution, accuses_at, answered, begins, does, epoch_meant, first_call, monitored, of_life, opens, refuses, says, starts, starts_in_vain, step, step_by, viewed}
use Rattle.world_rules.specs.declared.verdict.RefusalReason.{RefusalReason}
use Rattle.world_rules.specs.declared.verdict.RefusalReason.TheVariants as whys
use Rattle.world_rules.specs.declared.verdict.Verdict.{Verdict}
use Rattle.world_rules.specs.declared.verdict.Verdict.TheVariants as verdicts
use Rattle.world_rules.specs.Walk.{Grammar, Lists, Plays, Roster, Stage, Taken, Walk, at_end, from_answer, from_line, listed, no_roster, setting_in, stepped, walk, walk_over}
use Rattle.world_laws.specs.Texts.{TextsAnswerViews, world_grammar}
use Rattle.world_laws.specs.Views.{AnswersViewsAt, AreAlike, EqualRecordsGiveOneView, SeesView, view_in}

-- ---- lives

alike-view : (s : Setting) (m k : ℕ) (one other : Life) → AreAlike s one other → view_in s m one ≡ view_in s k other
unfolding state_of
alike-view s m k one other h = one-view s.group [] [] one.node.lived other.node.lived h

pub equal-records : EqualRecordsGiveOneView
equal-records s w m k one other i j h = alike-view s m k one other h

-- ---- a line

-- The line asks for the view of a node, and these are what the life has in view that the node lives then.
record LineSees (s : Setting) (w : World) (line : WorldLine) (members : List ℕ) : Type 0 where
  who : ℕ
  life : Life
  asked : line ≡ lines.View who
  runs : (w.hosts who).current ≡ Some life
  seen : members ≡ view_in s who life

-- What the answer of a line says of a view, if it says that.
abbrev SaysView : Setting → World → WorldLine → Option Verdict → Type 0
SaysView s w line verdict = (members : List ℕ) → verdict ≡ Some (verdicts.Sees members) → LineSees s w line members

says-none : (s : Setting) (w : World) (line : WorldLine) → SaysView s w line None
says-none s w line members e = cc

says-refused : (s : Setting) (w : World) (line : WorldLine) (why : RefusalReason) → SaysView s w line (Some (verdicts.Refused why))
says-refused s w line why members e = cc

says-stopped : (s : Setting) (w : World) (line : WorldLine) → SaysView s w line (Some verdicts.DiskStopped)
says-stopped s w line members e = cc

says-began : (s : Setting) (w : World) (line : WorldLine) (life : ℕ) → SaysView s w line (Some (verdicts.Began life))
says-began s w line life members e = cc

says-spends : (s : Setting) (w : World) (line : WorldLine) (index : ℕ) → SaysView s w line (Some (verdicts.Spends index))
says-spends s w line index members e = cc

says-monitor : (s : Setting) (w : World) (line : WorldLine) (monitor : Option ℕ) → SaysView s w line (Some (verdicts.MonitoredBy monitor))
says-monitor s w line monitor members e = cc

says-either : (s : Setting) (w : World) (line : WorldLine) (b : Bool) (x y : Answer) → SaysView s w line x.verdict → SaysView s w line y.verdict → SaysView s w line (cond b x y).verdict
says-either s w line true x y h k = h
says-either s w line false x y h k = k

says-opens : (s : Setting) (w : World) (line : WorldLine) (m : ℕ) (rest : Host → Answer) → ((host : Host) → SaysView s w line (rest host).verdict) → SaysView s w line (opens m (w.hosts m) rest w).verdict
says-opens s w line m rest h = says-either s w line (lets_pass (w.hosts m).disk.armed (opening_calls (w.hosts m).disk)) _ _ (h _) (says-stopped s w line)

says-starts : (s : Setting) (w : World) (line : WorldLine) (m : ℕ) → SaysView s w line (starts s m w).verdict
unfolding starts
says-starts s w line m =
    says-opens s w line m (λ opened. begins s m opened (first_call s m (w.hosts m).disk.state) w)
    (λ host. says-either s w line (put_passes host.disk) _ _ (says-began s w line _) (says-stopped s w line))

says-in_vain : (s : Setting) (w : World) (line : WorldLine) (m first : ℕ) → SaysView s w line (starts_in_vain m first w).verdict
unfolding starts_in_vain
says-in_vain s w line m first = says-opens s w line m (λ opened. says (verdicts.Refused (whys.UsedUp first)) (with_host m opened w)) (λ host. says-refused s w line (whys.UsedUp first))

says-refuses : (s : Setting) (w : World) (line : WorldLine) (why : RefusalReason) → SaysView s w line (refuses w line why).verdict
says-refuses s w (lines.Start m) (whys.UsedUp first) = says-in_vain s w (lines.Start m) m first
says-refuses s w (lines.Start m) why = says-refused s w (lines.Start m) why
says-refuses s w line why = says-refused s w line why

-- Of what a line brings that isn't forged P holds.
abbrev OnAnswer : (Answer → Type 0) → Result Answer Forgery → Type 0
OnAnswer P (Ok a) = P a
OnAnswer P (Err found) = Unit {0}

abbrev Views : Setting → World → WorldLine → Result Answer Forgery → Type 0
Views s w line r = OnAnswer (λ a. SaysView s w line a.verdict) r

views-answered : (s : Setting) (w : World) (line : WorldLine) (r : Result Execution Forgery) → Views s w line (answered r)
views-answered s w line (Ok c) = says-none s w line
views-answered s w line (Err found) = tt

says-accuses : (s : Setting) (w : World) (line : WorldLine) (key accuser accused : ℕ) (ring : RingNo) (name : List ℕ) (epoch : Option ℕ) → SaysView s w line (accuses_at s key accuser accused ring name w epoch).verdict
says-accuses s w line key accuser accused ring name None = says-none s w line
says-accuses s w line key accuser accused ring name (Some epoch) = says-spends s w line _

says-monitored : (s : Setting) (w : World) (line : WorldLine) (m ring of : ℕ) (current : Option Life) → SaysView s w line (of_life s m current (monitored ring of) w).verdict
says-monitored s w line m ring of None = says-none s w line
says-monitored s w line m ring of (Some life) = says-monitor s w line _

says-viewed : (s : Setting) (w : World) (m : ℕ) (current : Option Life) → (w.hosts m).current ≡ current → SaysView s w (lines.View m) (of_life s m current viewed w).verdict
says-viewed s w m None is = says-none s w (lines.View m)
says-viewed s w m (Some life) is = λ members e. record { who = m; life = life; asked = refl; runs = is; seen = sym (same (view_in s m life) members e) }
  where
    same : (xs ys : List ℕ) → (let v : Option Verdict = Some (verdicts.Sees xs) in v) ≡ Some (verdicts.Sees ys) → xs ≡ ys
    same xs ys e = cc

views-does : (s : Setting) (w : World) (line : WorldLine) → Views s w line (does s w line)
views-does s w (lines.Start m) = says-starts s w (lines.Start m) m
views-does s w (lines.Deliver number m) = views-answered s w (lines.Deliver number m) _
views-does s w (lines.Flow most) = views-answered s w (lines.Flow most) _
views-does s w (lines.Raw m bytes) = views-answered s w (lines.Raw m bytes) _
views-does s w (lines.SignNote key note name) = says-spends s w (lines.SignNote key note name) _
views-does s w (lines.SignAccusation key accuser accused epoch ring name) = says-accuses s w (lines.SignAccusation key accuser accused epoch ring name) key accuser accused ring name (epoch_meant w accused epoch)
views-does s w (lines.Give name m) = views-answered s w (lines.Give name m) _
views-does s w (lines.GiveAll name) = views-answered s w (lines.GiveAll name) _
views-does s w (lines.View m) = says-viewed s w m (w.hosts m).current refl
views-does s w (lines.Monitor m ring of) = says-monitored s w (lines.Monitor m ring of) m ring.0 of (w.hosts m).current
views-does s w line = says-none s w line

views-step : (s : Setting) (w : World) (line : WorldLine) → Views s w line (step s w line)
unfolding step
views-step s w line = by (why_not s w line)
  where
    by : (why : Option RefusalReason) → Views s w line (step_by s w line why)
    by (Some why) = says-refuses s w line why
    by None = views-does s w line

-- ---- the walk

-- Whichever of the lines is answered by members asks for a view, and is answered by it.
abbrev AreSeen : Setting → List Taken → Type 0
AreSeen s taken = (t : Taken) (members : List ℕ) → In taken t → t.brought.verdict ≡ Some (verdicts.Sees members) → SeesView s t members

-- The world that the walk comes to has this setting.
record Played (s : Setting) (w : Walk) : Type 0 where
  world : World
  is : w.stage ≡ Plays s world
  seen : AreSeen s w.taken

none-taken : (s : Setting) → AreSeen s []
none-taken s t members i e = absurd i

played-end : (s : Setting) (w : World) (fault : Option BadWord) → Played s (at_end (Plays s w) fault)
played-end s w None = record { world = w; is = refl; seen = none-taken s }
played-end s w (Some bad) = record { world = w; is = refl; seen = none-taken s }

taken-seen : (s : Setting) (w : World) (line : WorldLine) (a : Answer) (t : Taken) (members : List ℕ) → SaysView s w line a.verdict → t.before ≡ Plays s w → t.line ≡ line → t.brought.verdict ≡ a.verdict → t.brought.verdict ≡ Some (verdicts.Sees members) → SeesView s t members
taken-seen s w line a t members h before is same e =
    let x = h members (sym same ∙ e) in
    record { world = w; who = x.who; life = x.life; before = before; asked = is ∙ x.asked; runs = x.runs; seen = x.seen }

played-answer : {P : Type 0} (g : Grammar P) (make : Roster → Setting) (s : Setting) (w : World) (line : WorldLine) (rest : Stage → Walk) (r : Result Answer Forgery) → Views s w line r → ((next : World) → Played s (rest (Plays s next))) → Played s (from_answer (Plays s w) line (stepped s r) rest)
played-answer g make s w line rest (Err found) h later = record { world = w; is = refl; seen = none-taken s }
played-answer g make s w line rest (Ok a) h later =
    let p = later a.world in
    record {
      world = p.world;
      is = p.is;
      seen = λ t members i e. elim i [
        | inl here ↦ taken-seen s w line a t members h (sym (ap (λ (x : Taken). x.before) here)) (sym (ap (λ (x : Taken). x.line) here)) (sym (ap (λ (x : Taken). x.brought.verdict) here)) e
        | inr behind ↦ p.seen t members behind e
      ];
    }

played-walk : {P : Type 0} (g : Grammar P) (make : Roster → Setting) (text : List (List ℕ)) (p : P) (s : Setting) (w : World) → Played s (walk g make text p (Plays s w))
played-walk g make [] p s w = played-end s w (g.end_fault p)
played-walk g make (bytes ∷ rest) p s w = by (played-walk g make rest) (g.judge p bytes)
  where
    by : ((p : _) (s : Setting) (w : World) → Played s (walk g make rest p (Plays s w))) → (read : Result WorldLine BadWord) → Played s (from_line make (Plays s w) read (λ line after. walk g make rest (g.behind p line) after))
    by later (Err bad) = record { world = w; is = refl; seen = none-taken s }
    by later (Ok line) = played-answer g make s w line (λ after. walk g make rest (g.behind p line) after) (step s w line) (views-step s w line) (λ next. later (g.behind p line) s next)

-- ---- the roster

abbrev AllSeen : Stage → List Taken → Type 0
AllSeen (Lists roster) taken = AllByRecursion (λ t. t.brought.verdict ≡ None) taken
AllSeen (Plays s w) taken = AreSeen s taken

all-played : (s : Setting) (stage : Stage) (world : World) (taken : List Taken) → stage ≡ Plays s world → AreSeen s taken → AllSeen stage taken
all-played s stage world taken is seen = subst (λ (x : Stage). AllSeen x taken) (sym is) seen

silent-onto : (stage : Stage) (t : Taken) (taken : List Taken) → t.brought.verdict ≡ None → AllSeen stage taken → AllSeen stage (t ∷ taken)
silent-onto (Lists roster) t taken none h = (none, h)
silent-onto (Plays s w) t taken none h = λ u members i e. elim i [
  | inl here ↦ absurd (never u.brought.verdict members (sym (ap (λ (x : Taken). x.brought.verdict) here) ∙ none) e)
  | inr behind ↦ h u members behind e
]
  where
    never : (o : Option Verdict) (members : List ℕ) → o ≡ None → o ≡ Some (verdicts.Sees members) → ⊥
    never o members a b = cc

listed-end : (r : Roster) (fault : Option BadWord) → let w = at_end (Lists r) fault in AllSeen w.stage w.taken
listed-end r None = tt
listed-end r (Some bad) = tt

listed-walk : {P : Type 0} (g : Grammar P) (make : Roster → Setting) (text : List (List ℕ)) (p : P) (stage : Stage) → let w = walk g make text p stage in AllSeen w.stage w.taken
listed-walk g make text p (Plays s w) = let h = played-walk g make text p s w in all-played s (walk g make text p (Plays s w)).stage h.world (walk g make text p (Plays s w)).taken h.is h.seen
listed-walk g make [] p (Lists r) = listed-end r (g.end_fault p)
listed-walk g make (bytes ∷ rest) p (Lists r) = by (listed-walk g make rest) (g.judge p bytes)
  where
    by : ((p : _) (stage : Stage) → let w = walk g make rest p stage in AllSeen w.stage w.taken) → (read : Result WorldLine BadWord)
        → let w = from_line make (Lists r) read (λ line after. walk g make rest (g.behind p line) after) in AllSeen w.stage w.taken
    by later (Err bad) = tt
    by later (Ok line) =
        let next = listed make r line in
        let w = walk g make rest (g.behind p line) next in
        silent-onto w.stage (record { before = Lists r; line = line; brought = record { stage = next; verdict = None; told = [] } }) w.taken refl (later (g.behind p line) next)

all-answered : (stage : Stage) (taken : List Taken) → AllSeen stage taken → AnswersViewsAt stage taken
all-answered (Lists roster) taken h = h
all-answered (Plays s w) taken h =
    record {
      seen = λ t members i e. h t members (In-from_Contains _ _ i) e;
      one_answer = λ t u members others one other alike. one.seen ∙ alike-view s one.who other.who one.life other.life alike ∙ sym other.seen;
    }

pub texts-answer : TextsAnswerViews
texts-answer spelled text =
    let w = walk_over (world_grammar spelled) setting_in text in
    all-answered w.stage w.taken (listed-walk (world_grammar spelled) setting_in text (world_grammar spelled).start (Lists no_roster))
