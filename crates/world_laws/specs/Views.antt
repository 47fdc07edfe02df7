-- What the views of lives have in common that accept the same notes, and in which the same accusations expire, and what a question
-- for a view is answered.
use Rattle.std.specs.Prelude.{◌≡◌, ℕ, List, [], Contains, Some, None}
use Rattle.std.specs.List.{AllByRecursion}
use Rattle.ff_ids.specs.Lives.{opening}
use Rattle.ff_ids.specs.Views.{view}
use Rattle.life_laws.specs.Sameness.{HaveSameRecords}
use Rattle.node_rules.specs.Nodes.{state_of}
use Rattle.schedule_world.specs.declared.line.WorldLine.TheVariants as lines
use Rattle.world_rules.specs.Settings.{Setting, setting_of}
use Rattle.world_rules.specs.Worlds.{Life, World, lives_of}
use Rattle.world_rules.specs.declared.verdict.Verdict.TheVariants.{Sees}
use Rattle.world_rules.specs.Walk.{Lists, Plays, Stage, Taken}

-- What this life of the node has in view.
abbrev pub view_in : Setting → ℕ → Life → List ℕ
view_in s m life = view (state_of (setting_of s m) life.node)

-- The two lives accept the same notes, and the same accusations expire in them, whatever their order and repeats.
abbrev pub AreAlike : Setting → Life → Life → Type 0
AreAlike s one other =
    HaveSameRecords s.group (opening []) (opening []) one.node.lived other.node.lived

-- Two lives of nodes of this world that are alike have the same view, whosever they are.
abbrev pub HaveOneView : Setting → World → Type 0
HaveOneView s w = (m k : ℕ) (one other : Life) → Contains (lives_of w m) one
    → Contains (lives_of w k) other → AreAlike s one other
    → view_in s m one ≡ view_in s k other

-- So it is in all worlds.
abbrev pub EqualRecordsGiveOneView : Type 0
EqualRecordsGiveOneView = (s : Setting) (w : World) → HaveOneView s w

-- ---- questions

-- The line asks for the view of a node, and these members are what the life has in view that the node lives then.
pub record SeesView (s : Setting) (t : Taken) (members : List ℕ) : Type 0 where
  pub world : World
  pub who : ℕ
  pub life : Life
  pub before : t.before ≡ Plays s world
  pub asked : t.line ≡ lines.View who
  pub runs : (world.hosts who).current ≡ Some life
  pub seen : members ≡ view_in s who life

-- Whichever of the lines is answered by members asks for a view, and is answered by it. Two of them are answered alike where the
-- lives are alike that run as they are asked.
pub record AnswersViews (s : Setting) (taken : List Taken) : Type 0 where
  pub seen : (t : Taken) (members : List ℕ) → Contains taken t
      → t.brought.verdict ≡ Some (Sees members) → SeesView s t members
  pub one_answer : (t u : Taken) (members others : List ℕ) → (one : SeesView s t members)
      → (other : SeesView s u others) → AreAlike s one.life other.life → members ≡ others

-- A roster answers nothing.
abbrev pub AnswersViewsAt : Stage → List Taken → Type 0
AnswersViewsAt (Lists roster) taken = AllByRecursion (λ t. t.brought.verdict ≡ None) taken
AnswersViewsAt (Plays s w) taken = AnswersViews s taken
