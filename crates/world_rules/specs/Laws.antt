-- What holds in each world that lines lead to, none of which is forged.
use Rattle.std.specs.Prelude.{◌≡◌, ℕ, ◌<◌, ◌≤◌, Bool, true, false, ◌&&◌, ◌==◌, List, [], ◌++◌, Option, Some, Ok, filter, flat_map, map}
use Rattle.std.specs.List.{AllByRecursion}
use Rattle.ff_ids.specs.declared.TheConstants.{MEMBERS, MAX_TOLERANCE}
use Rattle.ff_ids.specs.Lives.{opening, IsJustified}
use Rattle.signer.specs.Lives.{IsOnce}
use Rattle.node_rules.specs.Nodes as node
use Rattle.node_rules.specs.OnDisks.{Input, called}
use Rattle.node_rules.specs.Lives.{is_of_life, told_by}
use Rattle.schedule_world.specs.declared.line.WorldLine.{WorldLine}
use Rattle.world_rules.specs.Settings.{Setting, is_node, is_liar}
use Rattle.world_rules.specs.Disks.{Disk}
use Rattle.world_rules.specs.Calls.{called_on}
use Rattle.world_rules.specs.Worlds.{World, begun_world, lives_of, spent_of}
use Rattle.world_rules.specs.Steps.{Answer, NodeEvent, step}

-- Lines, none of which is forged, lead to the world, and these events were reported on the way.
pub data Reached (s : Setting) : World → List NodeEvent → Type 0 where
  opens_so : Reached s (begun_world s) []
  goes : (w : World) (told : List NodeEvent) (line : WorldLine) (a : Answer) → Reached s w told → step s w line ≡ Ok a → Reached s a.world (told ++ a.told)

-- The group has at least three rings, and at most `MAX_RINGS`; each node's number is a member's; and nobody is both a node and a
-- liar.
pub record IsSetting (s : Setting) : Type 0 where
  pub some : 1 ≤ s.group.t
  pub few : s.group.t ≤ MAX_TOLERANCE
  pub numbered : (m : ℕ) → is_node s m ≡ true → m < MEMBERS
  pub apart : (m : ℕ) → is_node s m ≡ true → is_liar s m ≡ false

-- ---- how far a call comes

-- A call over a disk is the node's call in which one put fails, or none.
abbrev pub CallsComeSoFar : Type 0
CallsComeSoFar = (s : node.Setting) (n : node.Node) (i : Input) (d : Disk) → (fails_at : Option ℕ) × ((called_on s n i d).call ≡ called s n i fails_at)

-- ---- lives

-- The event is about the view of this node, or of an accusation there.
abbrev pub tells_life : ℕ → NodeEvent → Bool
tells_life m t = (t.who == m) && is_of_life t.event.what

-- What was reported of the views of a node is what its lives report, one after another; and each removal in a life has a note by
-- which the member left for its cause, or rests on an accusation that stood for the timeout, by the node's monitor of the member.
pub record TellsLives (s : Setting) (w : World) (told : List NodeEvent) (m : ℕ) : Type 0 where
  pub told_so : map (λ t. t.event) (filter (tells_life m) told) ≡ flat_map (λ life. told_by s.group (opening []) life.node.lived) (lives_of w m)
  pub justified : AllByRecursion (λ life. IsJustified s.group (opening []) life.node.lived) (lives_of w m)

-- In each world that lines lead to, each removal in each life has such a cause, and what nodes report of the view is what their
-- lives report.
abbrev pub EachRemovalIsJustified : Type 0
EachRemovalIsJustified = (s : Setting) (w : World) (told : List NodeEvent) (m : ℕ) → Reached s w told → TellsLives s w told m

-- ---- what is spent

-- Over all lives of a node the indexes that its key spends rise, and so do the epochs of its notes.
abbrev pub NodesSpendOnce : Type 0
NodesSpendOnce = (s : Setting) (w : World) (told : List NodeEvent) (m : ℕ) → IsSetting s → Reached s w told → is_node s m ≡ true → IsOnce (spent_of w (Some m))
