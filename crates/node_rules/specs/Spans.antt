-- Spans of one timeout: how far the epoch of a node's note rises in one.
use Rattle.std.specs.Prelude.{◌≡◌, ℕ, ◌+◌, ◌<◌, ◌≤◌, Bool, false, ◌&&◌, ◌==◌, List, Some}
use Rattle.std.specs.List.{list_any}
use Rattle.ff_ids.specs.Heals.{Heal}
use Rattle.ff_ids.specs.Notes.{is_leaving}
use Rattle.ff_ids.specs.Steps.{Event, Notes}
use Rattle.records.specs.declared.Record.{Record}
use Rattle.epoch_store.specs.declared.Stored.{Stored}
use Rattle.node_rules.specs.Nodes.{Setting, Node}
use Rattle.node_rules.specs.Lives.{Input, life_of}

-- By this event the node leaves.
abbrev pub is_own_leaving : Setting → Event → Bool
is_own_leaving s (Notes n) = (n.member == s.me) && is_leaving n
is_own_leaving s other = false

abbrev pub has_left : Setting → Node → Bool
has_left s n = list_any (is_own_leaving s) n.lived

-- In every life with a bound the epoch has risen in the present span by no more than that, unless the node has left.
abbrev pub EpochsAreBounded : Type 0
EpochsAreBounded = (s : Setting) (heal : Heal) (nonces : ℕ → ℕ) (certificates : List Record) (stored : Stored) (inputs : List Input)
    → s.heal ≡ Some heal → 0 < heal.most
    → let n = life_of s nonces certificates stored inputs in has_left s n ≡ false → n.stored.epoch ≤ n.since + heal.most
