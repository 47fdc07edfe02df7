-- Whether a refused record asks a note of the node.
use Rattle.std.specs.Prelude.{Bool, false, ◌==◌, ◌&&◌, Option, Some, None, is_some}
use Rattle.ff_ids.specs.declared.AccBody.{AccBody}
use Rattle.ff_ids.specs.declared.Fault.{Fault}
use Rattle.ff_ids.specs.Faults.{accusation_fault}
use Rattle.ff_ids.specs.Masks.{enables}
use Rattle.records.specs.declared.Record.{Record}
use Rattle.node_rules.specs.Nodes.{Setting, Node, state_of}
use Rattle.node_rules.specs.Deliveries.{is_of_place, asked_with}

-- It is refused, for the place of its accuser or its accused.
abbrev pub is_placed : Option Fault → Bool
is_placed None = false
is_placed (Some fault) = is_of_place fault

-- The accusation is against the node, on a ring that its mask enables, and is refused for its place alone.
abbrev pub is_misplaced : Setting → Node → AccBody → Bool
is_misplaced s n a = is_placed (accusation_fault s.group.t (state_of s n) a) && ((a.accused == s.me) && enables n.stored.mask.0 a.ring.0)

abbrev pub asks_return : Setting → Node → Option Fault → Record → Bool
asks_return s n None r = false
asks_return s n (Some fault) r = is_some (asked_with s n (Some fault) r.body r)
