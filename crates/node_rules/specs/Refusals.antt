-- Why a node refuses a record: its first fault by the ordered table, of what the node knows.
use Rattle.std.specs.Prelude.{Option}
use Rattle.ff_ids.specs.declared.Fault.{Fault}
use Rattle.records.specs.declared.Body.{Body}
use Rattle.records.specs.declared.Record.{Record}
use Rattle.validate.specs.Table.{Knowledge, first_fault_of}
use Rattle.node_rules.specs.Nodes.{Setting, Node, state_of, certificate_of}

abbrev pub knowledge_of : Setting → Node → Knowledge
knowledge_of s n =
    record { verifies = s.verifies; t = s.group.t; authority = s.authority; certificate = certificate_of n; state = state_of s n; own = s.me }

abbrev pub refusal_of : Setting → Node → Record → Body → Option Fault
refusal_of s n r b = first_fault_of (knowledge_of s n) r b

-- The first fault of a delivered record at a node, or none.
unfoldable pub refusal : Setting → Node → Record → Option Fault
refusal s n r = refusal_of s n r r.body
