-- What a node does as it leaves.
use Rattle.std.specs.Prelude.{◌+◌, Bool, true}
use Rattle.ff_ids.specs.declared.NoteBody.{NoteBody}
use Rattle.records.specs.declared.Body.{Body}
use Rattle.records.specs.declared.Body.TheVariants.{Note}
use Rattle.epoch_store.specs.declared.Stored.{Stored}
use Rattle.node_rules.specs.Nodes.{Setting, Node, neighbours}
use Rattle.node_rules.specs.Calls.{Call, begun, wants}

-- The note by which the node leaves: of the epoch after that of its newest, which its store keeps, and with no ring.
abbrev pub leaving_note : Setting → Stored → NoteBody
leaving_note s kept = record { member = s.me; epoch = kept.epoch + 1; mask = record { 0 = 0 } }

abbrev pub leaving : Setting → Stored → Body
leaving s kept = Note (leaving_note s kept)

-- A signature over it is wanted, to go to each of the node's neighbours.
unfoldable pub leaves : Bool → Setting → Call → Call
leaves works s c = wants works s (leaving s c.node.stored) (neighbours s) c

-- The node leaves, where the disk works.
unfoldable pub left : Setting → Node → Call
left s n = leaves true s (begun n)
