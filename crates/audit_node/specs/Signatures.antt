-- What a wanted signature is.
use Rattle.std.specs.Prelude.{◌+◌}
use Rattle.ff_ids.specs.declared.Mask.{Mask}
use Rattle.records.specs.declared.Body.{Body}
use Rattle.records.specs.declared.Body.TheVariants.{Note}
use Rattle.signer.specs.Signing.{stored_after}
use Rattle.node_rules.specs.Nodes.{Setting, Node}
use Rattle.node_rules.specs.Calls.{Call}

-- An index was spent on the body.
abbrev pub with_stored : Body → Call → Call
with_stored body c = record c { node = record c.node { stored = stored_after c.node.stored body } }

-- The own note of the next epoch.
abbrev pub next_own : Setting → Node → Mask → Body
next_own s n mask = Note (record { member = s.me; epoch = n.stored.epoch + 1; mask = mask })
