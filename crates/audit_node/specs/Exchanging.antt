-- What goes out of what is held, and what the other side of an exchange lacks.
use Rattle.std.specs.Prelude.{ℕ, List, [], ◌∷◌, ◌++◌, map, take}
use Rattle.ff_ids.specs.declared.summary.RecordKey.{RecordKey}
use Rattle.ff_ids.specs.declared.summary.RecordKey.TheVariants as keys
use Rattle.ff_ids.specs.declared.summary.Summary.{Summary}
use Rattle.gossip.specs.Differ.{differ}
use Rattle.record_slots.specs.Pages.{summary_of}
use Rattle.record_slots.specs.Picks.{held_all, fitting}
use Rattle.audit_set.specs.declared.known.Known.{Known}
use Rattle.audit_set.specs.declared.known.Known.TheVariants as knowns
use Rattle.audit_set.specs.Knowns.{body_of, long}
use Rattle.audit_set.specs.Sets.{HeldKnown}
use Rattle.audit_node.specs.declared.owing.Item.{Item}
use Rattle.audit_node.specs.declared.owing.Item.TheVariants as parts

-- What is known is owed so.
abbrev pub item_as : Known → Item
item_as (knowns.Came c) = parts.Came c.rec
item_as (knowns.Own o) = parts.Own o.index o.body

-- The records under these keys that have one, in order, as many as fit.
abbrev pub given_of : HeldKnown → List RecordKey → List Known
given_of held ks = take (fitting long 32760 (held_all held ks)) (held_all held ks)

abbrev pub items_of : HeldKnown → List RecordKey → List Item
items_of held ks = map item_as (given_of held ks)

-- The keys of what the member lacks, and that of its removal.
abbrev pub wanted : HeldKnown → ℕ → Summary → List RecordKey
wanted held to theirs = differ (summary_of body_of held theirs.page).listed theirs.listed ++ keys.Removal to ∷ []
