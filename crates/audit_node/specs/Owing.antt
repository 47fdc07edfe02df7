-- What a node must have reported, as the mirror gives it: own signatures and nonces are its own.
use Rattle.std.specs.Prelude.{List, map}
use Rattle.records.specs.declared.Record.{Record}
use Rattle.datagram.specs.declared.Datagram.TheVariants as kinds
use Rattle.datagram.specs.Spelling.{datagram_bytes}
use Rattle.journal.specs.declared.event.Event as journal
use Rattle.journal.specs.declared.event.What as whats
use Rattle.journal.specs.declared.event.What.TheVariants as told
use Rattle.node_rules.specs.Nodes.{Setting}
use Rattle.audit_node.specs.declared.owing.Item.{Item}
use Rattle.audit_node.specs.declared.owing.Item.TheVariants as parts
use Rattle.audit_node.specs.declared.owing.Owed.{Owed}
use Rattle.audit_node.specs.declared.owing.Owed.TheVariants as owings
use Rattle.audit_node.specs.declared.owing.OwedEvent.{OwedEvent}

-- The record: an own one has the setting's signature.
abbrev pub item_of : Setting → Item → Record
item_of s (parts.Came rec) = rec
item_of s (parts.Own index body) = record { body = body; signature = s.signature index body }

-- What the node reports.
abbrev pub what_of : Setting → Owed → whats.What
what_of s (owings.What what) = what
what_of s (owings.Ping number to nonce) = told.Sent number to (datagram_bytes (kinds.Ping s.me nonce))
what_of s (owings.Records number to items) = told.Sent number to (datagram_bytes (kinds.Records s.me (map (item_of s) items.items)))

abbrev pub reported : Setting → OwedEvent → journal.Event
reported s o = record { moment = o.moment; what = what_of s o.owed }

-- The events that are owed, in order.
abbrev pub told_by : Setting → List OwedEvent → List journal.Event
told_by s owed = map (reported s) owed

-- An event with no own signature and no nonce of its own.
abbrev pub owed_as : journal.Event → OwedEvent
owed_as e = record { moment = e.moment; owed = owings.What e.what }
