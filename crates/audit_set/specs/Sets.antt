-- What an audit knows of the records that a node holds, each under its key.
use Rattle.audit_set.specs.declared.known.Known.{Known}
use Rattle.record_slots.specs.Held.{HeldOf}

abbrev pub HeldKnown : Type 0
HeldKnown = HeldOf Known
