use Rattle.journal.proofs.Events.{is_found, is_given}
use Rattle.journal.proofs.Firmness.{is_first}
use Rattle.journal.proofs.reading.read_event.Goals as goal

pub returns-clause-found : goal.returns-clause-found
returns-clause-found c = is_found c.args.bytes.now _ c.event_in.ensures

pub returns-clause-only : goal.returns-clause-only
returns-clause-only c = is_given c.args.bytes.now _ c.event_in.ensures

pub returns-clause-first : goal.returns-clause-first
returns-clause-first c = is_first c.args.bytes.now _ c.event_in.ensures
