use Rattle.journal.proofs.Turns.{is_first, is_found, is_given}
use Rattle.journal.proofs.turn.read_turn.Goals as goal

pub returns-clause-found : goal.returns-clause-found
returns-clause-found c = is_found c.args.bytes.now _ c.turn_in.ensures

pub returns-clause-only : goal.returns-clause-only
returns-clause-only c = is_given c.args.bytes.now _ c.turn_in.ensures

pub returns-clause-first : goal.returns-clause-first
returns-clause-first c = is_first c.args.bytes.now _ c.turn_in.ensures
